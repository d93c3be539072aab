-- What the table of the cubes has at each number.
--
--     each_entry             each of the 3^n entries has exactly the outputs whose cells in its cube are all wanted or free
--     entries_numbered       that is what `Numbered` says
--     entry_halves, entry_row   an entry by its two halves, and by its vertex's row
--     some_table             every array of bytes comes from a table, so the contracts say something of each
--     cubes_one              one table of the cubes meets the contract
use Prim.Native.Nat.{ℕ, ◌+◌, ◌*◌, ◌^◌, ◌≤◌, ◌<◌}
use native.Mathlib.Omega.{arith}
use native.Mathlib.Decide.{dec_lt}
use mathlib.Core.Path.{◌≡◌, refl, sym, ap, ap₂, ◌∙◌, subst, subst⁻¹, subst₂}
use mathlib.Core.Bool.{not, ◌||◌}
use mathlib.Core.List.{List, []}
use lib.Bits.{bit_and, or_zero_r}
use lib.Dec.{T, T_not, not_T}
use lib.ListN.{get_or}
use Rattle.model.specs.Base.{bit}
use Rattle.model.specs.Table.{Table, cell, is_on, is_dc, is_off}
use Rattle.model.specs.Primes.{drives}
use Rattle.model.specs.Numbers.{cube_number, WithNumber, HasExactly, EachEntry}
use Rattle.model.proofs.Lists.{bool_ext, twice}
use Rattle.model.proofs.Cubes.{agree_e, agree_i, bits_ext, set_bit, set_lt}
use Rattle.model.proofs.Drives.{drives_e, drives_i, drives_halves}
use Rattle.table.specs.Cubes.{Allowed, Cube}
use Rattle.primes.specs.Numbers.{Numbered, CubesOf}
use Rattle.primes.proofs.BaseThree.{number_lt, number_one, number_onto, half_low, half_high}
use Rattle.table.proofs.Halves.{set_within, within_set, drives_vertex}

-- ---- no off cell: every cell is wanted or free

drives_exactly : (p : Table) (care value : ℕ) → HasExactly p care value (drives p care value)
unfolding is_off
drives_exactly p care value j = (
  λ b.
      let d = drives_e p care value j b in
      (d.0, λ v l c. let x = is_on p (cell v j) || is_dc p (cell v j) in twice x (not_T (not x) (d.1 v l (agree_e care v value c)))),
  λ h. drives_i p care value j h.0 (λ v l a off. T_not (is_on p (cell v j) || is_dc p (cell v j)) off (h.1 v l (agree_i care v value a))),
)

cube_with : (n k : ℕ) → n ≤ 8 → (c : WithNumber n k) → Cube n c.care c.value
cube_with n k l c = record { inputs = l; care_lt = c.care_lt; value_in = c.value_in }

-- ---- each entry

pub each_entry : (may t : List ℕ) (n : ℕ) → n ≤ 8 → CubesOf may n t → (p : Table) → Allowed p n may → EachEntry p t
each_entry may t n l cubes p a k h =
    let i : p.n ≤ 8 = subst⁻¹ (λ (x : ℕ). x ≤ 8) a.inputs l in
    let c = number_onto p.n k i h in
    let q = subst (λ (x : ℕ). Cube x c.care c.value) a.inputs (cube_with p.n k i c) in
    let e : get_or t k 0 ≡ drives p c.care c.value = ap (λ (x : ℕ). get_or t x 0) (sym c.its) ∙ (cubes.right p a).entries c.care c.value q in
    (c, subst⁻¹ (HasExactly p c.care c.value) e (drives_exactly p c.care c.value))

-- and the other way round
pub entries_numbered : (p : Table) (t : List ℕ) → p.n ≤ 8 → EachEntry p t → Numbered p p.n t
entries_numbered p t l f = record { inputs = refl; entries = at }
  where
    at : (care value : ℕ) → Cube p.n care value → get_or t (cube_number care value) 0 ≡ drives p care value
    at care value k =
        let q = f (cube_number care value) (number_lt p.n care value k) in
        let s = number_one p.n q.0.care q.0.value care value (cube_with p.n (cube_number care value) l q.0) k q.0.its in
        let x : ℕ = get_or t (cube_number care value) 0 in
        let h : HasExactly p care value x = subst₂ (λ (c v : ℕ). HasExactly p c v x) s.0 s.1 q.1 in
        let d = drives_exactly p care value in
        bits_ext x (drives p care value) (λ j. bool_ext (bit j x) (bit j (drives p care value)) (λ b. (d j).1 ((h j).0 b)) (λ b. (h j).1 ((d j).0 b)))

-- ---- for every array of bytes

pub some_table : (may : List ℕ) (n : ℕ) → ((v : ℕ) → get_or may v 0 < 256) → Allowed (record { n = n; m = 8; on = may; dc = [] }) n may
some_table may n b = record { inputs = refl; on_or_dc = λ v l. sym (or_zero_r (get_or may v 0)); outputs = λ v l. b v }

module _ (may : List ℕ) (n : ℕ) (bytes : (v : ℕ) → get_or may v 0 < 256) where
  p : Table
  p = record { n = n; m = 8; on = may; dc = [] }

  right : (t : List ℕ) → CubesOf may n t → Numbered p n t
  unfolding p
  right t x = x.right p (some_table may n bytes)

  pub cubes_one : (t u : List ℕ) → n ≤ 8 → CubesOf may n t → CubesOf may n u → (k : ℕ) → get_or t k 0 ≡ get_or u k 0
  cubes_one t u l x y k = go (dec_lt k (3 ^ n))
    where
      go : Dec (k < 3 ^ n) → get_or t k 0 ≡ get_or u k 0
      go (yes h) =
          let c = number_onto n k l h in
          let q = cube_with n k l c in
          ap (λ (z : ℕ). get_or t z 0) (sym c.its)
          ∙ (right t x).entries c.care c.value q ∙ sym ((right u y).entries c.care c.value q)
          ∙ ap (λ (z : ℕ). get_or u z 0) c.its
      go (no h) = x.unused k (omega arith) ∙ sym (y.unused k (omega arith))

  module _ (t : List ℕ) (x : CubesOf may n t) where
    -- "each entry got from its two halves", by whichever free input
    pub entry_halves : (care value i : ℕ) → Cube n care value → i < n → T (not (bit i care))
        → get_or t (cube_number care value) 0 ≡ bit_and (get_or t (cube_number care value + 3 ^ i) 0) (get_or t (cube_number care value + 2 * 3 ^ i) 0)
    entry_halves care value i k l f =
        let r = right t x in
        let s : i < 8 = omega (arith, k.inputs) in
        let g : T (not (bit i value)) = not_T (bit i value) (λ u. T_not (bit i care) f (k.value_in i u)) in
        let c : set_bit i care < 2 ^ n = set_lt i n care l k.care_lt in
        let low : Cube n (set_bit i care) value = record { inputs = k.inputs; care_lt = c; value_in = within_set i value care k.value_in } in
        let high : Cube n (set_bit i care) (set_bit i value) = record { inputs = k.inputs; care_lt = c; value_in = set_within i value care k.value_in } in
        r.entries care value k ∙ drives_halves p care value i f g
        ∙ sym (ap₂ bit_and
        (ap (λ (z : ℕ). get_or t z 0) (sym (half_low i care value s f k.value_in)) ∙ r.entries (set_bit i care) value low)
        (ap (λ (z : ℕ). get_or t z 0) (sym (half_high i care value s f k.value_in)) ∙ r.entries (set_bit i care) (set_bit i value) high))

    -- "or from its vertex's row where no input is free"
    pub entry_row : (care v : ℕ) → Cube n care v → care + 1 ≡ 2 ^ n → get_or t (cube_number care v) 0 ≡ get_or may v 0
    unfolding p
    entry_row care v k e = (right t x).entries care v k ∙ sym (drives_vertex may v n care k (omega arith) p (some_table may n bytes))
