-- The table of the cubes, block by block; the laws behind `join`, `fill` and `all_cubes`.
use Prim.Native.Nat.{ℕ, zero, suc, ◌+◌, ◌-◌, ◌*◌, ◌/◌, ◌%◌, ◌^◌, ◌≤◌, ◌<◌}
use native.Mathlib.Omega.{arith}
use native.Mathlib.Nat.{pow-suc}
use mathlib.Core.Path.{◌≡◌, refl, sym, ap, ap₂, ◌∙◌, subst, subst⁻¹}
use mathlib.Core.Bool.{Bool, not}
use mathlib.Core.List.{List}
use lib.Bits.{bit_and, bit_or}
use lib.Dec.{T, not_T}
use lib.ListN.{length, get_or, set, length-set}
use lib.Pow.{pow_pos, pow_mono}
use lib.Seq.{get_or-set_same, get_or-set_other}
use Rattle.model.specs.Base.{bit}
use Rattle.model.specs.Table.{Table}
use Rattle.model.specs.Primes.{drives}
use Rattle.model.proofs.Bits.{bit0_n, bit_le, bit_lt, within_le}
use Rattle.model.proofs.Cubes.{set_here, set_other}
use Rattle.bits.specs.Bits.{Single, Member, digit}
use Rattle.bits.proofs.Digits.{digit_bit, pow_only}
use Rattle.bits.proofs.Parts.{by_members}
use Rattle.bits.proofs.Shifts.{set_is_or}
use Rattle.table.specs.Cubes.{Allowed, Cube, Free, DrivesFree}
use Rattle.model.specs.Numbers.{cube_number, spread}
use Rattle.primes.specs.Numbers.{CubesOf}
use Rattle.primes.specs.Blocks.{ClearBelow, Block, Joined, FilledBlock}
use Rattle.table.proofs.Halves.{set_adds, drives_vertex, both_halves}
use Rattle.primes.proofs.BaseThree.{Top, at_free, at_low, at_high, top, number_zero, number_lt, spread_power}

-- ---- a value whose inputs below i are 0

pub clear_none : (i : ℕ) → ClearBelow i 0
clear_none i j l = not_T (bit j 0) (λ t. omega (arith, bit_le j 0 t, pow_pos j))

clear_less : (i x : ℕ) → ClearBelow (suc i) x → ClearBelow i x
clear_less i x f j l = f j (omega arith)

clear_up : (i x : ℕ) → ClearBelow (suc i) x → ClearBelow i (x + 2 ^ i)
clear_up i x f j l = subst (λ (y : ℕ). T (not (bit j y))) (set_adds i x (f i (omega arith))) (subst⁻¹ (λ (b : Bool). T (not b)) (set_other i j x (λ e. omega arith)) (f j (omega arith)))

clear_at : (i x v : ℕ) → ClearBelow (suc i) x → v < 2 ^ i → T (not (bit i (x + v)))
clear_at zero x v f l =
    let e : x + v ≡ x = omega arith in
    subst⁻¹ (λ (y : ℕ). T (not (bit 0 y))) e (f 0 (omega arith))
clear_at (suc i) x v f l =
    let even : x % 2 ≡ 0 = bit0_n x (f 0 (omega arith)) in
    let e : (x + v) / 2 ≡ x / 2 + v / 2 = omega arith in
    subst⁻¹ (λ (y : ℕ). T (not (bit i y))) e (clear_at i (x / 2) (v / 2) (λ j b. f (suc j) (omega arith)) (omega (arith, pow-suc 2 i)))

-- ---- the last of the free inputs

last_member : (i free : ℕ) → free < 2 ^ i → Member (free + 2 ^ i) (2 ^ i)
unfolding Single
last_member i free l = record { single = (i, refl); part = by_members (2 ^ i) (free + 2 ^ i) (λ b m. subst⁻¹ (λ (x : ℕ). digit x (free + 2 ^ i) ≡ 1) (pow_only b i m) here) }
  where
    off : T (not (bit i free))
    off = not_T (bit i free) (λ t. omega (arith, bit_lt i i free t l))

    here : digit i (free + 2 ^ i) ≡ 1
    here = (digit_bit i (free + 2 ^ i)).0 (subst (λ (x : ℕ). T (bit i x)) (set_adds i free off) (set_here i free))

-- ---- one block from three

module _ (may : List ℕ) (i value at s : ℕ) (size : s ≡ 3 ^ i) (clear : ClearBelow (suc i) value) (old t : List ℕ)
    (first : Block may i value (at + s) old) (second : Block may i (value + 2 ^ i) (at + s + s) t) (kept : (k : ℕ) → k < at + s + s → get_or t k 0 ≡ get_or old k 0)
    (new : List ℕ) (joined : Joined t at s new) where
  -- an entry of the second and the third block
  behind : (k : ℕ) → at + s ≤ k → get_or new k 0 ≡ get_or t k 0
  behind k l = joined.beside.high k l

  below_size : {c v : ℕ} → Cube i c v → cube_number c v < s
  below_size {c} {v} k = omega (arith, number_lt i c v k)

  three : Block may (suc i) value at new
  three c v frees k f = go (top i c v k)
    where
      same : (x r : ℕ) → DrivesFree may frees x r → x ≡ value + v → get_or new (at + cube_number c v) 0 ≡ r → DrivesFree may frees (value + v) (get_or new (at + cube_number c v) 0)
      same x r d e g = subst (λ (y : ℕ). DrivesFree may frees y (get_or new (at + cube_number c v) 0)) e (subst⁻¹ (DrivesFree may frees x) g d)

      go : Top i c v → DrivesFree may frees (value + v) (get_or new (at + cube_number c v) 0)
      go (at_free h) =
          let n : cube_number c v < s = below_size h in
          let room : c < 2 ^ i = h.care_lt in
          let rest : ℕ = frees - 2 ^ i in
          let f' : Free i c rest = omega (arith, pow-suc 2 i) in
          let whole : rest + 2 ^ i ≡ frees = omega (arith, pow-suc 2 i) in
          let v_lt : v < 2 ^ i = omega (arith, within_le v c h.value_in) in
          let m : Member frees (2 ^ i) = subst (λ (x : ℕ). Member x (2 ^ i)) whole (last_member i rest (omega arith)) in
          let up : value + 2 ^ i + v ≡ bit_or (value + v) (2 ^ i) = sym (set_is_or i (value + v) ∙ set_adds i (value + v) (clear_at i value v clear v_lt) ∙ omega arith) in
          let a : get_or t (at + s + cube_number c v) 0 ≡ get_or old (at + s + cube_number c v) 0 = kept (at + s + cube_number c v) (omega arith) in
          let two : at + 2 * s + cube_number c v ≡ at + s + s + cube_number c v = omega arith in
          same (value + v) (bit_and (get_or old (at + s + cube_number c v) 0) (get_or t (at + s + s + cube_number c v) 0))
          (both_halves may (value + v) frees (2 ^ i) m rest (value + 2 ^ i + v) (get_or old (at + s + cube_number c v) 0)
          (get_or t (at + s + s + cube_number c v) 0) (omega arith) up (first c v rest h f') (second c v rest h f'))
          refl
          (joined.both (cube_number c v) n ∙ ap₂ bit_and a (ap (λ (x : ℕ). get_or t x 0) two))
      go (at_low d h e g) =
          let n : cube_number d v < s = below_size h in
          let p : at + cube_number c v ≡ at + s + cube_number d v = omega arith in
          same (value + v) (get_or old (at + s + cube_number d v) 0) (first d v frees h (omega (arith, pow-suc 2 i))) refl
          (ap (λ (x : ℕ). get_or new x 0) p ∙ behind (at + s + cube_number d v) (omega arith) ∙ kept (at + s + cube_number d v) (omega arith))
      go (at_high d u h e g q) =
          let n : cube_number d u < s = below_size h in
          let p : at + cube_number c v ≡ at + s + s + cube_number d u = omega arith in
          same (value + 2 ^ i + u) (get_or t (at + s + s + cube_number d u) 0) (second d u frees h (omega (arith, pow-suc 2 i))) (omega arith)
          (ap (λ (x : ℕ). get_or new x 0) p ∙ behind (at + s + s + cube_number d u) (omega arith))

-- ---- one entry

pub fits_one : (i at m : ℕ) → i ≡ 0 → at + 3 ^ i ≤ m → at < m
fits_one i at m e l = omega (arith, ap (λ (x : ℕ). 3 ^ x) e)

pub one_entry : (may t : List ℕ) (i value at : ℕ) → i ≡ 0 → at + 3 ^ i ≤ length t → FilledBlock may i value at t (set t at (get_or may value 0))
one_entry may t i value at e l = subst⁻¹ (λ (x : ℕ). FilledBlock may x value at t (set t at (get_or may value 0))) e (record {
  beside = record {
    size = length-set t at (get_or may value 0);
    low = λ k b. get_or-set_other t at k (get_or may value 0) 0 (λ q. omega arith);
    high = λ k b. get_or-set_other t at k (get_or may value 0) 0 (λ q. omega arith);
  };
  right = one;
})
  where
    in_table : at < length t
    in_table = fits_one i at (length t) e l

    one : Block may 0 value at (set t at (get_or may value 0))
    one c v frees k f =
        let n : at + cube_number c v ≡ at = omega (arith, number_zero c v k) in
        let none : frees ≡ 0 = omega arith in
        let w : value + v ≡ value = omega (arith, within_le v c k.value_in, k.care_lt) in
        let g : get_or (set t at (get_or may value 0)) (at + cube_number c v) 0 ≡ get_or may value 0 =
        ap (λ (x : ℕ). get_or (set t at (get_or may value 0)) x 0) n ∙ get_or-set_same t at (get_or may value 0) 0 in_table in
        subst⁻¹ (λ (x : ℕ). DrivesFree may frees x (get_or (set t at (get_or may value 0)) (at + cube_number c v) 0)) w
        (subst⁻¹ (λ (r : ℕ). DrivesFree may frees value r) g (subst⁻¹ (λ (x : ℕ). DrivesFree may x value (get_or may value 0)) none (drives_vertex may value)))

-- ---- block by block

-- the last of i inputs has the weight half, and splits 3^i entries into three blocks of s
pub record Split (i half s : ℕ) : Type 0 where
  pub inputs : suc (i - 1) ≡ i
  pub weight : half ≡ 2 ^ (i - 1)
  pub third : s ≡ 3 ^ (i - 1)
  pub halved : 2 ^ i ≡ 2 * half
  pub thirds : 3 ^ i ≡ 3 * s

pub half_lt : (i half : ℕ) → i ≤ 8 → (i ≡ 0 → ⊥) → half ≡ 2 ^ (i - 1) → half < 256
half_lt i half l d h =
    let m : i - 1 ≤ 7 = omega arith in
    omega (arith, pow_mono m)

pub split : (i half s : ℕ) → i ≤ 8 → (i ≡ 0 → ⊥) → half ≡ 2 ^ (i - 1) → s ≡ spread half → Split i half s
split i half s l d h z = record {
  inputs = more;
  weight = h;
  third = third;
  halved = ap (λ (x : ℕ). 2 ^ x) (sym more) ∙ omega (arith, pow-suc 2 (i - 1));
  thirds = ap (λ (x : ℕ). 3 ^ x) (sym more) ∙ omega (arith, pow-suc 3 (i - 1), third);
}
  where
    more : suc (i - 1) ≡ i
    more = omega arith

    third : s ≡ 3 ^ (i - 1)
    third = z ∙ ap spread h ∙ spread_power (i - 1) (omega arith)

module _ (i half s : ℕ) (q : Split i half s) (value : ℕ) (f : ClearBelow i value) where
  clear_more : ClearBelow (suc (i - 1)) value
  clear_more = subst⁻¹ (λ (x : ℕ). ClearBelow x value) q.inputs f

  pub clear_first : ClearBelow (i - 1) value
  clear_first = clear_less (i - 1) value clear_more

  pub clear_second : ClearBelow (i - 1) (value + half)
  clear_second = subst⁻¹ (λ (x : ℕ). ClearBelow (i - 1) (value + x)) q.weight (clear_up (i - 1) value clear_more)

  pub blocks : (at : ℕ) (may old t1 t2 new : List ℕ) → FilledBlock may (i - 1) value (at + s) old t1 → FilledBlock may (i - 1) (value + half) (at + s + s) t1 t2
      → Joined t2 at s new → FilledBlock may i value at old new
  blocks at may old t1 t2 new a b j = record {
    beside = record {
      size = j.beside.size ∙ b.beside.size ∙ a.beside.size;
      low = λ k l. j.beside.low k l ∙ b.beside.low k (omega arith) ∙ a.beside.low k (omega arith);
      high = λ k l. j.beside.high k (omega (arith, q.thirds)) ∙ b.beside.high k (omega (arith, q.thirds, q.third)) ∙ a.beside.high k (omega (arith, q.thirds, q.third));
    };
    right = subst (λ (x : ℕ). Block may x value at new) q.inputs
        (three may (i - 1) value at s q.third clear_more t1 t2 a.right
        (subst (λ (x : ℕ). Block may (i - 1) (value + x) (at + s + s) t2) q.weight b.right) (λ k l. b.beside.low k l) new j);
  }

-- ---- the whole table

module _ (may old t : List ℕ) (n : ℕ) (b : FilledBlock may n 0 0 old t) where
  entry_of : (p : Table) → Allowed p n may → (c v : ℕ) → Cube n c v → get_or t (cube_number c v) 0 ≡ drives p c v
  entry_of p a c v k =
      let frees : ℕ = 2 ^ n - 1 - c in
      let f : Free n c frees = omega (arith, k.care_lt) in
      let z : 0 + v ≡ v = omega arith in
      let y : 0 + cube_number c v ≡ cube_number c v = omega arith in
      let g : DrivesFree may frees v (get_or t (0 + cube_number c v) 0) = subst (λ (x : ℕ). DrivesFree may frees x (get_or t (0 + cube_number c v) 0)) z (b.right c v frees k f) in
      ap (λ (x : ℕ). get_or t x 0) (sym y) ∙ g n c k f p a

  pub filled_cubes : ((k : ℕ) → get_or old k 0 ≡ 0) → CubesOf may n t
  filled_cubes z = record {
    right = λ p a. record { inputs = a.inputs; entries = entry_of p a };
    unused = λ k l. b.beside.high k (omega arith) ∙ z k;
  }
