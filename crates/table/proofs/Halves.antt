-- What a vertex and a cube may drive; the laws behind `allowed`, `halves` and `drives`.
use Prim.Native.Nat.{ℕ, zero, suc, ◌+◌, ◌-◌, ◌/◌, ◌^◌, ◌≤◌, ◌<◌}
use native.Mathlib.Omega.{arith}
use native.Mathlib.Nat.{pow-suc}
use native.Mathlib.Decide.{ℕ_discrete}
use mathlib.Core.Path.{◌≡◌, refl, sym, ap, ap₂, ◌∙◌, subst, subst⁻¹, subst₂}
use mathlib.Core.Bool.{Bool, true, false, not, ◌||◌}
use mathlib.Core.List.{List}
use lib.Bits.{bit_and, bit_or, or_lt}
use lib.Count.{ones, ones_step}
use lib.Dec.{T, T_not, not_T}
use lib.ListN.{get_or}
use lib.Pow.{pow_pos, pow_mono}
use Rattle.model.specs.Base.{bit}
use Rattle.model.specs.Table.{Table, cell, is_on, is_dc, is_off}
use Rattle.model.specs.Primes.{drives}
use Rattle.model.specs.Sets.{Within}
use Rattle.model.proofs.Lists.{bool_ext}
use Rattle.model.proofs.Bits.{bit0_e, bit0_i, bit0_n, bit_le, bit_lt, within_le}
use Rattle.model.proofs.Cubes.{bits_ext, Agree, set_bit, set_here, set_other, set_lt}
use Rattle.model.proofs.Drives.{bit_of_or, drives_e, drives_i, drives_halves}
use Rattle.table.specs.Cubes.{Allowed, MayOf, Cube, Free, Drives, DrivesFree}
use Rattle.bits.specs.Bits.{Single, Member}
use Rattle.bits.proofs.Shifts.{set_is_or}
use Rattle.bits.proofs.Digits.{digit_bit}
use Rattle.bits.proofs.Parts.{part_le, part_self, the_member}

-- ---- on | dc, vertex by vertex

-- may has on | dc at each vertex below k
abbrev pub MayBelow : List ℕ → List ℕ → ℕ → List ℕ → Type 0
MayBelow on dc k may = (v : ℕ) → v < k → get_or may v 0 ≡ bit_or (get_or on v 0) (get_or dc v 0)

module _ (on dc may : List ℕ) where
  pub may_all : (k : ℕ) → 256 ≤ k → MayBelow on dc k may → MayOf on dc may
  may_all k l h p n small t = record {
    inputs = t.inputs;
    on_or_dc = λ v b. at v b ∙ ap₂ bit_or (t.on_bytes v b) (t.dc_bytes v b);
    outputs = λ v b. subst⁻¹ (λ (x : ℕ). x < 2 ^ p.m) (at v b) (or_lt p.m (get_or on v 0) (get_or dc v 0) (t.on_lt v b) (t.dc_lt v b));
  }
    where
      at : (v : ℕ) → v < 2 ^ n → get_or may v 0 ≡ bit_or (get_or on v 0) (get_or dc v 0)
      at v b = h v (omega (arith, pow_mono small))

-- ---- the free inputs as a set

-- a free input is none that care has
free_lacks : (i n c f : ℕ) → Free n c f → T (bit i f) → T (not (bit i c))
free_lacks i zero c f e t = absurd (omega (arith, bit_le i f t, pow_pos i))
free_lacks zero (suc n) c f e t = not_T (bit 0 c) (λ u. omega (arith, bit0_e f t, bit0_e c u, pow-suc 2 n))
free_lacks (suc i) (suc n) c f e t = free_lacks i n (c / 2) (f / 2) (omega (arith, pow-suc 2 n)) t

-- where none is free, care has all
free_none : (i n c : ℕ) → Free n c 0 → i < n → T (bit i c)
free_none i zero c e l = absurd (omega arith)
free_none zero (suc n) c e l = bit0_i c (omega (arith, pow-suc 2 n))
free_none (suc i) (suc n) c e l = free_none i n (c / 2) (omega (arith, pow-suc 2 n)) (omega arith)

-- a new bit adds its power
pub set_adds : (i s : ℕ) → T (not (bit i s)) → set_bit i s ≡ s + 2 ^ i
unfolding set_bit
set_adds zero s t = omega (arith, bit0_n s t)
set_adds (suc i) s t = omega (arith, set_adds i (s / 2) t, pow-suc 2 i)

-- without a bit it is one less
ones_less : (i s : ℕ) → T (bit i s) → suc (ones (s - 2 ^ i)) ≡ ones s
ones_less zero s t =
    let h : (s - 1) / 2 ≡ s / 2 = omega (arith, bit0_e s t) in
    omega (arith, ones_step (s - 1), ones_step s, bit0_e s t, ap ones h)
ones_less (suc i) s t =
    let h : (s - 2 ^ suc i) / 2 ≡ s / 2 - 2 ^ i = omega (arith, pow-suc 2 i) in
    omega (arith, ones_step (s - 2 ^ suc i), ones_step s, ones_less i (s / 2) t, ap ones h, bit_le i (s / 2) t, pow-suc 2 i)

pub first_part : (free a : ℕ) → Member free a → a ≤ free
first_part free a m = part_le a free m.part

-- the number of free inputs falls
pub fewer_free : (free a rest : ℕ) → Member free a → rest ≡ free - a → ones rest < ones free
fewer_free free a rest m e =
    let w = the_member free a m in
    let o : suc (ones rest) ≡ ones free = ap (λ (x : ℕ). suc (ones x)) (e ∙ ap (λ (x : ℕ). free - x) w.1) ∙ ones_less w.0 free ((digit_bit w.0 free).1 w.2) in
    omega arith

-- ---- a cube without a free input: one vertex

-- two numbers below 2^n that agree on n bits are the same
agree_same : (n care v w : ℕ) → ((i : ℕ) → i < n → T (bit i care)) → v < 2 ^ n → w < 2 ^ n → Agree care v w → v ≡ w
agree_same n care v w all lv lw a = bits_ext v w (λ i. bool_ext (bit i v) (bit i w)
    (λ t. subst (λ (x : Bool). T x) (a i (all i (bit_lt i n v t lv))) t)
    (λ t. subst⁻¹ (λ (x : Bool). T x) (a i (all i (bit_lt i n w t lw))) t))

-- the outputs that are not off at a vertex
pub may_bit : (p : Table) (n : ℕ) (may : List ℕ) → Allowed p n may → (v j : ℕ) → v < 2 ^ n → bit j (get_or may v 0) ≡ not (is_off p (cell v j))
unfolding is_off is_on is_dc
may_bit p n may a v j l = ap (bit j) (a.on_or_dc v l) ∙ bit_of_or j (get_or p.on v 0) (get_or p.dc v 0) ∙ twice (bit j (get_or p.on v 0) || bit j (get_or p.dc v 0))
  where
    twice : (b : Bool) → b ≡ not (not b)
    twice true = refl
    twice false = refl

-- it may drive what its first vertex may drive, and no more where it has only that one
module _ (may : List ℕ) (n care value : ℕ) (k : Cube n care value) (p : Table) (a : Allowed p n may) where
  small : value < 2 ^ n
  small = omega (arith, within_le value care k.value_in, k.care_lt)

  size : 2 ^ p.n ≡ 2 ^ n
  size = ap (λ (x : ℕ). 2 ^ x) a.inputs

  at_first : (j : ℕ) → T (bit j (drives p care value)) → T (bit j (get_or may value 0))
  at_first j t = subst⁻¹ (λ (x : Bool). T x) (may_bit p n may a value j small) (not_T (is_off p (cell value j)) (λ o. (drives_e p care value j t).1 value (omega (arith, size, small)) (λ x b. refl) o))

  at_only : Free n care 0 → (j : ℕ) → T (bit j (get_or may value 0)) → T (bit j (drives p care value))
  at_only f j t = drives_i p care value j (bit_lt j p.m (get_or may value 0) t (a.outputs value small)) (λ v l g o.
      let s = agree_same n care v value (λ i b. free_none i n care f b) (omega (arith, size)) small g in
      T_not (is_off p (cell value j)) (subst (λ (x : Bool). T x) (may_bit p n may a value j small) t) (subst (λ (x : ℕ). T (is_off p (cell x j))) s o))

pub drives_none : (may : List ℕ) (n care value : ℕ) → Cube n care value → get_or may value 0 ≡ 0 → Drives may n care value 0
drives_none may n care value k e p a = sym (bits_ext (drives p care value) 0
    (λ j. bool_ext (bit j (drives p care value)) (bit j 0) (λ t. subst (λ (x : ℕ). T (bit j x)) e (at_first may n care value k p a j t)) (λ t. absurd (omega (arith, bit_le j 0 t, pow_pos j)))))

pub drives_vertex : (may : List ℕ) (value : ℕ) → DrivesFree may 0 value (get_or may value 0)
drives_vertex may value n care k f p a = bits_ext (get_or may value 0) (drives p care value)
    (λ j. bool_ext (bit j (get_or may value 0)) (bit j (drives p care value)) (at_only may n care value k p a f j) (at_first may n care value k p a j))

pub drives_one : (may : List ℕ) (n care value free : ℕ) → Cube n care value → Free n care free → free ≡ 0 → Drives may n care value (get_or may value 0)
drives_one may n care value free k f e = drives_vertex may value n care k (subst (Free n care) e f)

-- ---- a cube with a free input: its two halves

-- a new bit on both sides, and on one
module _ (i : ℕ) where
  pub set_within : (a b : ℕ) → Within a b → Within (set_bit i a) (set_bit i b)
  set_within a b w j t = go (ℕ_discrete j i)
    where
      go : Dec (j ≡ i) → T (bit j (set_bit i b))
      go (yes e) = subst⁻¹ (λ (x : ℕ). T (bit x (set_bit i b))) e (set_here i b)
      go (no e) = subst⁻¹ (λ (x : Bool). T x) (set_other i j b e) (w j (subst (λ (x : Bool). T x) (set_other i j a e) t))

  pub within_set : (a b : ℕ) → Within a b → Within a (set_bit i b)
  within_set a b w j t = go (ℕ_discrete j i)
    where
      go : Dec (j ≡ i) → T (bit j (set_bit i b))
      go (yes e) = subst⁻¹ (λ (x : ℕ). T (bit x (set_bit i b))) e (set_here i b)
      go (no e) = subst⁻¹ (λ (x : Bool). T x) (set_other i j b e) (w j t)

module _ (n care value free i a : ℕ) (k : Cube n care value) (f : Free n care free) (is : a ≡ 2 ^ i) (taken : T (bit i free)) where
  free_care : T (not (bit i care))
  free_care = free_lacks i n care free f taken

  free_lt : i < n
  free_lt = bit_lt i n free taken (omega arith)

  free_value : T (not (bit i value))
  free_value = not_T (bit i value) (λ t. T_not (bit i care) free_care (k.value_in i t))

  low_half : Cube n (set_bit i care) value
  low_half = record { inputs = k.inputs; care_lt = set_lt i n care free_lt k.care_lt; value_in = within_set i value care k.value_in }

  high_half : Cube n (set_bit i care) (set_bit i value)
  high_half = record { inputs = k.inputs; care_lt = set_lt i n care free_lt k.care_lt; value_in = set_within i value care k.value_in }

  free_half : Free n (set_bit i care) (free - a)
  free_half = omega (arith, set_adds i care free_care, bit_le i free taken, is, f)

  upper : bit_or value a ≡ set_bit i value
  upper = ap (bit_or value) is ∙ set_is_or i value

  in_both : (p : Table) → drives p care value ≡ bit_and (drives p (set_bit i care) value) (drives p (set_bit i care) (set_bit i value))
  in_both p = drives_halves p care value i free_care free_value

  halves_drive : (may : List ℕ) (low high : ℕ) → DrivesFree may (free - a) value low → DrivesFree may (free - a) (bit_or value a) high → Drives may n care value (bit_and low high)
  halves_drive may low high l h p t = ap₂ bit_and (l n (set_bit i care) low_half free_half p t)
      (subst (λ (x : ℕ). DrivesFree may (free - a) x high) upper h n (set_bit i care) high_half free_half p t) ∙ sym (in_both p)

  half_drives_none : (may : List ℕ) → DrivesFree may (free - a) value 0 → Drives may n care value 0
  half_drives_none may l p t = sym (in_both p ∙ ap (λ (x : ℕ). bit_and x (drives p (set_bit i care) (set_bit i value))) (sym (l n (set_bit i care) low_half free_half p t)))

module _ (may : List ℕ) (value free a : ℕ) (m : Member free a) where
  pub both_halves : (rest up low high : ℕ) → rest ≡ free - a → up ≡ bit_or value a → DrivesFree may rest value low → DrivesFree may rest up high → DrivesFree may free value (bit_and low high)
  both_halves rest up low high e g l h n care k f = halves_drive n care value free (the_member free a m).0 a k f (the_member free a m).1
      ((digit_bit (the_member free a m).0 free).1 (the_member free a m).2) may low high (subst (λ (x : ℕ). DrivesFree may x value low) e l)
      (subst₂ (λ (x y : ℕ). DrivesFree may x y high) e g h)

  pub first_half_none : (rest low : ℕ) → rest ≡ free - a → DrivesFree may rest value low → low ≡ 0 → DrivesFree may free value 0
  first_half_none rest low e l z n care k f = half_drives_none n care value free (the_member free a m).0 a k f (the_member free a m).1
      ((digit_bit (the_member free a m).0 free).1 (the_member free a m).2) may (subst₂ (λ (x y : ℕ). DrivesFree may x value y) e z l)

-- ---- cubes of two and of four vertices

two_of : (may : List ℕ) (value free up r : ℕ) → Single free → up ≡ bit_or value free → r ≡ bit_and (get_or may value 0) (get_or may up 0) → DrivesFree may free value r
two_of may value free up r s e g = subst⁻¹ (DrivesFree may free value) g
    (both_halves may value free free (record { single = s; part = part_self free }) 0 up (get_or may value 0) (get_or may up 0) (omega arith) e (drives_vertex may value) (drives_vertex may up))

pub two_vertices : (may : List ℕ) (value free a r : ℕ) → Member free a → free - a ≡ 0 → r ≡ bit_and (get_or may value 0) (get_or may (bit_or value a) 0) → DrivesFree may free value r
two_vertices may value free a r m e g =
    let s : a ≡ free = omega (arith, first_part free a m) in
    subst (λ (x : ℕ). DrivesFree may x value r) s (two_of may value a (bit_or value a) r m.single refl g)

module _ (may : List ℕ) (value free a b : ℕ) (m : Member free a) (k : Member (free - a) b) (e : free - a ≡ b) where
  pub four_vertices : (low high : ℕ) → low ≡ bit_and (get_or may value 0) (get_or may (bit_or value b) 0)
      → high ≡ bit_and (get_or may (bit_or value a) 0) (get_or may (bit_or (bit_or value a) b) 0) → DrivesFree may free value (bit_and low high)
  four_vertices low high g h = both_halves may value free a m b (bit_or value a) low high (sym e) refl
      (two_of may value b (bit_or value b) low k.single refl g) (two_of may (bit_or value a) b (bit_or (bit_or value a) b) high k.single refl h)
