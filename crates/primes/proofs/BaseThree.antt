-- The numbers of cubes: a number and its cube determine each other, and the halves of a cube stand 3^i and 2 · 3^i behind it.
--
--     number_spread         a cube's number is the sum of the spreads of its care and its value
--     number_digit          digit i of a cube's number says what the cube does with input i
--     number_one            cubes with the same number are the same
--     number_lt             the number of a cube of n inputs is below 3^n
--     number_onto           each number below 3^n is that of a cube
--     half_low, half_high   the numbers of the halves
use Prim.Native.Nat.{ℕ, zero, suc, ◌+◌, ◌-◌, ◌*◌, ◌/◌, ◌%◌, ◌^◌, ◌≤◌, ◌<◌}
use native.Mathlib.Omega.{arith}
use native.Mathlib.Nat.{pow-suc, pow-succ', div-one, div-div-eq-div-mul, pow-le-pow_right}
use native.Mathlib.Decide.{ℕ_discrete, dec_lt}
use mathlib.Core.Path.{◌≡◌, refl, sym, ap, ap₂, ◌∙◌, subst⁻¹}
use mathlib.Core.Logic.{◌⊎◌, inl, inr}
use mathlib.Core.Bool.{Bool, true, false, not, cond}
use lib.Dec.{T, T_not, not_T}
use Rattle.model.specs.Base.{bit}
use Rattle.model.specs.Sets.{Within}
use Rattle.model.proofs.Lists.{yes_or_no, T_true, T_false}
use Rattle.model.proofs.Bits.{bit0_e, bit0_n, bit_flag, bit_le, bit_lt, within_le, within_without, without_within}
use Rattle.model.proofs.Cubes.{bits_ext, set_bit, set_here, set_other}
use Rattle.table.specs.Cubes.{Cube}
use Rattle.model.specs.Numbers.{digit_of, cube_number_to, cube_number, spread_to, spread, WithNumber}
use Rattle.table.proofs.Halves.{set_adds, set_within, within_set}

-- ---- s without its bit i

cleared : (i s : ℕ) → T (bit i s) → T (not (bit i (s - 2 ^ i)))
cleared zero s t = not_T (bit 0 (s - 1)) (λ u. omega (arith, bit0_e s t, bit0_e (s - 1) u))
cleared (suc i) s t =
    let h : (s - 2 ^ suc i) / 2 ≡ s / 2 - 2 ^ i = omega (arith, pow-suc 2 i) in
    subst⁻¹ (λ (x : ℕ). T (not (bit i x))) h (cleared i (s / 2) t)

set_back : (i s : ℕ) → T (bit i s) → set_bit i (s - 2 ^ i) ≡ s
set_back i s t = set_adds i (s - 2 ^ i) (cleared i s t) ∙ omega (arith, bit_le i s t)

-- without its last bit it is below that
top_off : (i s : ℕ) → s < 2 ^ suc i → T (not (bit i s)) → s < 2 ^ i
top_off zero s l t = omega (arith, bit0_n s t)
top_off (suc i) s l t = omega (arith, top_off i (s / 2) (omega (arith, pow-suc 2 (suc i))) t, pow-suc 2 i)

-- ---- the digits

thrice : (b : Bool) (r : ℕ) → cond b (r * 3) 0 ≡ cond b r 0 * 3
thrice true r = refl
thrice false r = refl

spread_step : (k s : ℕ) → spread_to (suc k) s ≡ spread_to k (s / 2) * 3 + s % 2
unfolding spread_to
spread_step zero s = omega (arith, bit_flag s)
spread_step (suc k) s =
    let e : cond (bit k (s / 2)) (3 ^ suc k) 0 ≡ cond (bit k (s / 2)) (3 ^ k) 0 * 3 = ap (λ (x : ℕ). cond (bit k (s / 2)) x 0) (pow-suc 3 k) ∙ thrice (bit k (s / 2)) (3 ^ k) in
    omega (arith, spread_step k s)

spread_to_lt : (k s : ℕ) → spread_to k s < 3 ^ k
unfolding spread_to
spread_to_lt zero s = omega arith
spread_to_lt (suc k) s = omega (arith, at_most (bit k s) (3 ^ k), spread_to_lt k s, pow-suc 3 k)
  where
    at_most : (b : Bool) (r : ℕ) → cond b r 0 ≤ r
    at_most true r = omega arith
    at_most false r = omega arith

pub spread_lt : (s : ℕ) → spread s < 6561
unfolding spread
spread_lt s = spread_to_lt 8 s

-- ---- one bit more

spread_below : (k i s : ℕ) → k ≤ i → spread_to k (set_bit i s) ≡ spread_to k s
unfolding spread_to
spread_below zero i s l = refl
spread_below (suc k) i s l = ap₂ (λ (x : ℕ) (b : Bool). x + cond b (3 ^ k) 0) (spread_below k i s (omega arith)) (set_other i k s (λ e. omega arith))

spread_past : (k i s : ℕ) → i < k → T (not (bit i s)) → spread_to k (set_bit i s) ≡ spread_to k s + 3 ^ i
unfolding spread_to
spread_past zero i s l t = absurd (omega arith)
spread_past (suc k) i s l t = go (ℕ_discrete k i) (λ h. spread_past k i s h t)
  where
    go : Dec (k ≡ i) → (i < k → spread_to k (set_bit i s) ≡ spread_to k s + 3 ^ i)
        → spread_to k (set_bit i s) + cond (bit k (set_bit i s)) (3 ^ k) 0 ≡ spread_to k s + cond (bit k s) (3 ^ k) 0 + 3 ^ i
    go (yes e) ih =
        let b : T (bit k (set_bit i s)) = subst⁻¹ (λ (x : ℕ). T (bit x (set_bit i s))) e (set_here i s) in
        let n : T (not (bit k s)) = subst⁻¹ (λ (x : ℕ). T (not (bit x s))) e t in
        rw (T_true {b = bit k (set_bit i s)} b, T_false {b = bit k s} n) (omega (arith, spread_below k i s (omega arith), ap (λ (x : ℕ). 3 ^ x) e))
    go (no d) ih =
        let h : spread_to k (set_bit i s) ≡ spread_to k s + 3 ^ i = ih (omega arith) in
        rw (set_other i k s d) (omega arith)

spread_set : (i s : ℕ) → i < 8 → T (not (bit i s)) → spread (set_bit i s) ≡ spread s + 3 ^ i
unfolding spread
spread_set i s l t = spread_past 8 i s l t

spread_zero : spread 0 ≡ 0
unfolding spread spread_to
spread_zero = refl

pub spread_power : (i : ℕ) → i < 8 → spread (2 ^ i) ≡ 3 ^ i
spread_power i l =
    let none : T (not (bit i 0)) = not_T (bit i 0) (λ t. omega (arith, bit_le i 0 t, bit_lt i 0 0 t (omega arith))) in
    let e : set_bit i 0 ≡ 2 ^ i = omega (arith, set_adds i 0 none) in
    ap spread (sym e) ∙ spread_set i 0 l none ∙ omega (arith, spread_zero)

-- ---- the number by the spreads

-- what a digit adds, by the bits of care and value
digit_adds : (b c : Bool) (r : ℕ) → (T c → T b) → cond b (cond c 2 1) 0 * r ≡ cond b r 0 + cond c r 0
digit_adds true true r f = omega arith
digit_adds true false r f = omega arith
digit_adds false true r f = absurd (f tt)
digit_adds false false r f = omega arith

to_spreads : (k care value : ℕ) → Within value care → cube_number_to k care value ≡ spread_to k care + spread_to k value
unfolding cube_number_to spread_to digit_of
to_spreads zero care value w = refl
to_spreads (suc k) care value w = omega (arith, to_spreads k care value w, digit_adds (bit k care) (bit k value) (3 ^ k) (w k))

pub number_spread : (care value : ℕ) → Within value care → cube_number care value ≡ spread care + spread value
unfolding cube_number spread
number_spread care value w = to_spreads 8 care value w

-- ---- the halves of a cube with free input i

module _ (i care value : ℕ) (l : i < 8) (f : T (not (bit i care))) (w : Within value care) where
  free_value : T (not (bit i value))
  free_value = not_T (bit i value) (λ t. T_not (bit i care) f (w i t))

  pub half_low : cube_number (set_bit i care) value ≡ cube_number care value + 3 ^ i
  half_low = number_spread (set_bit i care) value (within_set i value care w) ∙ omega (arith, number_spread care value w, spread_set i care l f)

  pub half_high : cube_number (set_bit i care) (set_bit i value) ≡ cube_number care value + 2 * 3 ^ i
  half_high = number_spread (set_bit i care) (set_bit i value) (set_within i value care w)
      ∙ omega (arith, number_spread care value w, spread_set i care l f, spread_set i value l free_value)

-- ---- "digit i is 0 where input i is free, 1 where it is fixed at 0, 2 where it is fixed at 1"

digit_step : (i x r q : ℕ) → x ≡ q * 3 + r → r ≤ 2 → x / 3 ^ suc i % 3 ≡ q / 3 ^ i % 3
digit_step i x r q e l =
    let d : x / 3 ≡ q = omega arith in
    ap (λ (p : ℕ). x / p % 3) (pow-succ' 3 i) ∙ ap (λ (y : ℕ). y % 3) (sym (div-div-eq-div-mul x 3 (3 ^ i))) ∙ ap (λ (y : ℕ). y / 3 ^ i % 3) d

first_digit : (c v : ℕ) → Within v c → (digit_of c v 0 ≡ c % 2 + v % 2) × (digit_of c v 0 ≤ 2)
unfolding digit_of
first_digit c v w =
    let e : cond (bit 0 c) (cond (bit 0 v) 2 1) 0 ≡ c % 2 + v % 2 = omega (arith, digit_adds (bit 0 c) (bit 0 v) 1 (w 0), bit_flag c, bit_flag v) in
    (e, omega (arith, e))

next_digit : (c v i : ℕ) → digit_of (c / 2) (v / 2) i ≡ digit_of c v (suc i)
unfolding digit_of
next_digit c v i = refl

digits : (k i c v : ℕ) → i < k → Within v c → (spread_to k c + spread_to k v) / 3 ^ i % 3 ≡ digit_of c v i
digits zero i c v l w = absurd (omega arith)
digits (suc k) zero c v l w =
    let e : (spread_to (suc k) c + spread_to (suc k) v) / 1 ≡ spread_to (suc k) c + spread_to (suc k) v = div-one (spread_to (suc k) c + spread_to (suc k) v) in
    omega (arith, spread_step k c, spread_step k v, first_digit c v w)
digits (suc k) (suc i) c v l w =
    digit_step i (spread_to (suc k) c + spread_to (suc k) v) (c % 2 + v % 2) (spread_to k (c / 2) + spread_to k (v / 2)) (omega (arith, spread_step k c, spread_step k v)) (omega arith)
    ∙ digits k i (c / 2) (v / 2) (omega arith) (λ j t. w (suc j) t)
    ∙ next_digit c v i

pub number_digit : (care value i : ℕ) → i < 8 → Within value care → cube_number care value / 3 ^ i % 3 ≡ digit_of care value i
unfolding spread
number_digit care value i l w = ap (λ (x : ℕ). x / 3 ^ i % 3) (number_spread care value w) ∙ digits 8 i care value l w

-- the digit tells the bits
digit_bits : (c v d u i : ℕ) → (T (bit i v) → T (bit i c)) → (T (bit i u) → T (bit i d)) → digit_of c v i ≡ digit_of d u i → (bit i c ≡ bit i d) × (bit i v ≡ bit i u)
unfolding digit_of
digit_bits c v d u i = go (bit i c) (bit i v) (bit i d) (bit i u)
  where
    go : (a b a' b' : Bool) → (T b → T a) → (T b' → T a') → ◌≡◌ {A = ℕ} (cond a (cond b 2 1) 0) (cond a' (cond b' 2 1) 0) → (a ≡ a') × (b ≡ b')
    go true true true true f g e = (refl, refl)
    go true true true false f g e = absurd (omega arith)
    go true false true true f g e = absurd (omega arith)
    go true false true false f g e = (refl, refl)
    go true true false b' f g e = absurd (omega arith)
    go true false false b' f g e = absurd (omega arith)
    go false b true true f g e = absurd (omega arith)
    go false b true false f g e = absurd (omega arith)
    go false true false b' f g e = absurd (f tt)
    go false false false true f g e = absurd (g tt)
    go false false false false f g e = (refl, refl)

-- ---- a number and its cube determine each other

cube_bits : (n c v d u : ℕ) → Cube n c v → Cube n d u → cube_number c v ≡ cube_number d u → (i : ℕ) → (bit i c ≡ bit i d) × (bit i v ≡ bit i u)
cube_bits n c v d u k h e i = go (dec_lt i 8)
  where
    none : (x : ℕ) → x < 2 ^ n → (i < 8 → ⊥) → bit i x ≡ false
    none x l f = T_false {b = bit i x} (not_T (bit i x) (λ t. f (omega (arith, bit_lt i n x t l, k.inputs))))

    go : Dec (i < 8) → (bit i c ≡ bit i d) × (bit i v ≡ bit i u)
    go (yes l) = digit_bits c v d u i (k.value_in i) (h.value_in i) (sym (number_digit c v i l k.value_in) ∙ ap (λ (x : ℕ). x / 3 ^ i % 3) e ∙ number_digit d u i l h.value_in)
    go (no f) = (
      none c k.care_lt f ∙ sym (none d h.care_lt f),
      none v (omega (arith, within_le v c k.value_in, k.care_lt)) f ∙ sym (none u (omega (arith, within_le u d h.value_in, h.care_lt)) f),
    )

pub number_one : (n c v d u : ℕ) → Cube n c v → Cube n d u → cube_number c v ≡ cube_number d u → (c ≡ d) × (v ≡ u)
number_one n c v d u k h e = (bits_ext c d (λ i. (cube_bits n c v d u k h e i).0), bits_ext v u (λ i. (cube_bits n c v d u k h e i).1))

-- ---- the last input of a cube

pub data Top (i c v : ℕ) : Type 0 where
  at_free : Cube i c v → Top i c v
  at_low : (d : ℕ) → Cube i d v → c ≡ d + 2 ^ i → cube_number c v ≡ cube_number d v + 3 ^ i → Top i c v
  at_high : (d u : ℕ) → Cube i d u → c ≡ d + 2 ^ i → v ≡ u + 2 ^ i → cube_number c v ≡ cube_number d u + 2 * 3 ^ i → Top i c v

pub top : (i c v : ℕ) → Cube (suc i) c v → Top i c v
top i c v k = go (yes_or_no (bit i c)) (yes_or_no (bit i v))
  where
    small : i < 8
    small = omega (arith, k.inputs)

    less : T (bit i c) → c - 2 ^ i < 2 ^ i
    less t = omega (arith, bit_le i c t, k.care_lt, pow-suc 2 i)

    without : T (bit i c) → T (bit i v) → Within (v - 2 ^ i) (c - 2 ^ i)
    without s t = within_without i (v - 2 ^ i) c s (cleared i v t) (λ j b. k.value_in j (without_within i v t j b))

    go : T (bit i c) ⊎ T (not (bit i c)) → T (bit i v) ⊎ T (not (bit i v)) → Top i c v
    go (inr s) b = at_free (record { inputs = omega arith; care_lt = top_off i c k.care_lt s; value_in = k.value_in })
    go (inl s) (inr b) = at_low (c - 2 ^ i) (record { inputs = omega arith; care_lt = less s; value_in = within_without i v c s b k.value_in }) (omega (arith, bit_le i c s))
        (ap (λ (x : ℕ). cube_number x v) (sym (set_back i c s)) ∙ half_low i (c - 2 ^ i) v small (cleared i c s) (within_without i v c s b k.value_in))
    go (inl s) (inl b) = at_high (c - 2 ^ i) (v - 2 ^ i) (record { inputs = omega arith; care_lt = less s; value_in = without s b }) (omega (arith, bit_le i c s)) (omega (arith, bit_le i v b))
        (ap₂ cube_number (sym (set_back i c s)) (sym (set_back i v b)) ∙ half_high i (c - 2 ^ i) (v - 2 ^ i) small (cleared i c s) (without s b))

pub number_zero : (c v : ℕ) → Cube 0 c v → cube_number c v ≡ 0
number_zero c v k =
    let a : c ≡ 0 = omega (arith, k.care_lt) in
    let b : v ≡ 0 = omega (arith, within_le v c k.value_in) in
    omega (arith, number_spread c v k.value_in, ap spread a, ap spread b, spread_zero)

pub number_lt : (n c v : ℕ) → Cube n c v → cube_number c v < 3 ^ n
number_lt zero c v k = omega (arith, number_zero c v k)
number_lt (suc n) c v k = go (top n c v k) (number_lt n)
  where
    go : Top n c v → ((d u : ℕ) → Cube n d u → cube_number d u < 3 ^ n) → cube_number c v < 3 ^ suc n
    go (at_free h) ih = omega (arith, ih c v h, pow-suc 3 n)
    go (at_low d h e g) ih = omega (arith, ih d v h, pow-suc 3 n, g)
    go (at_high d u h e f g) ih = omega (arith, ih d u h, pow-suc 3 n, g)

pub number_onto : (n k : ℕ) → n ≤ 8 → k < 3 ^ n → WithNumber n k
number_onto zero k l h = record { care = 0; value = 0; care_lt = omega arith; value_in = λ i t. t; its = number_zero 0 0 none ∙ omega arith }
  where
    none : Cube 0 0 0
    none = record { inputs = omega arith; care_lt = omega arith; value_in = λ i t. t }
number_onto (suc n) k l h = go (dec_lt k (3 ^ n)) (dec_lt k (2 * 3 ^ n)) (number_onto n)
  where
    size : 3 ^ suc n ≡ 3 ^ n * 3
    size = pow-suc 3 n

    off : (x : ℕ) → x < 2 ^ n → T (not (bit n x))
    off x s = not_T (bit n x) (λ t. omega (arith, bit_lt n n x t s))

    wider : (c : ℕ) → c < 2 ^ n → set_bit n c < 2 ^ suc n
    wider c s = omega (arith, set_adds n c (off c s), pow-suc 2 n)

    go : Dec (k < 3 ^ n) → Dec (k < 2 * 3 ^ n) → ((x : ℕ) → n ≤ 8 → x < 3 ^ n → WithNumber n x) → WithNumber (suc n) k
    go (yes a) b ih =
        let q = ih k (omega arith) a in
        record { care = q.care; value = q.value; care_lt = omega (arith, q.care_lt, pow-suc 2 n); value_in = q.value_in; its = q.its }
    go (no a) (yes b) ih =
        let q = ih (k - 3 ^ n) (omega arith) (omega arith) in
        record {
          care = set_bit n q.care;
          value = q.value;
          care_lt = wider q.care q.care_lt;
          value_in = within_set n q.value q.care q.value_in;
          its = half_low n q.care q.value (omega arith) (off q.care q.care_lt) q.value_in ∙ omega (arith, q.its);
        }
    go (no a) (no b) ih =
        let q = ih (k - 2 * 3 ^ n) (omega arith) (omega arith) in
        record {
          care = set_bit n q.care;
          value = set_bit n q.value;
          care_lt = wider q.care q.care_lt;
          value_in = set_within n q.value q.care q.value_in;
          its = half_high n q.care q.value (omega arith) (off q.care q.care_lt) q.value_in ∙ omega (arith, q.its);
        }

-- n inputs have at most 6,561 cubes
pub cubes_le : (n : ℕ) → n ≤ 8 → 3 ^ n ≤ 6561
cubes_le n l = pow-le-pow_right {n = 3} (omega arith) l
