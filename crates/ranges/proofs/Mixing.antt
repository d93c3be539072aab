-- Weights put together from two lists, entry by entry, and what sets cost by them.
use Rattle.std.proofs.Common.{◌≡◌, refl, sym, ap, ◌∙◌, ◌⊎◌, inl, inr, ⊎_elim, Bool, true, false, not, cond, List, ℕ, zero, suc, ◌+◌, ◌-◌, ◌*◌, ◌^◌, ◌≤◌, ◌<◌, zero-mul, mul_assoc, add-mul, mod-eq_of_lt, arith, T, length, get_or, replicate, bit_and, max}
use native.Mathlib.Decide.{dec_lt}
use lib.ListN.{length-replicate, get_or-eq_default}
use lib.Bits.{and_mask}
use Rattle.model.specs.Base.{bit}
use Rattle.model.proofs.Lists.{yes_or_no, T_true, T_false}
use Rattle.bits.specs.Bits.{digit, Minus}
use Rattle.bits.proofs.Digits.{eq?, digit_lt, digit_and, digit_bit}
use Rattle.cheapest_bounds.specs.Costs.{cost_of}
use Rattle.cheapest_bounds.specs.Units.{Multiple, Measures, GreatestDivisor, CommonDivisor, CommonUnit}
use Rattle.cheapest_bounds.proofs.Measuring.{whole, multiple_one}
use Rattle.ranges.specs.Listed.{minus, against}
use Rattle.ranges.specs.Rivals.{mixed_entry, Mixed}
use Rattle.ranges.proofs.Sums.{cost_mixed, less_bits}

-- ---- one entry

module _ (x y a b i : ℕ) where
  pub entry_first : (h : Bool) → h ≡ bit i a → h ≡ true → x ≡ mixed_entry x y a b i
  unfolding mixed_entry
  entry_first h e t = rw (sym e ∙ t)

  pub entry_second : (h k : Bool) → h ≡ bit i a → h ≡ false → k ≡ bit i b → k ≡ true → y ≡ mixed_entry x y a b i
  unfolding mixed_entry
  entry_second h k e f g t = rw (sym e ∙ f, sym g ∙ t)

  pub entry_none : (h k : Bool) → h ≡ bit i a → h ≡ false → k ≡ bit i b → k ≡ false → 0 ≡ mixed_entry x y a b i
  unfolding mixed_entry
  entry_none h k e f g t = rw (sym e ∙ f, sym g ∙ t)

-- ---- entry by entry

-- the first i entries are put together, the others are 0
pub record Mixing (first second : List ℕ) (a b : ℕ) (w : List ℕ) (i : ℕ) : Type 0 where
  pub size : length w ≡ 64
  pub done : (k : ℕ) → k < i → get_or w k 0 ≡ mixed_entry (get_or first k 0) (get_or second k 0) a b k
  pub rest : (k : ℕ) → i ≤ k → get_or w k 0 ≡ 0

zeros : (n k : ℕ) → ◌≡◌ {A = ℕ} (get_or (replicate n 0) k 0) 0
zeros zero k = refl
zeros (suc n) zero = refl
zeros (suc n) (suc k) = zeros n k

pub mixing_none : (first second : List ℕ) (a b : ℕ) → Mixing first second a b (replicate 64 0) 0
mixing_none first second a b = record { size = length-replicate {A = ℕ} 64 0; done = λ k lt. absurd (omega arith); rest = λ k le. zeros 64 k }

pub mixing_all : (first second : List ℕ) (a b : ℕ) (w : List ℕ) (i : ℕ) → length first ≤ 64 → length second ≡ length first → i ≡ length first
    → Mixing first second a b w i → Mixed first second a b w
unfolding Minus mixed_entry
mixing_all first second a b w i few same end m = record {
  size = m.size;
  is = λ t. cost_mixed 64 w first second t (bit_and t a) (minus (bit_and t b) a) (omega (arith, m.size)) few (omega arith)
      (λ k. each t k (yes_or_no (bit k a)) (yes_or_no (bit k b)));
}
  where
    entry : (k : ℕ) → get_or w k 0 ≡ cond (bit k a) (get_or first k 0) (cond (bit k b) (get_or second k 0) 0)
    entry k = elim (dec_lt k i) [
      | yes lt ↦ m.done k lt
      | no ge ↦
          let f : get_or first k 0 ≡ 0 = get_or-eq_default first 0 (omega arith) in
          let s : get_or second k 0 ≡ 0 = get_or-eq_default second 0 (omega arith) in
          m.rest k (omega arith) ∙ rw (f, s) (nothing (bit k a) (bit k b))
    ]
      where
        nothing : (x y : Bool) → ◌≡◌ {A = ℕ} 0 (cond x 0 (cond y 0 0))
        nothing true y = refl
        nothing false true = refl
        nothing false false = refl

    out : (k x : ℕ) → T (not (bit k x)) → digit k x ≡ 0
    out k x n = ⊎_elim
        (λ (e : digit k x ≡ 1). let z : ◌≡◌ {A = Bool} true false = sym (T_true {b = bit k x} ((digit_bit k x).1 e)) ∙ T_false {b = bit k x} n in absurd (never z))
        (λ (e : digit k x ≡ 1 → ⊥). omega (arith, digit_lt k x))
        (eq? (digit k x) 1)
      where
        never : true ≡ false → ⊥
        never z = let y : ◌≡◌ {A = ℕ} 0 1 = cc in omega arith

    each : (t k : ℕ) → T (bit k a) ⊎ T (not (bit k a)) → T (bit k b) ⊎ T (not (bit k b))
        → digit k t * get_or w k 0 ≡ digit k (bit_and t a) * get_or first k 0 + digit k (minus (bit_and t b) a) * get_or second k 0
    each t k (inl p) h =
        let in_a : digit k a ≡ 1 = (digit_bit k a).0 p in
        let d : digit k (bit_and t a) ≡ digit k t = omega (arith, digit_and k t a, digit_lt k t) in
        let z : digit k (minus (bit_and t b) a) ≡ 0 = omega (arith, less_bits (bit_and t b) a k, digit_lt k (bit_and t b)) in
        let v : get_or w k 0 ≡ get_or first k 0 = entry k ∙ rw (T_true {b = bit k a} p) in
        rw (d, z, v) (omega (arith, zero-mul (get_or second k 0)))
    each t k (inr p) (inl q) =
        let in_b : digit k b ≡ 1 = (digit_bit k b).0 q in
        let not_a : digit k a ≡ 0 = out k a p in
        let z : digit k (bit_and t a) ≡ 0 = omega (arith, digit_and k t a) in
        let d : digit k (minus (bit_and t b) a) ≡ digit k t = omega (arith, less_bits (bit_and t b) a k, digit_and k t b, digit_lt k t) in
        let v : get_or w k 0 ≡ get_or second k 0 = entry k ∙ rw (T_false {b = bit k a} p, T_true {b = bit k b} q) in
        rw (d, z, v) (omega (arith, zero-mul (get_or first k 0)))
    each t k (inr p) (inr q) =
        let not_b : digit k b ≡ 0 = out k b q in
        let not_a : digit k a ≡ 0 = out k a p in
        let z : digit k (bit_and t a) ≡ 0 = omega (arith, digit_and k t a) in
        let y : digit k (minus (bit_and t b) a) ≡ 0 = omega (arith, less_bits (bit_and t b) a k, digit_and k t b) in
        let v : get_or w k 0 ≡ 0 = entry k ∙ rw (T_false {b = bit k a} p, T_false {b = bit k b} q) in
        rw (y, z, v) (omega (arith, zero-mul (get_or first k 0), zero-mul (get_or second k 0)))

-- ---- what sets cost by them

-- a common divisor of all entries of two lists is a unit of both
divisor_unit : {low high : List ℕ} {a b d : ℕ} → CommonDivisor low a → CommonDivisor high b → GreatestDivisor a b d → 0 < d → CommonUnit low d × CommonUnit high d
unfolding Measures Multiple
divisor_unit {low} {high} {a} {b} {d} l h g some = (
  record { positive = some; whole = whole low d (λ k lt. through a (get_or low k 0) g.left (l.divides k lt)) },
  record { positive = some; whole = whole high d (λ k lt. through b (get_or high k 0) g.right (h.divides k lt)) },
)
  where
    through : (u c : ℕ) → Multiple d u → Multiple u c → Multiple d c
    through u c x y = (y.0 * x.0, y.1 ∙ ap (λ (v : ℕ). y.0 * v) x.1 ∙ sym (mul_assoc y.0 x.0 d))

no_unit : (costs : List ℕ) → CommonUnit costs 1
no_unit costs = record { positive = omega arith; whole = λ t. multiple_one 1 (cost_of costs t) refl }

-- and 1 is one of all lists
pub common_unit : {low high : List ℕ} {a b d : ℕ} → CommonDivisor low a → CommonDivisor high b → GreatestDivisor a b d
    → CommonUnit low (max d 1) × CommonUnit high (max d 1)
common_unit {low} {high} {a} {b} {d} l h g = elim (dec_lt 0 d) [
  | yes some ↦ let e : max d 1 ≡ d = omega arith in rw e (divisor_unit l h g some)
  | no none ↦ let e : max d 1 ≡ 1 = omega arith in rw e (no_unit low, no_unit high)
]

-- mixed weights come in the same steps
pub mixed_unit : (first second : List ℕ) (a b : ℕ) (w : List ℕ) (u : ℕ) → Mixed first second a b w → CommonUnit first u → CommonUnit second u → CommonUnit w u
unfolding Multiple
mixed_unit first second a b w u m f s = record {
  positive = f.positive;
  whole = λ t.
      let x = f.whole (bit_and t a) in
      let y = s.whole (minus (bit_and t b) a) in
      (x.0 + y.0, omega (arith, m.is t, x.1, y.1, add-mul x.0 y.0 u));
}

-- low for the members of s, high for the others of n candidates
pub mixed_favours : (n : ℕ) (low high : List ℕ) (s free : ℕ) (w : List ℕ) → free ≡ 2 ^ n - 1 → Mixed low high s free w
    → (t : ℕ) → t < 2 ^ n → cost_of w t ≡ against low high s t
unfolding against
mixed_favours n low high s free w e m t lt =
    let all : bit_and t free ≡ t = ap (bit_and t) e ∙ and_mask t n ∙ mod-eq_of_lt lt in
    omega (arith, m.is t, ap (λ (x : ℕ). cost_of high (minus x s)) all)
