-- Sums over the members of sets, by their bits: costs that are mixed from two lists.
use Rattle.std.proofs.Common.{◌≡◌, refl, sym, ap, ◌∙◌, ⊎_elim, List, [], ◌∷◌, ℕ, zero, suc, ◌+◌, ◌*◌, ◌/◌, ◌≤◌, zero-mul, one-mul, arith, length, get_or, bit_and}
use Rattle.bits.specs.Bits.{digit, Minus}
use Rattle.bits.proofs.Digits.{eq?, digit_lt, digit_first, digit_next, digit_and}
use Rattle.bits.proofs.Members.{and_left}
use Rattle.bits.proofs.Parts.{by_members, minus_bits}
use Rattle.cheapest_bounds.specs.Costs.{cost_of}
use Rattle.cheapest_bounds.proofs.Costing.{cost_apart}
use Rattle.ranges.specs.Listed.{minus}

-- ---- sums of the first n

total : ℕ → (ℕ → ℕ) → ℕ
total zero f = 0
total (suc n) f = f 0 + total n (λ i. f (suc i))

total_zero : (n : ℕ) (f : ℕ → ℕ) → ((i : ℕ) → f i ≡ 0) → total n f ≡ 0
unfolding total
total_zero zero f h = refl
total_zero (suc n) f h = omega (arith, h 0, total_zero n (λ i. f (suc i)) (λ i. h (suc i)))

total_same : (n : ℕ) (f g : ℕ → ℕ) → ((i : ℕ) → f i ≡ g i) → total n f ≡ total n g
unfolding total
total_same zero f g h = refl
total_same (suc n) f g h = omega (arith, h 0, total_same n (λ i. f (suc i)) (λ i. g (suc i)) (λ i. h (suc i)))

total_add : (n : ℕ) (f g : ℕ → ℕ) → total n (λ i. f i + g i) ≡ total n f + total n g
unfolding total
total_add zero f g = refl
total_add (suc n) f g = omega (arith, total_add n (λ i. f (suc i)) (λ i. g (suc i)))

total_le : (n : ℕ) (f g : ℕ → ℕ) → ((i : ℕ) → f i ≤ g i) → total n f ≤ total n g
unfolding total
total_le zero f g h = omega arith
total_le (suc n) f g h = omega (arith, h 0, total_le n (λ i. f (suc i)) (λ i. g (suc i)) (λ i. h (suc i)))

-- the cost of a set, as such a sum
cost_total : (n : ℕ) (ws : List ℕ) (t : ℕ) → length ws ≤ n → cost_of ws t ≡ total n (λ i. digit i t * get_or ws i 0)
unfolding cost_of total
cost_total n [] t l = sym (total_zero n (λ i. digit i t * 0) (λ i. omega arith))
cost_total zero (w ∷ ws) t l = absurd (omega arith)
cost_total (suc n) (w ∷ ws) t l = omega (arith, ap (λ (d : ℕ). d * w) (digit_first t), cost_total n ws (t / 2) (omega arith), step)
  where
    step : total n (λ i. digit (suc i) t * get_or ws i 0) ≡ total n (λ i. digit i (t / 2) * get_or ws i 0)
    step = total_same n _ _ (λ i. ap (λ (d : ℕ). d * get_or ws i 0) (digit_next i t))

-- a cost that is, candidate by candidate, one of low for a and one of high for b
pub cost_mixed : (n : ℕ) (ws low high : List ℕ) (t a b : ℕ) → length ws ≤ n → length low ≤ n → length high ≤ n
    → ((i : ℕ) → digit i t * get_or ws i 0 ≡ digit i a * get_or low i 0 + digit i b * get_or high i 0) → cost_of ws t ≡ cost_of low a + cost_of high b
cost_mixed n ws low high t a b lw ll lh f =
    cost_total n ws t lw ∙ total_same n _ _ f ∙ total_add n _ _ ∙ omega (arith, cost_total n low a ll, cost_total n high b lh)

-- weights that are nowhere lower
pub cost_over : (n : ℕ) (ws vs : List ℕ) (t : ℕ) → length ws ≤ n → length vs ≤ n → ((i : ℕ) → get_or ws i 0 ≤ get_or vs i 0) → cost_of ws t ≤ cost_of vs t
cost_over n ws vs t lw lv f =
    omega (arith, cost_total n ws t lw, cost_total n vs t lv, total_le n (λ i. digit i t * get_or ws i 0) (λ i. digit i t * get_or vs i 0) each)
  where
    each : (i : ℕ) → digit i t * get_or ws i 0 ≤ digit i t * get_or vs i 0
    each i = ⊎_elim
        (λ (e : digit i t ≡ 1). omega (arith, ap (λ (d : ℕ). d * get_or ws i 0) e, ap (λ (d : ℕ). d * get_or vs i 0) e, one-mul (get_or ws i 0), one-mul (get_or vs i 0), f i))
        (λ (e : digit i t ≡ 1 → ⊥).
        let z : digit i t ≡ 0 = omega (arith, digit_lt i t) in
        omega (arith, ap (λ (d : ℕ). d * get_or ws i 0) z, zero-mul (get_or ws i 0)))
        (eq? (digit i t) 1)

-- ---- a set without another

pub less_bits : (a b : ℕ) → Minus a b (minus a b)
unfolding minus
less_bits a b = minus_bits a b

-- what is in t is in s or not
pub cost_split : (ws : List ℕ) (t s : ℕ) → cost_of ws t ≡ cost_of ws (bit_and t s) + cost_of ws (minus t s)
unfolding Minus
cost_split ws t s =
    cost_apart ws t (bit_and t s) (minus t s) (by_members (bit_and t s) t (λ c h. and_left c t s h))
    (λ c. omega (arith, less_bits t s c, digit_and c t s, digit_lt c t, digit_lt c s))
