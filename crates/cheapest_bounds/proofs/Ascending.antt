-- What rows charge their members: one entry, one row, the rows in turn; and the candidates that have too much left.
use Rattle.std.proofs.Common.{◌≡◌, refl, sym, ap, ap₂, ◌∙◌, subst, ⊎_elim, List, [], ◌∷◌, ◌++◌, ℕ, zero, suc, ◌+◌, ◌-◌, ◌*◌, ◌/◌, ◌%◌, ◌^◌, ◌≤◌, ◌<◌, one-mul, zero-mul, mod-eq_of_lt, arith, length, get_or, set, replicate, length-set, length-append, get_or-set_other, bit_and}
use Rattle.std.proofs.lemmas.Nat.{and_mask}
use Rattle.std.proofs.lemmas.List.{length-replicate, get_or-replicate}
use native.Mathlib.Decide.{dec_lt}
use lib.ListN.{get_or-eq_default}
use Rattle.cheapest_bounds.specs.declared.ascent.Duals.{Duals}
use Rattle.bits.specs.Bits.{digit, Single, Part, Minus, Member, Index}
use Rattle.cheapest_bounds.specs.Costs.{cost_of, no_cost, Price, Floor}
use Rattle.cheapest_bounds.specs.Ascent.{Charged, Paid, Meets, Raised, SameCosts, Dual, Trimmed, Affordable}
use Rattle.bits.proofs.Digits.{eq?, digit_first, digit_next, digit_lt, a_member, pow_only}
use Rattle.bits.proofs.Members.{and_left, and_right, not_zero, bit_here}
use Rattle.bits.proofs.Parts.{members, by_members, part_self, part_trans, minus_part}
use Rattle.bits.proofs.Steps.{taken_gone, others_stay, Visited, visited_none, visited_more, visited_all}
use Rattle.cheapest_bounds.proofs.Costing.{cost_part, cost_one, cost_small}

-- ---- one entry

-- a set that has the entry pays v for what was there
cost_set : (l : List ℕ) (i v t : ℕ) → i < length l → cost_of (set l i v) t + digit i t * get_or l i 0 ≡ cost_of l t + digit i t * v
unfolding cost_of
cost_set [] i v t lt = absurd (omega arith)
cost_set (w ∷ ws) zero v t lt = omega (arith, ap (λ (d : ℕ). d * w) (digit_first t), ap (λ (d : ℕ). d * v) (digit_first t))
cost_set (w ∷ ws) (suc i) v t lt =
    omega (arith, cost_set ws i v (t / 2) (omega arith), ap (λ (d : ℕ). d * get_or ws i 0) (digit_next i t), ap (λ (d : ℕ). d * v) (digit_next i t))

module _ (l : List ℕ) (i y t : ℕ) (lt : i < length l) (le : y ≤ get_or l i 0) where
  -- a set without the entry costs what it did
  less_out : (digit i t ≡ 1 → ⊥) → cost_of (set l i (get_or l i 0 - y)) t ≡ cost_of l t
  less_out n =
      let z : digit i t ≡ 0 = omega (arith, digit_lt i t) in
      let v : ℕ = get_or l i 0 - y in
      omega (arith, cost_set l i v t lt, ap (λ (d : ℕ). d * get_or l i 0) z, ap (λ (d : ℕ). d * v) z, zero-mul (get_or l i 0), zero-mul v)

  -- a set with it costs y less
  less_in : digit i t ≡ 1 → cost_of (set l i (get_or l i 0 - y)) t + y ≡ cost_of l t
  less_in o =
      let v : ℕ = get_or l i 0 - y in
      omega (arith, cost_set l i v t lt, ap (λ (d : ℕ). d * get_or l i 0) o, ap (λ (d : ℕ). d * v) o, one-mul (get_or l i 0), one-mul v)

  less_all : cost_of (set l i (get_or l i 0 - y)) t ≤ cost_of l t
  less_all = ⊎_elim (λ (o : digit i t ≡ 1). omega (arith, less_in o)) (λ (n : digit i t ≡ 1 → ⊥). omega (arith, less_out n)) (eq? (digit i t) 1)

-- ---- one row

-- the members of x that are not in rest have paid y, and those of rest can
pub record Charging (x y rest : ℕ) (old new : List ℕ) : Type 0 where
  pub size : length new ≡ length old
  pub less : (t : ℕ) → cost_of new t ≤ cost_of old t
  pub can : (b : ℕ) → digit b rest ≡ 1 → y ≤ get_or new b 0
  pub paid : (t : ℕ) → Visited (λ b. digit b t ≡ 1 → cost_of new t + y ≤ cost_of old t) x rest

pub charging_none : (x y : ℕ) (old : List ℕ) → Floor old x y → Charging x y x old old
charging_none x y old f = record {
  size = omega arith;
  less = λ t. omega arith;
  can = λ b m. omega (arith, f.under b m, cost_one old b);
  paid = λ t. visited_none _ x;
}

-- the next member can pay
pub charging_can : (x y rest m i : ℕ) (old new : List ℕ) → Charging x y rest old new → Member rest m → Index m i → y ≤ get_or new i 0
charging_can x y rest m i old new h one is = h.can i (members m rest one.part i (bit_here i m is.is))

module _ (x y rest m i rest' : ℕ) (old mid : List ℕ) (h : Charging x y rest old mid) (one : Member rest m) (is : Index m i) (d : Minus rest m rest')
    (lt : i < length mid) where
  new : List ℕ
  new = set mid i (get_or mid i 0 - y)

  le : y ≤ get_or mid i 0
  le = charging_can x y rest m i old mid h one is

  more_can : (b : ℕ) → digit b rest' ≡ 1 → y ≤ get_or new b 0
  unfolding new
  more_can b q =
      ⊎_elim (λ (e : b ≡ i). absurd (taken_gone rest m i rest' is.is d (subst (λ (j : ℕ). digit j rest' ≡ 1) e q)))
      (λ (n : b ≡ i → ⊥). omega (arith, get_or-set_other mid i b (get_or mid i 0 - y) 0 n, h.can b (sym (others_stay rest m i rest' is.is d b n) ∙ q)))
      (eq? b i)

  more_less : (t : ℕ) → cost_of new t ≤ cost_of mid t
  unfolding new
  more_less t = less_all mid i y t lt le

  more_paid : (t : ℕ) → Visited (λ b. digit b t ≡ 1 → cost_of new t + y ≤ cost_of old t) x rest'
  unfolding new Visited
  more_paid t =
      visited_more (λ b. digit b t ≡ 1 → cost_of new t + y ≤ cost_of old t) x rest m i rest' (λ b p n r. omega (arith, more_less t, h.paid t b p n r)) is.is d
      (λ r. omega (arith, less_in mid i y t lt le r, h.less t))

  pub charging_more : Charging x y rest' old (set mid i (get_or mid i 0 - y))
  unfolding new
  charging_more = record {
    size = length-set mid i (get_or mid i 0 - y) ∙ h.size;
    less = λ t. omega (arith, more_less t, h.less t);
    can = more_can;
    paid = more_paid;
  }

pub charging_all : (x y rest : ℕ) (old new : List ℕ) → rest ≡ 0 → Charging x y rest old new → Charged x y old new
charging_all x y rest old new z h = record {
  size = h.size;
  paid = λ t n.
      let m : (b : ℕ) × (digit b (bit_and x t) ≡ 1) = a_member (bit_and x t) n in
      visited_all _ x rest (h.paid t) z m.0 (and_left m.0 x t m.1) (and_right m.0 x t m.1);
}

-- less than the floor is a floor
pub floor_less : (costs : List ℕ) (x r y : ℕ) → Floor costs x r → y ≤ r → Floor costs x y
floor_less costs x r y f le = record { under = λ b m. omega (arith, f.under b m); small = omega (arith, f.small) }

pub paid_none : (x : ℕ) (l : List ℕ) → Paid x l l 0
paid_none x l = record { size = omega arith; paid = λ t n. omega arith }

pub paid_some : (x y : ℕ) (old new : List ℕ) → (x ≡ 0 → ⊥) → Charged x y old new → Paid x old new y
paid_some x y old new n h = record { size = h.size; paid = λ t m. h.paid t (m n) }

-- ---- the rows in turn

-- the first n rows have taken sum
pub record Raising (rows : List ℕ) (n : ℕ) (old new : List ℕ) (sum : ℕ) : Type 0 where
  pub size : length new ≡ length old
  pub under : (t : ℕ) → Meets rows n t → cost_of new t + sum ≤ cost_of old t

pub raising_none : (rows old : List ℕ) → Raising rows 0 old old 0
raising_none rows old = record { size = omega arith; under = λ t m. omega arith }

pub raising_more : (rows : List ℕ) (n : ℕ) (old mid new : List ℕ) (sum y : ℕ) → Raising rows n old mid sum → Paid (get_or rows n 0) mid new y
    → Raising rows (n + 1) old new (sum + y)
unfolding Meets
raising_more rows n old mid new sum y h p = record {
  size = p.size ∙ h.size;
  under = λ t m. omega (arith, p.paid t (m n (omega arith)), h.under t (λ k lt. m k (omega arith)));
}

-- the set of all 64 meets all rows
meets_all : (rows : List ℕ) → ((k : ℕ) → get_or rows k 0 < 2 ^ 64) → (n : ℕ) → Meets rows n (2 ^ 64 - 1)
unfolding Meets
meets_all rows fit n k l nz z = nz (sym (and_mask (get_or rows k 0) 64 ∙ mod-eq_of_lt (fit k)) ∙ z)

-- so the sum is no more than what all cost
pub raising_small : (rows : List ℕ) (n : ℕ) (old new : List ℕ) (sum : ℕ) → ((k : ℕ) → get_or rows k 0 < 2 ^ 64) → length old ≡ 64
    → ((k : ℕ) → get_or old k 0 < 65536) → Raising rows n old new sum → sum < no_cost
raising_small rows n old new sum fit e lt h = omega (arith, h.under (2 ^ 64 - 1) (meets_all rows fit n), cost_small old (2 ^ 64 - 1) lt)

pub raising_all : (rows : List ℕ) (n : ℕ) (old new : List ℕ) (sum : ℕ) → n ≡ length rows → Raising rows n old new sum → Raised rows old new sum
raising_all rows n old new sum e h = record { size = h.size; under = λ t m. h.under t (subst (λ (k : ℕ). Meets rows k t) (sym e) m) }

-- one pass over the rows and then another
raised_then : (rows a b c : List ℕ) (p q : ℕ) → Raised rows a b p → Raised rows b c q → Raised rows a c (p + q)
raised_then rows a b c p q f g = record { size = g.size ∙ f.size; under = λ t m. omega (arith, f.under t m, g.under t m) }

-- six passes
module _ (rows : List ℕ) {a b c d e f g : List ℕ} {p q r s t u : ℕ} where
  pub raised_six : Raised rows a b p → Raised rows b c q → Raised rows c d r → Raised rows d e s → Raised rows e f t → Raised rows f g u
      → Raised rows a g (p + q + r + s + t + u)
  raised_six h1 h2 h3 h4 h5 h6 =
      let h : Raised rows a d (p + q + r) = raised_then rows a c d (p + q) r (raised_then rows a b c p q h1 h2) h3 in
      let h' : Raised rows a f (p + q + r + s + t) = raised_then rows a e f (p + q + r + s) t (raised_then rows a d e (p + q + r) s h h4) h5 in
      raised_then rows a f g (p + q + r + s + t) u h' h6

-- ---- the costs with 0 behind them

cost_zeros : (l : List ℕ) (t : ℕ) → ((k : ℕ) → get_or l k 0 ≡ 0) → cost_of l t ≡ 0
unfolding cost_of
cost_zeros [] t z = refl
cost_zeros (w ∷ ws) t z =
    ⊎_elim (λ (e : t % 2 ≡ 1). omega (arith, cost_zeros ws (t / 2) (λ k. z (suc k)), ap (λ (d : ℕ). d * w) e, one-mul w, z 0))
    (λ (e : t % 2 ≡ 1 → ⊥).
    let o : t % 2 ≡ 0 = omega arith in
    omega (arith, cost_zeros ws (t / 2) (λ k. z (suc k)), ap (λ (d : ℕ). d * w) o, zero-mul w)) (eq? (t % 2) 1)

-- 0 behind the costs changes no cost
cost_padded : (costs : List ℕ) (n t : ℕ) → cost_of (costs ++ replicate n 0) t ≡ cost_of costs t
unfolding cost_of
cost_padded [] n t = cost_zeros (replicate n 0) t (λ k. elim (dec_lt k n) [
  | yes lt ↦ get_or-replicate n k 0 0 lt
  | no ge ↦ get_or-eq_default (replicate n 0) 0 {n = k} (omega (arith, length-replicate {A = ℕ} n 0))
])
cost_padded (w ∷ ws) n t = omega (arith, cost_padded ws n (t / 2))

pub padded_costs : (costs front rest : List ℕ) → length costs ≤ 64 → front ≡ costs → rest ≡ replicate (64 - length costs) 0 → SameCosts costs (front ++ rest)
padded_costs costs front rest few e f = record {
  size = omega (arith, length-append {A = ℕ} front rest, ap length e, ap length f, length-replicate {A = ℕ} (64 - length costs) 0);
  same = λ t. ap₂ (λ (xs ys : List ℕ). cost_of (xs ++ ys) t) e f ∙ cost_padded costs (64 - length costs) t;
}

-- ---- the sum of the passes

module _ (rows costs left : List ℕ) (fit : (k : ℕ) → get_or rows k 0 < 2 ^ 64) (few : length costs ≤ 64) (lt : (k : ℕ) → get_or costs k 0 < 65536)
    (h : SameCosts costs left) where
  pub raised_small : (new : List ℕ) (sum : ℕ) → Raised rows left new sum → sum < no_cost
  raised_small new sum r = omega (arith, r.under (2 ^ 64 - 1) (meets_all rows fit (length rows)), h.same (2 ^ 64 - 1), cost_small costs (2 ^ 64 - 1) lt)

  pub dual : (d : Duals) → Raised rows left d.left d.sum → Dual rows costs d
  dual d r = record { under = λ t m. omega (arith, r.under t m, h.same t); small = raised_small d.left d.sum r }

-- ---- the candidates that have too much left

pub trimmed_none : (left : List ℕ) (free spare : ℕ) → Trimmed left free spare free
trimmed_none left free spare = record { part = part_self free; dear = λ b m n. absurd (n m) }

pub trimmed_drop : (left : List ℕ) (free spare kept m p kept' : ℕ) → Trimmed left free spare kept → Single m → Price left m p → spare ≤ p → Minus kept m kept'
    → Trimmed left free spare kept'
unfolding Single Visited
trimmed_drop left free spare kept m p kept' h one q le d = record {
  part = part_trans kept' kept free (minus_part kept m kept' d) h.part;
  dear = visited_more (λ b. spare ≤ cost_of left (2 ^ b)) free kept m one.0 kept' h.dear one.1 d (omega (arith, q.is, ap (cost_of left) one.1));
}

-- ---- what a cheap set can have

pub affordable_all : (rows costs : List ℕ) (free spare : ℕ) → Affordable rows costs free spare free
affordable_all rows costs free spare = record { part = part_self free; keeps = λ t m p lt. p }

pub affordable_none : (rows costs : List ℕ) (free spare : ℕ) (d : Duals) → Dual rows costs d → spare ≤ d.sum → Affordable rows costs free spare 0
affordable_none rows costs free spare d h le = record {
  part = by_members 0 free (λ b m. absurd (not_zero b 0 m refl));
  keeps = λ t m p lt. absurd (omega (arith, h.under t m));
}

pub affordable_trimmed : (rows costs : List ℕ) (free spare r : ℕ) (d : Duals) → Dual rows costs d → d.sum < spare → Trimmed d.left free (spare - d.sum) r
    → Affordable rows costs free spare r
affordable_trimmed rows costs free spare r d h more w = record {
  part = w.part;
  keeps = λ t m p lt. by_members t r (λ b q. ⊎_elim
      (λ (e : digit b r ≡ 1). e)
      (λ (e : digit b r ≡ 1 → ⊥).
      let one : Part (2 ^ b) t = by_members (2 ^ b) t (λ c g. subst (λ (j : ℕ). digit j t ≡ 1) (sym (pow_only c b g)) q) in
      absurd (omega (arith, w.dear b (members t free p b q) e, cost_part d.left (2 ^ b) t one, h.under t m)))
      (eq? (digit b r) 1));
}
