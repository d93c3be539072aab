-- The cost of a candidate. Of a term: its literals charged, few or many; K1's rule without a W; more literals do not lower it at connection price 0, and
-- it is small.
use Prim.Native.Nat.{◌+◌, ◌≤◌, ◌<◌}
use native.Mathlib.Omega.{arith}
use native.Mathlib.Nat.{mul-le-mul, mul-le-mul_left}
use mathlib.Core.Path.{◌≡◌}
use mathlib.Core.Logic.{◌⊎◌, inl, inr}
use mathlib.Core.Bool.{not, cond}
use lib.Dec.{T, ltb, ltb→lt, lt→ltb, nltb→le}
use lib.Arith.{le→nltb}
use lib.Count.{ones, ones-le}
use Rattle.model.specs.Table.{Term}
use Rattle.model.specs.Candidates.{Candidate, Prices, usual, literals_charged, term_cost, candidate_cost}
use Rattle.model.specs.Invariants.{Small, SmallCandidate, Moderate}
use Rattle.model.proofs.Lists.{yes_or_no, T_true, T_false}

pub charged_few : (t : Term) → ones t.care < 2 → literals_charged t ≡ 0
unfolding literals_charged
charged_few t h = rw (T_true {b = ltb (ones t.care) 2} (lt→ltb (ones t.care) 2 h))

pub charged_many : (t : Term) → 2 ≤ ones t.care → literals_charged t ≡ ones t.care
unfolding literals_charged
charged_many t h = rw (T_false {b = ltb (ones t.care) 2} (le→nltb (ones t.care) 2 h))

data Charged (t : Term) : Type 0 where
  few : ones t.care < 2 → literals_charged t ≡ 0 → Charged t
  many : 2 ≤ ones t.care → literals_charged t ≡ ones t.care → Charged t

charged : (t : Term) → Charged t
charged t = go (yes_or_no (ltb (ones t.care) 2))
  where
    go : T (ltb (ones t.care) 2) ⊎ T (not (ltb (ones t.care) 2)) → Charged t
    go (inl b) = let h = ltb→lt (ones t.care) 2 b in few h (charged_few t h)
    go (inr n) = let h = nltb→le (ones t.care) 2 n in many h (charged_many t h)

-- K1: "A term with 0 or 1 literals now costs 1; from 2 literals on it costs 1 plus the literals"
pub usual_cost : (t : Term) → term_cost usual t ≡ cond (ltb (ones t.care) 2) 1 (1 + ones t.care)
unfolding term_cost literals_charged
usual_cost t = go (yes_or_no (ltb (ones t.care) 2))
  where
    go : T (ltb (ones t.care) 2) ⊎ T (not (ltb (ones t.care) 2)) → term_cost usual t ≡ cond (ltb (ones t.care) 2) 1 (1 + ones t.care)
    go (inl b) = rw (T_true {b = ltb (ones t.care) 2} b) (omega arith)
    go (inr n) = rw (T_false {b = ltb (ones t.care) 2} n) (omega arith)

charged_more : (t u : Term) → ones t.care ≤ ones u.care → literals_charged t ≤ literals_charged u
charged_more t u h = go (charged t) (charged u)
  where
    go : Charged t → Charged u → literals_charged t ≤ literals_charged u
    go (few a e) c = omega (arith, e)
    go (many a e) (few b f) = absurd (omega (arith, a, b, h))
    go (many a e) (many b f) = omega (arith, e, f, h)

-- what `no_cheaper_list` asks of a weight, whatever the prices of a term and of a literal
pub cost_dearer : (w : Prices) → w.connection ≡ 0 → (t u : Term) → ones t.care ≤ ones u.care → term_cost w t ≤ term_cost w u
unfolding term_cost
cost_dearer w z t u h = rw z (omega (arith, mul-le-mul_left w.literal (charged_more t u h)))

charged_small : (t : Term) → t.care < 256 → literals_charged t ≤ 8
charged_small t l = go (charged t)
  where
    go : Charged t → literals_charged t ≤ 8
    go (few a e) = omega (arith, e)
    go (many a e) = omega (arith, e, ones-le 8 t.care l)

-- 50, and 50 for each of eight literals and eight outputs
pub cost_small : (w : Prices) (t : Term) → Moderate w → Small t → term_cost w t ≤ 850
unfolding term_cost
cost_small w t m s = omega (arith, m.term, mul-le-mul m.literal (charged_small t s.0), mul-le-mul m.connection (ones-le 8 t.outputs s.2))

pub weight_small : (w : Prices) → Moderate w → (c : Candidate) → SmallCandidate c → candidate_cost w c ≤ 850
weight_small w m (Candidate.term t) s = cost_small w t m s
weight_small w m (Candidate.block b) s = s.weight
