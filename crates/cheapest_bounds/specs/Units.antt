-- Costs that are multiples of one number.
use Rattle.std.specs.Prelude.{◌≡◌, List, ℕ, ◌*◌, ◌≤◌, ◌<◌, length, get_or}
use Rattle.cheapest_bounds.specs.Costs.{cost_of}

-- c is a multiple of u
unfoldable pub Multiple : ℕ → ℕ → Type 0
Multiple u c = (q : ℕ) × (c ≡ q * u)

-- each of the costs is a multiple of u
unfoldable pub Measures : List ℕ → ℕ → Type 0
Measures costs u = (k : ℕ) → k < length costs → Multiple u (get_or costs k 0)

-- d is the greatest common divisor of a and b: each common divisor divides it, so it is 0 where both are 0
pub record GreatestDivisor (a b d : ℕ) : Type 0 where
  pub left : Multiple d a
  pub right : Multiple d b
  pub greatest : (e : ℕ) → Multiple e a → Multiple e b → Multiple e d

-- u is the greatest common divisor of the costs, 0 where all of them are 0
pub record CommonDivisor (costs : List ℕ) (u : ℕ) : Type 0 where
  pub divides : Measures costs u
  pub greatest : (d : ℕ) → Measures costs d → Multiple d u

-- u is not 0, and the cost of each set is a multiple of it
pub record CommonUnit (costs : List ℕ) (u : ℕ) : Type 0 where
  pub positive : 0 < u
  pub whole : (t : ℕ) → Multiple u (cost_of costs t)

-- u is the greatest common divisor of the costs, 1 where all of them are 0
pub record GreatestUnit (costs : List ℕ) (u : ℕ) : Type 0 where
  pub unit : CommonUnit costs u
  pub free : ((k : ℕ) → k < length costs → get_or costs k 0 ≡ 0) → u ≡ 1
  pub greatest : (k : ℕ) → k < length costs → 0 < get_or costs k 0 → (d : ℕ) → Measures costs d → Multiple d u

-- a multiple of u that is below cost is below r, which is not above cost
pub record LimitBelow (cost u r : ℕ) : Type 0 where
  pub near : r ≤ cost
  pub kept : (c : ℕ) → Multiple u c → c < cost → c < r
