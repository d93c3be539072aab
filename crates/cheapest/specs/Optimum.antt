-- The cheapest cover, and the least cost.
use Rattle.std.specs.Prelude.{◌≡◌, List, not, ◌⊎◌, ℕ, ◌+◌, ◌^◌, ◌≤◌, ◌<◌, length, T, Option, Some, None}
pub use Rattle.cheapest_bounds.specs.declared.costs.Incumbent.{Incumbent}
use Rattle.model.specs.Sets.{of_rows, coverable}
use Rattle.model.specs.Sets as model
use Rattle.rows.specs.Covers.{Cover}
use Rattle.cheapest_bounds.specs.Costs.{cost_of, no_cost, CoverBetween}

-- cost is that of s, and bound is not far above it: bound plus the cost of a set fits
pub record Priced (costs : List ℕ) (s cost bound : ℕ) : Type 0 where
  pub few : length costs ≤ 64
  pub is : cost ≡ cost_of costs s
  pub near : bound ≤ cost + no_cost

-- b is a cover between s and s | free, and its cost
pub record Attained (rows costs : List ℕ) (s free : ℕ) (b : Incumbent) : Type 0 where
  pub cover : CoverBetween rows s free b.set
  pub cost_is : cost_of costs b.set ≡ b.cost

-- b is a cover between 0 and free, or nothing is known yet: its cost is one that no set has
unfoldable pub Known : List ℕ → List ℕ → ℕ → Incumbent → Type 0
Known rows costs free b = (b.cost ≡ no_cost) ⊎ Attained rows costs 0 free b

-- r is best, or a cover between s and s | free that costs less; and none there costs less than r
pub record Valued (rows costs : List ℕ) (s free : ℕ) (best r : Incumbent) : Type 0 where
  pub within : r.cost ≤ best.cost
  pub found : (r ≡ best) ⊎ (Attained rows costs s free r × (r.cost < best.cost))
  pub least : (t : ℕ) → CoverBetween rows s free t → r.cost ≤ cost_of costs t

-- a cover between s and s | free that costs less than limit, and its cost; nothing only where none there costs less
unfoldable pub Below : List ℕ → List ℕ → ℕ → ℕ → ℕ → Option Incumbent → Type 0
Below rows costs s free limit (Some b) = Attained rows costs s free b × (b.cost < limit)
Below rows costs s free limit None = (t : ℕ) → CoverBetween rows s free t → limit ≤ cost_of costs t

-- best is a cover below 2^n, and none costs less
pub record LeastCost (rows costs : List ℕ) (n : ℕ) (best : Incumbent) : Type 0 where
  pub below : best.set < 2 ^ n
  pub cover : Cover rows best.set
  pub cost_is : cost_of costs best.set ≡ best.cost
  pub least : (t : ℕ) → t < 2 ^ n → Cover rows t → best.cost ≤ cost_of costs t

-- s is a cover below 2^n that costs c; every other costs more, or as much and is a greater number
pub record Cheapest (rows costs : List ℕ) (n c s : ℕ) : Type 0 where
  pub below : s < 2 ^ n
  pub cover : Cover rows s
  pub cost_is : cost_of costs s ≡ c
  pub least : (t : ℕ) → t < 2 ^ n → Cover rows t → c ≤ cost_of costs t
  pub first : (t : ℕ) → t < 2 ^ n → Cover rows t → cost_of costs t ≡ c → s ≤ t

-- the cheapest cover and its cost; nothing where the candidates together are none
unfoldable pub Optimal : List ℕ → List ℕ → Option Incumbent → Type 0
Optimal rows costs (Some b) = model.Best (of_rows costs rows) b.cost b.set × (b.cost < 2 ^ 22)
Optimal rows costs None = T (not (coverable (of_rows costs rows)))
