-- What rows charge their members, and what a set that meets the rows then still costs.
use Rattle.std.specs.Prelude.{◌≡◌, List, ℕ, ◌+◌, ◌^◌, ◌≤◌, ◌<◌, length, get_or}
use Rattle.std.specs.Int.Bits.{bit_and}
use Rattle.cheapest_bounds.specs.declared.ascent.Duals.{Duals}
use Rattle.bits.specs.Bits.{digit, Part}
use Rattle.cheapest_bounds.specs.Costs.{cost_of, no_cost}

-- by new, a set with a member of x costs y less than by old, or less than that
pub record Charged (x y : ℕ) (old new : List ℕ) : Type 0 where
  pub size : length new ≡ length old
  pub paid : (t : ℕ) → (bit_and x t ≡ 0 → ⊥) → cost_of new t + y ≤ cost_of old t

-- the same, of a row that may be empty
pub record Paid (x : ℕ) (old new : List ℕ) (y : ℕ) : Type 0 where
  pub size : length new ≡ length old
  pub paid : (t : ℕ) → ((x ≡ 0 → ⊥) → bit_and x t ≡ 0 → ⊥) → cost_of new t + y ≤ cost_of old t

-- t meets each row among the first n that is not empty
unfoldable pub Meets : List ℕ → ℕ → ℕ → Type 0
Meets rows n t = (k : ℕ) → k < n → (get_or rows k 0 ≡ 0 → ⊥) → bit_and (get_or rows k 0) t ≡ 0 → ⊥

-- by new, a set that meets the rows costs r less than by old, or less than that
pub record Raised (rows old new : List ℕ) (r : ℕ) : Type 0 where
  pub size : length new ≡ length old
  pub under : (t : ℕ) → Meets rows (length rows) t → cost_of new t + r ≤ cost_of old t

-- 64 entries, by which each set costs as much
pub record SameCosts (costs left : List ℕ) : Type 0 where
  pub size : length left ≡ 64
  pub same : (t : ℕ) → cost_of left t ≡ cost_of costs t

-- a set that meets the rows costs the sum and what is left of its members, or more
pub record Dual (rows costs : List ℕ) (d : Duals) : Type 0 where
  pub under : (t : ℕ) → Meets rows (length rows) t → d.sum + cost_of d.left t ≤ cost_of costs t
  pub small : d.sum < no_cost

-- r is a part of free, and each other member of free has spare left, or more
pub record Trimmed (left : List ℕ) (free spare r : ℕ) : Type 0 where
  pub part : Part r free
  pub dear : (b : ℕ) → digit b free ≡ 1 → (digit b r ≡ 1 → ⊥) → spare ≤ cost_of left (2 ^ b)

-- r is a part of free, and has all of each part of free that meets the rows and costs less than spare
pub record Affordable (rows costs : List ℕ) (free spare r : ℕ) : Type 0 where
  pub part : Part r free
  pub keeps : (t : ℕ) → Meets rows (length rows) t → Part t free → cost_of costs t < spare → Part t r
