-- What the contract on the walk over the parts of a care cites.
use Rattle.std.specs.Prelude.{ℕ, ◌+◌, ◌^◌, ◌≤◌, ◌<◌, ◌≡◌}
use Rattle.model.specs.Sets.{Within}

-- value is a part of care, or 2^n, behind the parts of all n inputs
pub record PartOrEnd (n care value : ℕ) : Type 0 where
  pub at_most : value ≤ 2 ^ n
  pub part : value < 2 ^ n → Within value care

-- value is a part of care and not the last one; free has the bits below 2^k that care has not
pub record NotLast (care free value : ℕ) : Type 0 where
  pub bound : (k : ℕ) × (care + free + 1 ≡ 2 ^ k)
  pub part : Within value care
  pub more : value < care

-- r is the next part of care behind value
pub record NextPart (care value r : ℕ) : Type 0 where
  pub above : value < r
  pub part : Within r care
  pub next : (w : ℕ) → Within w care → value < w → r ≤ w
