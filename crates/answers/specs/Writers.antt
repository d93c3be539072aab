-- What the contracts of the answer writers cite.
use Rattle.std.specs.Prelude.{ℕ, ◌≤◌, ◌<◌, ◌≡◌, List, ◌++◌, length, drop, Result, Ok, Err}
use Rattle.model.specs.declared.reason.Reason.{Reason}
use Rattle.model.specs.declared.reason.Reason.TheVariants.{NoRoom}

-- the w bytes a stand in front of what the part had behind them
pub record InFront (a : List ℕ) (w : ℕ) (old new : List ℕ) : Type 0 where
  pub width : length a ≡ w
  pub bytes : new ≡ a ++ drop w old

-- the answer a stands in front, and r says how long it is; or r is `NoRoom`: it is longer than the part, which is as it was
abbrev pub Replied : List ℕ → List ℕ → List ℕ → Result ℕ Reason → Type 0
Replied a old new (Ok n) = (n ≡ length a) × (n ≤ length old) × (new ≡ a ++ drop n old)
Replied a old new (Err r) = (r ≡ NoRoom) × (length old < length a) × (new ≡ old)
