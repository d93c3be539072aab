-- The levels above a number at: of level i, where at lacks i, are the sets that have i and above it what at has.
use Rattle.std.specs.Prelude.{◌≡◌, List, ℕ, ◌+◌, ◌-◌, ◌*◌, ◌/◌, ◌^◌, ◌≤◌, ◌<◌, get_or}
use Rattle.bits.specs.Bits.{digit}
use Rattle.lister_narrowing.specs.Narrowing.{NoneBetween}

-- the first multiple of 2^i above at: where level i begins
unfoldable pub top : ℕ → ℕ → ℕ
top at i = at / 2 ^ i * 2 ^ i + 2 ^ i

-- at level i a row, whose members of at are own, can be b's own: it lacks i, and b is the only member of own above i
pub record OwnAt (row own i b : ℕ) : Type 0 where
  pub lacks : digit i row ≡ 0
  pub below : i < b
  pub has : digit b own ≡ 1
  pub only : (c : ℕ) → digit c own ≡ 1 → i < c → c ≡ b

-- at level i the row can be i's own: it has i, and own has nothing above
pub record NewAt (row own i : ℕ) : Type 0 where
  pub has : digit i row ≡ 1
  pub none : (c : ℕ) → digit c own ≡ 1 → c ≤ i

-- r has each level at which the row can be some member's own
unfoldable pub OwnLevels : ℕ → ℕ → ℕ → Type 0
OwnLevels row own r = (i b : ℕ) → OwnAt row own i b → digit i r ≡ 1

-- r has each level of fresh that stands in the entry of every member of at above it
unfoldable pub KeptLevels : List ℕ → ℕ → ℕ → ℕ → Type 0
KeptLevels alone fresh at r = (i : ℕ) → digit i fresh ≡ 1 → ((b : ℕ) → digit b at ≡ 1 → i < b → digit i (get_or alone b 0) ≡ 1) → digit i r ≡ 1

-- no irredundant cover is of a level that r lacks
unfoldable pub PossibleLevels : List ℕ → ℕ → ℕ → Type 0
PossibleLevels rows at r = (i : ℕ) → digit i at ≡ 0 → digit i r ≡ 0 → NoneBetween rows (top at i) (2 ^ i - 1)
