-- What the contracts on filling the table of the cubes cite: a block has the 3^i entries of the cubes that share all inputs from i on.
use Rattle.std.specs.Prelude.{ℕ, ◌+◌, ◌*◌, ◌^◌, ◌≤◌, ◌<◌, ◌≡◌, not, List, T, get_or, length}
use Rattle.std.specs.Int.Bits.{bit_and}
use Rattle.model.specs.Base.{bit}
use Rattle.table.specs.Cubes.{Cube, Free, DrivesFree}
use Rattle.model.specs.Numbers.{cube_number}

-- x has no bit below i
abbrev pub ClearBelow : ℕ → ℕ → Type 0
ClearBelow i x = (j : ℕ) → j < i → T (not (bit j x))

-- the 3^i entries of t from place at on are those of the cubes whose inputs from i on are fixed as in value
abbrev pub Block : List ℕ → ℕ → ℕ → ℕ → List ℕ → Type 0
Block may i value at t = (c v free : ℕ) → Cube i c v → Free i c free → DrivesFree may free (value + v) (get_or t (at + cube_number c v) 0)

-- new differs from old at most in the s entries from place at on
pub record Beside (old : List ℕ) (at s : ℕ) (new : List ℕ) : Type 0 where
  pub size : length new ≡ length old
  pub low : (k : ℕ) → k < at → get_or new k 0 ≡ get_or old k 0
  pub high : (k : ℕ) → at + s ≤ k → get_or new k 0 ≡ get_or old k 0

-- the first j entries from place at on are "got from" their "two halves", which stand s and 2 s further on
pub record JoinedTo (old : List ℕ) (at s j : ℕ) (new : List ℕ) : Type 0 where
  pub beside : Beside old at j new
  pub both : (x : ℕ) → x < j → get_or new (at + x) 0 ≡ bit_and (get_or old (at + s + x) 0) (get_or old (at + 2 * s + x) 0)

-- all s of them
abbrev pub Joined : List ℕ → ℕ → ℕ → List ℕ → Type 0
Joined old at s new = JoinedTo old at s s new

-- a block was filled in, and nothing else
pub record FilledBlock (may : List ℕ) (i value at : ℕ) (old new : List ℕ) : Type 0 where
  pub beside : Beside old at (3 ^ i) new
  pub right : Block may i value at new
