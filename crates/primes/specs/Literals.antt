-- What the contracts on a cube's prime cite.
use Rattle.std.specs.Prelude.{ℕ, ◌-◌, ◌^◌, ◌≡◌, Bool, true, false, not, ◌&&◌, List, T, eqb, Option, Some, None}
use Rattle.std.specs.Int.Bits.{bit_and}
use Rattle.model.specs.Base.{bit}
use Rattle.model.specs.Table.{Table, term}
use Rattle.model.specs.Primes.{drives, prime}
use Rattle.table.specs.Cubes.{Cube}
use Rattle.primes.specs.Numbers.{Numbered}

-- input i is a literal of the cube, and the cube without it may drive the outputs
unfoldable pub droppable : Table → ℕ → ℕ → ℕ → ℕ → Bool
droppable p care value outputs i =
    let d = drives p (care - 2 ^ i) (bit_and value (care - 2 ^ i)) in
    bit i care && eqb (bit_and outputs d) outputs

-- t is the table of the cubes of p, and care with value is one of them
pub record InTable (p : Table) (t : List ℕ) (care value : ℕ) : Type 0 where
  pub cube : Cube p.n care value
  pub numbered : Numbered p p.n t

-- r tells whether the input of weight w is droppable
abbrev pub TellsDroppable : List ℕ → ℕ → ℕ → ℕ → ℕ → Bool → Type 0
TellsDroppable t care value outputs w r = (p : Table) (i : ℕ) → InTable p t care value → w ≡ 2 ^ i → r ≡ droppable p care value outputs i

-- the answer tells whether some input is
abbrev pub SomeDroppable : List ℕ → ℕ → ℕ → ℕ → Bool → Type 0
SomeDroppable t care value outputs true = (p : Table) → InTable p t care value → (i : ℕ) × T (droppable p care value outputs i)
SomeDroppable t care value outputs false = (p : Table) → InTable p t care value → (i : ℕ) → T (not (droppable p care value outputs i))

-- the cube's prime is the one with these outputs, or it has none
abbrev pub PrimeOutputs : List ℕ → ℕ → ℕ → ℕ → Option ℕ → Type 0
PrimeOutputs t n care value (Some r) = (p : Table) → Numbered p n t → (o : ℕ) → prime p (term care value o) ≡ eqb o r
PrimeOutputs t n care value None = (p : Table) → Numbered p n t → (o : ℕ) → prime p (term care value o) ≡ false

-- the same for each number of inputs that a table of such a cube has
abbrev pub CubePrime : List ℕ → ℕ → ℕ → Option ℕ → Type 0
CubePrime t care value r = (n : ℕ) → Cube n care value → PrimeOutputs t n care value r
