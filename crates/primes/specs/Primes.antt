-- What the contracts on the list of primes cite.
use Rattle.std.specs.Prelude.{ℕ, ◌^◌, ◌≤◌, ◌<◌, ◌≡◌, List, ltb, length, take, Option, Some, None}
use Rattle.model.specs.declared.Term.{Term}
use Rattle.model.specs.Table.{Table}
use Rattle.model.specs.Primes.{primes}
use Rattle.bits.specs.Lists.{Filled}
use Rattle.primes.specs.declared.prime_list.PrimeList.{PrimeList}
use Rattle.primes.specs.declared.prime_list.Found.{Found}
use Rattle.table.specs.Cubes.{Allowed, Cube}
use Rattle.primes.specs.Numbers.{Numbered}
use Rattle.primes.specs.Literals.{PrimeOutputs}

-- r is the first prime of care whose value is not below the given one
pub record FirstFound (t : List ℕ) (n care value : ℕ) (r : Found) : Type 0 where
  pub above : value ≤ r.value
  pub none : (w : ℕ) → value ≤ w → w < r.value → PrimeOutputs t n care w None
  pub here : PrimeOutputs t n care r.value (Some r.outputs)
  pub cube : Cube n care r.value

-- the same, or there is none
abbrev pub FirstPrime : List ℕ → ℕ → ℕ → ℕ → Option Found → Type 0
FirstPrime t n care value (Some r) = FirstFound t n care value r
FirstPrime t n care value None = (w : ℕ) → value ≤ w → w < 2 ^ n → PrimeOutputs t n care w None

-- r has the first 64 of the terms ts, and tells whether there are more
pub record FirstTerms (ts : List Term) (r : PrimeList) : Type 0 where
  pub stored : Filled 64 (take 64 ts) r.terms r.count
  pub more : r.full ≡ ltb 64 (length ts)

-- r has the first 64 primes in the paper's order, and tells whether there are more: by the table of the cubes
abbrev pub PrimesBy : List ℕ → ℕ → PrimeList → Type 0
PrimesBy t n r = (p : Table) → Numbered p n t → FirstTerms (primes p) r

-- and by what each vertex may drive
abbrev pub AllPrimes : List ℕ → ℕ → PrimeList → Type 0
AllPrimes may n r = (p : Table) → Allowed p n may → FirstTerms (primes p) r
