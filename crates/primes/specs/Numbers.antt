-- What the contracts on the numbers of cubes, and on the table of what each cube may drive, cite.
use Rattle.std.specs.Prelude.{ℕ, ◌^◌, ◌≤◌, ◌<◌, ◌≡◌, List, get_or}
use Rattle.model.specs.Table.{Table}
use Rattle.model.specs.Primes.{drives}
use Rattle.model.specs.Numbers.{cube_number, spread}
use Rattle.table.specs.Cubes.{Allowed, Cube}

-- "a constant table of 256 entries gives, for a byte, the sum of 3^i over its ones"
pub record Spreads (xs : List ℕ) : Type 0 where
  pub entries : (b : ℕ) → b < 256 → get_or xs b 0 ≡ spread b

-- t "holds the outputs each cube may drive", each at its number; the table p has n inputs
pub record Numbered (p : Table) (n : ℕ) (t : List ℕ) : Type 0 where
  pub inputs : p.n ≡ n
  pub entries : (care value : ℕ) → Cube n care value → get_or t (cube_number care value) 0 ≡ drives p care value

-- t is right for every table that may comes from; "for n inputs the first 3^n are used" (law `number_lt`), and the others are 0
pub record CubesOf (may : List ℕ) (n : ℕ) (t : List ℕ) : Type 0 where
  pub right : (p : Table) → Allowed p n may → Numbered p n t
  pub unused : (k : ℕ) → 3 ^ n ≤ k → get_or t k 0 ≡ 0
