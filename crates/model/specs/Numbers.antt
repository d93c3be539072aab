-- Paper 02, K7: the cubes by their numbers in base three.
use Rattle.std.specs.Prelude.{ℕ, zero, suc, ◌+◌, ◌*◌, ◌^◌, ◌<◌, ◌≡◌, ◌↔◌, cond, ◌||◌, List, T, get_or}
use Rattle.model.specs.Base.{bit}
use Rattle.model.specs.Table.{Table, cell, in_cube, is_on, is_dc}
use Rattle.model.specs.Sets.{Within}

-- "digit i is 0 where input i is free, 1 where it is fixed at 0, 2 where it is fixed at 1"
unfoldable pub digit_of : ℕ → ℕ → ℕ → ℕ
digit_of care value i = cond (bit i care) (cond (bit i value) 2 1) 0

-- "number a cube in base three": by its digits below k
unfoldable pub cube_number_to : ℕ → ℕ → ℕ → ℕ
cube_number_to zero care value = 0
cube_number_to (suc k) care value = cube_number_to k care value + digit_of care value k * 3 ^ k

-- by all of them
unfoldable pub cube_number : ℕ → ℕ → ℕ
cube_number care value = cube_number_to 8 care value

-- "the sum of 3^i over its ones": over those below k
unfoldable pub spread_to : ℕ → ℕ → ℕ
spread_to zero b = 0
spread_to (suc k) b = spread_to k b + cond (bit k b) (3 ^ k) 0

-- over those of a byte
unfoldable pub spread : ℕ → ℕ
spread b = spread_to 8 b

-- the cube of n inputs whose number is k
pub record WithNumber (n k : ℕ) : Type 0 where
  pub care : ℕ
  pub value : ℕ
  pub care_lt : care < 2 ^ n
  pub value_in : Within value care
  pub its : cube_number care value ≡ k

-- x "has exactly the outputs whose cells in its cube are all wanted or free"
abbrev pub HasExactly : Table → ℕ → ℕ → ℕ → Type 0
HasExactly p care value x = (j : ℕ) → T (bit j x) ↔ ((j < p.m) × ((v : ℕ) → v < 2 ^ p.n → T (in_cube care value v) → T (is_on p (cell v j) || is_dc p (cell v j))))

-- "each of these 3^n entries" of t
abbrev pub EachEntry : Table → List ℕ → Type 0
EachEntry p t = (k : ℕ) → k < 3 ^ p.n → (c : WithNumber p.n k) × HasExactly p c.care c.value (get_or t k 0)
