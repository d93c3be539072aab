-- One cell as the code takes it (law `stepped_least`: what remains are the least sets that meet this row too).
use Rattle.std.specs.Prelude.{ℕ, ◌-◌, ◌^◌, ◌≤◌, ◌<◌, ◌≡◌, Bool, not, cond, ◌&&◌, List, [], ◌++◌, map, eqb, length, take, Result, MatchResult}
use Rattle.std.specs.Int.Bits.{bit_and, bit_or}
use Rattle.model.specs.Base.{bit, below, some, filter, join}
use Rattle.product.specs.declared.TooMany.{TooMany}

-- the list stands first in a row of 1,024 and its length is told; where it is too long that is told
pub record Held (xs row : List ℕ) (told : Result ℕ TooMany) : Type 0 where
  pub size : length row ≡ 1024
  pub held : MatchResult told (λ c. (c ≤ 1024) × (c ≡ length xs) × (take c row ≡ xs)) (λ e. 1024 < length xs)

-- p has a member of row r
abbrev pub meets : ℕ → ℕ → Bool
meets r p = not (eqb (bit_and r p) 0)

-- the products that stay
unfoldable pub meeting : ℕ → List ℕ → List ℕ
meeting r ps = filter (meets r) ps

-- a set is a 64-bit number
unfoldable pub candidates : List ℕ
candidates = below 64

-- p with each member of x, lowest first
unfoldable pub with : ℕ → ℕ → List ℕ
with p x = map (λ i. bit_or p (2 ^ i)) (filter (λ i. bit i x) candidates)

-- i is all that one of the products qs has beyond p
unfoldable pub barred : List ℕ → ℕ → ℕ → Bool
barred qs p i = some (λ q. eqb (bit_and q (2 ^ 64 - 1 - p)) (2 ^ i)) qs

-- p with each member of r that is not barred
unfoldable pub added : List ℕ → ℕ → ℕ → List ℕ
added qs r p = map (λ i. bit_or p (2 ^ i)) (filter (λ i. bit i r && not (barred qs p i)) candidates)

-- so where p does not meet r
unfoldable pub extended : List ℕ → ℕ → ℕ → List ℕ
extended qs r p = cond (meets r p) [] (added qs r p)

unfoldable pub stepped : ℕ → List ℕ → List ℕ
stepped r ps = let qs = meeting r ps in qs ++ join (map (extended qs r) ps)
