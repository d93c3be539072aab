-- What the contracts on bits cite: a number's bits as numbers, and sets as numbers whose bits are the members.
use Rattle.std.specs.Prelude.{◌≡◌, Bool, true, false, cond, ℕ, suc, ◌+◌, ◌-◌, ◌*◌, ◌/◌, ◌%◌, ◌^◌, ◌≤◌, ◌<◌, ltb, Option, Some, None}
use Rattle.std.specs.Int.Bits.{bit_and}
use Rattle.std.specs.Int.Count.{ones}

-- r says whether P holds
unfoldable pub Decides : Type 0 → Bool → Type 0
Decides P true = P
Decides P false = P → ⊥

-- bit b of x as a number, 0 or 1 (law `digit_bit`: 1 where crate model's `bit` is true)
unfoldable pub digit : ℕ → ℕ → ℕ
digit b x = x / 2 ^ b % 2

-- x has exactly one member
unfoldable pub Single : ℕ → Type 0
Single x = (b : ℕ) × (x ≡ 2 ^ b)

-- every member of t is one of s
unfoldable pub Part : ℕ → ℕ → Type 0
Part t s = bit_and t s ≡ t

-- r has the members of a that b has not
unfoldable pub Minus : ℕ → ℕ → ℕ → Type 0
Minus a b r = (c : ℕ) → digit c r ≡ digit c a - digit c b

-- m is one member of x
pub record Member (x m : ℕ) : Type 0 where
  pub single : Single m
  pub part : Part m x

-- m is the member of x that no other exceeds
pub record Highest (x m : ℕ) : Type 0 where
  pub member : Member x m
  pub greatest : (b : ℕ) → digit b x ≡ 1 → 2 ^ b ≤ m

-- m is the member of x that is below all others
pub record Lowest (x m : ℕ) : Type 0 where
  pub member : Member x m
  pub least : (b : ℕ) → digit b x ≡ 1 → m ≤ 2 ^ b

-- s gave its lowest member m, and t has the others
pub record Taken (s m t : ℕ) : Type 0 where
  pub lowest : Lowest s m
  pub others : Minus s m t

-- the same, or s has no member, and t none
abbrev pub TakesLowest : ℕ → Option ℕ → ℕ → Type 0
TakesLowest s (Some m) t = Taken s m t
TakesLowest s None t = (s ≡ 0) × (t ≡ 0)

-- m has the one member i
pub record Index (m i : ℕ) : Type 0 where
  pub small : i < 64
  pub is : m ≡ 2 ^ i

-- the one of x and y that has fewer members, x where they have as many
unfoldable pub fewer : ℕ → ℕ → ℕ
fewer x y = cond (ltb (ones y) (ones x)) y x

-- s without member k, those above it moved down by one
unfoldable pub removed : ℕ → ℕ → ℕ
removed k s = s % 2 ^ k + s / 2 ^ suc k * 2 ^ k
