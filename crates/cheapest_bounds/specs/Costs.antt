-- The cost of a set, and what a cover costs at least.
use Rattle.std.specs.Prelude.{◌≡◌, List, [], ◌∷◌, ℕ, ◌+◌, ◌*◌, ◌/◌, ◌%◌, ◌^◌, ◌≤◌, ◌<◌, Option, IfSome}
use Rattle.std.specs.Int.Bits.{bit_and}
use Rattle.bits.specs.Bits.{digit}
use Rattle.rows.specs.Covers.{Cover, Between}

-- the sum of the costs of the members of s
unfoldable pub cost_of : List ℕ → ℕ → ℕ
cost_of [] s = 0
cost_of (w ∷ ws) s = s % 2 * w + cost_of ws (s / 2)

-- more than any set costs: 64 candidates of 16-bit costs come to 64 * 65535 at most
abbrev pub no_cost : ℕ
no_cost = 64 * 65536 + 1

-- r is the cost of the set x, and a byte pair holds it
pub record Price (costs : List ℕ) (x r : ℕ) : Type 0 where
  pub is : r ≡ cost_of costs x
  pub small : r < 65536

-- no member of x costs less than r
pub record Floor (costs : List ℕ) (x r : ℕ) : Type 0 where
  pub under : (b : ℕ) → digit b x ≡ 1 → r ≤ cost_of costs (2 ^ b)
  pub small : r < 65536

-- t is a cover between s and s | free
unfoldable pub CoverBetween : List ℕ → ℕ → ℕ → ℕ → Type 0
CoverBetween rows s free t = Cover rows t × Between s free t

-- where there is one, it is what is free of a row that s does not meet, and apart from used
abbrev pub Fresh : ℕ → ℕ → ℕ → ℕ → Option ℕ → Type 0
Fresh row s free used r = IfSome r (λ x. (bit_and row s ≡ 0) × (x ≡ bit_and row free) × (bit_and used x ≡ 0))

-- every cover between s and s | free costs r more than s, or more
pub record Bound (rows costs : List ℕ) (s free r : ℕ) : Type 0 where
  pub under : (t : ℕ) → CoverBetween rows s free t → cost_of costs s + r ≤ cost_of costs t
  pub small : r ≤ no_cost
