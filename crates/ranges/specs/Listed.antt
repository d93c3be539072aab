-- Weights between two ends, by the rows: sums over the members of sets.
use Rattle.std.specs.Prelude.{◌≡◌, List, [], ◌∷◌, ℕ, ◌+◌, ◌^◌, ◌≤◌, ◌<◌, length, get_or, replicate}
use Rattle.std.specs.Int.Bits.{bit_and, bit_xor}
use Rattle.model.specs.Ranges.{Range, possibles}
use Rattle.model.specs.Sets.{of_rows}
use Rattle.rows.specs.Covers.{Cover, IrredundantCover}
use Rattle.cheapest_bounds.specs.Costs.{cost_of}

-- the members of a that b has not
unfoldable pub minus : ℕ → ℕ → ℕ
minus a b = bit_xor a (bit_and a b)

-- what t costs where the members of s are at their low ends and all others at their high ones
unfoldable pub against : List ℕ → List ℕ → ℕ → ℕ → ℕ
against low high s t = cost_of low (bit_and t s) + cost_of high (minus t s)

-- s is an irredundant cover of n candidates, and costs no more than any cover where it is favoured (law `listed_is`: crate model's `Possible`)
pub record Listed (n : ℕ) (rows low high : List ℕ) (s : ℕ) : Type 0 where
  pub among : s < 2 ^ n
  pub tight : IrredundantCover rows s
  pub least : (t : ℕ) → t < 2 ^ n → Cover rows t → cost_of low s ≤ against low high s t

-- a range for each of n candidates
pub record Ends (n : ℕ) (low high : List ℕ) : Type 0 where
  pub lows : length low ≡ n
  pub highs : length high ≡ n
  pub ordered : (i : ℕ) → get_or low i 0 ≤ get_or high i 0

-- t has a member in each row that x meets
unfoldable pub Outmeets : List ℕ → ℕ → ℕ → Type 0
Outmeets rows t x = (k : ℕ) → k < length rows → (bit_and (get_or rows k 0) x ≡ 0 → ⊥) → bit_and (get_or rows k 0) t ≡ 0 → ⊥

-- r is apart from t, and t has a member in each row that r meets
pub record Needless (rows : List ℕ) (t r : ℕ) : Type 0 where
  pub apart : bit_and r t ≡ 0
  pub met : Outmeets rows t r

-- own has the rows without the banned candidates
pub record Cleared (rows : List ℕ) (banned : ℕ) (own : List ℕ) : Type 0 where
  pub size : length own ≡ length rows
  pub is : (k : ℕ) → k < length rows → get_or own k 0 ≡ minus (get_or rows k 0) banned

-- no listed set has a banned candidate
unfoldable pub Banned : List ℕ → List ℕ → List ℕ → ℕ → Type 0
Banned rows low high banned = (s : ℕ) → Listed (length low) rows low high s → bit_and s banned ≡ 0

-- two lists of ends as ranges
abbrev pub ranges : List ℕ → List ℕ → List Range
ranges [] highs = []
ranges (l ∷ lows) [] = []
ranges (l ∷ lows) (h ∷ highs) = record { low = l; high = h } ∷ ranges lows highs

-- the sets that V lists, by the rows. The costs that go with rows are nothing to it
unfoldable pub row_possibles : ℕ → List ℕ → List ℕ → List ℕ → List ℕ
row_possibles n rows low high = possibles (of_rows (replicate n 0) rows) (ranges low high)
