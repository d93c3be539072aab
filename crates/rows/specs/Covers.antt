-- What the contracts cite: covers of rows by a set, both numbers whose bits are the members.
use Rattle.std.specs.Prelude.{◌≡◌, List, ℕ, ◌+◌, ◌%◌, ◌^◌, ◌≤◌, ◌<◌, length, get_or, replicate}
use Rattle.std.specs.Int.Bits.{bit_and, bit_or}
use Rattle.model.specs.Sets.{irredundants, of_rows}
use Rattle.bits.specs.Bits.{digit, Part}

-- every row has a bit of s
unfoldable pub Cover : List ℕ → ℕ → Type 0
Cover rows s = (k : ℕ) → k < length rows → bit_and (get_or rows k 0) s ≡ 0 → ⊥

-- u has all of each row among the first n that s does not meet
unfoldable pub Unmet : List ℕ → ℕ → ℕ → ℕ → Type 0
Unmet rows n s u = (k : ℕ) → k < n → bit_and (get_or rows k 0) s ≡ 0 → Part (get_or rows k 0) u

-- a cover of which no other part is one
unfoldable pub IrredundantCover : List ℕ → ℕ → Type 0
IrredundantCover rows s = Cover rows s × ((t : ℕ) → bit_and t s ≡ t → Cover rows t → t ≡ s)

-- a row among the first n whose only member of s is b
unfoldable pub Own : List ℕ → ℕ → ℕ → ℕ → Type 0
Own rows n s b = (k : ℕ) × (k < n) × (bit_and (get_or rows k 0) s ≡ 2 ^ b)

-- the bits of a are those that are the only member of s in some row of the first n
unfoldable pub PrivatesOf : List ℕ → ℕ → ℕ → ℕ → Type 0
PrivatesOf rows n s a = ((b : ℕ) → digit b a ≡ 1 → Own rows n s b) × ((b : ℕ) → Own rows n s b → digit b a ≡ 1)

unfoldable pub Privates : List ℕ → ℕ → ℕ → Type 0
Privates rows s a = PrivatesOf rows (length rows) s a

-- t has all of s, and of the rest only members of free
unfoldable pub Between : ℕ → ℕ → ℕ → Type 0
Between s free t = ((b : ℕ) → digit b s ≡ 1 → digit b t ≡ 1) × ((b : ℕ) → digit b t ≡ 1 → digit b (bit_or s free) ≡ 1)

-- s leaves its i low bits free, within 64 bits
pub record Node (i s : ℕ) : Type 0 where
  pub small : i ≤ 64
  pub aligned : s % 2 ^ i ≡ 0
  pub room : s + 2 ^ i ≤ 2 ^ 64

-- the irredundant covers of rows over n candidates, rising. Costs are nothing to the lister
unfoldable pub row_covers : ℕ → List ℕ → List ℕ
row_covers n rows = irredundants (of_rows (replicate n 0) rows)
