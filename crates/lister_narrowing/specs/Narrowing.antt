-- What lies between a set and what it can grow to, and what a step that narrows the two must keep.
use Rattle.std.specs.Prelude.{◌≡◌, List, Option, Some, None, ◌⊎◌, ℕ, ◌^◌, ◌≤◌, ◌<◌, length, get_or}
use Rattle.std.specs.Int.Bits.{bit_and}
use Rattle.lister_narrowing.specs.declared.Tight.{Tight}
use Rattle.lister_narrowing.specs.declared.Scan.{Scan}
use Rattle.bits.specs.Bits.{digit, Single}
use Rattle.rows.specs.Covers.{IrredundantCover, Privates, Unmet, Between}

-- t is an irredundant cover between s and s | free
unfoldable pub IrredundantBetween : List ℕ → ℕ → ℕ → ℕ → Type 0
IrredundantBetween rows s free t = IrredundantCover rows t × Between s free t

-- no irredundant cover lies there
unfoldable pub NoneBetween : List ℕ → ℕ → ℕ → Type 0
NoneBetween rows s free = (t : ℕ) → IrredundantBetween rows s free t → ⊥

-- each member of a is not in s, and in each irredundant cover there
unfoldable pub Forced : List ℕ → ℕ → ℕ → ℕ → Type 0
Forced rows s free a = (b : ℕ) → digit b a ≡ 1 → (digit b s ≡ 1 → ⊥) × ((t : ℕ) → IrredundantBetween rows s free t → digit b t ≡ 1)

-- each member of x stands in all private rows of some member b of s: the rows whose only member of s is b
unfoldable pub Taken : List ℕ → ℕ → ℕ → Type 0
Taken rows s x = (c : ℕ) → digit c x ≡ 1 → (b : ℕ) × (digit b s ≡ 1) × ((k : ℕ) → k < length rows → bit_and (get_or rows k 0) s ≡ 2 ^ b → digit c (get_or rows k 0) ≡ 1)

-- r is x where x has exactly one member, else 0
unfoldable pub Only : ℕ → ℕ → Type 0
Only x r = ((r ≡ 0) × (Single x → ⊥)) ⊎ ((r ≡ x) × Single x)

-- each member of r is in the entry of some member of s
unfoldable pub United : List ℕ → ℕ → ℕ → Type 0
United common s r = (c : ℕ) → digit c r ≡ 1 → (b : ℕ) × (digit b s ≡ 1) × (digit c (get_or common b 0) ≡ 1)

-- what a pass over all rows finds
pub record Found (rows : List ℕ) (s free : ℕ) (r : Scan) : Type 0 where
  pub owners : Privates rows s r.owners
  pub unmet : Unmet rows (length rows) s r.unmet
  pub forced : Forced rows s free r.forced
  pub taken : Taken rows s r.taken

-- and that there is no irredundant cover where it finds nothing
abbrev pub Scanned : List ℕ → ℕ → ℕ → Option Scan → Type 0
Scanned rows s free None = NoneBetween rows s free
Scanned rows s free (Some r) = Found rows s free r

-- why a pass leaves no irredundant cover
unfoldable pub Infeasible : Scan → ℕ → Type 0
Infeasible g s = (g.owners ≡ s → ⊥) ⊎ (bit_and g.forced g.taken ≡ 0 → ⊥)

-- r narrows s and free, and loses no irredundant cover
pub record Narrowed (rows : List ℕ) (s free : ℕ) (r : Tight) : Type 0 where
  pub less : r.free ≤ free
  pub keeps : (t : ℕ) → IrredundantBetween rows s free t → IrredundantBetween rows r.s r.free t

-- the same of what is left; where nothing is, there is no irredundant cover
abbrev pub Tightened : List ℕ → ℕ → ℕ → Option Tight → Type 0
Tightened rows s free None = NoneBetween rows s free
Tightened rows s free (Some r) = Narrowed rows s free r
