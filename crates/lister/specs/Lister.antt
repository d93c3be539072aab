-- The lister: the least irredundant cover of a range, the cursor, and a page as crate model has it.
use mathlib.Core.List.{Memᴰ}
use Rattle.std.specs.Prelude.{◌≡◌, Bool, true, false, cond, Option, None, Some, List, [], ◌∷◌, ◌++◌, ℕ, ◌+◌, ◌^◌, ◌≤◌, ◌<◌, ltb, length, drop}
use Rattle.model.specs.Pages.{Rising, at_or_above, page, more}
use Rattle.lister.specs.declared.cursor.Cursor.{Cursor}
use Rattle.lister.specs.declared.cursor.PageFill.{PageFill}
use Rattle.lister_narrowing.specs.declared.Tight.{Tight}
use Rattle.rows.specs.Covers.{IrredundantCover, Between}

-- ---- the search

-- y is an irredundant cover in [lo, hi)
unfoldable pub Among : List ℕ → ℕ → ℕ → ℕ → Type 0
Among rows lo hi y = (lo ≤ y) × (y < hi) × IrredundantCover rows y

-- the least of these, or that there is none
unfoldable pub LeastIn : List ℕ → ℕ → ℕ → Option ℕ → Type 0
LeastIn rows lo hi (Some x) = Among rows lo hi x × ((y : ℕ) → Among rows lo hi y → x ≤ y)
LeastIn rows lo hi None = (y : ℕ) → Among rows lo hi y → ⊥

-- each irredundant cover in [s, s + 2^i) lies between t's set and what this can grow to
unfoldable pub RangeKept : List ℕ → ℕ → ℕ → Tight → Type 0
RangeKept rows i s t = (y : ℕ) → Among rows s (s + 2 ^ i) y → Between t.s t.free y

-- ---- the cursor

-- what a cursor has yet to come to: those at or above where it stands, none where it is over
abbrev pub coming_to : List ℕ → ℕ → Bool → List ℕ
coming_to all at true = []
coming_to all at false = at_or_above all at

-- a cursor at the first of these; over where there is none
abbrev pub at_first : List ℕ → ℕ → Cursor
at_first [] at = record { at = at; over = true }
at_first (x ∷ xs) at = record { at = x; over = false }

unfoldable pub coming : List ℕ → Cursor → List ℕ
coming all c = coming_to all c.at c.over

unfoldable pub sought : List ℕ → Cursor → Cursor
sought all c = at_first (coming all c) c.at

-- one above; over where 64 bits have no number above
unfoldable pub advanced : Cursor → Cursor
advanced c = cond c.over c (cond (ltb c.at 18446744073709551615) (record { at = c.at + 1; over = false }) (record { at = c.at; over = true }))

-- ---- a page

-- a list of 64-bit sets, rising
pub record RisingSets (all : List ℕ) : Type 0 where
  pub rises : Rising 0 all
  pub small : (s : ℕ) → Memᴰ s all → s < 2 ^ 64

-- what was put into the row old, as r counts it: the page for a row of that length, and the rest of the row as it was
pub record Paged (all : List ℕ) (start : ℕ) (old new : List ℕ) (r : PageFill) : Type 0 where
  pub count : r.count ≡ length (page all start (length old))
  pub more : r.more ≡ more all start (length old)
  pub row : new ≡ page all start (length old) ++ drop (length (page all start (length old))) old
