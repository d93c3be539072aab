-- What the contracts of the tests of operands cite.
use Rattle.std.specs.Prelude.{ℕ, ◌^◌, ◌≡◌, Bool, not, ◌||◌, List, [], ◌∷◌, leb, ltb, get_or}
use Rattle.model.specs.declared.Term.{Term}
use Rattle.model.specs.declared.Block.{Block}
use Rattle.model.specs.Table.{Table, formed, holds_no_off}
use Rattle.model.specs.Blocks.{block_formed, block_holds_no_off}
use Rattle.model.specs.Refusals.{Refusal, refuse, first_of, bad_row}
use Rattle.table.specs.Cubes.{Allowed}

-- v is no vertex of n inputs, or one that has a row
unfoldable pub is_taken : ℕ → List ℕ → ℕ → Bool
is_taken n given v = leb (2 ^ n) v || ltb 0 (get_or given v 0)

-- 7 and 8 of an R, as the record has the rows
abbrev pub row_refusals : ℕ → ℕ → List ℕ → ℕ → ℕ → ℕ → List Refusal
row_refusals n m given v on dc = refuse 7 (is_taken n given v) ∷ refuse 8 (bad_row m on dc) ∷ []

-- 9 and 10 of a term
abbrev pub term_refusals : Table → Term → List Refusal
term_refusals p t = refuse 9 (not (formed p t)) ∷ refuse 10 (not (holds_no_off p t)) ∷ []

-- r is the first of them, in every table of n inputs and m outputs that may comes from
abbrev pub TermRefusal : List ℕ → ℕ → ℕ → Term → ℕ → Type 0
TermRefusal may n m t r = (p : Table) → Allowed p n may → p.m ≡ m → r ≡ first_of (term_refusals p t)

-- 18 and 10 of a block, and the first of them
abbrev pub block_refusals : Table → Block → List Refusal
block_refusals p b = refuse 18 (not (block_formed p b)) ∷ refuse 10 (not (block_holds_no_off p b)) ∷ []

abbrev pub BlockRefusal : List ℕ → ℕ → ℕ → Block → ℕ → Type 0
BlockRefusal may n m b r = (p : Table) → Allowed p n may → p.m ≡ m → r ≡ first_of (block_refusals p b)
