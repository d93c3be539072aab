-- Paper 01, "When a job stops", and K2, K3, K6, K8, K10 and K11: the refusals of a command, as data. 1 and 2 are the job's own (`Job`).
use Rattle.std.specs.Prelude.{ℕ, ◌^◌, Bool, not, cond, ◌&&◌, ◌||◌, List, [], ◌∷◌, ◌++◌, leb, ltb, eqb, length}
use Rattle.std.specs.Int.Bits.{bit_and}
use Rattle.model.specs.Base.{some}
use Rattle.model.specs.Table.{formed, holds_no_off}
use Rattle.model.specs.Primes.{primes}
use Rattle.model.specs.Blocks.{Block, block_formed, block_holds_no_off}
use Rattle.model.specs.Sets.{coverable}
use Rattle.model.specs.Products.{has_too_many}
use Rattle.model.specs.Ranges.{Range}
use Rattle.model.specs.Candidates.{Prices}
use Rattle.model.specs.Commands.{Kind, Problem, Context, operand, Row, row_of_r, rows_of_b, add_row, operand_term, operand_block, operand_number, range_of_g, covering_of, table_of, operand_prices}

-- the largest number
abbrev pub largest_number : ℕ
largest_number = 19

-- a refusal's number, and whether it applies
pub record Refusal : Type 0 where
  pub no : ℕ
  pub applies : Bool

abbrev pub refuse : ℕ → Bool → Refusal
refuse n b = record { no = n; applies = b }

-- "tried in this order": the first that applies, 0 where none does
abbrev pub first_of : List Refusal → ℕ
first_of [] = 0
first_of (r ∷ rs) = let q = first_of rs in cond r.applies r.no q

-- "1 to 8"
abbrev pub size : ℕ → Bool
size k = leb 1 k && leb k 8

-- "a price above 50"
abbrev pub dear : Prices → Bool
dear w = ltb 50 w.term || (ltb 50 w.literal || ltb 50 w.connection)

-- "on and dc share a bit, or one has bit m or above", for m outputs
abbrev pub bad_row : ℕ → ℕ → ℕ → Bool
bad_row m on dc = ltb 0 (bit_and on dc) || (leb (2 ^ m) on || leb (2 ^ m) dc)

-- 7 "R names a vertex of 2^n or more, or one that has a row"; 8 `bad_row`: of a row, in the problem that it finds
abbrev pub row_refusals : Problem → Row → List Refusal
row_refusals q w =
    refuse 7 (leb (2 ^ q.settings.n) w.vertex || some (eqb w.vertex) q.rows.given)
    ∷ refuse 8 (bad_row q.settings.m w.on w.dc)
    ∷ []

-- of rows "one by one", each in the problem that those before it leave: "the first refusal that they would meet"
abbrev pub rows_refusals : Problem → List Row → List Refusal
rows_refusals q [] = []
rows_refusals q (w ∷ ws) = row_refusals q w ++ rows_refusals (add_row q w) ws

-- 9 and 10 "a term has a care bit n or above, ..", "holds an off cell"; 11 "a 65th candidate comes": T, and A "meets 9, 10 and 11 as T does"
abbrev pub term_refusals : Context → List Refusal
term_refusals x =
    refuse 9 (not (formed (table_of x.problem) (operand_term x)))
    ∷ refuse 10 (not (holds_no_off (table_of x.problem) (operand_term x)))
    ∷ refuse 11 (leb 64 (length x.problem.cands))
    ∷ []

-- 18 "after 9, F has outputs 0, an output bit m or above, a vertex bit 2^n or above, or a weight above 850", and "Refusals 10 and 11 apply to F"
abbrev pub block_refusals : Problem → Block → List Refusal
block_refusals q b =
    refuse 18 (not (block_formed (table_of q) b))
    ∷ refuse 10 (not (block_holds_no_off (table_of q) b))
    ∷ refuse 11 (leb 64 (length q.cands))
    ∷ []

-- "low above high or high above 850"
abbrev pub bad_range : Range → Bool
bad_range r = ltb r.high r.low || ltb 850 r.high

-- a number that is not standing
abbrev pub not_standing : Context → Bool
not_standing x = leb (length x.problem.cands) (operand_number x)

-- 6 to 13 and 15 to 19, by command:
-- 6 "I has n or m outside 1 to 8"; 16 "after 6, W has a price above 50"
-- 7 and 8 of R's row, and of B's eight; "missing operands of B itself give 5 before any of these" (`Rules`)
-- 11 ".. or there are more than 64 primes"; 15 "after 5, D names a number that is not standing", and "G meets 15 for its
-- number"; 19 "after 15, low above high or high above 850"
-- 12 "at L or C a wanted cell is held by no candidate", "N meets 12 as L does", "V meets 12 as L does"; 17 "after 12, more than 1,024 products remain at some
-- cell"; 13 "bytes follow E"
unfoldable pub refusals_of : Context → Kind → List Refusal
refusals_of x Kind.I = refuse 6 (not (size (operand x 0) && size (operand x 1))) ∷ []
refusals_of x Kind.W = refuse 16 (dear (operand_prices x)) ∷ []
refusals_of x Kind.R = row_refusals x.problem (row_of_r x.rest)
refusals_of x Kind.B = rows_refusals x.problem (rows_of_b x.rest)
refusals_of x Kind.T = term_refusals x
refusals_of x Kind.F = block_refusals x.problem (operand_block x)
refusals_of x Kind.P = refuse 11 (ltb 64 (length (primes (table_of x.problem)))) ∷ []
refusals_of x Kind.A = term_refusals x
refusals_of x Kind.D = refuse 15 (not_standing x) ∷ []
refusals_of x Kind.G = refuse 15 (not_standing x) ∷ refuse 19 (bad_range (range_of_g x.rest)) ∷ []
refusals_of x Kind.L = refuse 12 (not (coverable (covering_of x))) ∷ []
refusals_of x Kind.«V» = refuse 12 (not (coverable (covering_of x))) ∷ []
refusals_of x Kind.C = refuse 12 (not (coverable (covering_of x))) ∷ []
refusals_of x Kind.N = refuse 12 (not (coverable (covering_of x))) ∷ refuse 17 (has_too_many (covering_of x)) ∷ []
refusals_of x Kind.E = refuse 13 (ltb 0 (length x.rest)) ∷ []
refusals_of x Kind.none = []
