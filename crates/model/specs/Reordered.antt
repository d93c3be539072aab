-- Paper 02, K9, of jobs as bytes: "two accepted jobs that hold no D and differ only in the order of their T commands".
use Rattle.std.specs.Prelude.{ℕ, ◌≡◌, ◌↔◌, Bool, false, not, cond, ◌||◌, T, get_or, length}
use mathlib.Core.List.{List, [], map, Sublistᴰ, Permᴰ}
use Rattle.std.proofs.Math.ListN.{get_elem?}
use Rattle.model.specs.Base.{every, some, filter, All, Pointwise}
use Rattle.model.specs.Pages.{Page, is_last, joined_sets, InOrder}
use Rattle.model.specs.Candidates.{Basis}
use Rattle.model.specs.Commands.{Kind, is, basis_of, covering_of, start}
use Rattle.model.specs.Answers.{Answer}
use Rattle.model.specs.Rules.{engine}
use Rattle.model.specs.Calls.{Call, Met, number_of}
use Rattle.model.specs.Exchanges.{Exchange, read_in, all_read, pages_of}
use Rattle.model.specs.Demand3.{is_asked, StandsOn}
use Rattle.model.specs.Standing.{command_of}
use Rattle.model.specs.Pieces.{Piece, piece_kind, pieces}
use Rattle.model.specs.Renumbered.{Renumbering, SameSets, SameCovers}

-- ---- the commands of two jobs

-- "hold no D"
unfoldable pub holds_no_d : List ℕ → Bool
holds_no_d job = every (λ c. not (is (piece_kind c) Kind.D)) (pieces job)

abbrev pub is_t : Piece → Bool
is_t c = is (piece_kind c) Kind.T

-- what the order of the T commands leaves as it is: of each command its byte and its operands, of a T its byte alone
abbrev pub shown : Kind → List ℕ → List ℕ
shown k os = cond (is k Kind.T) [] os

abbrev pub masked : Piece → Piece
masked c = record { byte = c.byte; operands = shown (piece_kind c) c.operands }

unfoldable pub outline : List ℕ → List Piece
outline job = map masked (pieces job)

-- the operands of the T commands, as they came
unfoldable pub terms_given : List ℕ → List (List ℕ)
terms_given job = map (λ c. c.operands) (filter is_t (pieces job))

-- "differ only in the order of their T commands"
pub record DifferInOrder (a b : List ℕ) : Type 0 where
  pub same : outline a ≡ outline b
  pub order : Permᴰ (terms_given a) (terms_given b)

-- ---- positions

-- the commands that add a candidate "at the end", T, F and A, as they came. With no P and no D those before a query are its candidates (law
-- `stand_added`); with a P there is no T, and nothing moves
abbrev pub adds : Kind → Bool
adds k = is k Kind.T || (is k Kind.F || is k Kind.A)

unfoldable pub adding : List ℕ → List Piece
adding job = filter (λ c. adds (piece_kind c)) (pieces job)

-- job b is job a with its T commands in another order, "each candidate .. renumbered by its new position": that of command i in a is that of command
-- `to i` in b, with the same operands. Only a T changes its position
pub record Reordered (r : Renumbering) (a b : List ℕ) : Type 0 where
  pub same : outline a ≡ outline b
  pub moved : (i : ℕ) → get_elem? (adding a) i ≡ get_elem? (adding b) (r.to i)
  pub stays : (i : ℕ) → get_or (map is_t (adding a)) i false ≡ false → r.to i ≡ i

-- jobs that differ only in the order, and no others, have one (law `every_order`)
abbrev pub EveryOrder : Type 0
EveryOrder = (a b : List ℕ) → DifferInOrder a b ↔ ((r : Renumbering) × Reordered r a b)

-- ---- what their queries are answered

-- the L, V, C and N of a call with their replies, from the first on
abbrev pub queries_in : Call → List Exchange
queries_in c = filter is_asked (read_in engine c)

-- pages that some calls got for one table, one list of candidates and one setting of prices, in order until 'no more' is said
pub record AllPages (b : Basis) (ps : List Page) : Type 0 where
  pub calls : List Call
  pub met : All Met calls
  pub exchanges : List Exchange
  pub read : Sublistᴰ exchanges (all_read engine calls)
  pub stand : All (StandsOn b) exchanges
  pub pages : pages_of Kind.L exchanges ≡ ps
  pub in_order : InOrder [] ps
  pub no_more : T (some is_last ps)

-- the same command in both. Of a V only that, the covers of what it finds and L's pages: G names a number, so ranges do not go with their
-- candidates
pub record SameQuery (r : Renumbering) (e f : Exchange) : Type 0 where
  pub command : command_of e.context ≡ command_of f.context
  -- the covers of what they find
  pub covers : SameCovers r (covering_of e.context) (covering_of f.context)
  -- "both cheapest costs agree", in the replies to C
  pub cost : T (is e.context.kind Kind.C) → (c s t : ℕ) × (e.reply ≡ Answer.cheapest_is c s) × (f.reply ≡ Answer.cheapest_is c t)
  -- the sets in the replies to N
  pub products : T (is e.context.kind Kind.N)
      → (ss ts : List ℕ) × (e.reply ≡ Answer.products_are ss) × (f.reply ≡ Answer.products_are ts) × SameSets r (length e.context.problem.cands) ss ts
  -- an L from 0 on: as many sets, and the same of more. Which sets a page has goes by their numbers, so single pages do not correspond
  pub first_page : T (is e.context.kind Kind.L) → start e.context ≡ 0
      → (ss ts : List ℕ) × (m : Bool) × (e.reply ≡ Answer.paged ss m) × (f.reply ≡ Answer.paged ts m) × (length ss ≡ length ts)
  -- but all pages of L together do
  pub pages : (ps qs : List Page) → AllPages (basis_of e.context.problem) ps → AllPages (basis_of f.context.problem) qs
      → SameSets r (length e.context.problem.cands) (joined_sets ps) (joined_sets qs)

-- so they are whichever bijection gives the new positions, and there is one
pub record SameInBoth (c d : Call) : Type 0 where
  pub some_renumbering : (r : Renumbering) × Reordered r c.job d.job
  pub at_each : (r : Renumbering) → Reordered r c.job d.job → Pointwise (SameQuery r) (queries_in c) (queries_in d)

-- "For every two accepted jobs that hold no D and differ only in the order of their T commands": of two calls that meet their contract (law
-- `in_any_order`)
abbrev pub InAnyOrder : Type 0
InAnyOrder = (c d : Call) → Met c → Met d → number_of c ≡ 0 → number_of d ≡ 0 → T (holds_no_d c.job) → DifferInOrder c.job d.job → SameInBoth c d
