-- Paper 02, K6: the prices that a command finds; and "Listing is untouched by prices": two jobs without V that differ in W's operands alone give
-- the same answers but at C, and pages are joined whatever prices were set before each.
use Rattle.std.specs.Prelude.{ℕ, ◌≡◌, Bool, true, false, not, cond, List, [], ◌∷◌, ◌++◌, map, T, length, replicate}
use Rattle.model.specs.Base.{every, filter, join, All}
use Rattle.model.specs.Table.{Table}
use Rattle.model.specs.Ranges.{Range}
use Rattle.model.specs.Candidates.{Candidate, Prices, prices, priced, basis}
use Rattle.model.specs.Commands.{Kind, is, Context, table_of, prices_of, basis_of}
use Rattle.model.specs.Answers.{Answer, bytes_of}
use Rattle.model.specs.Rules.{engine}
use Rattle.model.specs.Job.{Run, run}
use Rattle.model.specs.Calls.{Call, ran, Met, number_of, offset_of, written_of, replies}
use Rattle.model.specs.Exchanges.{Exchange, answers, read_in, pages_of, Gives, EqualsPages, Claim}
use Rattle.model.specs.Demand3.{is_asked, HasBasis, covers_of, possibles_of, CorrectExchange, FindsRanges}
use Rattle.model.specs.Standing.{Command, command_of, Behind, prices_in, none_came}
use Rattle.model.specs.Pieces.{Piece, piece_kind, pieces}

-- ---- the prices set

-- "Without it the prices are 1, 1 and 0": where no W came (law `without_w`)
abbrev pub WithoutW : Type 0
WithoutW = (job : List ℕ) (room : ℕ) (before : List Context) (x : Context) → Behind (run job room) before x → T (none_came (Kind.W ∷ []) before) → prices_of x.problem ≡ prices 1 1 0

-- behind a W they are its own (law `by_w`)
abbrev pub ByW : Type 0
ByW = (job : List ℕ) (room : ℕ) (before : List Context) (w : Context) (between : List Context) (x : Context)
    → Behind (run job room) (before ++ (w ∷ between)) x → T (is w.kind Kind.W) → prices_of x.problem ≡ prices_in (command_of w)

-- ---- two jobs

-- a job with 0 for each operand of its W commands
abbrev pub with_zeros : Piece → List ℕ
with_zeros c = c.byte ∷ cond (is (piece_kind c) Kind.W) (replicate (length c.operands) 0) c.operands

unfoldable pub unpriced : List ℕ → List ℕ
unpriced job = join (map with_zeros (pieces job))

-- they differ in the operands of W alone
abbrev pub SameButPrices : List ℕ → List ℕ → Type 0
SameButPrices j k = unpriced j ≡ unpriced k

-- an answer without the cost and the set of the cheapest; all others as they are
abbrev pub uncosted : Answer → Answer
uncosted Answer.nothing = Answer.nothing
uncosted (Answer.primes_are ts) = Answer.primes_are ts
uncosted (Answer.paged ss m) = Answer.paged ss m
uncosted (Answer.possible_paged ss m) = Answer.possible_paged ss m
uncosted (Answer.cheapest_is c s) = Answer.cheapest_is 0 0
uncosted (Answer.products_are ss) = Answer.products_are ss
uncosted Answer.ended = Answer.ended

-- the commands with an answer that a job reads, a refused one too: each with its operands, and the table and the candidates that it finds
abbrev pub asked_of : Context → Command × Table × List Candidate
asked_of x = (command_of x, table_of x.problem, x.problem.cands)

abbrev pub listing : Run → List (Command × Table × List Candidate)
listing r = map asked_of (filter (answers engine) r.contexts)

-- the same but for what C says
pub record SameListing (r s : Run) : Type 0 where
  pub number : r.number ≡ s.number
  pub offset : r.offset ≡ s.offset
  pub answers : map uncosted r.answers ≡ map uncosted s.answers
  pub asked : listing r ≡ listing s

-- the job reads no V
abbrev pub no_v : Run → Bool
no_v r = every (λ x. not (is x.kind Kind.«V»)) r.contexts

-- of any two jobs, damaged ones too, unless one "has a price above 50" (law `untouched`). V goes by the
-- prices at each candidate that no G has named, so none is read, in either (where one reads none, the other reads none)
abbrev pub Untouched : Type 0
Untouched = (j k : List ℕ) (room : ℕ) → SameButPrices j k → T (no_v (run j room)) → T (no_v (run k room)) → ((run j room).number ≡ 16 → ⊥) → ((run k room).number ≡ 16 → ⊥) → SameListing (run j room) (run k room)

-- an answer to C
abbrev pub is_cheapest : Answer → Bool
is_cheapest Answer.nothing = false
is_cheapest (Answer.primes_are ts) = false
is_cheapest (Answer.paged ss m) = false
is_cheapest (Answer.possible_paged ss m) = false
is_cheapest (Answer.cheapest_is c s) = true
is_cheapest (Answer.products_are ss) = false
is_cheapest Answer.ended = false

-- what a caller reads from two calls: each answer stands at the same place, and has the same bytes unless it is a C's
pub record SamePages (c d : Call) : Type 0 where
  pub number : number_of c ≡ number_of d
  pub offset : offset_of c ≡ offset_of d
  pub written : written_of c ≡ written_of d
  pub answers : map uncosted (replies c) ≡ map uncosted (replies d)
  pub places : map (λ a. length (bytes_of a)) (replies c) ≡ map (λ a. length (bytes_of a)) (replies d)
  pub pages : pages_of Kind.L (read_in engine c) ≡ pages_of Kind.L (read_in engine d)
  -- where the buffers begin alike and none answers a C they end alike
  pub after : c.before ≡ d.before → T (every (λ a. not (is_cheapest a)) (replies c)) → c.after ≡ d.after

-- in buffers of the same length (law `untouched_read`)
abbrev pub UntouchedRead : Type 0
UntouchedRead = (c d : Call) → Met c → Met d → SameButPrices c.job d.job → T (no_v (ran c)) → T (no_v (ran d)) → length c.before ≡ length d.before
    → (number_of c ≡ 16 → ⊥) → (number_of d ≡ 16 → ⊥) → SamePages c d

-- ---- any jobs, whatever prices each set

-- an L, a V, a C or an N that finds this table and these candidates, at some prices
abbrev pub StandsAtAnyPrices : Table → List Candidate → Exchange → Type 0
StandsAtAnyPrices p cs e = T (is_asked e) × ((w : Prices) × HasBasis (priced w p cs) e.context)

-- each by itself at the prices that it finds, and the pages of L joined over all of them, which each N equals, and those of V
pub record DemandAtAnyPrices (p : Table) (cs : List Candidate) (es : List Exchange) : Type 0 where
  pub each : All (λ e. CorrectExchange (basis_of e.context.problem) e) es
  pub pages : Gives Kind.L (covers_of (basis p cs)) es
  pub products : All (EqualsPages (pages_of Kind.L es)) es
  -- V's too, "over pages that find the same table, candidates, weights and ranges": whatever prices gave the weights
  pub possible_pages : (rs : List Range) → All (FindsRanges rs) es → Gives Kind.«V» (possibles_of (basis p cs) rs) es

-- demand 3 over all prices together (law `at_any_prices`)
abbrev pub AtAnyPrices : Type 0
AtAnyPrices = (p : Table) (cs : List Candidate) (calls : List Call) → All Met calls → Claim engine (StandsAtAnyPrices p cs) (DemandAtAnyPrices p cs) calls
