-- Paper 02, K2, with K3's B, K6's W, K8's N, K10's F and K11's G and V: the standing candidates (their ranges: `Ranging`), the place behind an A, pages behind the
-- same commands, and the fresh job of a query.
use Rattle.std.specs.Prelude.{ℕ, suc, ◌^◌, ◌≤◌, ◌<◌, max, ◌≡◌, ◌↔◌, Bool, not, ◌&&◌, ◌||◌, T, get_or, length, take, set, replicate}
use mathlib.Core.List.{List, [], ◌∷◌, ◌++◌, map, Memᴰ}
use Rattle.std.proofs.Math.ListN.{get_elem?}
use Rattle.model.specs.Base.{without, every, some, filter, join, All}
use Rattle.model.specs.Table.{Table, Term, term}
use Rattle.model.specs.Primes.{primes}
use Rattle.model.specs.Blocks.{Block}
use Rattle.model.specs.Candidates.{Candidate, terms_alone, Prices, prices, Basis, priced, basis}
use Rattle.model.specs.Commands.{at_start, begun, in_prices, among_rows, in_candidates, queried, Kind, form_of, is, kind_of, is_query_kind, width, allowed}
use Rattle.model.specs.Commands.{low, empty, basis_of, Context, operand_number, Row, row_of_r, rows_of_b, block_of_f, problem_after}
use Rattle.model.specs.Answers.{Answer, bytes_of, term_bytes, has_bytes, answer}
use Rattle.model.specs.Rules.{engine, refusal}
use Rattle.model.specs.Job.{Run, run, written}
use Rattle.model.specs.Calls.{Call, ran, Met, number_of, written_of, replies}
use Rattle.model.specs.Exchanges.{Exchange, exchange, read_in, Claim}
use Rattle.model.specs.Demand3.{is_query, is_asked, Demand}

-- ---- commands

-- a command with its operands, and its bytes
pub record Command : Type 0 where
  pub kind : Kind
  pub operands : List ℕ

abbrev pub command_of : Context → Command
command_of x = record { kind = x.kind; operands = take (width x.kind) x.rest }

abbrev pub command_bytes : Command → List ℕ
command_bytes c = (form_of c.kind).code ∷ c.operands

-- the job reads command x, and these stand before it
abbrev pub Behind : Run → List Context → Context → Type 0
Behind r before x = (after : List Context) × (r.contexts ≡ before ++ (x ∷ after))

-- the commands before x, and its own byte, are the job's bytes up to the bytes behind it (law `spelled`)
pub record Spells (job : List ℕ) (before : List Context) (x : Context) : Type 0 where
  pub byte : ℕ
  pub kind : kind_of byte ≡ x.kind
  pub bytes : job ≡ join (map (λ y. command_bytes (command_of y)) before) ++ (byte ∷ x.rest)

abbrev pub Spelled : Type 0
Spelled = (job : List ℕ) (room : ℕ) (before : List Context) (x : Context) → Behind (run job room) before x → Spells job before x

-- ---- the table, the prices and the candidates that commands set

abbrev pub operand_of : Command → ℕ → ℕ
operand_of c i = get_or c.operands i 0

abbrev pub term_of : Command → Term
term_of c = term (operand_of c 0) (operand_of c 1) (operand_of c 2)

abbrev pub prices_in : Command → Prices
prices_in c = prices (operand_of c 0) (operand_of c 1) (operand_of c 2)

-- a table without a row, with a row, and with rows one by one
abbrev pub no_rows_yet : ℕ → ℕ → Table
no_rows_yet n m = record { n = n; m = m; on = replicate (2 ^ n) 0; dc = replicate (2 ^ n) 0 }

abbrev pub row_set : Table → Row → Table
row_set p w = record { n = p.n; m = p.m; on = set p.on w.vertex w.on; dc = set p.dc w.vertex w.dc }

abbrev pub rows_set : Table → List Row → Table
rows_set p [] = p
rows_set p (w ∷ ws) = rows_set (row_set p w) ws

-- I, R and B set the table, W the prices; T, F and A add a candidate "at the end", P puts the primes in their place, D takes one out and "those above move down
-- by one"; the others set none of these, G a range (`ranges_to`)
unfoldable pub sets_to : Command → Kind → Basis → Basis
sets_to c Kind.I b = basis (no_rows_yet (operand_of c 0) (operand_of c 1)) []
sets_to c Kind.W b = priced (prices_in c) b.table b.cands
sets_to c Kind.R b = priced b.prices (row_set b.table (row_of_r c.operands)) b.cands
sets_to c Kind.B b = priced b.prices (rows_set b.table (rows_of_b c.operands)) b.cands
sets_to c Kind.T b = priced b.prices b.table (b.cands ++ (Candidate.term (term_of c) ∷ []))
sets_to c Kind.F b = priced b.prices b.table (b.cands ++ (Candidate.block (block_of_f c.operands) ∷ []))
sets_to c Kind.P b = priced b.prices b.table (terms_alone (primes b.table))
sets_to c Kind.A b = priced b.prices b.table (b.cands ++ (Candidate.term (term_of c) ∷ []))
sets_to c Kind.D b = priced b.prices b.table (without (operand_of c 0) b.cands)
sets_to c Kind.G b = b
sets_to c Kind.L b = b
sets_to c Kind.«V» b = b
sets_to c Kind.C b = b
sets_to c Kind.N b = b
sets_to c Kind.E b = b
sets_to c Kind.none b = b

-- one behind the other, from b on
abbrev pub set_from : Basis → List Command → Basis
set_from b [] = b
set_from b (c ∷ cs) = set_from (sets_to c c.kind b) cs

-- "the standing candidates in the standing order", with their table and the prices
abbrev pub standing : List Command → Basis
standing cs = set_from (basis_of empty) cs

-- what each command of a job finds is what the commands before it set (law `stands`)
abbrev pub FindsStanding : Type 0
FindsStanding = (job : List ℕ) (room : ℕ) (before : List Context) (x : Context) → Behind (run job room) before x → basis_of x.problem ≡ standing (map command_of before)

-- what a D that is not refused leaves, entry by entry (law `taken_out`)
pub record TakenOut {A : Type 0} (k : ℕ) (old new : List A) : Type 0 where
  pub fewer : suc (length new) ≡ length old
  pub before : (i : ℕ) → i < k → get_elem? new i ≡ get_elem? old i
  pub behind : (i : ℕ) → k ≤ i → get_elem? new i ≡ get_elem? old (suc i)

abbrev pub TakesOut : Type 0
TakesOut = (x : Context) → T (is x.kind Kind.D) → refusal x ≡ 0 → TakenOut (operand_number x) x.problem.cands (problem_after x x.kind).cands

-- ---- the place

-- the place that a command raises the job to at least: "for the place of R and P, an A counts as a T, even if its candidate has gone again"
abbrev pub raises : Kind → ℕ
raises Kind.I = begun
raises Kind.W = in_prices
raises Kind.R = among_rows
raises Kind.B = among_rows
raises Kind.T = in_candidates
raises Kind.F = in_candidates
raises Kind.P = queried
raises Kind.A = in_candidates
raises Kind.D = begun
raises Kind.G = queried
raises Kind.L = queried
raises Kind.«V» = queried
raises Kind.C = queried
raises Kind.N = queried
raises Kind.E = at_start
raises Kind.none = at_start

abbrev pub highest : List Context → ℕ
highest [] = at_start
highest (x ∷ xs) = max (raises x.kind) (highest xs)

-- the place of each command of a job is the highest that those before it raise the job to (law `placed`)
abbrev pub Placed : Type 0
Placed = (job : List ℕ) (room : ℕ) (before : List Context) (x : Context) → Behind (run job room) before x → x.problem.place ≡ highest before

-- none of these kinds came
abbrev pub none_came : List Kind → List Context → Bool
none_came ks before = every (λ y. not (some (is y.kind) ks)) before

-- so, behind I: W stands where no W came and no R, B, T, F, A, P, L, C, N, G or V; R, B and P stand where no T, F, A, P, L, C, N, G or V came, T
-- and F where no P, L, C, N, G or V came (law `places`)
pub record PlacesBehind (before : List Context) (place : ℕ) : Type 0 where
  pub prices : T (allowed Kind.W place) ↔ T (none_came (Kind.W ∷ Kind.R ∷ Kind.B ∷ Kind.T ∷ Kind.F ∷ Kind.A ∷ Kind.P ∷ Kind.G ∷ Kind.L ∷ Kind.«V» ∷ Kind.C ∷ Kind.N ∷ []) before)
  pub row : T (allowed Kind.R place) ↔ T (none_came (Kind.T ∷ Kind.F ∷ Kind.A ∷ Kind.P ∷ Kind.G ∷ Kind.L ∷ Kind.«V» ∷ Kind.C ∷ Kind.N ∷ []) before)
  pub rows : T (allowed Kind.B place) ↔ T (none_came (Kind.T ∷ Kind.F ∷ Kind.A ∷ Kind.P ∷ Kind.G ∷ Kind.L ∷ Kind.«V» ∷ Kind.C ∷ Kind.N ∷ []) before)
  pub primes : T (allowed Kind.P place) ↔ T (none_came (Kind.T ∷ Kind.F ∷ Kind.A ∷ Kind.P ∷ Kind.G ∷ Kind.L ∷ Kind.«V» ∷ Kind.C ∷ Kind.N ∷ []) before)
  pub term : T (allowed Kind.T place) ↔ T (none_came (Kind.P ∷ Kind.G ∷ Kind.L ∷ Kind.«V» ∷ Kind.C ∷ Kind.N ∷ []) before)
  pub block : T (allowed Kind.F place) ↔ T (none_came (Kind.P ∷ Kind.G ∷ Kind.L ∷ Kind.«V» ∷ Kind.C ∷ Kind.N ∷ []) before)

abbrev pub Places : Type 0
Places = (job : List ℕ) (room : ℕ) (before : List Context) (x : Context) → Behind (run job room) before x → begun ≤ x.problem.place → PlacesBehind before x.problem.place

-- ---- the same commands

-- in one job, behind a query: only A and D change the candidates, and nothing the table or the prices. So where no A and no D stands between, a later
-- command finds what the query finds (law `same_between`)
abbrev pub adds_or_removes : Kind → Bool
adds_or_removes k = is k Kind.A || is k Kind.D

abbrev pub SameBetween : Type 0
SameBetween = (job : List ℕ) (room : ℕ) (before : List Context) (x : Context) (between : List Context) (y : Context)
    → Behind (run job room) (before ++ (x ∷ between)) y → T (is_query x) → All (λ z. T (not (adds_or_removes z.kind))) between
    → basis_of y.problem ≡ basis_of x.problem

-- in one job or two: some job reads x, and cs are the commands before it that are no queries, with their operands. Where two commands
-- stand so behind the same, they find the same table, candidates and prices (laws `same_set`, `same_found`), and the same ranges (law `same_ranges`)
pub record SetBy (cs : List Command) (x : Context) : Type 0 where
  pub job : List ℕ
  pub room : ℕ
  pub before : List Context
  pub behind : Behind (run job room) before x
  pub same : filter (λ c. not (is_query_kind c.kind)) (map command_of before) ≡ cs

-- an L, a V, a C or an N that stands so
abbrev pub AskedBehind : List Command → Exchange → Type 0
AskedBehind cs e = T (is_asked e) × SetBy cs e.context

-- "pages are joined only where the same A and D commands stand before each, in a further job too": demand 3 of any such L, V, C and N, in one job
-- or several, a corollary of `Demand3` (law `standing_demand_3`). Its rival is met only where the standing candidates are the primes
abbrev pub StandingDemand3 : Type 0
StandingDemand3 = (cs : List Command) (calls : List Call) → All Met calls → Claim engine (AskedBehind cs) (Demand (standing cs)) calls

-- ---- "a fresh job with the standing candidates in the standing order"

-- the settings and the table
abbrev pub sets_up : Kind → Bool
sets_up k = is k Kind.I || (is k Kind.W || (is k Kind.R || is k Kind.B))

-- F's operands
abbrev pub block_bytes : Block → List ℕ
block_bytes b = b.outputs ∷ (b.vertices ++ low 2 b.weight)

-- the command that adds a candidate: a T, for a block an F
abbrev pub adding_command : Candidate → Command
adding_command (Candidate.term t) = record { kind = Kind.T; operands = term_bytes t }
adding_command (Candidate.block b) = record { kind = Kind.F; operands = block_bytes b }

abbrev pub added_again : List Candidate → List ℕ
added_again cs = join (map (λ c. command_bytes (adding_command c)) cs)

-- I, the W, the R and the B as they came, a T or an F for each standing candidate, the query and E
abbrev pub fresh_job : List Command → Command → List ℕ
fresh_job cs query = join (map command_bytes (filter (λ c. sets_up c.kind) cs)) ++ (added_again (standing cs).cands ++ (command_bytes query ++ ((form_of Kind.E).code ∷ [])))

-- a job is accepted, and gives this answer, E's and no other
pub record GivesAlone (a : Answer) (r : Run) : Type 0 where
  pub accepted : r.number ≡ 0
  pub answers : filter has_bytes r.answers ≡ a ∷ Answer.ended ∷ []
  pub bytes : written r ≡ bytes_of a ++ bytes_of Answer.ended

-- an L, a C or an N: by table, candidates and prices alone. V goes by the ranges too
abbrev pub by_basis : Context → Bool
by_basis x = is_query x && not (is x.kind Kind.«V»)

-- "in an accepted job, L and C answer as they would in a fresh job", and so does N: in every buffer that is no shorter (law `fresh`).
-- The fresh job has no G: K11, "C keeps the weights without ranges"
abbrev pub Fresh : Type 0
Fresh = (job : List ℕ) (room : ℕ) → (run job room).number ≡ 0 → (before : List Context) (x : Context) → Behind (run job room) before x → T (by_basis x)
    → (larger : ℕ) → room ≤ larger → larger ≤ 32768 → GivesAlone (answer x) (run (fresh_job (map command_of before) (command_of x)) larger)

-- and in any job that answers it, a refused one too, in room for the answer and E's (law `fresh_answered`)
abbrev pub FreshAnswered : Type 0
FreshAnswered = (job : List ℕ) (room : ℕ) (before : List Context) (x : Context) → Behind (run job room) before x → T (by_basis x) → refusal x ≡ 0
    → (enough : ℕ) → suc (length (bytes_of (answer x))) ≤ enough → enough ≤ 32768 → GivesAlone (answer x) (run (fresh_job (map command_of before) (command_of x)) enough)

-- what a caller reads: from c the reply to x, from f the same, with E's and no other
pub record SameReply (c f : Call) (x : Context) : Type 0 where
  pub reply : Memᴰ (exchange x (answer x)) (read_in engine c)
  pub accepted : number_of f ≡ 0
  pub fresh_replies : replies f ≡ answer x ∷ Answer.ended ∷ []
  pub bytes : take (written_of f) f.after ≡ bytes_of (answer x) ++ bytes_of Answer.ended

-- of two calls that meet their contract, the second with the fresh job of a query of the first (law `fresh_read`)
abbrev pub FreshRead : Type 0
FreshRead = (c f : Call) → Met c → Met f → number_of c ≡ 0 → (before : List Context) (x : Context) → Behind (ran c) before x → T (by_basis x)
    → f.job ≡ fresh_job (map command_of before) (command_of x) → length c.before ≤ length f.before → length f.before ≤ 32768 → SameReply c f x
