-- Paper 02, K11, of jobs as bytes: the ranges that a command finds, and what V's list is where the ends are the weights.
use Rattle.std.specs.Prelude.{ℕ, ◌≤◌, ◌≡◌, ◌↔◌, T, set}
use mathlib.Core.List.{List, [], ◌∷◌, ◌++◌, map, Memᴰ}
use Rattle.model.specs.Base.{without, All}
use Rattle.model.specs.Primes.{primes}
use Rattle.model.specs.Sets.{Irredundant, coverable, cost, cheapest}
use Rattle.model.specs.Ranges.{Range, fixed, Choice}
use Rattle.model.specs.Candidates.{Candidate, terms_alone, Basis, weigh, covering}
use Rattle.model.specs.Commands.{Kind, is, basis_of, empty, Context, block_of_f, range_of_g, operand_number, problem_after}
use Rattle.model.specs.Rules.{engine, refusal}
use Rattle.model.specs.Job.{run}
use Rattle.model.specs.Calls.{Call, Met}
use Rattle.model.specs.Exchanges.{Gives, Claim}
use Rattle.model.specs.Demand3.{possibles_of}
use Rattle.model.specs.Standing.{Command, command_of, operand_of, term_of, Behind, sets_to, standing, none_came, TakenOut, SetBy, AskedBehind}

-- ---- the ranges set

-- the weights of the candidates, in their order
abbrev pub weights_of : Basis → List ℕ
weights_of b = map (weigh b) b.cands

-- "both ends equal the weight"
abbrev pub fixed_at : Basis → Candidate → Range
fixed_at b c = fixed (weigh b c)

-- what a command makes of the ranges, where it finds basis b: "a new candidate has both ends equal to its weight", D takes its range out with a
-- candidate, "A later G for a candidate replaces its earlier one"; the others leave them
unfoldable pub ranges_to : Command → Kind → Basis → List Range → List Range
ranges_to c Kind.I b rs = []
ranges_to c Kind.W b rs = rs
ranges_to c Kind.R b rs = rs
ranges_to c Kind.B b rs = rs
ranges_to c Kind.T b rs = rs ++ (fixed_at b (Candidate.term (term_of c)) ∷ [])
ranges_to c Kind.F b rs = rs ++ (fixed_at b (Candidate.block (block_of_f c.operands)) ∷ [])
ranges_to c Kind.P b rs = map fixed (map (weigh b) (terms_alone (primes b.table)))
ranges_to c Kind.A b rs = rs ++ (fixed_at b (Candidate.term (term_of c)) ∷ [])
ranges_to c Kind.D b rs = without (operand_of c 0) rs
ranges_to c Kind.G b rs = set rs (operand_of c 0) (range_of_g c.operands)
ranges_to c Kind.L b rs = rs
ranges_to c Kind.«V» b rs = rs
ranges_to c Kind.C b rs = rs
ranges_to c Kind.N b rs = rs
ranges_to c Kind.E b rs = rs
ranges_to c Kind.none b rs = rs

-- one behind the other
abbrev pub ranges_from : Basis → List Range → List Command → List Range
ranges_from b rs [] = rs
ranges_from b rs (c ∷ cs) = ranges_from (sets_to c c.kind b) (ranges_to c c.kind b rs) cs

abbrev pub standing_ranges : List Command → List Range
standing_ranges cs = ranges_from (basis_of empty) [] cs

-- what each command of a job finds is what the commands before it set (law `ranges_stand`)
abbrev pub FindsStandingRanges : Type 0
FindsStandingRanges = (job : List ℕ) (room : ℕ) (before : List Context) (x : Context) → Behind (run job room) before x → x.problem.ranges ≡ standing_ranges (map command_of before)

-- "Without G both ends equal the weight" (law `without_g`)
abbrev pub WithoutG : Type 0
WithoutG = (job : List ℕ) (room : ℕ) (before : List Context) (x : Context) → Behind (run job room) before x → T (none_came (Kind.G ∷ []) before)
    → x.problem.ranges ≡ map fixed x.problem.weights

-- "taking out a candidate leaves the others' ranges with them", entry by entry (law `range_taken_out`)
abbrev pub TakesRangeOut : Type 0
TakesRangeOut = (job : List ℕ) (room : ℕ) (before : List Context) (x : Context) → Behind (run job room) before x → T (is x.kind Kind.D) → refusal x ≡ 0
    → TakenOut (operand_number x) x.problem.ranges (problem_after x x.kind).ranges

-- ---- the same commands

-- where two commands stand behind the same, queries left out, they find the same ranges (law `same_ranges`)
abbrev pub SameRanges : Type 0
SameRanges = (cs : List Command) (x : Context) → SetBy cs x → x.problem.ranges ≡ standing_ranges cs

-- so the pages of all such V, in one job or several, give the list (law `standing_possible`)
abbrev pub StandingPossible : Type 0
StandingPossible = (cs : List Command) (calls : List Call) → All Met calls
    → Claim engine (AskedBehind cs) (Gives Kind.«V» (possibles_of (standing cs) (standing_ranges cs))) calls

-- ---- V and C

-- no irredundant cover costs less
abbrev pub LeastCosting : Basis → ℕ → Type 0
LeastCosting b s = Irredundant (covering b) s × ((t : ℕ) → Irredundant (covering b) t → cost (covering b) s ≤ cost (covering b) t)

-- with equal ends V lists exactly the covers of least cost (law `equal_ends`)
abbrev pub EqualEnds : Type 0
EqualEnds = (b : Basis) (s : ℕ) → Memᴰ s (possibles_of b (map fixed (weights_of b))) ↔ LeastCosting b s

-- and the cheapest of C, which "keeps the weights without ranges", is on V's list wherever its weights are one choice (law `cheapest_possible`)
abbrev pub CheapestPossible : Type 0
CheapestPossible = (b : Basis) (rs : List Range) → Choice rs (weights_of b) → T (coverable (covering b)) → Memᴰ (cheapest (covering b)) (possibles_of b rs)
