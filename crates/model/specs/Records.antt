-- Paper 02, K5: the records that the commands of a job leave, with "the weight written beside each candidate", and a job without weights.
use Rattle.std.specs.Prelude.{ℕ, ◌≡◌, ◌↔◌, cond, List, [], ◌∷◌, map, eqb}
use Rattle.model.specs.Base.{All}
use Rattle.model.specs.Candidates.{candidate_cost}
use Rattle.model.specs.Commands.{Problem, prices_of, empty, Context, with_cands, problem_after}
use Rattle.model.specs.Rules.{Rules, engine, refusal_by, refusal}
use Rattle.model.specs.Job.{Run, run, run_by}
use Rattle.model.specs.Calls.{Call, MetBy, Met}
use Rattle.model.specs.Standing.{Behind}

-- "each weight equals the cost rule for its term", and that of a block is its own: one beside each candidate, in their order, at the prices set
abbrev pub Weighed : Problem → Type 0
Weighed q = q.weights ≡ map (candidate_cost (prices_of q)) q.cands

module _ (rules : Rules) where
  -- the record that a command leaves
  abbrev pub leaves : Context → Problem
  leaves x = cond (eqb (refusal_by rules x) 0) (rules.after x) x.problem

  -- the record that the last of some commands leaves; where there is none, q
  abbrev pub last_left : Problem → List Context → Problem
  last_left q [] = q
  last_left q (x ∷ xs) = last_left (leaves x) xs

-- an answered command leaves what it makes of the record, a refused one, the last of its job, what it found (law `left_by`)
pub record LeftBy (x : Context) : Type 0 where
  pub answered : refusal x ≡ 0 → leaves engine x ≡ problem_after x x.kind
  pub refused : (refusal x ≡ 0 → ⊥) → leaves engine x ≡ x.problem

abbrev pub Leaves : Type 0
Leaves = (x : Context) → LeftBy x

-- each command of a job finds what those before it leave, the first one the empty record (law `found_left`)
abbrev pub FindsLeft : Type 0
FindsLeft = (job : List ℕ) (room : ℕ) (before : List Context) (x : Context) → Behind (run job room) before x → x.problem ≡ last_left engine empty before

-- the record at the end of a job
abbrev pub last_record : Run → Problem
last_record r = last_left engine empty r.contexts

-- "in every record that the commands of a job leave", and in each that they find; of every job, accepted or refused, and at its end (laws
-- `each_weighed`, `last_weighed`)
pub record WeighedAt (x : Context) : Type 0 where
  pub found : Weighed x.problem
  pub left : Weighed (leaves engine x)

abbrev pub EachWeighed : Type 0
EachWeighed = (job : List ℕ) (room : ℕ) → All WeighedAt (run job room).contexts

abbrev pub LastWeighed : Type 0
LastWeighed = (job : List ℕ) (room : ℕ) → Weighed (last_record (run job room))

-- a record whose weights are gone, and the engine's rules with no weight in any record
abbrev pub unweighted : Problem → Problem
unweighted q = with_cands q.cands [] q.ranges q

abbrev pub without_weights : Rules
without_weights = record { own = engine.own; answer = engine.answer; after = λ x. unweighted (engine.after x) }

-- by them no command finds a weight or leaves one (law `none_weighed`)
pub record NoWeightAt (x : Context) : Type 0 where
  pub found : x.problem.weights ≡ []
  pub left : (leaves without_weights x).weights ≡ []

abbrev pub NoneWeighed : Type 0
NoneWeighed = (job : List ℕ) (room : ℕ) → All NoWeightAt (run_by without_weights job room).contexts

-- "bytes answered are the same as without it": what a call returns and writes meets the engine's rules exactly where it meets those (law
-- `same_without`)
abbrev pub SameWithout : Type 0
SameWithout = (c : Call) → Met c ↔ MetBy without_weights c
