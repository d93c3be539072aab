-- What the contract of a step cites: any command of a job, in the context that the definitions give it.
use Rattle.std.specs.Prelude.{ℕ, ◌+◌, ◌≡◌, Bool, List, T, get_or, length, drop}
use Rattle.model.specs.Commands as model
use Rattle.model.specs.Commands.{Context, basis_of, kind_of, is_query_kind, problem_after}
use Rattle.model.specs.Rules.{refusal}
use Rattle.model.specs.Invariants.{Valid}
use Rattle.problem.specs.declared.Problem.{Problem}
use Rattle.problem.specs.Problems.{Holds}
use Rattle.problem.specs.Matrix.{MatrixOf}
use Rattle.incidence.specs.Stored.{BlocksAt}
use Rattle.commands.specs.Effects.{Outcome, Answered, LeftAlone}

-- the context of the command at `at`
abbrev pub context_at : model.Problem → List ℕ → ℕ → ℕ → Context
context_at q job at free = record { problem = q; kind = kind_of (get_or job at 0); rest = drop (at + 1) job; free = free }

-- a command: its refusal or its answer. The sets of the blocks become `sets` from `held`: those of the problem after it, and a refusal leaves them
pub record Stepped (x : Context) (held sets old new : List ℕ) (e : Outcome) : Type 0 where
  pub number : e.number ≡ refusal x
  pub refused : (e.number ≡ 0 → ⊥) → LeftAlone x old new e × (sets ≡ held)
  pub answered : e.number ≡ 0 → Answered x x.kind old new e × BlocksAt (problem_after x x.kind).cands sets

-- in every problem that p and held hold, with its covering matrix where it is a query
pub record Steps (p : Problem) (held sets rows : List ℕ) (covered : Bool) (job : List ℕ) (at : ℕ) (old new : List ℕ) (e : Outcome) : Type 0 where
  pub in_problem : (q : model.Problem) → Holds p q → BlocksAt q.cands held → Valid q → (T (is_query_kind (kind_of (get_or job at 0))) → MatrixOf (basis_of q) rows covered)
      → Stepped (context_at q job at (length old)) held sets old new e
