-- What the contracts of the exported call and of the job cite.
use Rattle.std.specs.Prelude.{ℕ, ◌≤◌, ◌≡◌, List, Option, IfSome, is_some, length, take}
use Rattle.model.specs.Commands as model
use Rattle.model.specs.Commands.{basis_of, is_query_kind}
use Rattle.model.specs.Job.{run, written, buffer_after}
use Rattle.model.specs.Calls.{Call}
use Rattle.model.specs.Records.{last_record}
use Rattle.problem.specs.declared.Problem.{Problem}
use Rattle.problem.specs.declared.matrix.Matrix.{Matrix}
use Rattle.problem.specs.Problems.{no_problem, Holds}
use Rattle.problem.specs.Matrix.{MatrixOf}
use Rattle.incidence.specs.Stored.{BlocksAt}
use Rattle.engine.specs.declared.job.Ended.{Ended}

-- a call: its job, the answer buffer before, what it returned, the buffer after
abbrev pub called : List ℕ → List ℕ → ℕ → List ℕ → Call
called job before returned after = record { job = job; before = before; returned = returned; after = after }

-- a job that has ended, by what it tells and leaves
abbrev pub ended_with : ℕ → ℕ → ℕ → Problem → Ended
ended_with number offset written problem = record { number = number; offset = offset; written = written; problem = problem }

-- how a job ends by the definitions: what the call tells, every byte of the buffer, and K5's record: e has the one that the job leaves, and held
-- the vertices of its blocks
pub record EndsAs (job old new held : List ℕ) (e : Ended) : Type 0 where
  pub number : e.number ≡ (run job (length old)).number
  pub offset : e.offset ≡ (run job (length old)).offset
  pub written : e.written ≡ length (written (run job (length old)))
  pub after : new ≡ buffer_after (run job (length old)) old
  pub problem : Holds e.problem (last_record (run job (length old)))
  pub blocks : BlocksAt (last_record (run job (length old))).cands held

-- a job that is not run
abbrev pub too_long : Ended
too_long = record { number = 1; offset = 0; written = 0; problem = no_problem }

-- m with its rows in front of `rows` is the covering matrix of q
abbrev pub IsMatrix : model.Problem → List ℕ → Matrix → Type 0
IsMatrix q rows m = MatrixOf (basis_of q) (take m.count rows) m.covered

-- a command of kind k finds in r the covering matrix of the problem where it is a query, and else nothing; `kept` has that of a query right before it
pub record Refreshed (p : Problem) (held : List ℕ) (k : model.Kind) (kept : Option Matrix) (old new : List ℕ) (r : Option Matrix) : Type 0 where
  pub size : length new ≡ 2048
  pub within : IfSome r (λ m. m.count ≤ 2048)
  pub asked : is_some r ≡ is_query_kind k
  pub matrix : (q : model.Problem) → Holds p q → BlocksAt q.cands held → IfSome kept (IsMatrix q old) → IfSome r (IsMatrix q new)
