-- What the contracts on the eight rows of a B cite.
use Rattle.std.specs.Prelude.{ℕ, ◌+◌, ◌≤◌, ◌≡◌, List, get_or, length, drop}
use Rattle.model.specs.Base.{All}
use Rattle.model.specs.Commands as model
use Rattle.model.specs.Commands.{kind_of, rows_of_b}
use Rattle.model.specs.Refusals.{first_of}
use Rattle.problem.specs.declared.Settings.{Settings}
use Rattle.problem.specs.Refusing.{row_refusals}

-- a B with its operands stands at `at`, its vertices are bytes, and neither 7 nor 8 applies to one of its rows
pub record EightAt (s : Settings) (given job : List ℕ) (at : ℕ) : Type 0 where
  pub room : at + 18 ≤ length job
  pub kind : kind_of (get_or job at 0) ≡ model.Kind.B
  pub bytes : get_or job (at + 1) 0 + 8 ≤ 256
  pub accepted : All (λ w. 0 ≡ first_of (row_refusals s.n s.m given w.vertex w.on w.dc)) (rows_of_b (drop (at + 1) job))
