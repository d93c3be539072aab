-- Paper 01, "Job stream" and "When a job stops": what a job goes by, command by command. The engine's rules are one instance.
use Rattle.std.specs.Prelude.{ℕ, not, List, [], ◌∷◌, ◌++◌, ltb, length}
use Rattle.model.specs.Commands.{Kind, is, allowed, width, Problem, Context, problem_after}
use Rattle.model.specs.Answers.{Answer, bytes_of, answer}
use Rattle.model.specs.Refusals.{Refusal, refuse, first_of, refusals_of}

-- a command's own refusals; its answer, and the problem after it, where it is not refused
pub record Rules : Type 0 where
  pub own : Context → List Refusal
  pub answer : Context → Answer
  pub after : Context → Problem

abbrev pub engine : Rules
engine = record { own = λ x. refusals_of x x.kind; answer = answer; after = λ x. problem_after x x.kind }

module _ (rules : Rules) where
  -- 3 "the byte is no command"; 4 "the command is not allowed at this place"; 5 "operand bytes are missing"; the command's own;
  -- 14 "the answer is longer than the free part"
  unfoldable pub refusals_by : Context → List Refusal
  refusals_by x =
      (refuse 3 (is x.kind Kind.none)
      ∷ refuse 4 (not (allowed x.kind x.problem.place))
      ∷ refuse 5 (ltb (length x.rest) (width x.kind))
      ∷ [])
      ++ (rules.own x ++ (refuse 14 (ltb x.free (length (bytes_of (rules.answer x)))) ∷ []))

  unfoldable pub refusal_by : Context → ℕ
  refusal_by x = first_of (refusals_by x)

abbrev pub refusal : Context → ℕ
refusal x = refusal_by engine x
