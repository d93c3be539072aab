-- `lister_narrowing::infeasible` meets its contract.
use Rattle.std.proofs.Common.{inl, inr, sym, ap, ◌∙◌, not, eq-eqb}
use Rattle.bits.proofs.Decide.{true_is_not_false}
use Rattle.lister_narrowing.specs.Narrowing.{Infeasible}
use Rattle.lister_narrowing.proofs.infeasible.Goals as goal

pub returns-then-found-s : goal.returns-then-found-s
unfolding Infeasible
returns-then-found-s c = λ e. inl c.if-found-s.true

pub returns-else-found-s : goal.returns-else-found-s
unfolding Infeasible
returns-else-found-s c = λ e. inr (λ z. true_is_not_false (sym e ∙ ap not (eq-eqb _ _ z)))
