-- `commands::init` meets its contract.
use Rattle.std.proofs.Common.{refl, ap, ◌∙◌}
use Rattle.model.proofs.Reasons.{has_number}
use Rattle.problem.specs.Problems.{started_with}
use Rattle.commands.proofs.Handling.{passed_on, init_refused, init_good}
use Rattle.commands.proofs.init.Goals as goal

pub returns-in_err-init_refusal : goal.returns-in_err-init_refusal
returns-in_err-init_refusal c p = init_refused p _ _ _ _ c.in_err-init_refusal.ensures (has_number _) (passed_on _ _ _ c.from_residual.ensures.1)

pub returns : goal.returns
returns c p = init_good p _ _ _ _ c.in_ok-init_refusal.ensures refl (c.started.ensures ∙ ap (started_with _ _) c.number.ensures)
