-- `commands::range` meets its contract.
use Rattle.std.proofs.Common.{refl}
use Rattle.model.proofs.Reasons.{has_number}
use Rattle.commands.proofs.Handling.{passed_on, range_gone, range_refused, range_kept}
use Rattle.commands.proofs.range.Goals as goal

pub returns-then-p-entry : goal.returns-then-p-entry
returns-then-p-entry c = range_gone _ _ _ _ _ c.from-entry.ensures _ c.if-p-entry.true refl

pub returns-in_err-range_refusal : goal.returns-in_err-range_refusal
returns-in_err-range_refusal c = range_refused _ _ _ _ _ c.from-entry.ensures _ c.if-p-entry.false c.in_err-range_refusal.ensures _ (has_number _) (passed_on _ _ _ c.from_residual.ensures.1)

pub returns : goal.returns
returns c = range_kept _ _ _ _ _ c.from-entry.ensures _ c.if-p-entry.false c.in_ok-range_refusal.ensures _ refl c.with_range.ensures
