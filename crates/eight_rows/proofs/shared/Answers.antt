-- `eight_rows::shared` meets its contract.
use Rattle.eight_rows.proofs.EightRows.{union_next}
use Rattle.eight_rows.proofs.shared.Goals as goal

pub loop-i-preserved : goal.loop-i-preserved
loop-i-preserved c = union_next c.loop-i.invariant
