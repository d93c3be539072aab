-- `eight_rows::union` meets its contract.
use Rattle.eight_rows.proofs.EightRows.{union_next}
use Rattle.eight_rows.proofs.union.Goals as goal

pub loop-b-preserved : goal.loop-b-preserved
loop-b-preserved c = union_next c.loop-b.invariant
