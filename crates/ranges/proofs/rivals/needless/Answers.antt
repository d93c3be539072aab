-- `ranges::rivals::needless` meets its contract.
use Rattle.std.proofs.Common.{arith}
use Rattle.ranges.proofs.Meeting.{sparing_none, sparing_skip, sparing_take, sparing_all}
use Rattle.ranges.proofs.rivals.needless.Goals.{then-row-t-eq0, else-row-t-eq0}
use Rattle.ranges.proofs.rivals.needless.Goals as goal

pub loop-row-init : goal.loop-row-init
loop-row-init c = sparing_none _ _ _ _ c.minus-acc.ensures

pub loop-row-preserved : goal.loop-row-preserved
loop-row-preserved c =
    let so_far = c.loop-row.invariant in
    elim c.if-row-t-eq0.branch [
      | then-row-t-eq0 w ↦ sparing_take _ _ _ _ so_far _ _ w.acc-is w.minus-acc-then-row-t-eq0.ensures
      | else-row-t-eq0 w ↦ sparing_skip _ _ _ _ so_far _ w.acc-is w.if-row-t-eq0.false
    ]

pub returns : goal.returns
returns c = sparing_all _ _ _ _ c.loop-row.invariant (omega arith)
