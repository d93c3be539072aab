-- `cheapest_bounds::ascent::pay` meets its contract.
use Rattle.std.proofs.Common.{arith}
use Rattle.cheapest_bounds.proofs.Ascending.{floor_less, paid_none, paid_some}
use Rattle.cheapest_bounds.proofs.ascent.pay.Goals.{else-half, then-half}
use Rattle.cheapest_bounds.proofs.ascent.pay.Goals as goal

pub returns-then-x-eq0 : goal.returns-then-x-eq0
returns-then-x-eq0 c = paid_none _ _

pub returns-then-all-eq0 : goal.returns-then-all-eq0
returns-then-all-eq0 c = paid_none _ _

pub charge-requires : goal.charge-requires
charge-requires c =
    record { left_len = c.requires; floor = floor_less _ _ _ _ c.floor-all.ensures (elim c.if-half.branch [ then-half w ↦ omega (arith, w.y-is) | else-half w ↦ omega (arith, w.y-is) ]) }

pub returns : goal.returns
returns c =
    paid_some _ _ _ _ c.if-x-eq0.false c.charge.ensures
