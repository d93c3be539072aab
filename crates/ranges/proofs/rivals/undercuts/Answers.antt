-- `ranges::rivals::undercuts` meets its contract.
use Rattle.std.proofs.Common.{ltb-true}
use Rattle.ranges.proofs.Contesting.{undercuts_is}
use Rattle.ranges.proofs.rivals.undercuts.Goals as goal

pub returns : goal.returns
returns c =
    λ q. undercuts_is _ _ _ _ _ _ _ _ c.minus.ensures c.minus-2.ensures c.cost.ensures.value c.cost-2.ensures.value (ltb-true _ _ q)
