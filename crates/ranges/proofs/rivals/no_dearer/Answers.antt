-- `ranges::rivals::no_dearer` meets its contract.
use Rattle.std.proofs.Common.{leb-true}
use Rattle.ranges.proofs.Contesting.{no_dearer_is}
use Rattle.ranges.proofs.rivals.no_dearer.Goals as goal

pub returns-in-Some : goal.returns-in-Some
returns-in-Some c =
    λ q. no_dearer_is _ _ _ _ _ _ _ _ _ c.in-Some.is c.minus.ensures c.minus-in-Some.ensures
    c.cost.ensures.value c.cost-in-Some.ensures.value (leb-true _ _ q)
