-- `ranges::rivals::rival` meets its contract.
use Rattle.std.proofs.Common.{arith}
use Rattle.ranges.proofs.Contesting.{rival_free}
use Rattle.ranges.proofs.rivals.rival.Goals as goal

pub returns-then-cost-eq0 : goal.returns-then-cost-eq0
returns-then-cost-eq0 c = rival_free _ _ _ _ _ c.cost.ensures.value (omega (arith, c.if-cost-eq0.true))
