-- `ranges::weights::common` meets its contract.
use Rattle.ranges.proofs.Mixing.{common_unit}
use Rattle.ranges.proofs.weights.common.Goals as goal

pub returns : goal.returns
returns c = rw c.max.ensures (common_unit c.common.ensures c.common-2.ensures c.divisor.ensures)
