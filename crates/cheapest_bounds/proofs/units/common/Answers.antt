-- `cheapest_bounds::units::common` meets its contract. The invariant: u is the greatest common divisor of the costs passed.
use Rattle.std.proofs.Common.{arith}
use Rattle.cheapest_bounds.proofs.Measuring.{folded_none, folded_more, folded_all, folded_one}
use Rattle.cheapest_bounds.proofs.units.common.Goals as goal

pub loop-cost-init : goal.loop-cost-init
loop-cost-init c = folded_none _ _ (omega arith)

pub returns-then-u-eq1 : goal.returns-then-u-eq1
returns-then-u-eq1 c = folded_one (folded_more c.loop-cost.invariant c.from.ensures c.divisor-u.ensures) (omega arith) (omega (arith, c.if-u-eq1.true))

pub loop-cost-preserved : goal.loop-cost-preserved
loop-cost-preserved c = folded_more c.loop-cost.invariant c.from.ensures c.divisor-u.ensures

pub returns : goal.returns
returns c = folded_all c.loop-cost.invariant (omega arith)
