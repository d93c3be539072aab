-- `cheapest_bounds::units::limit_below` meets its contract.
use Rattle.std.proofs.Common.{arith}
use Rattle.cheapest_bounds.proofs.Measuring.{limit_zero, limit_small, limit_is}
use Rattle.cheapest_bounds.proofs.units.limit_below.Goals as goal

pub returns-then-cost-eq0 : goal.returns-then-cost-eq0
returns-then-cost-eq0 c = limit_zero _ _ c.if-cost-eq0.true

pub overflow_mul-result : goal.overflow_mul-result
overflow_mul-result c = omega (arith, limit_small _ _ c.requires c.if-cost-eq0.false)

pub overflow_add-result : goal.overflow_add-result
overflow_add-result c = omega (arith, limit_small _ _ c.requires c.if-cost-eq0.false)

pub returns : goal.returns
returns c = limit_is _ _ c.requires c.if-cost-eq0.false
