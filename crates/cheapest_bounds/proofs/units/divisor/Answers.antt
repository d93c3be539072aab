-- `cheapest_bounds::units::divisor` meets its contract. The invariant: x and y have the common divisors of a and b.
use Rattle.std.proofs.Common.{mod-lt, arith}
use Rattle.cheapest_bounds.proofs.Measuring.{same_start, same_step, same_end}
use Rattle.cheapest_bounds.proofs.units.divisor.Goals as goal

pub loop-y-init : goal.loop-y-init
loop-y-init c = same_start _ _

pub loop-y-smaller : goal.loop-y-smaller
loop-y-smaller c = mod-lt c.loop-y.x (omega (arith, c.loop-y-test.true))

pub loop-y-preserved : goal.loop-y-preserved
loop-y-preserved c = same_step c.loop-y.invariant

pub returns : goal.returns
returns c = same_end c.loop-y.invariant (omega (arith, c.loop-y-test.false))
