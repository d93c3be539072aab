-- `cheapest_bounds::units::divisor` meets its contract. The invariant: x and y have the common divisors of a and b.
use Rattle.cheapest_bounds.proofs.Measuring.{SameDivisors}
use Rattle.cheapest_bounds.proofs.units.divisor.Given as goal

abbrev pub invariant-loop-y : goal.invariant-loop-y
invariant-loop-y l = SameDivisors l.a l.b l.x l.y

abbrev pub decreases-loop-y : goal.decreases-loop-y
decreases-loop-y l = l.y
