-- `cheapest_bounds::units::common` meets its contract. The invariant: u is the greatest common divisor of the costs passed.
use Rattle.cheapest_bounds.proofs.Measuring.{Folded}
use Rattle.cheapest_bounds.proofs.units.common.Given as goal

abbrev pub invariant-loop-cost : goal.invariant-loop-cost
invariant-loop-cost l = Folded l.costs l.cost-index l.u
