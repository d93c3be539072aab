-- `cheapest_bounds::costs::floor` meets its contract. The invariant: no member of x that is not still to come costs less than low.
use Rattle.cheapest_bounds.proofs.Bounding.{Floored}
use Rattle.cheapest_bounds.proofs.costs.floor.Given as goal

abbrev pub invariant-loop-m : goal.invariant-loop-m
invariant-loop-m l = Floored l.costs l.x l.m-iterator.rest l.low
