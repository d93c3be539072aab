-- `cheapest_bounds::costs::total` meets its contract. The invariant: the sum and the cost of what is still to come make the cost of x.
use Rattle.std.proofs.Common.{◌≡◌, ◌+◌}
use Rattle.cheapest_bounds.specs.Costs.{cost_of}
use Rattle.cheapest_bounds.proofs.costs.total.Given as goal

abbrev pub invariant-loop-m : goal.invariant-loop-m
invariant-loop-m l = cost_of l.costs l.x ≡ l.sum + cost_of l.costs l.m-iterator.rest
