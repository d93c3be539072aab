-- `cheapest_bounds::ascent::charge` meets its contract. The invariant: the members passed have paid y, and the others can.
use Rattle.cheapest_bounds.proofs.Ascending.{Charging}
use Rattle.cheapest_bounds.proofs.ascent.charge.Given as goal

abbrev pub invariant-loop-m : goal.invariant-loop-m
invariant-loop-m l = Charging l.x l.y l.m-iterator.rest l.initial.left l.left
