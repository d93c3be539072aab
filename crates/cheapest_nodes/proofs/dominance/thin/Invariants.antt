-- `cheapest_nodes::dominance::thin` meets its contract. The invariant: f is thinned from free, and what is still to come is a part of free.
use Rattle.bits.specs.Bits.{Part}
use Rattle.cheapest_nodes.specs.Nodes.{Thinned}
use Rattle.cheapest_nodes.proofs.dominance.thin.Given as goal

abbrev pub invariant-loop-m : goal.invariant-loop-m
invariant-loop-m l = Thinned l.rows l.costs l.s l.free l.f × Part l.m-iterator.rest l.free
