-- `cheapest_nodes::dominance::cheaper` meets its contract. The invariant: what is still to come is a part of x.
use Rattle.bits.specs.Bits.{Part}
use Rattle.cheapest_nodes.proofs.dominance.cheaper.Given as goal

abbrev pub invariant-loop-d : goal.invariant-loop-d
invariant-loop-d l = Part l.d-iterator.rest l.x
