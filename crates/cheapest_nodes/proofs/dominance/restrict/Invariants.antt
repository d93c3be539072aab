-- `cheapest_nodes::dominance::restrict` meets its contract. The invariant: the entries of the members passed have only what is in row.
use Rattle.cheapest_nodes.proofs.Restricting.{Restricting}
use Rattle.cheapest_nodes.proofs.dominance.restrict.Given as goal

abbrev pub invariant-loop-m : goal.invariant-loop-m
invariant-loop-m l = Restricting l.row l.x l.m-iterator.rest l.initial.common l.common
