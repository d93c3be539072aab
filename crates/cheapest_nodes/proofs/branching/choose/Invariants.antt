-- `cheapest_nodes::branching::choose` meets its contract. The invariant: pick is free and not in s; where there is none, s meets the rows passed.
use Rattle.cheapest_nodes.proofs.Choosing.{Picked}
use Rattle.cheapest_nodes.proofs.branching.choose.Given as goal

abbrev pub invariant-loop-row : goal.invariant-loop-row
invariant-loop-row l = Picked l.rows l.row-index l.s l.free l.pick
