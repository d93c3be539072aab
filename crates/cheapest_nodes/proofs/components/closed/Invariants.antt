-- `cheapest_nodes::components::closed` meets its contract. The invariant: no unmet row passed is partly in a.
use Rattle.cheapest_nodes.specs.Nodes.{Closed}
use Rattle.cheapest_nodes.proofs.components.closed.Given as goal

abbrev pub invariant-loop-row : goal.invariant-loop-row
invariant-loop-row l = Closed l.rows l.row-index l.s l.free l.a
