-- `cheapest_nodes::dominance::shared` meets its contract. The invariant: the entries are in the unmet rows passed that have their candidates.
use Rattle.cheapest_nodes.specs.Nodes.{Shared}
use Rattle.cheapest_nodes.proofs.dominance.shared.Given as goal

abbrev pub invariant-loop-row : goal.invariant-loop-row
invariant-loop-row l = Shared l.rows l.row-index l.s l.free l.common
