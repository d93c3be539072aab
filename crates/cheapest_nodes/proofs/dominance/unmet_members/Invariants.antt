-- `cheapest_nodes::dominance::unmet_members` meets its contract. The invariant: acc has the rows passed that s does not meet.
use Rattle.rows.specs.Covers.{Unmet}
use Rattle.cheapest_nodes.proofs.dominance.unmet_members.Given as goal

abbrev pub invariant-loop-row : goal.invariant-loop-row
invariant-loop-row l = Unmet l.rows l.row-index l.s l.acc
