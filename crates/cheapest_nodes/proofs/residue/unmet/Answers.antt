-- `cheapest_nodes::residue::unmet` meets its contract.
use Rattle.std.proofs.Common.{rules}
use Rattle.cheapest_nodes.proofs.Planning.{residue_kept}
use Rattle.cheapest_nodes.proofs.residue.unmet.Goals as goal

pub returns : goal.returns
returns c = residue_kept _ _ _ _ _ _ _ (λ x o m. search rules) c.requires c.put.ensures
