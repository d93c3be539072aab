-- `cheapest_nodes::node::Node::look` meets its contract.
use Rattle.cheapest_nodes.proofs.Planning.{residue_open, planned_whole}
use Rattle.cheapest_nodes.proofs.node.Node.look.Goals as goal

pub decide-requires : goal.decide-requires
decide-requires g c = residue_open _ _ _ _ c.unmet-n.ensures.residue

pub returns : goal.returns
returns g c = planned_whole _ _ _ _ c.unmet-n.ensures.residue _ _ _ _ c.decide.ensures
