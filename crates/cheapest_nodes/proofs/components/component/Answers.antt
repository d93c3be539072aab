-- `cheapest_nodes::components::component` meets its contract.
use Rattle.bits.proofs.Decide.{decides_true}
use Rattle.cheapest_nodes.proofs.Closing.{component_all, component_grown}
use Rattle.cheapest_nodes.proofs.components.component.Goals as goal

pub returns-then-closed : goal.returns-then-closed
returns-then-closed c = component_grown _ _ _ _ (decides_true _ _ c.closed.ensures c.if-closed.true)

pub returns : goal.returns
returns c = component_all _ _ _
