-- `cheapest_nodes::components::divides` meets its contract.
use Rattle.std.proofs.Common.{arith}
use Rattle.std.proofs.lemmas.Grind.{common_steps}
use Rattle.bits.specs.Bits.{Decides}
use Rattle.cheapest_nodes.proofs.components.divides.Goals as goal

pub returns-then-b-free : goal.returns-then-b-free
unfolding Decides
returns-then-b-free c = grind (arith, common_steps)

pub returns-else-b-free : goal.returns-else-b-free
unfolding Decides
returns-else-b-free c = grind (arith, common_steps)
