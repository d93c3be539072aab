-- `cheapest_nodes::components::apart_or_in` meets its contract.
use Rattle.std.proofs.Common.{arith}
use Rattle.std.proofs.lemmas.Grind.{common_steps}
use Rattle.bits.specs.Bits.{Decides, Part}
use Rattle.cheapest_nodes.proofs.components.apart_or_in.Goals as goal

pub returns-then-x-a-eq0 : goal.returns-then-x-a-eq0
unfolding Decides Part
returns-then-x-a-eq0 c = grind (arith, common_steps)

pub returns-else-x-a-eq0 : goal.returns-else-x-a-eq0
unfolding Decides Part
returns-else-x-a-eq0 c = grind (arith, common_steps)
