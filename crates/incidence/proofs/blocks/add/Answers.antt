-- `incidence::blocks::add` meets its contract.
use Rattle.incidence.proofs.Changes.{changed_none, changed_next, adds}
use Rattle.incidence.proofs.blocks.add.Goals as goal

pub loop-v-init : goal.loop-v-init
loop-v-init c = changed_none _ _

pub loop-v-preserved : goal.loop-v-preserved
loop-v-preserved c = changed_next _ _ _ _ _ c.marked.ensures c.loop-v.invariant

pub returns : goal.returns
returns c = adds _ c.loop-v-test.false _ c.power-member.ensures c.loop-v.invariant
