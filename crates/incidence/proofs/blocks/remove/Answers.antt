-- `incidence::blocks::remove` meets its contract.
use Rattle.incidence.proofs.Changes.{changed_none, changed_next, removes}
use Rattle.incidence.proofs.blocks.remove.Goals as goal

pub loop-s-init : goal.loop-s-init
loop-s-init c = changed_none _ _

pub loop-s-preserved : goal.loop-s-preserved
loop-s-preserved c = changed_next _ _ _ _ _ c.removed.ensures c.loop-s.invariant

pub returns : goal.returns
returns c = removes _ c.loop-s-test.false c.loop-s.invariant
