-- `incidence::presence::sum_at` meets its contract.
use Rattle.incidence.proofs.Sums.{summed_none, summed_next, summed_all}
use Rattle.incidence.proofs.presence.sum_at.Goals as goal

pub loop-i-init : goal.loop-i-init
loop-i-init c = summed_none _ _ _ _

pub loop-i-preserved : goal.loop-i-preserved
loop-i-preserved c = summed_next _ _ _ _ _ _ _ c.loop-i-test.true c.loop-i.invariant c.summand_at-sum.ensures

pub returns : goal.returns
returns c = summed_all _ _ _ _ _ _ _ c.loop-i-test.false c.loop-i.invariant c.has.ensures
