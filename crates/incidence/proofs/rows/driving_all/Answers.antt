-- `incidence::rows::driving_all` meets its contract.
use Rattle.std.proofs.Common.{arith, refl}
use Rattle.incidence.proofs.Candidates.{outputs_none, outputs_next, outputs_end}
use Rattle.incidence.proofs.rows.driving_all.Goals as goal

pub loop-j-init : goal.loop-j-init
loop-j-init c = outputs_none _ _ refl

pub loop-j-preserved : goal.loop-j-preserved
loop-j-preserved c = outputs_next _ _ _ _ _ (omega (arith, c.requires.1)) c.from.ensures c.driving.ensures c.loop-j.invariant

pub returns : goal.returns
returns c = outputs_end _ _ _ _ c.loop-j-test.false c.loop-j.invariant
