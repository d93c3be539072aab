-- `incidence::rows::rows` meets its contract.
use Rattle.incidence.proofs.Matrix.{rows_none, rows_next, rows_all}
use Rattle.incidence.proofs.rows.rows.Goals as goal

pub loop-v-init : goal.loop-v-init
loop-v-init c = rows_none _ _ _ _ _ _ _

pub loop-v-preserved : goal.loop-v-preserved
loop-v-preserved c = rows_next _ _ _ _ _ _ _ _ _ _ _ _ _ c.requires.2 c.candidates_for-here.ensures c.loop-v.invariant c.put_vertex-end.ensures

pub returns : goal.returns
returns c = rows_all _ _ _ _ _ _ _ _ _ _ _ _ c.requires.1 c.bound-v-end.ensures c.driving_all-driving.ensures c.loop-v-test.false c.loop-v.auto.v-end c.loop-v.invariant
