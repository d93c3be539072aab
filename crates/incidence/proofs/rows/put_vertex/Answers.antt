-- `incidence::rows::put_vertex` meets its contract.
use Rattle.std.proofs.Common.{refl}
use Rattle.incidence.proofs.Matrix.{vertex_none, vertex_next, vertex_all}
use Rattle.incidence.proofs.rows.put_vertex.Goals as goal

pub loop-j-init : goal.loop-j-init
loop-j-init c = vertex_none _ _ _ _ _

pub loop-j-preserved : goal.loop-j-preserved
loop-j-preserved c = vertex_next _ _ _ _ _ _ _ _ _ _ _ _ c.from.ensures refl c.loop-j.invariant c.put_cell-end.ensures

pub returns : goal.returns
returns c = vertex_all _ _ _ _ _ _ _ _ _ c.loop-j-test.false c.loop-j.auto.j-end c.loop-j.invariant
