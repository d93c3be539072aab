-- `table::blocks::vertices_below` meets its contract. The invariant: none of the vertices passed is one of b. Assumes nothing.
use Rattle.table.proofs.Vertices.{none_yet, none_next, one_above_lem, none_above}
use Rattle.table.proofs.blocks.vertices_below.Goals as goal

pub loop-v-init : goal.loop-v-init
loop-v-init c = none_yet

pub returns-then-has_vertex : goal.returns-then-has_vertex
returns-then-has_vertex c = one_above_lem _ c.loop-v.invariant c.loop-v-test.true c.has_vertex.ensures c.if-has_vertex.true

pub loop-v-preserved : goal.loop-v-preserved
loop-v-preserved c = none_next c.loop-v.invariant c.has_vertex.ensures c.if-has_vertex.false

pub returns : goal.returns
returns c = none_above _ c.loop-v.invariant c.loop-v-test.false
