-- `table::blocks::vertices_below` meets its contract. The invariant: none of the vertices passed is one of b. Assumes nothing.
use Rattle.table.proofs.Vertices.{NoneBetween}
use Rattle.table.proofs.blocks.vertices_below.Given as goal

abbrev pub invariant-loop-v : goal.invariant-loop-v
invariant-loop-v l = NoneBetween l.size l.b.vertices l.v
