-- `incidence::rows::put_vertex` meets its contract. The invariant: the rows of the outputs passed are put. Assumes nothing.
use Rattle.incidence.specs.Rows.{Appends, vertex_rows}
use Rattle.incidence.proofs.rows.put_vertex.Given as goal

abbrev pub invariant-loop-j : goal.invariant-loop-j
invariant-loop-j l = Appends l.initial.out l.at (vertex_rows l.on l.here l.driving l.j) l.j l.out l.end
