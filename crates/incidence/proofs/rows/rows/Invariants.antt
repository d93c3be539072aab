-- `incidence::rows::rows` meets its contract. The invariant: the rows of the vertices passed are put. Assumes nothing.
use Rattle.incidence.proofs.Matrix.{RowsBelow}
use Rattle.incidence.proofs.rows.rows.Given as goal

abbrev pub invariant-loop-v : goal.invariant-loop-v
invariant-loop-v l = RowsBelow l.on l.terms l.blocks l.held l.driving l.m l.v l.initial.out l.out l.end
