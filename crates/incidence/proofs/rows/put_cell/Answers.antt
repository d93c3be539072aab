-- `incidence::rows::put_cell` meets its contract. Assumes nothing.
use Rattle.incidence.proofs.Matrix.{cell_on, cell_not_on}
use Rattle.incidence.proofs.rows.put_cell.Goals as goal

pub returns-then-has : goal.returns-then-has
returns-then-has c = cell_on _ _ _ _ _ _ c.has.ensures c.requires.1 c.requires.2 c.if-has.true

pub returns : goal.returns
returns c = cell_not_on _ _ _ _ _ _ c.has.ensures c.if-has.false
