-- `rows::keeping::put` meets its contract. The invariant: the first n of out are what is made of the rows so far.
use Rattle.rows.proofs.Making.{Made}
use Rattle.rows.proofs.keeping.put.Given as goal

abbrev pub invariant-loop-row : goal.invariant-loop-row
invariant-loop-row g l = Made (goal.F-post g l.keep) l.rows l.out l.n l.row-index
