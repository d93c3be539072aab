-- `rows::covering::privates` meets its contract. The invariant: acc has the members with a row of their own among the rows passed.
use Rattle.rows.specs.Covers.{PrivatesOf}
use Rattle.rows.proofs.covering.privates.Given as goal

abbrev pub invariant-loop-row : goal.invariant-loop-row
invariant-loop-row l = PrivatesOf l.rows l.row-index l.s l.acc
