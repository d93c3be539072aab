-- `eight_rows::put` meets its contract. The invariant: what is left to put of the rows.
use Rattle.std.proofs.Common.{drop}
use Rattle.model.specs.Commands.{rows_of_b}
use Rattle.eight_rows.proofs.EightRows.{Putting}
use Rattle.eight_rows.proofs.put.Given as goal

abbrev pub invariant-loop-i : goal.invariant-loop-i
invariant-loop-i l = Putting l.initial.rows (rows_of_b (drop l.at l.job)) l.i l.rows
