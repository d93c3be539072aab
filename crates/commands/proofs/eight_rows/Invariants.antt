-- `commands::eight_rows` meets its contract.
use Rattle.std.proofs.Common.{drop}
use Rattle.model.specs.Commands.{rows_of_b}
use Rattle.commands.proofs.EightRows.{Added}
use Rattle.commands.proofs.eight_rows.Given as goal

abbrev pub invariant-loop-i : goal.invariant-loop-i
invariant-loop-i l = Added l.fn.p (rows_of_b (drop l.at l.job)) l.i l.q
