-- `commands::eight_rows` meets its contract.
use Rattle.std.proofs.Common.{refl, arith}
use Rattle.model.proofs.Reasons.{has_number}
use Rattle.commands.proofs.Handling.{passed_on}
use Rattle.commands.proofs.EightRows.{added_none, added_sized, row_next, row_stops, rows_done}
use Rattle.commands.proofs.eight_rows.Goals as goal

pub loop-i-init : goal.loop-i-init
loop-i-init c = added_none _

pub row-requires : goal.row-requires
row-requires c = added_sized c.requires.reached c.requires.begun_le_place.0 c.requires.begun_le_place.1 c.loop-i.invariant

pub returns-in_err-q : goal.returns-in_err-q
returns-in_err-q c = let a = c.args in
    row_stops a.job.now a.at c.loop-i.invariant (omega arith) c.from-first.ensures c.in_err-q.ensures (has_number _) (passed_on _ _ _ c.from_residual.ensures.1)

pub loop-i-preserved : goal.loop-i-preserved
loop-i-preserved c = let a = c.args in
    row_next a.job.now a.at c.loop-i.invariant (omega arith) c.from-first.ensures c.in_ok-q.ensures refl

pub returns : goal.returns
returns c = rows_done _ c.loop-i.invariant (omega arith)
