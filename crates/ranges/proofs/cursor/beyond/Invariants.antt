-- `ranges::cursor::beyond` meets its contract. The invariant: no listed set was passed from x to the cursor.
use Rattle.std.proofs.Common.{false, length}
use Rattle.lister.specs.Selected.{Passed}
use Rattle.ranges.specs.Listed.{row_possibles}
use Rattle.ranges.proofs.cursor.beyond.Given as goal

abbrev pub invariant-loop-i : goal.invariant-loop-i
invariant-loop-i l =
    let m = l.market in
    Passed (row_possibles (length m.low.now) m.rows.now m.low.now m.high.now) (record { at = l.x; over = false }) l.c
