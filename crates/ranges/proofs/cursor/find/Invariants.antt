-- `ranges::cursor::find` meets its contract. The invariant: no listed set was passed from the place to the cursor.
use Rattle.std.proofs.Common.{◌≡◌, ℕ, List, length}
use Rattle.lister.specs.Lister.{coming}
use Rattle.lister.specs.Selected.{room}
use Rattle.ranges.specs.Listed.{row_possibles}
use Rattle.ranges.proofs.cursor.find.Given as goal

abbrev pub invariant-loop-known : goal.invariant-loop-known
invariant-loop-known l =
    let m = l.market in
    let list : List ℕ = row_possibles (length m.low.now) m.rows.now m.low.now m.high.now in coming list l.c ≡ coming list l.place

abbrev pub decreases-loop-known : goal.decreases-loop-known
decreases-loop-known l = room l.c
