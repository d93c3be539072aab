-- `table::blocks::holds_no_off` meets its contract. The invariant: at the vertices passed, b holds no off cell. Assumes nothing.
use Rattle.table.proofs.Vertices.{NoOffBelow}
use Rattle.table.proofs.blocks.holds_no_off.Given as goal

abbrev pub invariant-loop-v : goal.invariant-loop-v
invariant-loop-v l = NoOffBelow l.may l.b l.v
