-- `engine::row_block::read_rows` meets its contract.
use Rattle.std.proofs.Common.{◌-◌, ◌≤◌, length}
use Rattle.engine.specs.RowBlocks.{ReadsInto}
use Rattle.engine.proofs.row_block.read_rows.Given as goal

-- read up to `end`, the last B commands from i on
abbrev pub invariant-loop-i : goal.invariant-loop-i
invariant-loop-i l = (l.i ≤ l.end) × ReadsInto l.s l.job l.initial.end l.initial.rows l.end l.rows

abbrev pub decreases-loop-i : goal.decreases-loop-i
decreases-loop-i l = length l.job - l.i
