-- `engine::row_block::read_eights` meets its contract.
use Rattle.std.proofs.Common.{◌-◌, length}
use Rattle.engine.specs.RowBlocks.{ReadsInto}
use Rattle.engine.proofs.row_block.read_eights.Given as goal

abbrev pub invariant-loop-s : goal.invariant-loop-s
invariant-loop-s l = ReadsInto l.s l.job l.at l.initial.rows l.i l.rows

abbrev pub decreases-loop-s : goal.decreases-loop-s
decreases-loop-s l = length l.job - l.i
