-- `engine::job::run` meets its contract: each turn of the loop is one law of `Running`, and of `RowBlocks` where rows are read.
use Rattle.std.proofs.Common.{◌-◌, length}
use Rattle.engine.proofs.Running.{Going}
use Rattle.engine.proofs.job.run.Given as goal

abbrev pub invariant-loop-at : goal.invariant-loop-at
invariant-loop-at l = Going l.job l.initial.answers l.answers l.held l.p l.rows l.kept l.at l.written

abbrev pub decreases-loop-at : goal.decreases-loop-at
decreases-loop-at l = length l.job - l.at
