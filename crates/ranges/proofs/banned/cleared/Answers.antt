-- `ranges::banned::cleared` meets its contract.
use Rattle.std.proofs.Common.{arith}
use Rattle.ranges.proofs.Banning.{clearing_more}
use Rattle.ranges.proofs.banned.cleared.Goals as goal

pub loop-i-preserved : goal.loop-i-preserved
loop-i-preserved c = clearing_more _ _ _ _ _ c.loop-i.invariant (omega arith) c.minus.ensures
