-- `ranges::rivals::contest_met` meets its contract.
use Rattle.std.proofs.Common.{arith}
use Rattle.ranges.proofs.Contesting.{contest_rival}
use Rattle.ranges.proofs.rivals.contest_met.Goals as goal

pub returns : goal.returns
returns g c =
    let here = c.over.ensures in
    contest_rival _ _ _ _ _ _ _ _ c.met-n.ensures (omega (arith, c.met-n.ensures.few, c.met-n.ensures.size_is)) (rw (here.rows_are, here.low_is, here.high_is) at c.contest.ensures)
