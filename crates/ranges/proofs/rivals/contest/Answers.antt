-- `ranges::rivals::contest` meets its contract.
use Rattle.ranges.proofs.Mixing.{mixed_unit}
use Rattle.ranges.proofs.Contesting.{contest_found, contest_none}
use Rattle.ranges.proofs.rivals.contest.Goals as goal

pub hunt-requires-clause-common_unit : goal.hunt-requires-clause-common_unit
hunt-requires-clause-common_unit c =
    let q = c.args.market.now.quoted in mixed_unit _ _ _ _ _ _ c.mixed-w.ensures q.lows q.highs

pub returns-in_err-best : goal.returns-in_err-best
returns-in_err-best c =
    rw c.from_residual.ensures (contest_none _ _ _ _ _ _ _ c.all-free.ensures c.mixed-w.ensures c.cost-limit.ensures.value c.in_err-best.ensures)

pub returns : goal.returns
returns c =
    contest_found _ _ _ _ _ _ _ c.all-free.ensures c.mixed-w.ensures c.cost-limit.ensures.value _ c.in_ok-best.ensures
