-- `lister_narrowing::tighten` meets its contract.
use Rattle.lister_narrowing.proofs.Tightening.{tightened_never, tightened_once}
use Rattle.lister_narrowing.proofs.tighten.Goals as goal

pub returns-then-infeasible : goal.returns-then-infeasible
returns-then-infeasible c = tightened_never _ _ _ _ c.in_ok-found.ensures (c.infeasible.ensures c.if-infeasible.true)

pub returns : goal.returns
returns c = tightened_once _ _ _ _ c.in_ok-found.ensures _ _ c.minus-left.ensures c.minus.ensures
