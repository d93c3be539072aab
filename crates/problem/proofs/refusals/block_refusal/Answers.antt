-- `problem::refusals::block_refusal` meets its contract.
use Rattle.problem.proofs.Refusing.{block_off, block_good}
use Rattle.problem.proofs.refusals.block_refusal.Goals as goal

pub returns-then-not-holds_no_off : goal.returns-then-not-holds_no_off
returns-then-not-holds_no_off c = block_off _ _ _ _ _ c.formed.ensures _ c.holds_no_off.ensures c.if-not-formed.false c.if-not-holds_no_off.true

pub returns : goal.returns
returns c = block_good _ _ _ _ _ c.formed.ensures _ c.holds_no_off.ensures c.if-not-formed.false c.if-not-holds_no_off.false
