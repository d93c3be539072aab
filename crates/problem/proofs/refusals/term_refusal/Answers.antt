-- `problem::refusals::term_refusal` meets its contract.
use Rattle.table.proofs.Legality.{formed_cube}
use Rattle.problem.proofs.Refusing.{term_off, term_good}
use Rattle.problem.proofs.refusals.term_refusal.Goals as goal

pub holds_no_off-requires : goal.holds_no_off-requires
holds_no_off-requires c = formed_cube _ _ _ _ c.requires.0 c.formed.ensures c.if-not-formed.false

pub returns-then-not-holds_no_off : goal.returns-then-not-holds_no_off
returns-then-not-holds_no_off c = term_off _ _ _ _ _ c.formed.ensures _ c.holds_no_off.ensures c.if-not-formed.false c.if-not-holds_no_off.true

pub returns : goal.returns
returns c = term_good _ _ _ _ _ c.formed.ensures _ c.holds_no_off.ensures c.if-not-formed.false c.if-not-holds_no_off.false
