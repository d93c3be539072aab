-- `engine::row_block::place_behind` meets its contract.
use borrow.Author.Tests.{lt-ltb, le-ltb}
use Rattle.engine.proofs.row_block.place_behind.Goals as goal

pub returns-then-at-end : goal.returns-then-at-end
returns-then-at-end c = rw (lt-ltb _ _ c.if-at-end.true) c.number.ensures

pub returns : goal.returns
returns c = rw (le-ltb _ _ c.if-at-end.false)
