-- `library::fill_row` meets its contract.
use Rattle.std.proofs.Common.{refl}
use Rattle.library.proofs.Calling.{row_filled, row_refused}
use Rattle.library.proofs.fill_row.Goals as goal

pub returns-then-m : goal.returns-then-m
returns-then-m c = row_filled c.prepare-m.ensures c.if-m.true refl refl c.fill.ensures

pub returns : goal.returns
returns c = row_refused c.prepare-m.ensures c.args.start c.if-m.false
