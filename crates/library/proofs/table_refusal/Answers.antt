-- `library::table_refusal` meets its contract.
use Rattle.library.specs.Library.{called_table}
use Rattle.library.proofs.Calling.{passed_all}
use Rattle.library.proofs.table_refusal.Goals as goal

pub returns : goal.returns
returns c = let a = c.args in passed_all (called_table a.n a.m a.on.now a.dc.now) a.count _ c.sizes_right.ensures c.if-not-sizes_right.false
    _ c.some_bad.ensures c.if-some_bad.false c.if-count-ge65.false
