-- `product::multiply_rows` meets its contract: the row whose turn it is holds the products, and they are sorted.
use Rattle.product.proofs.Turns.{done_first, done_second}
use Rattle.product.proofs.multiply_rows.Goals.{then-rows-eq0, else-rows-eq0}
use Rattle.product.proofs.multiply_rows.Goals as goal

pub returns : goal.returns
returns c = elim c.if-rows-eq0.branch [ then-rows-eq0 w ↦ rw w.last-is (done_first c.args.first c.args.second _ c.in-Ok.ensures w.if-rows-eq0.true (rw w.last-is at c.sort.ensures)) | else-rows-eq0 w ↦ rw w.last-is (done_second c.args.first c.args.second _ c.in-Ok.ensures w.if-rows-eq0.false (rw w.last-is at c.sort.ensures)) ]
