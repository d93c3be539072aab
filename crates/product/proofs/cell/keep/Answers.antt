-- `product::cell::keep` meets its contract.
use Rattle.std.proofs.Common.{arith}
use Rattle.product.proofs.Putting.{keep_none, keep_put, keep_skip, keep_end}
use Rattle.product.proofs.cell.keep.Goals.{else-r-p-ne0, then-r-p-ne0}
use Rattle.product.proofs.cell.keep.Goals as goal

pub loop-p-init : goal.loop-p-init
loop-p-init c = keep_none _ _ _ c.requires.1

pub loop-p-preserved : goal.loop-p-preserved
loop-p-preserved c =
    elim c.if-r-p-ne0.branch [ then-r-p-ne0 w ↦ rw (w.to-is, w.kept-is) (keep_put c.loop-p.invariant c.loop-p-test.true c.requires.0 w.if-r-p-ne0.true) | else-r-p-ne0 w ↦ rw (w.to-is, w.kept-is) (keep_skip c.loop-p.invariant c.loop-p-test.true w.if-r-p-ne0.false) ]

pub returns : goal.returns
returns c = keep_end c.loop-p.invariant (omega arith)
