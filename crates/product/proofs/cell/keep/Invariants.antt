-- `product::cell::keep` meets its contract.
use Rattle.product.proofs.Putting.{Keeping}
use Rattle.product.proofs.cell.keep.Given as goal

abbrev pub invariant-loop-p : goal.invariant-loop-p
invariant-loop-p l = Keeping l.r l.ps l.to l.kept l.p-index
