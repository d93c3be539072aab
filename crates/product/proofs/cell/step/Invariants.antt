-- `product::cell::step` meets its contract: what is put so far, and what the products left leave, is the whole.
use Rattle.product.proofs.Putting.{Stepping}
use Rattle.product.proofs.cell.step.Given as goal

abbrev pub invariant-loop-p : goal.invariant-loop-p
invariant-loop-p l = Stepping l.r l.ps l.to l.kept l.count l.p-index
