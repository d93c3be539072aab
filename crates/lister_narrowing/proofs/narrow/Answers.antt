-- `lister_narrowing::narrow` meets its contract. The invariant: what is left now loses no irredundant cover of s and free.
use Rattle.lister_narrowing.proofs.Tightening.{narrowed_self, narrowed_none}
use Rattle.lister_narrowing.proofs.narrow.Goals as goal

pub loop-next-init : goal.loop-next-init
loop-next-init c = narrowed_self _ _ _

pub returns-in_err-next : goal.returns-in_err-next
returns-in_err-next c = rw c.from_residual.ensures (narrowed_none c.loop-next.invariant c.in_err-next.ensures)
