-- `lister_narrowing::narrow` meets its contract. The invariant: what is left now loses no irredundant cover of s and free.
use Rattle.lister_narrowing.specs.Narrowing.{Narrowed}
use Rattle.lister_narrowing.proofs.narrow.Given as goal

abbrev pub invariant-loop-next : goal.invariant-loop-next
invariant-loop-next l = Narrowed l.rows l.s l.free l.now

abbrev pub decreases-loop-next : goal.decreases-loop-next
decreases-loop-next l = l.now.free
