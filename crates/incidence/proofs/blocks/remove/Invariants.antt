-- `incidence::blocks::remove` meets its contract. The invariant: the sets of the vertices passed are done.
use Rattle.bits.specs.Bits.{removed}
use Rattle.incidence.proofs.Changes.{ChangedBelow}
use Rattle.incidence.proofs.blocks.remove.Given as goal

abbrev pub invariant-loop-s : goal.invariant-loop-s
invariant-loop-s l = ChangedBelow (λ u s. removed l.k s) l.initial.held l.s-index l.held
