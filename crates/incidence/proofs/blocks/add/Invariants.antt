-- `incidence::blocks::add` meets its contract. The invariant: the sets of the vertices below v are done.
use Rattle.std.proofs.Common.{cond}
use Rattle.std.specs.Int.Bits.{bit_or}
use Rattle.table.specs.Blocks.{vertex_in}
use Rattle.incidence.proofs.Changes.{ChangedBelow}
use Rattle.incidence.proofs.blocks.add.Given as goal

abbrev pub invariant-loop-v : goal.invariant-loop-v
invariant-loop-v l = ChangedBelow (λ u s. cond (vertex_in l.b.vertices u) (bit_or s l.member) s) l.initial.held l.v l.held
