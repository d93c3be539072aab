-- `lister_extension::scarcest` meets its contract. The invariant: pick is a member of q, and the members to come are a part of q.
use Rattle.bits.specs.Bits.{Part, Member}
use Rattle.lister_extension.proofs.scarcest.Given as goal

abbrev pub invariant-loop-b : goal.invariant-loop-b
invariant-loop-b l = record { picked : Member l.q l.pick; within : Part l.b-iterator.rest l.q }
