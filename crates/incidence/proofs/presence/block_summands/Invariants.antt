-- `incidence::presence::block_summands` meets its contract. The invariant: the outputs passed have their sets.
use Rattle.incidence.specs.Presence.{BlockSummands}
use Rattle.incidence.proofs.presence.block_summands.Given as goal

abbrev pub invariant-loop-j : goal.invariant-loop-j
invariant-loop-j l = BlockSummands l.candidates l.set l.j l.sets
