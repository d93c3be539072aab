-- `incidence::presence::presence` meets its contract. The invariant: after each vertex it stands at the product of the sums up to its last
-- point, formula (4). Assumes nothing.
use Rattle.incidence.specs.Presence.{StandsAt}
use Rattle.incidence.proofs.presence.presence.Given as goal

abbrev pub invariant-loop-v : goal.invariant-loop-v
invariant-loop-v l = StandsAt l.on l.n l.m l.candidates l.blocks l.held l.set l.v 0 l.product
