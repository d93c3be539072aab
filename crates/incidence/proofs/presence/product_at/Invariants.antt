-- `incidence::presence::product_at` meets its contract. The invariant: after each point of the vertex it stands at the product of the sums up to
-- that point, formula (4). Assumes nothing.
use Rattle.incidence.specs.Presence.{AtVertex}
use Rattle.incidence.proofs.presence.product_at.Given as goal

abbrev pub invariant-loop-j : goal.invariant-loop-j
invariant-loop-j l = AtVertex l.initial.product l.on l.f.care l.f.value l.f.outputs l.held l.driving l.v l.m l.j l.product
