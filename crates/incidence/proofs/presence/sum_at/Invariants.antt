-- `incidence::presence::sum_at` meets its contract. The invariant: formula (3) up to function i. Assumes nothing.
use Rattle.model.specs.Table.{cell}
use Rattle.incidence.proofs.Sums.{Summed}
use Rattle.incidence.proofs.presence.sum_at.Given as goal

abbrev pub invariant-loop-i : goal.invariant-loop-i
invariant-loop-i l = Summed l.f.care l.f.value l.f.outputs (cell l.v l.j) l.i l.sum
