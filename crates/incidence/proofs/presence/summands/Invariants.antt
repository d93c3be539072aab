-- `incidence::presence::summands` meets its contract. The invariant: the first i functions stand in the columns. Assumes nothing.
use Rattle.incidence.proofs.Sums.{InColumns}
use Rattle.incidence.proofs.presence.summands.Given as goal

abbrev pub invariant-loop-i : goal.invariant-loop-i
invariant-loop-i l = InColumns l.candidates l.set l.i l.care l.value l.outputs
