-- `ranges::weights::mixed` meets its contract. The invariant: the first i entries are put together, the others are 0.
use Rattle.ranges.proofs.Mixing.{Mixing}
use Rattle.ranges.proofs.weights.mixed.Given as goal

abbrev pub invariant-loop-i : goal.invariant-loop-i
invariant-loop-i l = Mixing l.first l.second l.a l.b l.w l.i
