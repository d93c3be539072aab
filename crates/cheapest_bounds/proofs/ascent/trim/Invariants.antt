-- `cheapest_bounds::ascent::trim` meets its contract. The invariant: kept is trimmed from free.
use Rattle.cheapest_bounds.specs.Ascent.{Trimmed}
use Rattle.cheapest_bounds.proofs.ascent.trim.Given as goal

abbrev pub invariant-loop-m : goal.invariant-loop-m
invariant-loop-m l = Trimmed l.left l.free l.spare l.kept
