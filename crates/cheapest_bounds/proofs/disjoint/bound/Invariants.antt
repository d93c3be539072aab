-- `cheapest_bounds::disjoint::bound` meets its contract. The invariant: each cover there has members in used that cost sum or more.
use Rattle.cheapest_bounds.proofs.Bounding.{Packed}
use Rattle.cheapest_bounds.proofs.disjoint.bound.Given as goal

abbrev pub invariant-loop-row : goal.invariant-loop-row
invariant-loop-row l = Packed l.rows l.costs l.s l.free l.used l.sum
