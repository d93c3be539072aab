-- `cheapest_bounds::disjoint::bound` meets its contract. The invariant: each cover there has members in used that cost sum or more.
use Rattle.std.proofs.Common.{arith}
use Rattle.cheapest_bounds.proofs.Costing.{small_entries}
use Rattle.cheapest_bounds.proofs.Bounding.{packed_none, packed_more, packed_as, packed_small, packed_all, bound_lost}
use Rattle.cheapest_bounds.proofs.disjoint.bound.Goals.{in-Some, in_default}
use Rattle.cheapest_bounds.proofs.disjoint.bound.Goals as goal

pub loop-row-init : goal.loop-row-init
loop-row-init c = packed_none _ _ _ _

pub returns-then-row-s-eq0 : goal.returns-then-row-s-eq0
returns-then-row-s-eq0 c = bound_lost _ _ _ _ _ (omega arith) c.if-row-s-eq0.true

pub overflow_add-sum : goal.overflow_add-sum
overflow_add-sum c =
    omega (arith, c.floor-sum.ensures.small, packed_small _ _ _ _ _ _ c.requires (small_entries c.args.costs.now c.type_inv.costs) c.loop-row.invariant)

pub loop-row-preserved : goal.loop-row-preserved
loop-row-preserved c = elim c.match-fresh.branch [
  | in-Some w ↦ packed_as _ _ _ _ w.used-is w.sum-is
      (packed_more _ _ _ _ _ _ _ _ _ c.loop-row.invariant (omega arith) c.if-row-s-eq0.false w.in-Some.ensures w.floor-sum.ensures)
  | in_default w ↦ packed_as _ _ _ _ w.used-is w.sum-is c.loop-row.invariant
]

pub returns : goal.returns
returns c =
    packed_all _ _ _ _ _ _ c.requires (small_entries c.args.costs.now c.type_inv.costs) c.loop-row.invariant
