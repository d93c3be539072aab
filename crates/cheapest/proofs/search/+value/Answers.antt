-- The proof of the cycle of calls {value}: the measure is free.
use Rattle.std.proofs.Common.{arith}
use Rattle.bits.proofs.Parts.{part_le, minus_member_less}
use Rattle.cheapest.proofs.Parting.{priced_other, priced_this, valued_over, valued_parts}
use Rattle.cheapest_bounds.proofs.Costing.{cost_fits, small_entries}
use Rattle.cheapest.proofs.Valuing.{valued_both, priced_with, priced_less, priced_fits}
use Rattle.cheapest.proofs.Following.{valued_cut, valued_met, valued_sufficient, planned_split, planned_branch}
use Rattle.cheapest.proofs.search.+value.Goals as goal

pub limit_below-limit-requires : goal.limit_below-limit-requires
limit_below-limit-requires t c = c.requires.common_unit.positive

pub invariant_of-node : goal.invariant_of-node
invariant_of-node t c = record {
  few_rows = c.requires.rows_len_bound;
  few_costs = c.requires.priced.few;
  cost_is = c.requires.priced.is;
  cost_small = (priced_fits _ _ _ _ (small_entries c.args.costs.now c.type_inv.costs) c.requires.priced).0;
}

pub total-spent-requires : goal.total-spent-requires
total-spent-requires t c = c.requires.priced.few

pub overflow_add-over : goal.overflow_add-over
overflow_add-over t c =
    let small = small_entries c.args.costs.now c.type_inv.costs in
    omega (arith, (priced_fits _ _ _ _ small c.requires.priced).1, cost_fits _ _ _ c.requires.priced.few small c.total-spent.ensures)

pub overflow_add-cost : goal.overflow_add-cost
overflow_add-cost t c =
    let small = small_entries c.args.costs.now c.type_inv.costs in
    omega (arith, (priced_fits _ _ _ _ small c.requires.priced).0, cost_fits _ _ _ c.requires.priced.few small c.total-spent.ensures)

pub value-p-requires : goal.value-p-requires
value-p-requires t c =
    let planned = planned_split _ _ _ _ _ _ _ _ c.in-Split.ensures in (
      omega (arith, c.decreases, planned.1.less, part_le _ _ planned.0.part),
      (c.requires.rows_len_bound, (c.requires.common_unit, priced_other _ _ _ _ _ _ planned.1.apart planned.1.component c.minus-other.ensures _ _ _ c.requires.priced c.total-spent.ensures)),
    )

pub returns-then-over-p : goal.returns-then-over-p
returns-then-over-p t c =
    let planned = planned_split _ _ _ _ _ _ _ _ c.in-Split.ensures in
    valued_sufficient _ _ _ _ _ _ c.args.best c.requires.common_unit c.limit_below-limit.ensures _ _ planned.0
    (valued_over _ _ _ _ _ _ planned.1.apart planned.1.component c.minus-other.ensures _ _ _ c.total-spent.ensures c.value-p.ensures c.if-over-p.true)

pub total-requires : goal.total-requires
total-requires t c =
    c.requires.priced.few

pub overflow_add-paid : goal.overflow_add-paid
overflow_add-paid t c =
    let small = small_entries c.args.costs.now c.type_inv.costs in
    omega (arith, (priced_fits _ _ _ _ small c.requires.priced).0, cost_fits _ _ _ c.requires.priced.few small c.total.ensures)

pub value-requires : goal.value-requires
value-requires t c =
    let planned = planned_split _ _ _ _ _ _ _ _ c.in-Split.ensures in (
      omega (arith, c.decreases, planned.1.other_less _ c.minus-other.ensures, part_le _ _ planned.0.part),
      (c.requires.rows_len_bound, (c.requires.common_unit, priced_this _ _ _ _ _ _ planned.1.apart planned.1.component c.minus-other.ensures _ _ _ c.value-p.result.set c.requires.priced c.total.ensures)),
    )

pub price-requires : goal.price-requires
price-requires t c =
    (planned_branch _ _ _ _ _ _ _ _ c.in-Branch.ensures).1.single

pub overflow_add-paid-in-Branch : goal.overflow_add-paid-in-Branch
overflow_add-paid-in-Branch t c =
    omega (arith, (priced_fits _ _ _ _ (small_entries c.args.costs.now c.type_inv.costs) c.requires.priced).0, c.price.ensures.small)

pub value-with-requires : goal.value-with-requires
value-with-requires t c =
    let planned = planned_branch _ _ _ _ _ _ _ _ c.in-Branch.ensures in (
      omega (arith, c.decreases, minus_member_less _ _ _ planned.1 c.minus-rest.ensures, part_le _ _ planned.0.part),
      (c.requires.rows_len_bound, (c.requires.common_unit, priced_with _ _ _ _ _ _ c.requires.priced c.price.ensures planned.2)),
    )

pub value-requires-in-Branch : goal.value-requires-in-Branch
value-requires-in-Branch t c =
    let planned = planned_branch _ _ _ _ _ _ _ _ c.in-Branch.ensures in (
      omega (arith, c.decreases, minus_member_less _ _ _ planned.1 c.minus-rest.ensures, part_le _ _ planned.0.part),
      (c.requires.rows_len_bound, (c.requires.common_unit, priced_less _ _ _ _ _ c.requires.priced c.value-with.ensures.within)),
    )

pub returns-in-Cut : goal.returns-in-Cut
returns-in-Cut t c =
    valued_cut _ _ _ _ _ _ c.args.best c.requires.common_unit c.limit_below-limit.ensures _ c.in-Cut.ensures

pub returns-in-Done : goal.returns-in-Done
returns-in-Done t c =
    valued_met _ _ _ _ _ _ c.args.best c.requires.common_unit c.limit_below-limit.ensures _ c.requires.priced.is c.in-Done.ensures

pub returns-else-over-p : goal.returns-else-over-p
returns-else-over-p t c =
    let planned = planned_split _ _ _ _ _ _ _ _ c.in-Split.ensures in
    valued_sufficient _ _ _ _ _ _ c.args.best c.requires.common_unit c.limit_below-limit.ensures _ _ planned.0
    (valued_parts _ _ _ _ _ _ planned.1.apart planned.1.component c.minus-other.ensures _ _ _ _ c.value-p.ensures c.if-over-p.false c.value.ensures)

pub returns-in-Branch : goal.returns-in-Branch
returns-in-Branch t c =
    let planned = planned_branch _ _ _ _ _ _ _ _ c.in-Branch.ensures in
    valued_sufficient _ _ _ _ _ _ c.args.best c.requires.common_unit c.limit_below-limit.ensures _ _ planned.0
    (valued_both _ _ _ _ _ _ _ _ _ planned.1 c.minus-rest.ensures c.value-with.ensures c.value-in-Branch.ensures)
