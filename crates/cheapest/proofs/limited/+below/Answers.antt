-- The proof of the cycle of calls {below}: the measure is free.
use Rattle.std.proofs.Common.{arith}
use Rattle.bits.proofs.Parts.{part_le, minus_member_less}
use Rattle.cheapest_bounds.proofs.Costing.{cost_fits, small_entries}
use Rattle.cheapest.proofs.Parting.{priced_other, priced_this}
use Rattle.cheapest.proofs.Valuing.{priced_with, priced_fits}
use Rattle.cheapest.proofs.Following.{planned_split, planned_branch}
use Rattle.cheapest.proofs.Limiting.{below_cut, below_met, below_sufficient, below_with, below_without, below_over, below_parts}
use Rattle.cheapest.proofs.limited.+below.Goals as goal

pub limit_below-lower-requires : goal.limit_below-lower-requires
limit_below-lower-requires t c = c.requires.common_unit.positive

pub invariant_of-node : goal.invariant_of-node
invariant_of-node t c = record {
  few_rows = c.requires.rows_len_bound;
  few_costs = c.requires.priced.few;
  cost_is = c.requires.priced.is;
  cost_small = (priced_fits _ _ _ _ (small_entries c.args.costs.now c.type_inv.costs) c.requires.priced).0;
}

pub total-spent-requires : goal.total-spent-requires
total-spent-requires t c =
    c.requires.priced.few

pub overflow_add-over : goal.overflow_add-over
overflow_add-over t c =
    let small = small_entries c.args.costs.now c.type_inv.costs in
    omega (arith, (priced_fits _ _ _ _ small c.requires.priced).1, cost_fits _ _ _ c.requires.priced.few small c.total-spent.ensures)

pub overflow_add-cost : goal.overflow_add-cost
overflow_add-cost t c =
    let small = small_entries c.args.costs.now c.type_inv.costs in
    omega (arith, (priced_fits _ _ _ _ small c.requires.priced).0, cost_fits _ _ _ c.requires.priced.few small c.total-spent.ensures)

pub value-p-requires : goal.value-p-requires
value-p-requires t c =
    let planned = planned_split _ _ _ _ _ _ _ _ c.in-Split.ensures in record { rows_len_bound = c.requires.rows_len_bound; common_unit = c.requires.common_unit; priced = priced_other _ _ _ _ _ _ planned.1.apart planned.1.component c.minus-other.ensures _ _ _ c.requires.priced c.total-spent.ensures }

pub returns-then-over-p : goal.returns-then-over-p
returns-then-over-p t c =
    let planned = planned_split _ _ _ _ _ _ _ _ c.in-Split.ensures in
    below_sufficient _ _ _ _ _ _ _ c.requires.common_unit c.limit_below-lower.ensures _ _ planned.0
    (below_over _ _ _ _ _ _ _ planned.1.apart planned.1.component c.minus-other.ensures _ _ c.value-p.ensures c.total-spent.ensures c.if-over-p.true)

pub total-requires : goal.total-requires
total-requires t c =
    c.requires.priced.few

pub overflow_add-paid : goal.overflow_add-paid
overflow_add-paid t c =
    let small = small_entries c.args.costs.now c.type_inv.costs in
    omega (arith, (priced_fits _ _ _ _ small c.requires.priced).0, cost_fits _ _ _ c.requires.priced.few small c.total.ensures)

pub below-requires : goal.below-requires
below-requires t c =
    let planned = planned_split _ _ _ _ _ _ _ _ c.in-Split.ensures in (
      omega (arith, c.decreases, planned.1.other_less _ c.minus-other.ensures, part_le _ _ planned.0.part),
      (c.requires.rows_len_bound, (c.requires.common_unit, priced_this _ _ _ _ _ _ planned.1.apart planned.1.component c.minus-other.ensures _ _ _ c.value-p.result.set c.requires.priced c.total.ensures)),
    )

pub price-requires : goal.price-requires
price-requires t c =
    (planned_branch _ _ _ _ _ _ _ _ c.in-Branch.ensures).1.single

pub overflow_add-paid-in-Branch : goal.overflow_add-paid-in-Branch
overflow_add-paid-in-Branch t c =
    omega (arith, (priced_fits _ _ _ _ (small_entries c.args.costs.now c.type_inv.costs) c.requires.priced).0, c.price.ensures.small)

pub below-requires-in-Branch : goal.below-requires-in-Branch
below-requires-in-Branch t c =
    let planned = planned_branch _ _ _ _ _ _ _ _ c.in-Branch.ensures in (
      omega (arith, c.decreases, minus_member_less _ _ _ planned.1 c.minus-rest.ensures, part_le _ _ planned.0.part),
      (c.requires.rows_len_bound, (c.requires.common_unit, priced_with _ _ _ _ _ _ c.requires.priced c.price.ensures planned.2)),
    )

pub returns-in-Some : goal.returns-in-Some
returns-in-Some t c =
    let planned = planned_branch _ _ _ _ _ _ _ _ c.in-Branch.ensures in
    below_sufficient _ _ _ _ _ _ _ c.requires.common_unit c.limit_below-lower.ensures _ _ planned.0
    (below_with _ _ _ _ _ _ _ planned.1 c.minus-rest.ensures _ c.in-Some.ensures)

pub below-requires-in-None : goal.below-requires-in-None
below-requires-in-None t c =
    let planned = planned_branch _ _ _ _ _ _ _ _ c.in-Branch.ensures in (
      omega (arith, c.decreases, minus_member_less _ _ _ planned.1 c.minus-rest.ensures, part_le _ _ planned.0.part),
      (c.requires.rows_len_bound, (c.requires.common_unit, c.requires.priced)),
    )

pub returns-in-Cut : goal.returns-in-Cut
returns-in-Cut t c =
    below_cut _ _ _ _ _ _ _ c.requires.common_unit c.limit_below-lower.ensures _ c.in-Cut.ensures

pub returns-in-Done : goal.returns-in-Done
returns-in-Done t c =
    below_met _ _ _ _ _ _ _ c.requires.common_unit c.limit_below-lower.ensures _ c.requires.priced.is c.in-Done.ensures

pub returns-else-over-p : goal.returns-else-over-p
returns-else-over-p t c =
    let planned = planned_split _ _ _ _ _ _ _ _ c.in-Split.ensures in
    below_sufficient _ _ _ _ _ _ _ c.requires.common_unit c.limit_below-lower.ensures _ _ planned.0
    (below_parts _ _ _ _ _ _ _ planned.1.apart planned.1.component c.minus-other.ensures _ _ c.value-p.ensures _ c.if-over-p.false c.below.ensures)

pub returns-in-None : goal.returns-in-None
returns-in-None t c =
    let planned = planned_branch _ _ _ _ _ _ _ _ c.in-Branch.ensures in
    below_sufficient _ _ _ _ _ _ _ c.requires.common_unit c.limit_below-lower.ensures _ _ planned.0
    (below_without _ _ _ _ _ _ _ planned.1 c.minus-rest.ensures _ c.in-None.ensures c.below-in-None.ensures)
