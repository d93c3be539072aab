-- `cheapest::search::first` meets its contract. The invariant: the witness is a cover in [s, s + 2^i) that costs best, and none that does is below s.
use Rattle.std.proofs.Common.{◌-◌, arith, pow_pos}
use Rattle.rows.proofs.Nodes.{halves}
use Rattle.cheapest_bounds.proofs.Costing.{cost_fits, small_entries}
use Rattle.cheapest.proofs.FirstCover.{witnessed_none, witnessed_lacks, witnessed_with, witnessed_without, witnessed_all, power_single, best_fits, priced_without}
use Rattle.cheapest.proofs.search.first.Goals as goal

pub loop-i-init : goal.loop-i-init
loop-i-init c = witnessed_none _ _ _ _ c.requires.n_bound c.requires.least_cost

pub power-m-requires : goal.power-m-requires
power-m-requires c = omega (arith, c.loop-i-test.true, c.loop-i.invariant.node.small)

pub overflow_add-limit : goal.overflow_add-limit
overflow_add-limit c =
    omega (arith, best_fits _ _ _ _ c.requires.costs_len_bound (small_entries c.args.costs.now c.type_inv.costs) c.requires.least_cost)

pub low_mask-requires : goal.low_mask-requires
low_mask-requires c = omega (arith, c.loop-i.invariant.node.small)

pub value-without-requires : goal.value-without-requires
value-without-requires c =
    record {
      rows_len_bound = c.requires.rows_len_bound;
      common_unit = c.requires.common_unit;
      priced = priced_without _ _ _ _ _ _ _ _ c.requires.costs_len_bound (small_entries c.args.costs.now c.type_inv.costs) c.requires.least_cost c.loop-i.invariant _
          (omega arith);
    }

pub loop-i-preserved-then-without-best : goal.loop-i-preserved-then-without-best
loop-i-preserved-then-without-best c =
    witnessed_without _ _ _ _ _ _ _ _ _ c.requires.least_cost c.loop-i.invariant c.loop-i-test.true c.power-m.ensures _ _ c.low_mask.ensures
    c.value-without.ensures c.if-without-best.true

pub price-cost-requires : goal.price-cost-requires
price-cost-requires c = power_single _ _ c.power-m.ensures

pub overflow_add-cost : goal.overflow_add-cost
overflow_add-cost c =
    omega (arith, cost_fits _ _ _ c.requires.costs_len_bound (small_entries c.args.costs.now c.type_inv.costs) c.loop-i.invariant.cost_is, c.price-cost.ensures.small)

pub overflow_add-s : goal.overflow_add-s
overflow_add-s c =
    omega (arith, c.power-m.ensures, halves c.loop-i.i c.loop-i-test.true, c.loop-i.invariant.node.room, pow_pos (c.loop-i.i - 1))

pub loop-i-preserved-else-without-best : goal.loop-i-preserved-else-without-best
loop-i-preserved-else-without-best c =
    witnessed_with _ _ _ _ _ _ _ _ _ c.requires.least_cost c.loop-i.invariant c.loop-i-test.true c.power-m.ensures _ _ c.low_mask.ensures
    c.value-without.ensures _ c.if-without-best.false c.price-cost.ensures

pub loop-i-preserved : goal.loop-i-preserved
loop-i-preserved c =
    witnessed_lacks _ _ _ _ _ _ _ _ _ c.requires.least_cost c.loop-i.invariant c.loop-i-test.true c.power-m.ensures c.if-witness-m-ne0.false

pub returns : goal.returns
returns c = witnessed_all _ _ _ _ _ _ _ _ (omega (arith, c.loop-i-test.false)) c.requires.least_cost c.loop-i.invariant
