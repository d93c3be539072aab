-- `cheapest_bounds::costs::total` meets its contract. The invariant: the sum and the cost of what is still to come make the cost of x.
use Rattle.std.proofs.Common.{arith}
use Rattle.cheapest_bounds.proofs.Costing.{small_entries, totalled, total_fits, total_all}
use Rattle.cheapest_bounds.proofs.costs.total.Goals as goal

pub price-sum-requires : goal.price-sum-requires
price-sum-requires c = c.in-Some.ensures.steps.lowest.member.single

pub overflow_add-sum : goal.overflow_add-sum
overflow_add-sum c =
    omega (arith, c.price-sum.ensures.small, total_fits _ _ _ _ c.requires (small_entries c.args.costs.now c.type_inv.costs) c.loop-m.invariant)

pub loop-m-preserved : goal.loop-m-preserved
loop-m-preserved c =
    let t = c.in-Some.ensures.steps in
    totalled _ _ _ _ _ _ _ t.lowest.member t.others c.price-sum.ensures c.loop-m.invariant

pub returns : goal.returns
returns c = total_all _ _ _ _ c.in-None.ensures.steps.0 c.loop-m.invariant
