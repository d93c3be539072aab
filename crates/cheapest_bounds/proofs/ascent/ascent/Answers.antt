-- `cheapest_bounds::ascent::ascent` meets its contract. Each sum is a part of the last, which is no more than what all candidates cost.
use Rattle.std.proofs.Common.{arith}
use Rattle.cheapest_bounds.proofs.Costing.{small_entries}
use Rattle.cheapest_bounds.proofs.Ascending.{raised_six, raised_small, dual}
use Rattle.cheapest_bounds.proofs.ascent.ascent.Goals as goal

pub overflow_add-result-5 : goal.overflow_add-result-5
overflow_add-result-5 c =
    let small = small_entries c.args.costs.now c.type_inv.costs in
    let all
    = raised_six _ c.raise-two.ensures c.raise-three.ensures c.raise-four.ensures c.raise-six.ensures c.raise-some.ensures c.raise-rest.ensures in
    omega (arith, raised_small _ _ _ (λ k. omega (arith, c.type_inv.rows k)) c.requires small c.padded-left.ensures _ _ all)

pub overflow_add-result : goal.overflow_add-result
overflow_add-result c = omega (arith, overflow_add-result-5 c)

pub overflow_add-result-2 : goal.overflow_add-result-2
overflow_add-result-2 c = omega (arith, overflow_add-result-5 c)

pub overflow_add-result-3 : goal.overflow_add-result-3
overflow_add-result-3 c = omega (arith, overflow_add-result-5 c)

pub overflow_add-result-4 : goal.overflow_add-result-4
overflow_add-result-4 c = omega (arith, overflow_add-result-5 c)

pub returns : goal.returns
returns c =
    let small = small_entries c.args.costs.now c.type_inv.costs in
    dual _ _ _ (λ k. omega (arith, c.type_inv.rows k)) c.requires small c.padded-left.ensures _
    (raised_six _ c.raise-two.ensures c.raise-three.ensures c.raise-four.ensures c.raise-six.ensures c.raise-some.ensures c.raise-rest.ensures)
