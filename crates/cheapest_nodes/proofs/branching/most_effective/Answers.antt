-- `cheapest_nodes::branching::most_effective` meets its contract. The invariant: pick is a member of x, most is a count,
-- and what is still to come is a part of x.
use Rattle.std.proofs.Common.{◌≡◌, arith}
use Rattle.bits.proofs.Parts.{part_trans, minus_part, member_of_more}
use Rattle.cheapest_bounds.proofs.Costing.{product_fits}
use Rattle.cheapest_nodes.proofs.branching.most_effective.Goals as goal

pub lowest-pick-requires : goal.lowest-pick-requires
lowest-pick-requires c = c.requires

pub loop-m-init : goal.loop-m-init
loop-m-init c =
    let e : c.into_iter-m-iterator.result.rest ≡ c.minus.result = cc in
    rw e (c.lowest-pick.ensures.member, minus_part _ _ _ c.minus.ensures, c.gain-most.ensures)

pub price-requires : goal.price-requires
price-requires c = c.in-Some.ensures.steps.lowest.member.single

pub overflow_mul-most : goal.overflow_mul-most
overflow_mul-most c = omega (arith, product_fits _ _ c.loop-m.invariant.2 c.price.ensures.small)

pub price-requires-in-loop-m : goal.price-requires-in-loop-m
price-requires-in-loop-m c = c.loop-m.invariant.0.single

pub overflow_mul-more : goal.overflow_mul-more
overflow_mul-more c = omega (arith, product_fits _ _ c.gain-more.ensures c.price-in-loop-m.ensures.small)

pub loop-m-preserved-then-most-price : goal.loop-m-preserved-then-most-price
loop-m-preserved-then-most-price c =
    let t = c.in-Some.ensures.steps in (
      member_of_more _ _ _ c.loop-m.invariant.1 t.lowest.member,
      part_trans _ _ _ (minus_part _ _ _ t.others) c.loop-m.invariant.1,
      c.gain-more.ensures,
    )

pub loop-m-preserved : goal.loop-m-preserved
loop-m-preserved c =
    let others = minus_part _ _ _ c.in-Some.ensures.steps.others in
    (c.loop-m.invariant.0, part_trans _ _ _ others c.loop-m.invariant.1, c.loop-m.invariant.2)

pub returns : goal.returns
returns c = c.loop-m.invariant.0
