-- `cheapest_bounds::ascent::charge` meets its contract. The invariant: the members passed have paid y, and the others can.
use Rattle.std.proofs.Common.{◌≡◌, arith}
use Rattle.cheapest_bounds.proofs.Ascending.{charging_none, charging_can, charging_more, charging_all}
use Rattle.cheapest_bounds.proofs.ascent.charge.Goals as goal

pub overflow_cast-y16 : goal.overflow_cast-y16
overflow_cast-y16 c = omega (arith, c.requires.floor.small)

pub loop-m-init : goal.loop-m-init
loop-m-init c =
    let e : c.into_iter-m-iterator.result.rest ≡ c.args.x = cc in
    rw e (charging_none _ _ _ c.requires.floor)

pub index-requires : goal.index-requires
index-requires c = c.in-Some.ensures.steps.lowest.member.single

pub bounds-left-index : goal.bounds-left-index
bounds-left-index c =
    omega (arith, c.index.ensures.small, c.loop-m.invariant.size, c.requires.left_len)

pub overflow_sub-left : goal.overflow_sub-left
overflow_sub-left c =
    charging_can _ _ _ _ _ _ _ c.loop-m.invariant c.in-Some.ensures.steps.lowest.member c.index.ensures

pub loop-m-preserved : goal.loop-m-preserved
loop-m-preserved c =
    let t = c.in-Some.ensures.steps in
    charging_more _ _ _ _ _ _ _ _ c.loop-m.invariant t.lowest.member c.index.ensures t.others
    (omega (arith, c.index.ensures.small, c.loop-m.invariant.size, c.requires.left_len))

pub shape_of-left : goal.shape_of-left
shape_of-left c = c.loop-m.invariant.size

pub returns : goal.returns
returns c = charging_all _ _ _ _ _ c.in-None.ensures.steps.0 c.loop-m.invariant
