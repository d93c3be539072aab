-- `cheapest_bounds::costs::floor` meets its contract. The invariant: no member of x that is not still to come costs less than low.
use Rattle.std.proofs.Common.{◌≡◌, arith}
use Rattle.cheapest_bounds.proofs.Bounding.{floored_none, floored_more, floored_all}
use Rattle.cheapest_bounds.proofs.costs.floor.Goals as goal

pub loop-m-init : goal.loop-m-init
loop-m-init c =
    let e : c.into_iter-m-iterator.result.rest ≡ c.args.x = cc in
    rw e (floored_none _ _)

pub price-p-requires : goal.price-p-requires
price-p-requires c = c.in-Some.ensures.steps.lowest.member.single

pub loop-m-preserved : goal.loop-m-preserved
loop-m-preserved c =
    let t = c.in-Some.ensures.steps in
    floored_more _ _ _ _ _ _ _ _ c.loop-m.invariant t.lowest.member c.price-p.ensures t.others
    (omega (arith, c.min-low.ensures)) (omega (arith, c.min-low.ensures))

pub returns-then-p-eq0 : goal.returns-then-p-eq0
returns-then-p-eq0 c = record { under = λ b m. omega arith; small = omega arith }

pub returns : goal.returns
returns c = floored_all _ _ _ _ c.in-None.ensures.steps.0 c.loop-m.invariant
