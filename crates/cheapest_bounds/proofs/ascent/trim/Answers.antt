-- `cheapest_bounds::ascent::trim` meets its contract. The invariant: kept is trimmed from free.
use Rattle.std.proofs.Common.{arith}
use Rattle.cheapest_bounds.proofs.Ascending.{trimmed_none, trimmed_drop}
use Rattle.cheapest_bounds.proofs.ascent.trim.Goals as goal

pub loop-m-init : goal.loop-m-init
loop-m-init c = trimmed_none _ _ _

pub price-requires : goal.price-requires
price-requires c = c.in-Some.ensures.steps.lowest.member.single

pub loop-m-preserved-then-spare-price : goal.loop-m-preserved-then-spare-price
loop-m-preserved-then-spare-price c =
    trimmed_drop _ _ _ _ _ _ _ c.loop-m.invariant c.in-Some.ensures.steps.lowest.member.single c.price.ensures (omega (arith, c.if-spare-price.true))
    c.minus-kept.ensures

pub loop-m-preserved : goal.loop-m-preserved
loop-m-preserved c = c.loop-m.invariant

pub returns : goal.returns
returns c = c.loop-m.invariant
