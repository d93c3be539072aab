-- `cheapest_nodes::dominance::restrict` meets its contract. The invariant: the entries of the members passed have only what is in row.
use Rattle.std.proofs.Common.{◌≡◌, arith}
use Rattle.cheapest_nodes.proofs.Restricting.{restricting_none, restricting_more, restricting_all}
use Rattle.cheapest_nodes.proofs.dominance.restrict.Goals as goal

pub loop-m-init : goal.loop-m-init
loop-m-init c =
    let e : c.into_iter-m-iterator.result.rest ≡ c.args.x = cc in
    rw e (restricting_none _ _ _)

pub index-requires : goal.index-requires
index-requires c = c.in-Some.ensures.steps.lowest.member.single

pub bounds-common-index : goal.bounds-common-index
bounds-common-index c =
    omega (arith, c.index.ensures.small, c.loop-m.invariant.size, c.requires)

pub loop-m-preserved : goal.loop-m-preserved
loop-m-preserved c =
    restricting_more _ _ _ _ _ _ _ _ c.loop-m.invariant c.index.ensures c.in-Some.ensures.steps.others
    (omega (arith, c.index.ensures.small, c.loop-m.invariant.size, c.requires))

pub shape_of-common : goal.shape_of-common
shape_of-common c = c.loop-m.invariant.size

pub returns : goal.returns
returns c = restricting_all _ _ _ _ _ c.in-None.ensures.steps.0 c.loop-m.invariant
