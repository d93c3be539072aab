-- `cheapest_nodes::dominance::cheaper` meets its contract. The invariant: what is still to come is a part of x.
use Rattle.std.proofs.Common.{◌≡◌, ◌≤◌, arith}
use Rattle.bits.proofs.Parts.{part_self, part_trans, minus_part}
use Rattle.cheapest_nodes.proofs.Thinning.{cheaper_one}
use Rattle.cheapest_nodes.proofs.dominance.cheaper.Goals as goal

pub price-p-requires : goal.price-p-requires
price-p-requires c = c.requires

pub loop-d-init : goal.loop-d-init
loop-d-init c =
    let e : c.into_iter-d-iterator.result.rest ≡ c.args.x = cc in
    rw e (part_self _)

pub price-q-requires : goal.price-q-requires
price-q-requires c = c.in-Some.ensures.steps.lowest.member.single

pub returns-then-better : goal.returns-then-better
returns-then-better c =
    let le : c.price-q.result ≤ c.price-p.result = grind arith in
    cheaper_one _ _ _ _ _ _ _ c.loop-d.invariant c.in-Some.ensures.steps.lowest.member c.price-q.ensures c.price-p.ensures le

pub loop-d-preserved : goal.loop-d-preserved
loop-d-preserved c = part_trans _ _ _ (minus_part _ _ _ c.in-Some.ensures.steps.others) c.loop-d.invariant
