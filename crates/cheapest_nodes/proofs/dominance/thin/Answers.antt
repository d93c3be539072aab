-- `cheapest_nodes::dominance::thin` meets its contract. The invariant: f is thinned from free, and what is still to come is a part of free.
use Rattle.std.proofs.Common.{◌≡◌, ◌∙◌, bit_and, sym, arith}
use Rattle.bits.proofs.Parts.{part_trans, minus_part}
use Rattle.cheapest_nodes.proofs.Thinning.{free_part, thinned_unmet, thinned_trans, thinned_drop, cheaper_found}
use Rattle.cheapest_nodes.proofs.Restricting.{shared_one}
use Rattle.cheapest_nodes.proofs.dominance.thin.Goals as goal

pub loop-m-init : goal.loop-m-init
loop-m-init c =
    let e : c.into_iter-m-iterator.result.rest ≡ bit_and c.args.free c.unmet_members.result = cc in
    rw e (thinned_unmet _ _ _ _ _ c.unmet_members.ensures, free_part c.args.free c.unmet_members.result)

pub index-requires : goal.index-requires
index-requires c = c.in-Some.ensures.steps.lowest.member.single

pub bounds-common-index : goal.bounds-common-index
bounds-common-index c = omega (arith, c.index.ensures.small, c.shared-common.ensures.size)

pub cheaper-requires : goal.cheaper-requires
cheaper-requires c = c.in-Some.ensures.steps.lowest.member.single

pub loop-m-preserved-then-is_some : goal.loop-m-preserved-then-is_some
loop-m-preserved-then-is_some c =
    let t = c.in-Some.ensures.steps in
    let one = t.lowest.member in
    let found = cheaper_found _ _ _ c.cheaper.result (sym c.is_some.ensures ∙ c.if-is_some.true) c.cheaper.ensures in
    let entry = shared_one _ _ _ _ _ _ _ c.shared-common.ensures c.loop-m.invariant.1 one c.index.ensures in (
      thinned_trans _ _ _ _ _ _ c.loop-m.invariant.0
          (thinned_drop _ _ _ _ _ _ _ _ one.single c.minus-others.ensures entry (found.1, found.2)),
      part_trans _ _ _ (minus_part _ _ _ t.others) c.loop-m.invariant.1,
    )

pub loop-m-preserved : goal.loop-m-preserved
loop-m-preserved c =
    (c.loop-m.invariant.0, part_trans _ _ _ (minus_part _ _ _ c.in-Some.ensures.steps.others) c.loop-m.invariant.1)

pub returns : goal.returns
returns c = c.loop-m.invariant.0
