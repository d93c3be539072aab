-- `lister_extension::scarcest` meets its contract. The invariant: pick is a member of q, and the members to come are a part of q.
use Rattle.std.proofs.Common.{◌≡◌}
use Rattle.bits.proofs.Parts.{part_self, part_trans, minus_part, member_of_more}
use Rattle.lister_extension.proofs.scarcest.Goals as goal

pub loop-b-init : goal.loop-b-init
loop-b-init c =
    let e : c.into_iter-b-iterator.result.rest ≡ c.args.q = cc in
    rw e (record { picked = c.lowest-pick.ensures.member; within = part_self _ })

pub loop-b-preserved-then-n-fewest : goal.loop-b-preserved-then-n-fewest
loop-b-preserved-then-n-fewest c =
    let inv = c.loop-b.invariant in
    let t = c.in-Some.ensures.steps in
    record { picked = member_of_more _ _ _ inv.within t.lowest.member; within = part_trans _ _ _ (minus_part _ _ _ t.others) inv.within }

pub loop-b-preserved : goal.loop-b-preserved
loop-b-preserved c =
    let inv = c.loop-b.invariant in
    record { picked = inv.picked; within = part_trans _ _ _ (minus_part _ _ _ c.in-Some.ensures.steps.others) inv.within }
