-- `lister::levels::kept_levels` meets its contract. The invariant: the members to come are a part of at, and good has what every member passed leaves.
use Rattle.std.proofs.Common.{◌≡◌, arith}
use Rattle.bits.proofs.Parts.{part_self, part_trans, minus_part}
use Rattle.lister.proofs.Leveling.{member_pos, kept_levels_all, kept_levels_less}
use Rattle.lister.proofs.levels.kept_levels.Goals as goal

pub loop-m-init : goal.loop-m-init
loop-m-init c =
    let e : c.into_iter-m-iterator.result.rest ≡ c.args.at = cc in
    rw e (record { within = part_self _; kept = kept_levels_all _ _ _ })

pub overflow_sub-m : goal.overflow_sub-m
overflow_sub-m c = omega (arith, member_pos _ _ c.in-Some.ensures.steps.lowest.member)

pub loop-m-preserved : goal.loop-m-preserved
loop-m-preserved c =
    let inv = c.loop-m.invariant in
    let t = c.in-Some.ensures.steps in
    record {
      within = part_trans _ _ _ (minus_part _ _ _ t.others) inv.within;
      kept = kept_levels_less _ _ _ _ _ _ _ _ _ inv.kept inv.within t.lowest.member c.index.ensures.is c.minus.ensures c.minus-good.ensures;
    }
