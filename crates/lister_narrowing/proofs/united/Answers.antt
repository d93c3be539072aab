-- `lister_narrowing::united` meets its contract. The invariant: the members to come are a part of s, and acc is in what the other members have in common.
use Rattle.std.proofs.Common.{◌≡◌}
use Rattle.bits.proofs.Parts.{part_self, part_trans, minus_part}
use Rattle.lister_narrowing.proofs.Scanning.{united_none, united_more}
use Rattle.lister_narrowing.proofs.united.Goals as goal

pub loop-m-init : goal.loop-m-init
loop-m-init c =
    let e : c.into_iter-m-iterator.result.rest ≡ c.args.s = cc in
    rw e (record { within = part_self _; in_common = united_none _ _ })

pub loop-m-preserved : goal.loop-m-preserved
loop-m-preserved c =
    let inv = c.loop-m.invariant in
    let t = c.in-Some.ensures.steps in
    record {
      within = part_trans _ _ _ (minus_part _ _ _ t.others) inv.within;
      in_common = united_more _ _ _ _ _ _ inv.in_common inv.within t.lowest.member c.index.ensures.is;
    }
