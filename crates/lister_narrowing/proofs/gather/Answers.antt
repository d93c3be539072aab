-- `lister_narrowing::gather` meets its contract. The invariant: what the rows passed tell.
use Rattle.std.proofs.Common.{rules, arith, refl}
use Rattle.bits.proofs.Decide.{decides_true, decides_false}
use Rattle.lister_narrowing.proofs.Tightening.{row_dead}
use Rattle.lister_narrowing.proofs.Scanning.{passed_none, passed_open, passed_own, passed_shared, passed_as, passed_all}
use Rattle.lister_narrowing.proofs.gather.Goals.{then-own-eq0+else-open-eq0, else-own-eq0+then-is_single, else-own-eq0+else-is_single}
use Rattle.lister_narrowing.proofs.gather.Goals as goal

pub loop-row-init : goal.loop-row-init
loop-row-init c = passed_none _ _ _ _ refl

pub returns-then-open-eq0 : goal.returns-then-open-eq0
returns-then-open-eq0 c = row_dead _ _ _ _ (omega arith) c.if-own-eq0.true c.if-open-eq0.true

pub index-requires : goal.index-requires
index-requires c = decides_true _ _ c.is_single.ensures c.if-is_single.true

pub loop-row-preserved : goal.loop-row-preserved
loop-row-preserved c =
    let inv = c.loop-row.invariant in
    elim c.if-own-eq0.branch [
      | then-own-eq0+else-open-eq0 w ↦ passed_as w.common-is w.owners-is w.unmet-is w.forced-is
          (passed_open _ _ _ _ _ _ _ _ inv (omega arith) w.if-own-eq0.true _ (search rules))
      | else-own-eq0+then-is_single w ↦ passed_as w.common-is w.owners-is w.unmet-is w.forced-is
          (passed_own _ _ _ _ _ _ _ _ inv _ w.index.ensures.small w.index.ensures.is)
      | else-own-eq0+else-is_single w ↦ passed_as w.common-is w.owners-is w.unmet-is w.forced-is
          (passed_shared _ _ _ _ _ _ _ _ inv w.if-own-eq0.false (decides_false _ _ w.is_single.ensures w.if-is_single.false))
    ]

pub returns : goal.returns
returns c = passed_all _ _ _ _ _ _ _ _ c.loop-row.invariant (omega arith) (omega arith) _ c.united.ensures
