-- `lister::levels::possible_levels` meets its contract. The invariant: what the rows passed tell.
use Rattle.std.proofs.Common.{arith}
use Rattle.lister.proofs.Leveling.{levels_open, levels_met, levels_as, levels_all}
use Rattle.lister.proofs.levels.possible_levels.Goals.{else-own-eq0, then-own-eq0}
use Rattle.lister.proofs.levels.possible_levels.Goals as goal

pub loop-row-preserved : goal.loop-row-preserved
loop-row-preserved c =
    let inv = c.loop-row.invariant in
    elim c.if-own-eq0.branch [
      | then-own-eq0 w ↦ levels_as w.alone-is w.fresh-is (levels_open _ _ _ _ _ inv w.if-own-eq0.true)
      | else-own-eq0 w ↦ levels_as w.alone-is w.fresh-is
          (levels_met _ _ _ _ _ inv _ _ _ _ w.highest-b.ensures w.index.ensures.small w.index.ensures.is w.own_levels.ensures w.minus-fresh.ensures)
    ]

pub returns : goal.returns
returns c = levels_all _ _ _ _ _ _ c.loop-row.invariant c.loop-row-test.false (omega arith) c.kept_levels.ensures
