-- `ranges::banned::banned` meets its contract.
use Rattle.std.proofs.Common.{sym, ◌∙◌}
use Rattle.ranges.proofs.Banning.{banned_none, banned_one, banned_as}
use Rattle.ranges.proofs.banned.banned.Goals.{then-is_some, else-is_some}
use Rattle.ranges.proofs.banned.banned.Goals as goal

pub loop-i-init : goal.loop-i-init
loop-i-init c = banned_none _ _ _

pub loop-i-preserved : goal.loop-i-preserved
loop-i-preserved c =
    elim c.if-is_some.branch [
      | then-is_some w ↦ banned_as _ _ _ w.acc-is (banned_one _ _ _ _ _ _ c.power-m.ensures c.loop-i.invariant _ c.rival.ensures (sym c.is_some.ensures ∙ w.if-is_some.true))
      | else-is_some w ↦ banned_as _ _ _ w.acc-is c.loop-i.invariant
    ]
