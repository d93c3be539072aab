-- `ranges::cursor::promising` meets its contract.
use Rattle.std.proofs.Common.{not, ap, ◌∙◌}
use Rattle.ranges.proofs.Contesting.{barren_empty, barren_narrowed, barren_rival}
use Rattle.ranges.proofs.cursor.promising.Goals as goal

pub returns-in_default : goal.returns-in_default
returns-in_default c = λ q. barren_empty _ _ _ _ _ c.in_default.ensures

pub returns-then-not-refuted : goal.returns-then-not-refuted
returns-then-not-refuted c =
    λ q. barren_rival _ _ _ _ _ _ c.in-Some.ensures _ c.rival.ensures (c.is_none.ensures ∙ ap not q)

pub returns-else-not-refuted : goal.returns-else-not-refuted
returns-else-not-refuted c =
    λ q. barren_narrowed _ _ _ _ _ _ c.in-Some.ensures (c.refuted.ensures c.if-not-refuted.false)
