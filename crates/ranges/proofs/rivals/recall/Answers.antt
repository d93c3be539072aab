-- `ranges::rivals::recall` meets its contract.
use Rattle.std.proofs.Common.{get_or, refl}
use Rattle.bits.proofs.Decide.{decides_true}
use Rattle.ranges.proofs.Contesting.{recalled_none, recalled_found}
use Rattle.ranges.proofs.rivals.recall.Goals as goal

pub returns-then-covers : goal.returns-then-covers
returns-then-covers c =
    recalled_found _ _ _ _ (get_or c.args.notes.now c.loop-note.note-index 0) _ _
    c.all-all.ensures refl (decides_true _ _ c.covers.ensures c.if-covers.true) (c.undercuts.ensures c.if-undercuts.true)

pub returns : goal.returns
returns c = recalled_none _ _ _ _
