-- `incidence::blocks::take_out` meets its contract.
use Rattle.std.proofs.Common.{sym, ◌∙◌}
use Rattle.incidence.proofs.Uses.{blocks_without}
use Rattle.incidence.proofs.blocks.take_out.Goals as goal

pub returns-then-blocks-ne0 : goal.returns-then-blocks-ne0
returns-then-blocks-ne0 c cs l e h = c.remove.ensures cs l h

pub returns-else-blocks-ne0 : goal.returns-else-blocks-ne0
returns-else-blocks-ne0 c cs l e h = blocks_without _ l (sym e ∙ c.if-blocks-ne0.false) h
