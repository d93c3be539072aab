-- `engine::row_block::is_accepted` meets its contract.
use Rattle.std.proofs.Common.{Bool, subst}
use lib.Dec.{T}
use Rattle.engine.proofs.RowCommands.{row_at}
use Rattle.engine.proofs.row_block.is_accepted.Goals as goal

pub returns : goal.returns
returns c t = row_at _ c.if-job-at-lt4.false c.if-job-at-ne82.false c.from-v.ensures c.row_refusal.ensures (subst (λ (b : Bool). T b) c.is_ok.ensures.value t)
