-- `commands::block` meets its contract.
use Rattle.std.proofs.Common.{refl, arith}
use Rattle.model.proofs.Reasons.{has_number}
use Rattle.commands.proofs.Handling.{passed_on, refuses_block, block_refused, block_many, block_kept}
use Rattle.commands.proofs.block.Goals as goal

pub returns-in_err-block_refusal : goal.returns-in_err-block_refusal
returns-in_err-block_refusal c = block_refused _ _ _ (refuses_block _ _ _ _ c.requires c.allowed-may.ensures c.in_err-block_refusal.ensures) _ _ (has_number _) (passed_on _ _ _ c.from_residual.ensures.1)

pub returns-then-count-ge64 : goal.returns-then-count-ge64
returns-then-count-ge64 c = block_many _ _ _ (refuses_block _ _ _ _ c.requires c.allowed-may.ensures c.in_ok-block_refusal.ensures) _ _ refl (omega arith) refl

pub returns : goal.returns
returns c = block_kept _ _ _ (refuses_block _ _ _ _ c.requires c.allowed-may.ensures c.in_ok-block_refusal.ensures) _ _ _ refl c.if-count-ge64.false c.add.ensures c.with_block.ensures
