-- `codec::operands::block_at` meets its contract.
use Rattle.std.proofs.Common.{◌≡◌, ℕ, ◌+◌, ◌-◌, ◌∙◌, ap, take, drop, arith}
use Rattle.codec.proofs.Reading.{block_read}
use Rattle.codec.proofs.operands.block_at.Goals as goal

pub returns : goal.returns
returns c =
    let a = c.args in
    let n : a.at + 33 - (a.at + 1) ≡ 32 = omega arith in
    let vertices = c.copy_from_slice.ensures.after ∙ ap (λ (k : ℕ). take k (drop (a.at + 1) a.job.now)) n in
    block_read _ _ _ _ c.requires vertices c.short_at.ensures
