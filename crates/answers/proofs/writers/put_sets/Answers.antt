-- `answers::writers::put_sets` meets its contract.
use Rattle.std.proofs.Common.{refl, ap, ◌∙◌, length, ◌≡◌, arith}
use Rattle.model.specs.Commands.{low}
use Rattle.answers.proofs.Bytes.{low_8, blocks_next}
use Rattle.answers.proofs.writers.put_sets.Goals as goal

pub loop-i-preserved : goal.loop-i-preserved
loop-i-preserved c =
    let last : c.copy_from_slice.new.self ≡ low 8 _ = c.copy_from_slice.ensures.after ∙ c.to_le_bytes.ensures ∙ low_8 _ in
    blocks_next (low 8) 8 _ _ _ _ _ 0 _ c.loop-i.invariant c.loop-i-test.true (ap length last) (omega arith) last
