-- `answers::writers::put_terms` meets its contract.
use Rattle.std.proofs.Common.{ap, length, arith}
use Rattle.model.specs.Answers.{term_bytes}
use Rattle.answers.proofs.Bytes.{blocks_next}
use Rattle.answers.proofs.writers.put_terms.Goals as goal

pub loop-i-preserved : goal.loop-i-preserved
loop-i-preserved c = blocks_next term_bytes 3 _ _ _ _ _ (record { care = 0; value = 0; outputs = 0 }) _ c.loop-i.invariant c.loop-i-test.true
    (ap length c.copy_from_slice.ensures.after) (omega arith) c.copy_from_slice.ensures.after
