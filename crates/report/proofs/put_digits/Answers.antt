use Rattle.std.proofs.Common.{arith}
use Rattle.std.proofs.lemmas.List.{length-set}
use Rattle.report.proofs.Lines.{hex_text_next, ascii_next}
use Rattle.report.proofs.put_digits.Goals as goal

pub loop-i-preserved : goal.loop-i-preserved
loop-i-preserved c = (
  search (length-set, c.loop-i.invariant.0),
  hex_text_next _ c.loop-i.i _ _ (omega arith) c.args.bytes.now c.loop-i-test.true c.digit.ensures.value c.digit-in-loop-i.ensures.value c.loop-i.invariant.1,
  ascii_next _ c.loop-i.i _ _ (omega arith) c.digit.ensures.ascii c.digit-in-loop-i.ensures.ascii c.loop-i.invariant.2,
)
