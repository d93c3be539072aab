-- `commands::end` meets its contract.
use Rattle.std.proofs.Common.{refl, arith}
use Rattle.commands.proofs.Handling.{passed_on, end_early, end_long, end_written}
use Rattle.commands.proofs.end.Goals as goal

pub returns-then-rest-gt0 : goal.returns-then-rest-gt0
returns-then-rest-gt0 c = end_early _ _ _ _ (omega arith) refl

pub returns-in_err-put_end : goal.returns-in_err-put_end
returns-in_err-put_end c = end_long c.args.p c.args.rest _ _ _ c.if-rest-gt0.false c.put_end.ensures _ _ c.in_err-put_end.was (passed_on _ _ _ c.from_residual.ensures.1)

pub returns : goal.returns
returns c = end_written c.args.p c.args.rest _ _ _ c.if-rest-gt0.false c.put_end.ensures _ c.in_ok-put_end.was
