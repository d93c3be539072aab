-- `queries::replied` meets its contract.
use Rattle.std.proofs.Common.{◌∙◌}
use Rattle.commands.proofs.Handling.{passed_on}
use Rattle.queries.proofs.replied.Goals as goal

pub returns-in_err-reply : goal.returns-in_err-reply
returns-in_err-reply c = rw c.in_err-reply.was (passed_on _ _ _ c.from_residual.ensures.1)

pub returns : goal.returns
returns c = rw (c.in_ok-reply.was, c.after_query.ensures)
