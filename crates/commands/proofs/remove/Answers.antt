-- `commands::remove` meets its contract.
use Rattle.std.proofs.Common.{refl}
use Rattle.commands.proofs.Handling.{number_gone, number_taken}
use Rattle.commands.proofs.remove.Goals as goal

pub returns-then-p-i : goal.returns-then-p-i
returns-then-p-i c = number_gone _ _ _ _ _ c.from-i.ensures c.if-p-i.true refl

pub returns : goal.returns
returns c = number_taken _ _ _ _ _ _ c.requires c.from-i.ensures c.if-p-i.false c.take_out.ensures c.without_candidate.ensures
