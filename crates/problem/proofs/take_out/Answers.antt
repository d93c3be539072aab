-- `problem::take_out` meets its contract.
use Rattle.std.proofs.Common.{◌∙◌}
use Rattle.problem.proofs.Moving.{moved_down}
use Rattle.problem.proofs.take_out.Goals as goal

pub returns : goal.returns
returns g c = c.copy_within.ensures.after ∙ moved_down _ _ _ c.requires.0 c.requires.1
