-- `problem::matrix::is_covered` meets its contract.
use Rattle.problem.proofs.Preparing.{covered}
use Rattle.problem.proofs.matrix.is_covered.Goals as goal

pub returns : goal.returns
returns c = covered c.args.p _ _ _ c.requires c.low_mask-all.ensures c.presence.ensures
