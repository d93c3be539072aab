-- `problem::matrix::prepare` meets its contract.
use Rattle.problem.proofs.Preparing.{prepared_all}
use Rattle.problem.proofs.matrix.prepare.Goals as goal

pub returns : goal.returns
returns c = prepared_all _ _ _ _ c.put_rows.ensures c.is_covered-covered.ensures
