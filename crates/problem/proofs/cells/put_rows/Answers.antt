-- `problem::cells::put_rows` meets its contract.
use mathlib.Core.Path.{◌∙◌}
use Rattle.problem.proofs.Preparing.{cells_put}
use borrow.Author.Rules.{rules}
use Rattle.problem.proofs.cells.put_rows.Goals as goal

pub shape_of-out : goal.shape_of-out
shape_of-out c = search rules

pub returns : goal.returns
returns c = cells_put c.args.p _ c.requires.sized _ _ _ c.rows.ensures (shape_of-out c ∙ c.requires.out_len)
