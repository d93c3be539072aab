-- `problem::products::multiply` meets its contract.
use mathlib.Core.Path.{refl, sym}
use lib.Seq.{length-take-le}
use Rattle.problem.proofs.Preparing.{cells_below, multiplied}
use borrow.Author.Rules.{rules}
use Rattle.problem.proofs.products.multiply.Goals as goal

pub put_rows-k-requires : goal.put_rows-k-requires
put_rows-k-requires c = record { sized = c.requires.sized; out_len = refl }

pub slice_bounds-multiply_rows-end : goal.slice_bounds-multiply_rows-end
slice_bounds-multiply_rows-end c = sym (length-take-le _ _ (search rules))

pub multiply_rows-requires : goal.multiply_rows-requires
multiply_rows-requires c = record { n_bound = (c.requires.sized.few, c.requires.first_len.0, c.requires.first_len.1); rows_below = cells_below c.put_rows-k.ensures c.requires.stocked }

pub returns : goal.returns
returns c = multiplied c.put_rows-k.ensures _ refl _ _ _ _ c.multiply_rows.ensures
