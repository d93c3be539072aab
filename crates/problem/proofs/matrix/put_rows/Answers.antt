-- `problem::matrix::put_rows` meets its contract.
use native.Mathlib.Omega.{arith}
use mathlib.Core.Path.{sym}
use lib.Seq.{length-take-le}
use Rattle.problem.proofs.Preparing.{prepared}
use borrow.Author.Rules.{rules}
use Rattle.problem.proofs.matrix.put_rows.Goals as goal

pub slice_bounds-reduce-end : goal.slice_bounds-reduce-end
slice_bounds-reduce-end c = sym (length-take-le _ _ (search rules))

pub reduce-requires : goal.reduce-requires
reduce-requires c = let few = c.put_rows-n.ensures.within in
    let long = length-take-le c.put_rows-n.result c.put_rows-n.new.out (omega (arith, few, c.put_rows-n.ensures.size)) in
    record { rows_len_bound = omega (arith, long, few); rows_in_bounds = omega (arith, long, few, c.requires.out_len) }

pub returns : goal.returns
returns c = prepared c.put_rows-n.ensures _ _ (search rules) c.reduce.ensures
