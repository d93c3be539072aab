-- `eight_rows::put` meets its contract.
use Rattle.problem.specs.Problems.{row_put}
use Rattle.eight_rows.proofs.EightRows.{putting_none, putting_next, putting_all}
use Rattle.eight_rows.proofs.put.Goals as goal

pub loop-i-init : goal.loop-i-init
loop-i-init c = putting_none _

pub loop-i-preserved : goal.loop-i-preserved
unfolding row_put
loop-i-preserved c = putting_next c.args.job.now c.args.at c.loop-i.invariant c.loop-i-test.true c.from-v.ensures

pub returns : goal.returns
returns c = putting_all _ c.loop-i.invariant c.loop-i-test.false
