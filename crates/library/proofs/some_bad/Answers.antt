-- `library::some_bad` meets its contract.
use Rattle.library.proofs.Calling.{good_next}
use Rattle.library.proofs.some_bad.Goals as goal

pub loop-v-preserved : goal.loop-v-preserved
loop-v-preserved c = good_next c.args.m c.args.on.now c.args.dc.now c.loop-v.v _ c.loop-v-test.true c.bad_row.ensures c.if-bad_row.false c.loop-v.invariant
