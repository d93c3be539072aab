-- `table::cells::allowed` meets its contract. The invariant: may is right at the vertices passed. Assumes nothing.
use Rattle.std.proofs.Common.{arith}
use Rattle.table.proofs.Halves.{may_all}
use Rattle.table.proofs.cells.allowed.Goals as goal

pub returns : goal.returns
returns c = may_all c.args.on.now c.args.dc.now c.loop-v.outputs-items c.loop-v.v (omega arith) c.loop-v.invariant
