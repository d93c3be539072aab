-- `table::cells::allowed` meets its contract. The invariant: may is right at the vertices passed. Assumes nothing.
use Rattle.table.proofs.Halves.{MayBelow}
use Rattle.table.proofs.cells.allowed.Given as goal

abbrev pub invariant-loop-v : goal.invariant-loop-v
invariant-loop-v l = MayBelow l.on l.dc l.v l.outputs-items
