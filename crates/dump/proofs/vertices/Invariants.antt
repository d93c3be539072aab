-- `dump::vertices` meets its contract.
use Rattle.dump.specs.Shown.{Vertices}
use Rattle.dump.proofs.vertices.Given as goal

abbrev pub invariant-loop-j : goal.invariant-loop-j
invariant-loop-j l = Vertices l.held l.i l.j l.bytes
