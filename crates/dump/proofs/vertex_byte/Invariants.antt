-- `dump::vertex_byte` meets its contract.
use Rattle.std.proofs.Common.{◌*◌}
use Rattle.dump.proofs.Showing.{PassedFrom}
use Rattle.dump.proofs.vertex_byte.Given as goal

abbrev pub invariant-loop-k : goal.invariant-loop-k
invariant-loop-k l = PassedFrom l.held l.i (8 * l.j) l.byte l.k
