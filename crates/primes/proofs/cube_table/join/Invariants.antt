-- `primes::cube_table::join` meets its contract. The invariant: the first j entries are joined. Assumes nothing.
use Rattle.primes.specs.Blocks.{JoinedTo}
use Rattle.primes.proofs.cube_table.join.Given as goal

abbrev pub invariant-loop-j : goal.invariant-loop-j
invariant-loop-j l = JoinedTo l.initial.table l.at l.s l.j l.table
