-- `lister::cursor::climb` meets its contract. The invariant: nothing is found from at up to the first multiple of 2^i above it.
use Rattle.lister.proofs.Climbing.{Climbed}
use Rattle.lister.proofs.cursor.climb.Given as goal

abbrev pub invariant-loop-i : goal.invariant-loop-i
invariant-loop-i l = Climbed l.rows l.n l.at l.i
