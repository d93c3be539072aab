-- `answers::writers::put_sets` meets its contract. The invariant: the blocks of the sets passed stand in front.
use Rattle.model.specs.Commands.{low}
use Rattle.answers.proofs.Bytes.{Blocks}
use Rattle.answers.proofs.writers.put_sets.Given as goal

abbrev pub invariant-loop-i : goal.invariant-loop-i
invariant-loop-i l = Blocks (low 8) 8 l.sets l.initial.room l.room l.i
