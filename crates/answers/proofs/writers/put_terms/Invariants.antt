-- `answers::writers::put_terms` meets its contract. The invariant: the blocks of the terms passed stand in front.
use Rattle.model.specs.Answers.{term_bytes}
use Rattle.answers.proofs.Bytes.{Blocks}
use Rattle.answers.proofs.writers.put_terms.Given as goal

abbrev pub invariant-loop-i : goal.invariant-loop-i
invariant-loop-i l = Blocks term_bytes 3 l.terms l.initial.room l.room l.i
