-- `problem::weights::weights` meets its contract.
use Rattle.model.specs.Candidates.{term_cost}
use Rattle.bits.proofs.Lists.{MappedBelow}
use Rattle.problem.proofs.weights.weights.Given as goal

abbrev pub invariant-loop-i : goal.invariant-loop-i
invariant-loop-i l = MappedBelow (term_cost l.w) 64 l.terms l.i l.all
