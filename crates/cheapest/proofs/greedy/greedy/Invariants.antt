-- `cheapest::greedy::greedy` meets its contract. The invariant: what is taken and what is left are parts of free.
use Rattle.cheapest.proofs.FirstCover.{PartsOf}
use Rattle.cheapest.proofs.greedy.greedy.Given as goal

abbrev pub invariant-loop-rest : goal.invariant-loop-rest
invariant-loop-rest l = PartsOf l.free l.s l.rest

abbrev pub decreases-loop-rest : goal.decreases-loop-rest
decreases-loop-rest l = l.rest
