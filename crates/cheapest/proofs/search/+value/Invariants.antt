-- The proof of the cycle of calls {value}: the measure is free.
use Rattle.cheapest.proofs.search.+value.Given as goal

abbrev pub decreases-value : goal.decreases-value
decreases-value l = l.free
