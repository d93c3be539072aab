-- The proof of the cycle of calls {below}: the measure is free.
use Rattle.cheapest.proofs.limited.+below.Given as goal

abbrev pub decreases-below : goal.decreases-below
decreases-below l = l.free
