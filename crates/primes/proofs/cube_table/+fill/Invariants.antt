-- `primes::cube_table::fill` meets its contract. The measure is the number of inputs of the block. Assumes nothing.
use Rattle.primes.proofs.cube_table.+fill.Given as goal

abbrev pub decreases-fill : goal.decreases-fill
decreases-fill l = l.i
