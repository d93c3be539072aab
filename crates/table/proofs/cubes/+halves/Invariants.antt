-- `table::cubes::halves` meets its contract. The measure is the number of free inputs. Assumes nothing.
use lib.Count.{ones}
use Rattle.table.proofs.cubes.+halves.Given as goal

abbrev pub decreases-halves : goal.decreases-halves
decreases-halves l = ones l.free
