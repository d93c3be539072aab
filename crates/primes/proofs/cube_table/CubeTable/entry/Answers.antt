-- `primes::cube_table::CubeTable::entry` meets its contract. Assumes nothing.
use Rattle.std.proofs.Common.{ap, get_or}
use Rattle.primes.proofs.Literals.{place_lt}
use Rattle.primes.proofs.cube_table.CubeTable.entry.Goals as goal

pub bounds-self-k : goal.bounds-self-k
bounds-self-k c = place_lt _ _ _ c.requires c.number-k.ensures

pub returns : goal.returns
returns c = ap (λ k. get_or c.args.self.now.outputs k 0) c.number-k.ensures
