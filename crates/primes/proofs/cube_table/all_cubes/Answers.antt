-- `primes::cube_table::all_cubes` meets its contract. Assumes nothing.
use native.Mathlib.Omega.{arith}
use lib.Pow.{pow_mono}
use Rattle.primes.proofs.BaseThree.{cubes_le}
use Rattle.primes.proofs.Blocks.{clear_none, filled_cubes}
use Rattle.model.proofs.Lists.{zero_at}
use Rattle.primes.proofs.cube_table.all_cubes.Goals as goal

pub fill-requires : goal.fill-requires
fill-requires c = (c.requires, omega (arith, pow_mono c.requires), clear_none _, omega (arith, cubes_le _ c.requires))

pub returns : goal.returns
returns c = filled_cubes _ _ _ _ c.fill.ensures (zero_at 6561)
