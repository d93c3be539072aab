-- `primes::cube_table::fill_pair` meets its contract. Assumes nothing.
use Prim.Native.Nat.{◌+◌}
use native.Mathlib.Omega.{arith}
use Rattle.primes.proofs.Pairs.{fits_set, fits_twice, pair_filled}
use Rattle.primes.proofs.cube_table.fill_pair.Goals as goal

pub bounds-table-at : goal.bounds-table-at
bounds-table-at c = omega (arith, c.requires.2)

pub bounds-table-at-2 : goal.bounds-table-at-2
bounds-table-at-2 c = fits_set c.args.table.now (c.args.at + 1) _ (c.args.at + 2) (omega (arith, c.requires.2))

pub bounds-table-at-3 : goal.bounds-table-at-3
bounds-table-at-3 c = fits_twice c.args.table.now (c.args.at + 1) _ (c.args.at + 2) _ c.args.at (omega (arith, c.requires.2))

pub returns : goal.returns
returns c = pair_filled _ _ _ _ c.requires.1 c.requires.2
