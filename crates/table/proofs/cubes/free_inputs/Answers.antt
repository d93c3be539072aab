-- `table::cubes::free_inputs` meets its contract. Assumes nothing.
use native.Mathlib.Omega.{arith}
use Rattle.bits.proofs.Shifts.{power_le}
use Rattle.table.proofs.cubes.free_inputs.Goals as goal

pub overflow_cast-result : goal.overflow_cast-result
overflow_cast-result c = record { fits = omega (arith, power_le _ _ c.requires.0 c.bound.ensures) }
