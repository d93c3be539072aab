-- `bits::byte::power` meets its contract.
use native.Mathlib.Omega.{arith}
use Rattle.bits.proofs.Shifts.{shifted_one}
use Rattle.bits.proofs.byte.power.Goals as goal

pub returns : goal.returns
returns c = shifted_one 8 _ (omega arith)
