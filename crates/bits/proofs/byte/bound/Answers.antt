-- `bits::byte::bound` meets its contract.
use native.Mathlib.Omega.{arith}
use Rattle.bits.proofs.Shifts.{shifted_one}
use Rattle.bits.proofs.byte.bound.Goals as goal

pub returns : goal.returns
returns c = shifted_one 64 _ (omega arith)
