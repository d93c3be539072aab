-- `bits::set::index` meets its contract.
use native.Mathlib.Omega.{arith}
use lib.Count.{trailing_le}
use Rattle.bits.proofs.Tops.{index_is}
use Rattle.bits.proofs.set.index.Goals as goal

pub overflow_cast-result : goal.overflow_cast-result
overflow_cast-result c = omega (arith, trailing_le 64 c.args.m)

pub returns : goal.returns
returns c = index_is _ c.requires (omega arith)
