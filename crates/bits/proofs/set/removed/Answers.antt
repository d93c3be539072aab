-- `bits::set::removed` meets its contract.
use native.Mathlib.Omega.{arith}
use mathlib.Core.Path.{ap}
use Prim.Native.Nat.{ℕ, ◌-◌}
use lib.Pow.{pow_pos}
use Rattle.bits.proofs.Removed.{masked_removed}
use Rattle.bits.proofs.set.removed.Goals as goal

pub overflow_sub-low : goal.overflow_sub-low
overflow_sub-low c = omega (arith, c.power-low.ensures, pow_pos c.args.k)

pub returns : goal.returns
returns c = masked_removed _ _ _ _ (ap (λ (x : ℕ). x - 1) c.power-low.ensures) c.minus.ensures
