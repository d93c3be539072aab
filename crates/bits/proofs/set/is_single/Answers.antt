-- `bits::set::is_single` meets its contract.
use Rattle.std.proofs.Common.{arith}
use lib.Pow.{pow_pos}
use Rattle.bits.specs.Bits.{Single}
use Rattle.bits.proofs.Digits.{single_clears, clears_single}
use Rattle.bits.proofs.Decide.{says_false, says_eqb}
use Rattle.bits.proofs.set.is_single.Goals as goal

pub returns-then-x-ne0 : goal.returns-then-x-ne0
returns-then-x-ne0 c = says_eqb _ _ _ (clears_single _ c.if-x-ne0.true) (single_clears _)

pub returns-else-x-ne0 : goal.returns-else-x-ne0
unfolding Single
returns-else-x-ne0 c = rw c.if-x-ne0.false (says_false _ (λ s. omega (arith, s.1, pow_pos s.0)))
