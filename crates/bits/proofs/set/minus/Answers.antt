-- `bits::set::minus` meets its contract.
use Rattle.bits.proofs.Parts.{minus_bits}
use Rattle.bits.proofs.set.minus.Goals as goal

pub returns : goal.returns
returns c = minus_bits _ _
