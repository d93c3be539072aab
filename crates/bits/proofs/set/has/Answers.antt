-- `bits::set::has` meets its contract.
use Rattle.bits.proofs.Shifts.{shifted_bit}
use Rattle.bits.proofs.set.has.Goals as goal

pub returns : goal.returns
returns c = shifted_bit c.args.i c.args.s
