-- `lister_extension::narrow_exactly` meets its contract.
use Rattle.bits.proofs.Parts.{part_self}
use Rattle.lister_extension.proofs.Extending.{tightened_tested}
use Rattle.lister_extension.proofs.narrow_exactly.Goals as goal

pub extends-requires : goal.extends-requires
extends-requires c = part_self _

pub returns : goal.returns
returns c = rw c.then_some.ensures (tightened_tested _ _ _ _ _ c.in_ok-t.ensures c.extends.ensures)
