-- `bits::set::lowest` meets its contract.
use Rattle.bits.proofs.Parts.{lowest_member}
use Rattle.bits.proofs.set.lowest.Goals as goal

pub returns : goal.returns
returns c = lowest_member _ _ c.requires c.minus.ensures
