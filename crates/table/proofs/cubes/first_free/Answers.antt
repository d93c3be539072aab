-- `table::cubes::first_free` meets its contract. Assumes nothing.
use Rattle.bits.proofs.Parts.{minus_bits, lowest_member}
use Rattle.table.proofs.cubes.first_free.Goals as goal

pub returns : goal.returns
returns c = lowest_member _ _ c.requires (minus_bits _ _)
