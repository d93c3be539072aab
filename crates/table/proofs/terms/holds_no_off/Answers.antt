-- `table::terms::holds_no_off` meets its contract. Assumes nothing.
use Rattle.table.proofs.Legality.{no_off_tells}
use Rattle.table.proofs.terms.holds_no_off.Goals as goal

pub returns : goal.returns
returns c = no_off_tells _ _ _ _ _ c.drives.ensures c.within.ensures
