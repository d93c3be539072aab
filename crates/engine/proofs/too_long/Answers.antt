-- `engine::too_long` meets its contract.
use Rattle.engine.proofs.too_long.Goals as goal

pub returns : goal.returns
returns c = rw (c.empty.ensures, c.number.ensures)
