-- `cheapest_bounds::units::unit` meets its contract.
use Rattle.cheapest_bounds.proofs.Measuring.{unit_of}
use Rattle.cheapest_bounds.proofs.units.unit.Goals as goal

pub returns : goal.returns
returns c = unit_of c.common.ensures c.max.ensures
