-- `ranges::rivals::cost` meets its contract.
use Rattle.std.proofs.Common.{arith}
use Rattle.cheapest_bounds.proofs.Costing.{cost_fits}
use Rattle.ranges.proofs.rivals.cost.Goals as goal

pub returns-clause-small : goal.returns-clause-small
returns-clause-small c = omega (arith, cost_fits _ _ _ c.requires (λ k. omega (arith, c.type_inv.ends k)) c.total.ensures)
