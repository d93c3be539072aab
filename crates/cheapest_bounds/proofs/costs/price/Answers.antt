-- `cheapest_bounds::costs::price` meets its contract.
use Rattle.std.proofs.Common.{◌∙◌, arith}
use Rattle.cheapest_bounds.proofs.Bounding.{priced, priced_past}
use Rattle.cheapest_bounds.proofs.costs.price.Goals as goal

pub returns-in-Some : goal.returns-in-Some
returns-in-Some c =
    let is = c.in-Some.ensures.lookup.4 (omega arith) 0 in
    priced _ _ _ c.index.ensures _ (c.from.ensures ∙ is) (omega (arith, c.from.ensures, is, c.type_inv.costs c.index.result))

pub returns-in-None : goal.returns-in-None
returns-in-None c = priced_past _ _ _ c.index.ensures c.in-None.ensures.lookup.3
