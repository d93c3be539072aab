-- `cheapest_bounds::ascent::affordable` meets its contract.
use Rattle.cheapest_bounds.proofs.Ascending.{affordable_all, affordable_none, affordable_trimmed}
use Rattle.cheapest_bounds.proofs.ascent.affordable.Goals as goal

pub returns-then-rows-le16 : goal.returns-then-rows-le16
returns-then-rows-le16 c = affordable_all _ _ _ _

pub returns-then-spare-duals : goal.returns-then-spare-duals
returns-then-spare-duals c = affordable_none _ _ _ _ _ c.ascent-duals.ensures c.if-spare-duals.true

pub returns : goal.returns
returns c =
    affordable_trimmed _ _ _ _ _ _ c.ascent-duals.ensures c.if-spare-duals.false c.trim.ensures
