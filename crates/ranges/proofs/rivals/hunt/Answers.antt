-- `ranges::rivals::hunt` meets its contract.
use Rattle.ranges.proofs.Contesting.{priced_start, valued_some, valued_none}
use Rattle.ranges.proofs.rivals.hunt.Goals as goal

pub below-requires-clause-priced : goal.below-requires-clause-priced
below-requires-clause-priced c = priced_start _ _ c.requires.few c.requires.limit_bound

pub value-best-requires-clause-priced : goal.value-best-requires-clause-priced
value-best-requires-clause-priced c = priced_start _ _ c.requires.few c.requires.limit_bound

pub returns-then-best-limit : goal.returns-then-best-limit
returns-then-best-limit c = valued_some _ _ _ _ _ _ c.value-best.ensures c.if-best-limit.true

pub returns : goal.returns
returns c = valued_none _ _ _ _ _ _ c.value-best.ensures c.if-best-limit.false
