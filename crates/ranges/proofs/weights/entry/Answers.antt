-- `ranges::weights::entry` meets its contract.
use Rattle.ranges.proofs.Mixing.{entry_first, entry_second, entry_none}
use Rattle.ranges.proofs.weights.entry.Goals as goal

pub returns-then-has : goal.returns-then-has
returns-then-has c = entry_first _ _ _ _ _ _ c.has.ensures c.if-has.true

pub returns-then-has-2 : goal.returns-then-has-2
returns-then-has-2 c = entry_second _ _ _ _ _ _ _ c.has.ensures c.if-has.false c.has-2.ensures c.if-has-2.true

pub returns : goal.returns
returns c = entry_none _ _ _ _ _ _ _ c.has.ensures c.if-has.false c.has-2.ensures c.if-has-2.false
