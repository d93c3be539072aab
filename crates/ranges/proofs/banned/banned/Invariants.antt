-- `ranges::banned::banned` meets its contract. The invariant: what is banned so far is in no listed set.
use Rattle.ranges.specs.Listed.{Banned}
use Rattle.ranges.proofs.banned.banned.Given as goal

abbrev pub invariant-loop-i : goal.invariant-loop-i
invariant-loop-i l = Banned l.market.rows.now l.market.low.now l.market.high.now l.acc
