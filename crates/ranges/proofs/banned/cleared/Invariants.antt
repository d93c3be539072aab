-- `ranges::banned::cleared` meets its contract. The invariant: the first i of out are rows without the banned candidates.
use Rattle.ranges.proofs.Banning.{Clearing}
use Rattle.ranges.proofs.banned.cleared.Given as goal

abbrev pub invariant-loop-i : goal.invariant-loop-i
invariant-loop-i l = Clearing l.rows l.banned l.out l.i
