-- `ranges::rivals::needless` meets its contract. The invariant: acc is apart from t, and from each row so far that t does not meet.
use Rattle.ranges.proofs.Meeting.{Sparing}
use Rattle.ranges.proofs.rivals.needless.Given as goal

abbrev pub invariant-loop-row : goal.invariant-loop-row
invariant-loop-row l = Sparing l.rows l.t l.acc l.row-index
