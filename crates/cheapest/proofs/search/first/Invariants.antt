-- `cheapest::search::first` meets its contract. The invariant: the witness is a cover in [s, s + 2^i) that costs best, and none that does is below s.
use Rattle.cheapest.proofs.FirstCover.{Witnessed}
use Rattle.cheapest.proofs.search.first.Given as goal

abbrev pub invariant-loop-i : goal.invariant-loop-i
invariant-loop-i l = Witnessed l.rows l.costs l.n l.best.cost l.i l.s l.cost l.witness
