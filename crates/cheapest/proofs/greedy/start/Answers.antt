-- `cheapest::greedy::start` meets its contract.
use Rattle.bits.proofs.Decide.{decides_true}
use Rattle.cheapest.proofs.FirstCover.{known_cover, known_none}
use Rattle.cheapest.proofs.greedy.start.Goals as goal

pub returns-then-covers : goal.returns-then-covers
returns-then-covers c = known_cover _ _ _ _ _ c.greedy-s.ensures (decides_true _ _ c.covers.ensures c.if-covers.true) c.total.ensures

pub returns : goal.returns
returns c = known_none _ _ _ _
