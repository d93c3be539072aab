-- `lister_narrowing::gather` meets its contract. The invariant: what the rows passed tell.
use Rattle.lister_narrowing.proofs.Scanning.{Passed}
use Rattle.lister_narrowing.proofs.gather.Given as goal

abbrev pub invariant-loop-row : goal.invariant-loop-row
invariant-loop-row l = Passed l.rows l.t.s l.t.free l.row-index l.common l.owners l.unmet l.forced
