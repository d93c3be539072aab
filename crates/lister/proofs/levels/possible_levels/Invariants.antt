-- `lister::levels::possible_levels` meets its contract. The invariant: what the rows passed tell.
use Rattle.lister.proofs.Leveling.{LevelsPassed}
use Rattle.lister.proofs.levels.possible_levels.Given as goal

abbrev pub invariant-loop-row : goal.invariant-loop-row
invariant-loop-row l = LevelsPassed l.rows l.at l.row-index l.alone l.fresh
