-- `incidence::rows::driving_all` meets its contract. The invariant: the outputs passed have their sets. Assumes nothing.
use Rattle.incidence.specs.Rows.{Driving}
use Rattle.incidence.proofs.rows.driving_all.Given as goal

abbrev pub invariant-loop-j : goal.invariant-loop-j
invariant-loop-j l = Driving l.terms l.j l.sets
