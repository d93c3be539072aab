-- `lister::levels::kept_levels` meets its contract. The invariant: the members to come are a part of at, and good has what every member passed leaves.
use Rattle.bits.specs.Bits.{Part}
use Rattle.lister.specs.Levels.{KeptLevels}
use Rattle.lister.proofs.levels.kept_levels.Given as goal

abbrev pub invariant-loop-m : goal.invariant-loop-m
invariant-loop-m l = record { within : Part l.m-iterator.rest l.at; kept : KeptLevels l.alone l.fresh l.at l.good }
