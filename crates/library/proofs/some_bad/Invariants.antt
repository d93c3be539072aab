-- `library::some_bad` meets its contract. The invariant: no vertex passed has a bad row.
use Rattle.library.proofs.Calling.{GoodBelow}
use Rattle.library.proofs.some_bad.Given as goal

abbrev pub invariant-loop-v : goal.invariant-loop-v
invariant-loop-v l = GoodBelow l.m l.on l.dc l.v
