-- `library::terms_of` meets its contract. The invariant: the words passed are unpacked.
use Rattle.model.specs.Library.{unpack}
use Rattle.bits.proofs.Lists.{MappedBelow}
use Rattle.library.proofs.terms_of.Given as goal

abbrev pub invariant-loop-i : goal.invariant-loop-i
invariant-loop-i l = MappedBelow unpack 64 l.words l.i l.all
