-- `library::words_refusal` meets its contract. The invariant: no word passed is refused.
use Rattle.library.proofs.Calling.{PassedBelow}
use Rattle.library.proofs.words_refusal.Given as goal

abbrev pub invariant-loop-w : goal.invariant-loop-w
invariant-loop-w l = PassedBelow l.may l.p.settings.n l.p.settings.m l.words l.w-index
