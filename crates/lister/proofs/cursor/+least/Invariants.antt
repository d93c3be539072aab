-- The proof of the cycle of calls {least}: the measure is i.
use Rattle.lister.proofs.cursor.+least.Given as goal

abbrev pub decreases-least : goal.decreases-least
decreases-least l = l.i
