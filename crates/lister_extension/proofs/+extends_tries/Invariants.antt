-- The proof of the cycle of calls {extends, tries}: `tries` at q calls `extends` at q or less, and `extends` at q calls both at less than q, so the
-- measure is 2q for `extends` and 2q + 1 for `tries`.
use Rattle.std.proofs.Common.{◌+◌}
use Rattle.lister_extension.proofs.Extending.{BarredBelow}
use Rattle.lister_extension.proofs.+extends_tries.Given as goal

abbrev pub decreases-tries : goal.decreases-tries
decreases-tries l = l.q + l.q + 1

abbrev pub decreases-extends : goal.decreases-extends
decreases-extends l = l.q + l.q

abbrev pub invariant-tries-loop-row : goal.invariant-tries-loop-row
invariant-tries-loop-row l = BarredBelow l.rows l.row-index l.t.s l.t.free l.b
