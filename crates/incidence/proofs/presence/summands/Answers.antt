-- `incidence::presence::summands` meets its contract.
use Rattle.std.proofs.Common.{refl}
use Rattle.incidence.proofs.Sums.{columns_none, columns_next, columns_all}
use Rattle.incidence.proofs.presence.summands.Goals.{then-has, else-has}
use Rattle.incidence.proofs.presence.summands.Goals as goal

pub loop-i-init : goal.loop-i-init
loop-i-init c = columns_none _ _ _ _ _ refl refl refl

pub loop-i-preserved : goal.loop-i-preserved
loop-i-preserved c = columns_next _ _ c.requires c.loop-i.invariant _ _ _ c.loop-i-test.true c.has.ensures
    (elim c.if-has.branch [ then-has w ↦ rw w.if-has.true w.outputs-is | else-has w ↦ rw w.if-has.false w.outputs-is ])

pub returns : goal.returns
returns c = columns_all _ _ c.requires c.loop-i.invariant c.loop-i-test.false
