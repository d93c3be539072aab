-- `rows::covering::privates` meets its contract. The invariant: acc has the members with a row of their own among the rows passed.
use Rattle.std.proofs.Common.{arith}
use Rattle.bits.proofs.Decide.{decides_true, decides_false}
use Rattle.rows.proofs.Sets.{privates_none, privates_take, privates_skip, privates_done}
use Rattle.rows.proofs.covering.privates.Goals.{else-is_single, then-is_single}
use Rattle.rows.proofs.covering.privates.Goals as goal

pub loop-row-init : goal.loop-row-init
loop-row-init c = privates_none _ _

pub loop-row-preserved : goal.loop-row-preserved
loop-row-preserved c = let single = c.is_single.ensures in
    elim c.if-is_single.branch [ then-is_single w ↦ rw w.acc-is (privates_take _ _ _ _ c.loop-row.invariant (decides_true _ _ single w.if-is_single.true)) | else-is_single w ↦ rw w.acc-is (privates_skip _ _ _ _ c.loop-row.invariant (decides_false _ _ single w.if-is_single.false)) ]

pub returns : goal.returns
returns c = privates_done _ _ _ _ (omega arith) c.loop-row.invariant
