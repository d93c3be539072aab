-- `table::blocks::holds_no_off` meets its contract. The invariant: at the vertices passed, b holds no off cell. Assumes nothing.
use native.Mathlib.Omega.{arith}
use Rattle.bits.proofs.Shifts.{power_le}
use Rattle.table.proofs.Vertices.{no_off_yet, no_off_next, one_off, none_off_all}
use Rattle.table.proofs.blocks.holds_no_off.Goals as goal

pub loop-v-init : goal.loop-v-init
loop-v-init c = no_off_yet _ _

pub bounds-may-v : goal.bounds-may-v
bounds-may-v c = omega (arith, power_le _ _ c.requires c.bound-v-end.ensures)

pub overflow_cast-v : goal.overflow_cast-v
overflow_cast-v c = omega (arith, power_le _ _ c.requires c.bound-v-end.ensures)

pub loop-v-preserved : goal.loop-v-preserved
loop-v-preserved c = no_off_next c.loop-v.invariant c.no_off_at.ensures c.if-not-no_off_at.false

pub returns-then-not-no_off_at : goal.returns-then-not-no_off_at
returns-then-not-no_off_at c = one_off c.loop-v.invariant c.bound-v-end.ensures c.loop-v-test.true c.no_off_at.ensures c.if-not-no_off_at.true

pub returns : goal.returns
returns c = none_off_all c.loop-v.invariant c.bound-v-end.ensures c.loop-v-test.false
