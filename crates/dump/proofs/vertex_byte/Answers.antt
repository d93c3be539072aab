-- `dump::vertex_byte` meets its contract.
use Rattle.std.proofs.Common.{◌∙◌, arith}
use Rattle.incidence.proofs.Candidates.{flag_le}
use Rattle.dump.proofs.Showing.{one_or_none, passed_none, passed_room, passed_next, passed_all}
use Rattle.dump.proofs.vertex_byte.Goals as goal

pub loop-k-init : goal.loop-k-init
loop-k-init c = passed_none

pub overflow_mul-byte : goal.overflow_mul-byte
overflow_mul-byte c = omega (arith, passed_room c.loop-k.invariant c.loop-k-test.true)

pub overflow_add-byte : goal.overflow_add-byte
overflow_add-byte c = omega (arith, passed_room c.loop-k.invariant c.loop-k-test.true, flag_le c.has.result _ (c.from.ensures ∙ one_or_none c.has.result))

pub loop-k-preserved : goal.loop-k-preserved
loop-k-preserved c = passed_next c.loop-k.invariant c.loop-k-test.true c.has.ensures (c.from.ensures ∙ one_or_none c.has.result)

pub returns : goal.returns
returns c = passed_all c.loop-k.invariant c.loop-k-test.false
