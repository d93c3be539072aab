-- `cheapest_nodes::components::closed` meets its contract. The invariant: no unmet row passed is partly in a.
use Rattle.std.proofs.Common.{arith}
use Rattle.bits.proofs.Decide.{decides_true, decides_false, says_true, says_false}
use Rattle.cheapest_nodes.specs.Nodes.{Closed}
use Rattle.cheapest_nodes.proofs.Closing.{closed_none, closed_met, closed_more, closed_all}
use Rattle.cheapest_nodes.proofs.components.closed.Goals.{else-row-s-eq0-via-then-row-s-eq0+else-not-apart_or_in, else-row-s-eq0-via-else-row-s-eq0}
use Rattle.cheapest_nodes.proofs.components.closed.Goals as goal

pub loop-row-init : goal.loop-row-init
loop-row-init c = closed_none _ _ _ _

pub returns-then-not-apart_or_in : goal.returns-then-not-apart_or_in
unfolding Closed
returns-then-not-apart_or_in c =
    says_false _ (λ h. decides_false _ _ c.apart_or_in.ensures c.if-not-apart_or_in.true (h c.loop-row.row-index c.loop-row-test.true c.if-row-s-eq0.true))

pub loop-row-preserved : goal.loop-row-preserved
loop-row-preserved c = elim c.else-row-s-eq0.branch [
  | else-row-s-eq0-via-then-row-s-eq0+else-not-apart_or_in w ↦
      closed_more _ _ _ _ _ c.loop-row.invariant (decides_true _ _ w.apart_or_in.ensures w.if-not-apart_or_in.false)
  | else-row-s-eq0-via-else-row-s-eq0 w ↦ closed_met _ _ _ _ _ c.loop-row.invariant w.if-row-s-eq0.false
]

pub returns : goal.returns
returns c = says_true _ (closed_all _ _ _ _ _ (omega arith) c.loop-row.invariant)
