-- `cheapest_nodes::dominance::shared` meets its contract. The invariant: the entries are in the unmet rows passed that have their candidates.
use Rattle.std.proofs.Common.{sym, subst, refl, arith}
use Rattle.cheapest_nodes.specs.Nodes.{Shared}
use Rattle.cheapest_nodes.proofs.Restricting.{shared_none, shared_met, shared_more, shared_all}
use Rattle.cheapest_nodes.proofs.dominance.shared.Goals.{then-row-s-eq0, else-row-s-eq0}
use Rattle.cheapest_nodes.proofs.dominance.shared.Goals as goal

pub loop-row-init : goal.loop-row-init
loop-row-init c = shared_none _ _ _ _ refl

pub loop-row-preserved : goal.loop-row-preserved
loop-row-preserved c = elim c.if-row-s-eq0.branch [
  | then-row-s-eq0 w ↦ subst (Shared _ _ _ _) (sym w.common-is) (shared_more _ _ _ _ _ c.loop-row.invariant _ w.restrict.ensures)
  | else-row-s-eq0 w ↦ subst (Shared _ _ _ _) (sym w.common-is) (shared_met _ _ _ _ _ c.loop-row.invariant w.if-row-s-eq0.false)
]

pub returns : goal.returns
returns c = shared_all _ _ _ _ _ (omega arith) c.loop-row.invariant
