-- `cheapest_nodes::dominance::unmet_members` meets its contract. The invariant: acc has the rows passed that s does not meet.
use Rattle.std.proofs.Common.{sym, subst, arith}
use Rattle.rows.specs.Covers.{Unmet}
use Rattle.rows.proofs.Unmet.{unmet_none, unmet_met, unmet_more, unmet_all}
use Rattle.cheapest_nodes.proofs.dominance.unmet_members.Goals.{then-row-s-eq0, else-row-s-eq0}
use Rattle.cheapest_nodes.proofs.dominance.unmet_members.Goals as goal

pub loop-row-init : goal.loop-row-init
loop-row-init c = unmet_none _ _

pub loop-row-preserved : goal.loop-row-preserved
loop-row-preserved c = elim c.if-row-s-eq0.branch [
  | then-row-s-eq0 w ↦ subst (Unmet _ _ _) (sym w.acc-is) (unmet_more _ _ _ _ c.loop-row.invariant)
  | else-row-s-eq0 w ↦ subst (Unmet _ _ _) (sym w.acc-is) (unmet_met _ _ _ _ c.loop-row.invariant w.if-row-s-eq0.false)
]

pub returns : goal.returns
returns c = unmet_all _ _ _ _ (omega arith) c.loop-row.invariant
