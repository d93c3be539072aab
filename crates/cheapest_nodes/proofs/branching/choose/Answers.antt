-- `cheapest_nodes::branching::choose` meets its contract. The invariant: pick is free and not in s; where there is none, s meets the rows passed.
use Rattle.std.proofs.Common.{sym, subst, arith}
use Rattle.cheapest_nodes.proofs.Choosing.{Picked, picked_none, picked_met, picked_unmet, picked_some, chosen_done, chosen_lost, chosen_try}
use Rattle.cheapest_nodes.proofs.branching.choose.Goals.{then-row-s-eq0+else-x-eq0, else-row-s-eq0}
use Rattle.cheapest_nodes.proofs.branching.choose.Goals as goal

pub loop-row-init : goal.loop-row-init
loop-row-init c = picked_none _ _ _

pub returns-then-x-eq0 : goal.returns-then-x-eq0
returns-then-x-eq0 c = chosen_lost _ _ _ _ (omega arith) c.if-row-s-eq0.true c.if-x-eq0.true

pub loop-row-preserved : goal.loop-row-preserved
loop-row-preserved c = elim c.if-row-s-eq0.branch [
  | then-row-s-eq0+else-x-eq0 w ↦ subst (Picked _ _ _ _) (sym w.pick-is)
      (picked_unmet _ _ _ _ _ c.loop-row.invariant _ w.if-row-s-eq0.true w.if-x-eq0.false w.smaller.ensures)
  | else-row-s-eq0 w ↦ subst (Picked _ _ _ _) (sym w.pick-is) (picked_met _ _ _ _ _ c.loop-row.invariant w.if-row-s-eq0.false)
]

pub most_effective-requires : goal.most_effective-requires
most_effective-requires c = picked_some _ _ _ _ _ (subst (Picked _ _ _ _) c.in-Some.is c.loop-row.invariant)

pub returns-in-Some : goal.returns-in-Some
returns-in-Some c = chosen_try _ _ _ _ _ (subst (Picked _ _ _ _) c.in-Some.is c.loop-row.invariant) _ c.most_effective.ensures

pub returns-in-None : goal.returns-in-None
returns-in-None c = chosen_done _ _ _ _ (omega arith) (subst (Picked _ _ _ _) c.in-None.is c.loop-row.invariant)
