-- `ranges::cursor::beyond` meets its contract.
use Rattle.std.proofs.Common.{arith, refl, sym, subst, ◌∙◌}
use Rattle.lister.specs.Selected.{Passed}
use Rattle.ranges.proofs.Walking.{one_passed, level_fits, level_passed}
use Rattle.ranges.proofs.cursor.beyond.Goals.{then-x-m-eq0+else-alive-m-ne0+else-promising, else-x-m-eq0}
use Rattle.ranges.proofs.cursor.beyond.Goals as goal

pub loop-i-init : goal.loop-i-init
loop-i-init c = one_passed _ _ _ _ c.args.market.now.quoted _ _ _ c.new.ensures c.past-c.ensures c.requires

pub overflow_add-s : goal.overflow_add-s
overflow_add-s c =
    let few = c.args.market.now.quoted.few in
    omega (arith, level_fits c.args.x c.loop-i.i _ _ c.power-m.ensures refl (omega (arith, few)) (omega arith) c.if-x-m-eq0.true)

pub loop-i-preserved : goal.loop-i-preserved
loop-i-preserved c = elim c.if-x-m-eq0.branch [
  | then-x-m-eq0+else-alive-m-ne0+else-promising w ↦
      let none = w.promising.ensures w.if-promising.false in
      level_passed _ _ _ _ c.args.market.now.quoted c.args.x c.loop-i.i _ _ c.power-m.ensures refl none _ (w.c-is ∙ w.new-c.ensures)
  | else-x-m-eq0 w ↦ subst (Passed _ _) (sym w.c-is) c.loop-i.invariant
]
