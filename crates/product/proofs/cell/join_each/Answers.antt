-- `product::cell::join_each` meets its contract: what is put so far, and p with the members left, is the whole.
use Rattle.std.proofs.Common.{◌≡◌, arith}
use Rattle.bits.proofs.Parts.{minus_member_less}
use Rattle.product.proofs.Putting.{going_none, going_put, going_no_room, going_end}
use Rattle.product.proofs.Joining.{with_next, with_none}
use Rattle.product.proofs.cell.join_each.Goals as goal

pub loop-m-init : goal.loop-m-init
loop-m-init c =
    let e : c.into_iter-m-iterator.result.rest ≡ c.args.x = cc in
    rw e (omega arith, going_none _ _ _ c.requires.0 c.requires.1)

pub returns-then-count-to : goal.returns-then-count-to
returns-then-count-to c =
    let t = c.in-Some.ensures.steps in
    going_no_room _ _ _ c.loop-m.invariant.1 (with_next _ _ _ _ c.loop-m.invariant.0 t.lowest t.others) (omega (arith, c.loop-m.invariant.1.size))

pub bounds-to-count : goal.bounds-to-count
bounds-to-count c = omega (arith, c.loop-m.invariant.1.size, c.loop-m.invariant.1.room)

pub loop-m-preserved : goal.loop-m-preserved
loop-m-preserved c =
    let t = c.in-Some.ensures.steps in (
      omega (arith, c.loop-m.invariant.0, minus_member_less _ _ _ t.lowest.member t.others),
      going_put _ _
          c.loop-m.invariant.1 (with_next _ _ _ _ c.loop-m.invariant.0 t.lowest t.others)
          (omega (arith, c.loop-m.invariant.1.size, c.loop-m.invariant.1.room)),
    )

pub returns : goal.returns
returns c = going_end c.loop-m.invariant.1 (with_none _ _ c.in-None.ensures.steps.0)
