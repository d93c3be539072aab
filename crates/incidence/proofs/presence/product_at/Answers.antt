-- `incidence::presence::product_at` meets its contract.
use Rattle.std.proofs.Common.{◌<◌, arith}
use Rattle.incidence.proofs.Products.{at_none, at_off, at_point, at_cell, at_end}
use Rattle.incidence.proofs.presence.product_at.Goals.{then-has, else-has}
use Rattle.incidence.proofs.presence.product_at.Goals as goal

pub returns-then-on-eq0 : goal.returns-then-on-eq0
returns-then-on-eq0 c = at_off _ _ _ _ _ _ _ _ _ c.if-on-eq0.true

pub loop-j-init : goal.loop-j-init
loop-j-init c = at_none _ _ _ _ _ _ _ _ _

pub loop-j-preserved : goal.loop-j-preserved
loop-j-preserved c =
    let byte : c.args.v < 256 = omega (arith, c.ranges.v.fits) in
    elim c.if-has.branch [
      | then-has w ↦ at_point _ _ _ _ _ _ _ _ _ _ c.loop-j-test.true c.has.ensures c.loop-j.invariant byte w.if-has.true _ w.from.ensures _ _ _
          w.sum_at.ensures w.block_sum_at.ensures w.product-is
      | else-has w ↦ at_cell _ _ _ _ _ _ _ _ _ _ c.loop-j-test.true c.has.ensures c.loop-j.invariant w.if-has.false _ w.product-is
    ]

pub returns : goal.returns
returns c = at_end _ _ _ _ _ _ _ _ _ c.loop-j-test.false c.loop-j.auto.j-end c.loop-j.invariant
