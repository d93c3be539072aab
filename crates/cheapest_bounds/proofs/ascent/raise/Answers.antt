-- `cheapest_bounds::ascent::raise` meets its contract. The invariant: the rows passed have taken sum, of entries that fit 16 bits.
use Rattle.std.proofs.Common.{◌∙◌, arith}
use Rattle.cheapest_bounds.proofs.Ascending.{raising_none, raising_more, raising_small, raising_all}
use Rattle.cheapest_bounds.proofs.ascent.raise.Goals as goal

pub loop-row-init : goal.loop-row-init
loop-row-init c = record {
  raising = raising_none _ _;
  fits = λ k. omega (arith, c.type_inv.left k);
}

pub pay-sum-requires : goal.pay-sum-requires
pay-sum-requires c = c.loop-row.invariant.raising.size ∙ c.requires

pub overflow_add-sum : goal.overflow_add-sum
overflow_add-sum c =
    let more = raising_more _ _ _ _ _ _ _ c.loop-row.invariant.raising c.pay-sum.ensures in
    omega (
      arith,
      raising_small _ _ _ _ _ (λ k. omega (arith, c.type_inv.rows k)) c.requires c.loop-row.invariant.fits more,
    )

pub loop-row-preserved : goal.loop-row-preserved
loop-row-preserved c =
    record {
      raising = raising_more _ _ _ _ _ _ _ c.loop-row.invariant.raising c.pay-sum.ensures;
      fits = c.loop-row.invariant.fits;
    }

pub shape_of-left : goal.shape_of-left
shape_of-left c = c.loop-row.invariant.raising.size

pub returns : goal.returns
returns c = raising_all _ _ _ _ _ (omega arith) c.loop-row.invariant.raising
