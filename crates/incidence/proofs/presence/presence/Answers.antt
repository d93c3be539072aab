-- `incidence::presence::presence` meets its contract.
use Rattle.std.proofs.Common.{◌≡◌, ◌<◌, ◌^◌, arith, refl}
use Rattle.incidence.proofs.Products.{stands_none, stands_vertex, stands_all}
use Rattle.incidence.proofs.presence.presence.Goals as goal

pub loop-v-init : goal.loop-v-init
loop-v-init c = stands_none _ _ _ _ _ _ _

pub loop-v-preserved : goal.loop-v-preserved
loop-v-preserved c =
    let here : c.loop-v.v < 2 ^ c.args.n = omega (arith, c.loop-v-test.true, c.bound-v-end.ensures) in
    stands_vertex _ _ _ _ _ _ _ _ _ (c.product_at-product.ensures.up_to _ _ _ _ _ _ (record {
      rest = c.minus.result;
      terms = c.minus.ensures;
      columns = c.summands-f.ensures;
      blocks_driving = c.block_summands-driving.ensures;
    }) here refl refl c.loop-v.invariant)

pub returns : goal.returns
returns c =
    let end : c.loop-v.v ≡ 2 ^ c.args.n = omega (arith, c.loop-v-test.false, c.loop-v.auto.v-end, c.bound-v-end.ensures) in
    stands_all _ _ _ _ _ _ _ _ _ end c.loop-v.invariant
