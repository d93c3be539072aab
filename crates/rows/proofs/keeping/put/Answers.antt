-- `rows::keeping::put` meets its contract.
use Rattle.std.proofs.Common.{arith}
use Rattle.rows.proofs.Making.{made_skip, made_take, made_as, made_all}
use Rattle.rows.proofs.keeping.put.Goals.{in-Some, in_default}
use Rattle.rows.proofs.keeping.put.Goals as goal

pub loop-row-preserved : goal.loop-row-preserved
loop-row-preserved g c =
    let so_far = c.loop-row.invariant in
    elim c.match-keep.branch [
      | in-Some w ↦ made_as _ _ _ w.out-is w.n-is (made_take _ _ _ _ _ so_far _ (omega (arith, so_far.few)) w.in-Some.ensures)
      | in_default w ↦ made_as _ _ _ w.out-is w.n-is (made_skip _ _ _ _ _ so_far w.in_default.ensures)
    ]

pub returns : goal.returns
returns g c = made_all _ _ _ _ _ _ c.loop-row.invariant (omega arith) c.loop-row.auto.out
