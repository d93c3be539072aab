-- `ranges::rivals::refuted` meets its contract.
use Rattle.std.proofs.Common.{ℕ, ◌+◌, refl, ap, ◌∙◌, not, leb-true}
use Rattle.ranges.proofs.Mixing.{mixed_unit}
use Rattle.ranges.proofs.Contesting.{refuted_dear, refuted_all}
use Rattle.ranges.proofs.rivals.refuted.Goals as goal

pub below-requires-clause-common_unit : goal.below-requires-clause-common_unit
below-requires-clause-common_unit c =
    let q = c.args.market.now.quoted in mixed_unit _ _ _ _ _ _ c.mixed-w.ensures q.highs q.lows

pub returns-then-limit-paid : goal.returns-then-limit-paid
returns-then-limit-paid c =
    λ q. refuted_dear _ _ _ _ _ c.args.t _ _ _ _ _ _ c.all.ensures refl
    c.needless.ensures c.mixed-w.ensures c.total-paid.ensures (ap (λ (x : ℕ). x + 1) c.cost-limit.ensures.value) (leb-true _ _ q)

pub returns-else-limit-paid : goal.returns-else-limit-paid
returns-else-limit-paid c =
    λ q. refuted_all _ _ _ _ _ c.args.t _ _ _ _ _ _ c.all.ensures refl
    c.needless.ensures c.mixed-w.ensures c.total-paid.ensures (ap (λ (x : ℕ). x + 1) c.cost-limit.ensures.value)
    _ c.below.ensures (c.is_none.ensures ∙ ap not q)
