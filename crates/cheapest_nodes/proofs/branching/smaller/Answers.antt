-- `cheapest_nodes::branching::smaller` meets its contract.
use Rattle.std.proofs.Common.{◌∙◌, ap, sym, Some, inl, inr, ⊎_elim}
use Rattle.bits.proofs.Parts.{fewer_either}
use Rattle.cheapest_nodes.proofs.branching.smaller.Goals as goal

pub returns-in-Some : goal.returns-in-Some
returns-in-Some c =
    ⊎_elim (λ e. inr (c.in-Some.is ∙ ap Some (sym (c.fewer.ensures ∙ e)))) (λ e. inl (c.fewer.ensures ∙ e)) (fewer_either _ _)
