-- Rows with the same covers have the same irredundant covers and the same cheapest; reduced rows are such.
use Prim.Native.Nat.{ℕ, ◌-◌, ◌^◌, ◌<◌}
use native.Mathlib.Omega.{arith}
use mathlib.Core.Path.{◌≡◌, refl, sym, ◌∙◌, subst}
use mathlib.Core.List.{List}
use lib.ListN.{length, take}
use lib.Pow.{pow_pos}
use Rattle.model.specs.Sets.{cover, coverable, of_rows, irredundants, cost, cheapest}
use Rattle.model.proofs.Lists.{bool_ext}
use Rattle.model.proofs.Matrix.{irredundants_same, cheapest_same, coverable_all}
use Rattle.rows.specs.Covers.{Cover}
use Rattle.rows.specs.Reduction.{Reduced}
use Rattle.rows.proofs.Bridge.{cover_to, cover_from, of_rows_size}
use Rattle.rows.proofs.Reducing.{reduced_cover, cover_reduced}

module _ (costs old new : List ℕ) (into : (s : ℕ) → Cover old s → Cover new s) (back : (s : ℕ) → Cover new s → Cover old s) where
  same_cover : (s : ℕ) → s < 2 ^ length (of_rows costs old).cands → cover (of_rows costs old) s ≡ cover (of_rows costs new) s
  same_cover s l = bool_ext (cover (of_rows costs old) s) (cover (of_rows costs new) s)
      (λ t. cover_from costs new s small (into s (cover_to costs old s t)))
      (λ t. cover_from costs old s small (back s (cover_to costs new s t)))
    where
      small : s < 2 ^ length costs
      small = subst (λ (n : ℕ). s < 2 ^ n) (of_rows_size costs old) l

  same_irredundants : irredundants (of_rows costs old) ≡ irredundants (of_rows costs new)
  same_irredundants = irredundants_same (of_rows costs old) (of_rows costs new) refl same_cover

  same_cheapest : cheapest (of_rows costs old) ≡ cheapest (of_rows costs new)
  unfolding cost
  same_cheapest = cheapest_same (of_rows costs old) (of_rows costs new) refl same_cover (λ s. refl)

  same_coverable : coverable (of_rows costs old) ≡ coverable (of_rows costs new)
  same_coverable =
      coverable_all (of_rows costs old)
      ∙ same_cover (2 ^ length (of_rows costs old).cands - 1) (omega (arith, pow_pos (length (of_rows costs old).cands)))
      ∙ sym (coverable_all (of_rows costs new))

module _ (costs rows out : List ℕ) (r : ℕ) (d : Reduced rows out r) where
  pub reduced_irredundants : irredundants (of_rows costs rows) ≡ irredundants (of_rows costs (take r out))
  reduced_irredundants = same_irredundants costs rows (take r out) (reduced_cover rows out r d) (cover_reduced rows out r d)

  pub reduced_cheapest : cheapest (of_rows costs rows) ≡ cheapest (of_rows costs (take r out))
  reduced_cheapest = same_cheapest costs rows (take r out) (reduced_cover rows out r d) (cover_reduced rows out r d)

  pub reduced_coverable : coverable (of_rows costs rows) ≡ coverable (of_rows costs (take r out))
  reduced_coverable = same_coverable costs rows (take r out) (reduced_cover rows out r d) (cover_reduced rows out r d)
