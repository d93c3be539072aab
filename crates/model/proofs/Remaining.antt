-- What 17 counts: the products that remain after the keeping, at each cell.
use Prim.Native.Nat.{ℕ, zero, suc, ◌≤◌, ◌<◌}
use native.Mathlib.Omega.{arith}
use mathlib.Core.Path.{◌≡◌, refl}
use mathlib.Core.Bool.{Bool, not}
use lib.Dec.{T, ltb, nltb→le}
use lib.ListN.{length}
use Rattle.model.specs.Base.{below}
use Rattle.model.specs.Sets.{Covering}
use Rattle.model.specs.Products.{most_products, products_up_to, products, has_too_many}
use Rattle.model.proofs.Lists.{not_some, all_e, below_i}

module _ {A X : Type 0} (k : Covering A X) where
  -- where it does not apply, no cell leaves more than 1,024
  pub few_at : T (not (has_too_many k)) → (i : ℕ) → i < length k.points → length (products_up_to k (suc i)) ≤ most_products
  unfolding has_too_many
  few_at n i l =
      let many : ℕ → Bool = λ j. ltb most_products (length (products_up_to k (suc j))) in
      let points = below (length k.points) in
      nltb→le most_products (length (products_up_to k (suc i))) (all_e (λ (j : ℕ). T (not (many j))) points (not_some many points n) (below_i l))

  pub few_products : T (not (has_too_many k)) → length (products k) ≤ most_products
  unfolding products products_up_to
  few_products n = go (length k.points) refl
    where
      go : (i : ℕ) → length k.points ≡ i → length (products_up_to k i) ≤ most_products
      go zero e = omega arith
      go (suc i) e = few_at n i (omega (arith, e))
