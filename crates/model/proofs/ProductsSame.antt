-- K8's multiplication depends on nothing but what the sets of candidates meet: by its rows a covering problem has the same products.
use Prim.Native.Nat.{ℕ, suc, ◌^◌, ◌<◌}
use mathlib.Core.Path.{◌≡◌, sym, ap, ◌∙◌, subst, subst⁻¹}
use mathlib.Core.Bool.{Bool}
use mathlib.Core.List.{List, map}
use lib.Dec.{T, ltb}
use lib.ListN.{length, take, length-map}
use Rattle.model.specs.Base.{bit, below, every}
use Rattle.model.specs.Sets.{Covering, row_of, of_rows}
use Rattle.model.specs.Presence.{sum_at, product_up_to}
use Rattle.model.specs.Products.{most_products, products_up_to, products, has_too_many}
use Rattle.model.proofs.Lists.{every_same, some_same, every_map, take_map}
use Rattle.model.proofs.Matrix.{from_length, rows_held}
use Rattle.model.proofs.Presence.{sum_held}
use Rattle.model.proofs.Products.{MeetsUpTo, least_for, products_least, products_rising, products_are_lem}

-- two covering problems with as many candidates and points whose sets meet the same: they have the same products, and 17 applies to both or neither
module _ {A X B Y : Type 0} (k : Covering A X) (j : Covering B Y) (size : length k.cands ≡ length j.cands) (points : length k.points ≡ length j.points)
    (same : (s i : ℕ) → s < 2 ^ length k.cands → product_up_to k s i ≡ product_up_to j s i) where
  pub products_same : (i : ℕ) → products_up_to k i ≡ products_up_to j i
  products_same i = products_are_lem j i (products_up_to k i) (products_rising k i) (least_for (MeetsUpTo k i) (MeetsUpTo j i) (products_up_to k i) to back (products_least k i))
    where
      to : (s : ℕ) → MeetsUpTo k i s → MeetsUpTo j i s
      to s m = (subst (λ (n : ℕ). s < 2 ^ n) size m.0, subst (λ (b : Bool). T b) (same s i m.0) m.1)

      back : (s : ℕ) → MeetsUpTo j i s → MeetsUpTo k i s
      back s m = let l : s < 2 ^ length k.cands = subst⁻¹ (λ (n : ℕ). s < 2 ^ n) size m.0 in (l, subst⁻¹ (λ (b : Bool). T b) (same s i l) m.1)

  pub last_products_same : products k ≡ products j
  unfolding products
  last_products_same = rw points (products_same (length j.points))

  pub too_many_same : has_too_many k ≡ has_too_many j
  unfolding has_too_many
  too_many_same =
      rw points
      (some_same (λ i. ltb most_products (length (products_up_to k (suc i)))) (λ i. ltb most_products (length (products_up_to j (suc i)))) (below (length j.points))
      (λ i. rw (products_same (suc i))))

-- a set meets the rows of the points that it meets
module _ {A X : Type 0} (k : Covering A X) (costs : List ℕ) (size : length costs ≡ length k.cands) where
  abbrev rows : List ℕ
  rows = map (row_of k.holds k.cands) k.points

  rows_size : length (of_rows costs rows).cands ≡ length k.cands
  rows_size = from_length 0 (length costs) ∙ size

  rows_meet : (s i : ℕ) → product_up_to (of_rows costs rows) s i ≡ product_up_to k s i
  unfolding product_up_to
  rows_meet s i =
      ap (every (sum_at bit (below (length costs)) s)) (take_map (row_of k.holds k.cands) i k.points)
      ∙ every_map (sum_at bit (below (length costs)) s) (row_of k.holds k.cands) (take i k.points)
      ∙ every_same (λ x. sum_at bit (below (length costs)) s (row_of k.holds k.cands x)) (sum_at k.holds k.cands s) (take i k.points) point
    where
      point : (x : X) → sum_at bit (below (length costs)) s (row_of k.holds k.cands x) ≡ sum_at k.holds k.cands s x
      point x = sum_held bit (below (length costs)) s (row_of k.holds k.cands x) ∙ rows_held k (length costs) size s x ∙ sym (sum_held k.holds k.cands s x)

-- by its rows alone, whatever the costs
module _ {A X : Type 0} (k : Covering A X) where
  pub rows_products : (costs : List ℕ) → length costs ≡ length k.cands → products (of_rows costs (map (row_of k.holds k.cands) k.points)) ≡ products k
  rows_products costs e =
      last_products_same (of_rows costs (rows k costs e)) k (rows_size k costs e) (length-map k.points (row_of k.holds k.cands)) (λ s i l. rows_meet k costs e s i)

  pub rows_too_many : (costs : List ℕ) → length costs ≡ length k.cands → has_too_many (of_rows costs (map (row_of k.holds k.cands) k.points)) ≡ has_too_many k
  rows_too_many costs e =
      too_many_same (of_rows costs (rows k costs e)) k (rows_size k costs e) (length-map k.points (row_of k.holds k.cands)) (λ s i l. rows_meet k costs e s i)
