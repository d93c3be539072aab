-- K8, "Multiply it out": "the multiplication in document 000", over any candidates. A product is the set of the candidates whose variables it
-- has: a number with bit i for candidate i. A point is one of those to be held (of a table: its wanted cells, "by vertex, then output").
use Rattle.std.specs.Prelude.{ℕ, suc, ◌^◌, ◌<◌, ◌≢◌, Bool, false, ◌&&◌, List, [], ◌∷◌, map, T, eqb, ltb, get_or, length, take}
use Rattle.std.specs.Int.Bits.{bit_and, bit_or}
use Rattle.model.specs.Base.{below, every, some, filter, join, implies}
use Rattle.model.specs.Sets.{Covering, Within}
use Rattle.model.specs.Presence.{values_at, product_up_to}

-- "two lent rows of 1,024 products"
abbrev pub most_products : ℕ
most_products = 1024

-- p "contains" q: each member of q is one of p
abbrev pub contains_product : ℕ → ℕ → Bool
contains_product p q = eqb (bit_and p q) q

-- p "contains no other" of these products
unfoldable pub contains_no_other : List ℕ → ℕ → Bool
contains_no_other js p = every (λ j. implies (contains_product p j) (eqb j p)) js

module _ {A X : Type 0} (k : Covering A X) where
  -- "every candidate that holds the cell", by number
  unfoldable pub holders : X → List ℕ
  holders x = filter (λ i. get_or (values_at k.holds k.cands x) i false) (below (length k.cands))

  -- "it joins every product with every candidate that holds the cell"
  unfoldable pub joined : X → List ℕ → List ℕ
  joined x ps = join (map (λ p. map (λ i. bit_or p (2 ^ i)) (holders x)) ps)

  -- "and keeps one copy of each product that contains no other": of all sets of candidates, rising, those that are so
  unfoldable pub kept : List ℕ → List ℕ
  kept js = filter (λ p. some (eqb p) js && contains_no_other js p) (below (2 ^ length k.cands))

  -- the products after some points, from these on
  abbrev pub multiply : List X → List ℕ → List ℕ
  multiply [] ps = ps
  multiply (x ∷ xs) ps = multiply xs (kept (joined x ps))

  -- it "starts from the product with no members": the products after the first i points
  unfoldable pub products_up_to : ℕ → List ℕ
  products_up_to i = multiply (take i k.points) (0 ∷ [])

  -- "the last products"
  unfoldable pub products : List ℕ
  products = products_up_to (length k.points)

  -- 17: "more than 1,024 products remain at some cell"
  unfoldable pub has_too_many : Bool
  has_too_many = some (λ i. ltb most_products (length (products_up_to (suc i)))) (below (length k.points))

  -- a set of candidates that meets the first i points, and no other part of it does: what the products after these are (law `products_minimal`)
  pub record MinimalUpTo (i s : ℕ) : Type 0 where
    pub among : s < 2 ^ length k.cands
    pub meets : T (product_up_to k s i)
    pub tight : (a : ℕ) → Within a s → a ≢ s → T (product_up_to k a i) → ⊥
