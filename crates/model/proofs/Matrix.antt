-- The covering problem by its rows has the same covers, costs and cheapest.
use Prim.Native.Nat.{ℕ, zero, suc, ◌+◌, ◌*◌, ◌/◌, ◌%◌, ◌-◌, ◌^◌, ◌<◌}
use native.Mathlib.Omega.{arith}
use native.Mathlib.Nat.{pow-suc}
use mathlib.Core.Path.{◌≡◌, refl, sym, ap, ap₂, ◌∙◌, subst, subst⁻¹}
use mathlib.Core.Bool.{Bool, true, false, cond, ◌&&◌}
use mathlib.Core.List.{List, [], ◌∷◌, map, Memᴰ}
use lib.Bits.{bit_and}
use lib.ListN.{get_or, length, length-map}
use Rattle.model.specs.Base.{bit, from, below, some, filter, sum}
use Rattle.model.specs.Sets.{Covering, members, covers, cover, coverable, redundant, irredundant, irredundants, cost, least, least_of, cheapest, row_of, of_rows}
use Rattle.model.proofs.Lists.{bool_ext, every_same, every_map, below_e}
use Rattle.model.proofs.Bits.{bit_flag}
use Rattle.model.proofs.Sets.{members_all}
use Rattle.model.proofs.Rows.{held_iff}

-- ---- rows as numbers

pub row_of_lt : {A X : Type 0} (holds : A → X → Bool) (ts : List A) (x : X) → row_of holds ts x < 2 ^ length ts
unfolding row_of
row_of_lt holds [] x = omega arith
row_of_lt holds (t ∷ ts) x = go (holds t x) (row_of_lt holds ts x)
  where
    go : (b : Bool) → row_of holds ts x < 2 ^ length ts → row_of holds ts x * 2 + cond b 1 0 < 2 ^ suc (length ts)
    go true h = omega (arith, pow-suc 2 (length ts))
    go false h = omega (arith, pow-suc 2 (length ts))

-- the row of row r is r
row_bits : (k i r q : ℕ) → ((j : ℕ) → bit (i + j) r ≡ bit j q) → q < 2 ^ k → row_of bit (from i k) r ≡ q
unfolding row_of
row_bits zero i r q f l = omega arith
row_bits (suc k) i r q f l =
    let e : row_of bit (from (suc i) k) r ≡ q / 2 = row_bits k (suc i) r (q / 2) (λ j. up j) (omega (arith, pow-suc 2 k)) in
    let b : cond (bit i r) 1 0 ≡ q % 2 = ap (λ (x : Bool). cond x 1 0) here ∙ bit_flag q in
    omega arith
  where
    here : bit i r ≡ bit 0 q
    here = let e : i + 0 ≡ i = omega arith in subst (λ (x : ℕ). bit x r ≡ bit 0 q) e (f 0)

    up : (j : ℕ) → bit (suc i + j) r ≡ bit j (q / 2)
    up j = let e : i + suc j ≡ suc i + j = omega arith in subst (λ (x : ℕ). bit x r ≡ bit j (q / 2)) e (f (suc j))

-- ---- two covering problems with the same covers

pub filter_same : {A : Type 0} (f g : A → Bool) (xs : List A) → ((x : A) → Memᴰ x xs → f x ≡ g x) → filter f xs ≡ filter g xs
filter_same f g [] h = refl
filter_same f g (x ∷ xs) h = rw (h x (Memᴰ.head refl), filter_same f g xs (λ y m. h y (Memᴰ.tail m)))

least_same : (f g : ℕ → ℕ) (ss : List ℕ) → ((s : ℕ) → f s ≡ g s) → (b : ℕ) → least f b ss ≡ least g b ss
least_same f g [] h b = refl
least_same f g (s ∷ ss) h b = rw (h s, h b) (least_same f g ss h _)

least_of_same : (f g : ℕ → ℕ) (ss : List ℕ) → ((s : ℕ) → f s ≡ g s) → least_of f ss ≡ least_of g ss
least_of_same f g [] h = refl
least_of_same f g (s ∷ ss) h = least_same f g ss h s

module _ {A X B Y : Type 0} (k : Covering A X) (j : Covering B Y) (size : length k.cands ≡ length j.cands) (same : (s : ℕ) → s < 2 ^ length k.cands → cover k s ≡ cover j s) where
  irredundant_same : (s : ℕ) → s < 2 ^ length k.cands → irredundant k s ≡ irredundant j s
  unfolding irredundant redundant
  irredundant_same s l = rw (same s l, ← size) (ap (λ (b : Bool). cover j s && b) (every_same _ _ (below (length k.cands)) (λ i. rw (same (s - 2 ^ i) (omega arith)))))

  pub irredundants_same : irredundants k ≡ irredundants j
  unfolding irredundants
  irredundants_same = rw (← size) (filter_same (irredundant k) (irredundant j) (below (2 ^ length k.cands)) (λ s m. irredundant_same s (below_e (2 ^ length k.cands) m)))

  pub cheapest_same : ((s : ℕ) → cost k s ≡ cost j s) → cheapest k ≡ cheapest j
  unfolding cheapest
  cheapest_same c = rw irredundants_same (least_of_same (cost k) (cost j) (irredundants j) c)

-- all candidates together are the set of all
pub coverable_all : {A X : Type 0} (k : Covering A X) → coverable k ≡ cover k (2 ^ length k.cands - 1)
unfolding cover coverable
coverable_all k = rw (members_all k.cands)

-- ---- the rows of a covering problem

pub from_length : (i k : ℕ) → length (from i k) ≡ k
from_length i zero = refl
from_length i (suc k) = ap suc (from_length (suc i) k)

-- costs by index, from i on
pub sum_index : {A : Type 0} (w : A → ℕ) (ts : List A) (cs : List ℕ) (i s : ℕ) → ((j : ℕ) → get_or cs (i + j) 0 ≡ get_or (map w ts) j 0)
    → sum (λ j. get_or cs j 0) (members (from i (length ts)) s) ≡ sum w (members ts s)
sum_index w [] cs i s f = refl
sum_index w (t ∷ ts) cs i s f = go (bit 0 s) (sum_index w ts cs (suc i) (s / 2) up)
  where
    up : (j : ℕ) → get_or cs (suc i + j) 0 ≡ get_or (map w ts) j 0
    up j = let e : i + suc j ≡ suc i + j = omega arith in subst (λ (x : ℕ). get_or cs x 0 ≡ get_or (map w ts) j 0) e (f (suc j))

    first : get_or cs i 0 ≡ w t
    first = let e : i + 0 ≡ i = omega arith in subst (λ (x : ℕ). get_or cs x 0 ≡ w t) e (f 0)

    go : (b : Bool) → sum (λ j. get_or cs j 0) (members (from (suc i) (length ts)) (s / 2)) ≡ sum w (members ts (s / 2))
        → sum (λ j. get_or cs j 0) (cond b (i ∷ members (from (suc i) (length ts)) (s / 2)) (members (from (suc i) (length ts)) (s / 2)))
        ≡ sum w (cond b (t ∷ members ts (s / 2)) (members ts (s / 2)))
    go true later = ap₂ (λ (x y : ℕ). x + y) first later
    go false later = later

module _ {A X : Type 0} (k : Covering A X) where
  abbrev rows : List ℕ
  rows = map (row_of k.holds k.cands) k.points

  abbrev costs : List ℕ
  costs = map k.weight k.cands

  -- by its rows
  abbrev pub by_rows : Covering ℕ ℕ
  by_rows = of_rows costs rows

  rows_size : length by_rows.cands ≡ length k.cands
  rows_size = from_length 0 (length costs) ∙ length-map k.cands k.weight

  -- candidate i by its number, of as many numbers as there are candidates
  pub rows_held : (n : ℕ) → n ≡ length k.cands → (s : ℕ) (x : X) → some (λ i. bit i (row_of k.holds k.cands x)) (members (below n) s) ≡ some (λ t. k.holds t x) (members k.cands s)
  rows_held n m s x =
      let r : ℕ = row_of k.holds k.cands x in
      let l : r < 2 ^ n = subst⁻¹ (λ (c : ℕ). r < 2 ^ c) m (row_of_lt k.holds k.cands x) in
      let e : row_of bit (below n) r ≡ r = row_bits n 0 r r (λ j. let z : 0 + j ≡ j = omega arith in ap (λ (i : ℕ). bit i r) z) l in
      let a = held_iff bit (below n) r s in
      let b = held_iff k.holds k.cands x s in
      bool_ext (some (λ i. bit i r) (members (below n) s)) (some (λ t. k.holds t x) (members k.cands s))
      (λ t. b.1 (subst (λ (q : ℕ). 0 < bit_and s q) e (a.0 t)))
      (λ t. a.1 (subst⁻¹ (λ (q : ℕ). 0 < bit_and s q) e (b.0 t)))

  rows_cover : (s : ℕ) → cover by_rows s ≡ cover k s
  unfolding cover covers
  rows_cover s = every_map _ (row_of k.holds k.cands) k.points ∙ every_same _ _ k.points (rows_held (length costs) (length-map k.cands k.weight) s)

  pub rows_cost : (s : ℕ) → cost by_rows s ≡ cost k s
  unfolding cost
  rows_cost s = rw (length-map k.cands k.weight) (sum_index k.weight k.cands costs 0 s (λ j. let z : 0 + j ≡ j = omega arith in ap (λ (i : ℕ). get_or costs i 0) z))

  pub rows_irredundants : irredundants by_rows ≡ irredundants k
  rows_irredundants = irredundants_same by_rows k rows_size (λ s l. rows_cover s)

  pub rows_cheapest : cheapest by_rows ≡ cheapest k
  rows_cheapest = cheapest_same by_rows k rows_size (λ s l. rows_cover s) rows_cost

  pub rows_coverable : coverable by_rows ≡ coverable k
  rows_coverable = coverable_all by_rows ∙ rw rows_size (rows_cover (2 ^ length k.cands - 1)) ∙ sym (coverable_all k)
