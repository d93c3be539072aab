-- K8's multiplication: after each point the products are the least sets that meet the points so far, and the last are the irredundant covers.
use Prim.Native.Nat.{ℕ, suc, ◌^◌, ◌<◌}
use native.Mathlib.Decide.{ℕ_discrete}
use native.Mathlib.Nat.{le_refl}
use native.Mathlib.Numerals.{add-one}
use native.Mathlib.Omega.{arith}
use mathlib.Core.Path.{◌≡◌, refl, sym, ap, ◌∙◌, subst, subst⁻¹}
use mathlib.Core.Logic.{◌↔◌, ◌⊎◌, inl, inr}
use mathlib.Core.Bool.{Bool, ◌&&◌}
use mathlib.Core.List.Memᴰ
use mathlib.Core.List.{List, [], ◌∷◌, Memᴰ}
use lib.Bits.{bit_or, or_lt}
use lib.Dec.{T, ltb, ltb→lt, lt→ltb}
use lib.ListN.{get_or, length, take}
use lib.Pow.{pow_pos, pow-lt}
use Rattle.model.specs.Base.{below, every}
use Rattle.model.specs.Sets.{Covering, Within, irredundants, Irredundant}
use Rattle.model.specs.Presence.{sum_at, product_up_to, presence}
use Rattle.model.specs.Pages.{Rising}
use Rattle.model.specs.Products.{most_products, holders, joined, kept, multiply, products_up_to, products, has_too_many, MinimalUpTo}
use Rattle.model.proofs.Lists.{and_l, and_r, and_i, every_e, every_i, some_e, some_i, below_e, below_i}
use Rattle.model.proofs.Bits.{bit_none, within_le, within_both, within_with, with_here, with_within}
use Rattle.model.proofs.Sets.{listed}
use Rattle.model.proofs.Pages.{rising, rising_down, rising_ge, rising_filter, rising_from}
use Rattle.model.proofs.Presence.{product_next, presence_cover}
use Rattle.model.proofs.ProductsStep.{no_other_e, one_below, kept_e, kept_i, held_e, held_i, holder_lt, sum_more, joined_e, joined_i}

-- ---- the least sets of a family

-- each of ps is one of it, each set of it contains one of ps, and none of ps contains another
pub record Least (D : ℕ → Type 0) (ps : List ℕ) : Type 0 where
  pub sound : (p : ℕ) → Memᴰ p ps → D p
  pub below : (t : ℕ) → D t → (p : ℕ) × Memᴰ p ps × Within p t
  pub apart : (p q : ℕ) → Memᴰ p ps → Memᴰ q ps → Within p q → p ≡ q

-- no set of the family is a proper part of one of them
pub least_tight : (D : ℕ → Type 0) (ps : List ℕ) → Least D ps → (s t : ℕ) → Memᴰ s ps → Within t s → D t → t ≡ s
least_tight D ps l s t m w d =
    let a = l.below t d in
    let e : a.0 ≡ s = l.apart a.0 s a.1 m (λ i b. w i (a.2 i b)) in
    within_both t s w (subst (λ (p : ℕ). Within p t) e a.2)

-- two lists of the least sets of one family have the same entries
pub least_entries : (D : ℕ → Type 0) (ps qs : List ℕ) → Least D ps → Least D qs → (s : ℕ) → Memᴰ s ps → Memᴰ s qs
least_entries D ps qs l k s m =
    let a = k.below s (l.sound s m) in
    subst (λ (p : ℕ). Memᴰ p qs) (least_tight D ps l s a.0 m a.2 (k.sound a.0 a.1)) a.1

-- the same sets by another name
pub least_for : (D E : ℕ → Type 0) (ps : List ℕ) → ((t : ℕ) → D t → E t) → ((t : ℕ) → E t → D t) → Least D ps → Least E ps
least_for D E ps f g l = record { sound = λ p m. f p (l.sound p m); below = λ t d. l.below t (g t d); apart = l.apart }

-- two rising lists with the same entries are equal
pub rising_same : (b : ℕ) (xs ys : List ℕ) → Rising b xs → Rising b ys → ((s : ℕ) → Memᴰ s xs → Memᴰ s ys) → ((s : ℕ) → Memᴰ s ys → Memᴰ s xs) → xs ≡ ys
rising_same b [] [] r s f g = refl
rising_same b [] (y ∷ ys) r s f g = elim (g y (Memᴰ.head refl)) [ ]
rising_same b (x ∷ xs) [] r s f g = elim (f x (Memᴰ.head refl)) [ ]
rising_same b (x ∷ xs) (y ∷ ys) r s f g = heads (Memᴰ.cases_cons (f x (Memᴰ.head refl))) (Memᴰ.cases_cons (g y (Memᴰ.head refl))) (rising_same (suc x) xs ys r.1)
  where
    later : (u v z : ℕ) (us vs : List ℕ) → Rising (suc u) us → u ≡ v → Memᴰ z us → (z ≡ v) ⊎ Memᴰ z vs → Memᴰ z vs
    later u v z us vs q e m (inl h) = absurd (omega (arith, rising_ge (suc u) us q m))
    later u v z us vs q e m (inr h) = h

    same : x ≡ y → (Rising (suc x) ys → ((z : ℕ) → Memᴰ z xs → Memᴰ z ys) → ((z : ℕ) → Memᴰ z ys → Memᴰ z xs) → xs ≡ ys) → x ∷ xs ≡ y ∷ ys
    same e k =
        rw (
          e,
          k (rising_down (suc x) (suc y) ys (omega arith) s.1)
              (λ z m. later x y z xs ys r.1 e m (Memᴰ.cases_cons (f z (Memᴰ.tail m))))
              (λ z m. later y x z ys xs s.1 (sym e) m (Memᴰ.cases_cons (g z (Memᴰ.tail m)))),
        )

    heads : (x ≡ y) ⊎ Memᴰ x ys → (y ≡ x) ⊎ Memᴰ y xs
        → (Rising (suc x) ys → ((z : ℕ) → Memᴰ z xs → Memᴰ z ys) → ((z : ℕ) → Memᴰ z ys → Memᴰ z xs) → xs ≡ ys) → x ∷ xs ≡ y ∷ ys
    heads (inl e) q k = same e k
    heads (inr m) (inl e) k = same (sym e) k
    heads (inr m) (inr h) k = absurd (omega (arith, rising_ge (suc y) ys s.1 m, rising_ge (suc x) xs r.1 h))

-- ---- one point more

module _ {A X : Type 0} (k : Covering A X) where
  -- a family of sets of candidates
  abbrev Among : (ℕ → Type 0) → Type 0
  Among D = (t : ℕ) → D t → t < 2 ^ length k.cands

  -- a set with more members than one of the family is one of it
  abbrev Grows : (ℕ → Type 0) → Type 0
  Grows D = (s t : ℕ) → Within s t → t < 2 ^ length k.cands → D s → D t

  -- of a list within a family that has a part of each set of it, those kept are the least of the family
  kept_least : (D : ℕ → Type 0) (js : List ℕ) → Among D → ((j : ℕ) → Memᴰ j js → D j)
      → ((t : ℕ) → D t → (j : ℕ) × Memᴰ j js × Within j t) → Least D (kept k js)
  kept_least D js small s b =
      record {
        sound = λ p m. s p (kept_e k js m).0;
        below = λ t d.
            let a = b t d in
            let q = one_below js (suc a.0) a.0 (le_refl (suc a.0)) a.1 in
            (q.0, kept_i k js (small q.0 (s q.0 q.1)) q.1 q.2, λ i u. a.2 i (q.3 i u));
        apart = λ p q m n w. no_other_e js q p (kept_e k js n).1 (kept_e k js m).0 w;
      }

  -- of the least sets of a family, what is joined and kept are the least of those that meet the point as well
  step_least : (D : ℕ → Type 0) (x : X) (ps : List ℕ) → Among D → Grows D → Least D ps → Least (λ t. D t × T (sum_at k.holds k.cands t x)) (kept k (joined k x ps))
  step_least D x ps small up l = kept_least E (joined k x ps) (λ t d. small t d.0) each part
    where
      E : ℕ → Type 0
      E t = D t × T (sum_at k.holds k.cands t x)

      put : (p i : ℕ) → Memᴰ p ps → Memᴰ i (holders k x) → E (bit_or p (2 ^ i))
      put p i m h =
          let d = l.sound p m in
          (up p (bit_or p (2 ^ i)) (within_with p i) (or_lt (length k.cands) p (2 ^ i) (small p d) (pow-lt (holder_lt k x i h))) d, held_i k (bit_or p (2 ^ i)) x i h (with_here p i))

      each : (j : ℕ) → Memᴰ j (joined k x ps) → E j
      each j m = let a = joined_e k x ps m in subst E a.4 (put a.0 a.1 a.2 a.3)

      part : (t : ℕ) → E t → (j : ℕ) × Memᴰ j (joined k x ps) × Within j t
      part t d =
          let a = l.below t d.0 in
          let b = held_e k t x d.1 in
          (bit_or a.0 (2 ^ b.0), joined_i k x ps a.0 b.0 a.1 b.1, with_within a.0 b.0 t a.2 b.2)

  -- ---- the products after some points

  -- the sets of candidates that meet the first i points
  abbrev pub MeetsUpTo : ℕ → ℕ → Type 0
  MeetsUpTo i s = (s < 2 ^ length k.cands) × T (product_up_to k s i)

  -- a set with more members meets them too
  pub meets_more : (i s t : ℕ) → Within s t → t < 2 ^ length k.cands → MeetsUpTo i s → MeetsUpTo i t
  unfolding product_up_to
  meets_more i s t w h m = (h, every_i (sum_at k.holds k.cands t) (take i k.points) (λ x n. sum_more k x s t w (every_e (sum_at k.holds k.cands s) n m.1)))

  -- and those of them that meet the next meet one more
  pub meets_next : (i : ℕ) (d : X) (s : ℕ) → i < length k.points → MeetsUpTo (suc i) s ↔ (MeetsUpTo i s × T (sum_at k.holds k.cands s (get_or k.points i d)))
  meets_next i d s l = (
    λ m. ((m.0, and_l now next (subst (λ (b : Bool). T b) e m.1)), and_r now next (subst (λ (b : Bool). T b) e m.1)),
    λ m. (m.0.0, subst⁻¹ (λ (b : Bool). T b) e (and_i now next m.0.1 m.1)),
  )
    where
      now : Bool
      now = product_up_to k s i

      next : Bool
      next = sum_at k.holds k.cands s (get_or k.points i d)

      e : product_up_to k s (suc i) ≡ (now && next)
      e = ap (product_up_to k s) (sym (add-one i)) ∙ product_next k s i d l

  -- the product with no members meets no point and all of none
  pub least_first : Least (MeetsUpTo 0) (0 ∷ [])
  unfolding product_up_to
  least_first =
      record {
        sound = λ p m. rw (Memᴰ.eq_of_singleton m) (pow_pos (length k.cands), tt);
        below = λ t d. (0, Memᴰ.head refl, λ i u. absurd (bit_none i u));
        apart = λ p q m n w. Memᴰ.eq_of_singleton m ∙ sym (Memᴰ.eq_of_singleton n);
      }

  -- one point more: what is joined and kept of the least sets are the least sets
  pub least_next : (i : ℕ) (d : X) (ps : List ℕ) → i < length k.points → Least (MeetsUpTo i) ps → Least (MeetsUpTo (suc i)) (kept k (joined k (get_or k.points i d) ps))
  least_next i d ps l h =
      least_for (λ s. MeetsUpTo i s × T (sum_at k.holds k.cands s (get_or k.points i d))) (MeetsUpTo (suc i)) (kept k (joined k (get_or k.points i d) ps))
      (λ s. (meets_next i d s l).1) (λ s. (meets_next i d s l).0)
      (step_least (MeetsUpTo i) (get_or k.points i d) ps (λ t m. m.0) (meets_more i) h)

  multiply_least : (xs : List X) (D : ℕ → Type 0) (ps : List ℕ) → Among D → Grows D → Least D ps → Least (λ t. D t × T (every (sum_at k.holds k.cands t) xs)) (multiply k xs ps)
  multiply_least [] D ps small up l = least_for D (λ t. D t × Unit {0}) ps (λ t d. (d, tt)) (λ t d. d.0) l
  multiply_least (x ∷ xs) D ps small up l =
      least_for (λ t. (D t × T (meets t x)) × T (every (meets t) xs)) (λ t. D t × T (every (meets t) (x ∷ xs))) (multiply k xs (kept k (joined k x ps)))
      (λ t d. (d.0.0, and_i (meets t x) (every (meets t) xs) d.0.1 d.1))
      (λ t d. ((d.0, and_l (meets t x) (every (meets t) xs) d.1), and_r (meets t x) (every (meets t) xs) d.1))
      (multiply_least xs (λ t. D t × T (meets t x)) (kept k (joined k x ps)) (λ t d. small t d.0) (λ s t w h d. (up s t w h d.0, sum_more k x s t w d.1)) (step_least D x ps small up l))
    where
      meets : ℕ → X → Bool
      meets t y = sum_at k.holds k.cands t y

  pub products_least : (i : ℕ) → Least (MeetsUpTo i) (products_up_to k i)
  unfolding products_up_to product_up_to
  products_least i =
      least_for (λ t. MeetsUpTo 0 t × T (product_up_to k t i)) (MeetsUpTo i) (multiply k (take i k.points) (0 ∷ []))
      (λ t m. (m.0.0, m.1)) (λ t m. ((m.0, tt), m.1))
      (multiply_least (take i k.points) (MeetsUpTo 0) (0 ∷ []) (λ t m. m.0) (meets_more 0) least_first)

  pub products_rising : (i : ℕ) → Rising 0 (products_up_to k i)
  unfolding products_up_to kept
  products_rising i = go (take i k.points) (0 ∷ []) (le_refl 0, tt)
    where
      go : (xs : List X) (ps : List ℕ) → Rising 0 ps → Rising 0 (multiply k xs ps)
      go [] ps r = r
      go (x ∷ xs) ps r = go xs (kept k (joined k x ps)) (rising_filter _ 0 (below (2 ^ length k.cands)) (rising_from 0 (2 ^ length k.cands)))

  -- after each point the products are the minimal sets that meet the points so far
  pub products_minimal : (i s : ℕ) → Memᴰ s (products_up_to k i) ↔ MinimalUpTo k i s
  products_minimal i s = (to, back)
    where
      l : Least (MeetsUpTo i) (products_up_to k i)
      l = products_least i

      to : Memᴰ s (products_up_to k i) → MinimalUpTo k i s
      to m =
          let q = l.sound s m in
          record { among = q.0; meets = q.1; tight = λ a w d t. d (least_tight (MeetsUpTo i) (products_up_to k i) l s a m w (omega (arith, within_le a s w, q.0), t)) }

      back : MinimalUpTo k i s → Memᴰ s (products_up_to k i)
      back r = go (ℕ_discrete a.0 s)
        where
          a : (p : ℕ) × Memᴰ p (products_up_to k i) × Within p s
          a = l.below s (r.among, r.meets)

          go : Dec (a.0 ≡ s) → Memᴰ s (products_up_to k i)
          go (yes e) = subst (λ (p : ℕ). Memᴰ p (products_up_to k i)) e a.1
          go (no d) = absurd (r.tight a.0 a.2 d (l.sound a.0 a.1).1)

  -- what rises and holds the least sets is the list of the products
  pub products_are_lem : (i : ℕ) (ps : List ℕ) → Rising 0 ps → Least (MeetsUpTo i) ps → ps ≡ products_up_to k i
  products_are_lem i ps r l =
      rising_same 0 ps (products_up_to k i) r (products_rising i) (least_entries (MeetsUpTo i) ps (products_up_to k i) l (products_least i))
      (least_entries (MeetsUpTo i) (products_up_to k i) ps (products_least i) l)

  -- "It equals L's pages joined": the last products are the irredundant covers
  pub products_irredundants : products k ≡ irredundants k
  unfolding products presence
  products_irredundants =
      rising_same 0 (products k) (irredundants k) (products_rising n) (rising k) (λ s m. (listed k s).1 (to s ((products_minimal n s).0 m))) (λ s m. (products_minimal n s).1 (back s ((listed k s).0 m)))
    where
      n : ℕ
      n = length k.points

      to : (s : ℕ) → MinimalUpTo k n s → Irredundant k s
      to s m = record { among = m.among; covering = subst (λ (b : Bool). T b) (presence_cover k s) m.meets; tight = λ a w d t. m.tight a w d (subst⁻¹ (λ (b : Bool). T b) (presence_cover k a) t) }

      back : (s : ℕ) → Irredundant k s → MinimalUpTo k n s
      back s r =
          record { among = r.among; meets = subst⁻¹ (λ (b : Bool). T b) (presence_cover k s) r.covering; tight = λ a w d t. r.tight a w d (subst (λ (b : Bool). T b) (presence_cover k a) t) }

  -- 17 by what remains
  pub too_many_iff : T (has_too_many k) ↔ ((i : ℕ) × (i < length k.points) × (most_products < length (products_up_to k (suc i))))
  unfolding has_too_many
  too_many_iff = (
    λ t. let a = some_e many (below (length k.points)) t in (a.0, below_e (length k.points) a.1, ltb→lt most_products (length (products_up_to k (suc a.0))) a.2),
    λ a. some_i many (below_i a.1) (lt→ltb most_products (length (products_up_to k (suc a.0))) a.2),
  )
    where
      many : ℕ → Bool
      many i = ltb most_products (length (products_up_to k (suc i)))
