-- Document 000: the presence function is the cover test, its implicants are the covers (lemmas 1 and 2), its prime implicants the irredundant
-- covers (the theorem); and where the delta of formula (2) is not seen.
use Prim.Native.Nat.{ℕ, zero, suc, ◌+◌, ◌/◌, ◌^◌, ◌≤◌, ◌<◌}
use native.Mathlib.Decide.{dec_lt}
use native.Mathlib.Numerals.{add-one}
use native.Mathlib.Omega.{arith}
use mathlib.Core.Path.{◌≡◌, refl, sym, ap, ap₂, ◌∙◌, subst}
use mathlib.Core.Logic.{◌↔◌, ◌≢◌, ⊎_elim}
use mathlib.Core.Bool.{Bool, true, false, not, cond, ◌&&◌, ◌||◌, and-true}
use mathlib.Core.List.{List, [], ◌∷◌, Memᴰ}
use lib.Dec.{T}
use lib.ListN.{get_or, length, take, length-map, get_or-eq_default}
use lib.Seq.{take-length, take-suc}
use Rattle.model.specs.Base.{bit, from, below, some, every}
use Rattle.model.specs.Sets.{Covering, members, Within, covers, cover, coverable, Irredundant}
use Rattle.model.specs.Presence.{values_at, sum_up_to, sum_at, product_up_to, presence, all_of, Implicant, delta, product_with_delta}
use Rattle.model.proofs.Lists.{bool_ext, and_i, or_cases, or_r, every_e, every_append, some_i, some_e, below_i, below_e}
use Rattle.model.proofs.Sets.{covers_e, cover_more}
use Rattle.model.proofs.Matrix.{coverable_all}

-- ---- formula (3)

some_last : (f : ℕ → Bool) (a i : ℕ) → some f (from a (suc i)) ≡ (some f (from a i) || f (a + i))
some_last f a zero =
    let e : a + 0 ≡ a = omega arith in
    rw e (go (f a))
  where
    go : (b : Bool) → (b || false) ≡ b
    go true = refl
    go false = refl
some_last f a (suc i) =
    let e : suc a + i ≡ a + suc i = omega arith in
    rw (some_last f (suc a) i, e) (go (f a) (some f (from (suc a) i)) (f (a + suc i)))
  where
    go : (b c d : Bool) → (b || (c || d)) ≡ ((b || c) || d)
    go true c d = refl
    go false c d = refl

some_shift : (f : ℕ → Bool) (a i : ℕ) → some f (from (suc a) i) ≡ some (λ m. f (suc m)) (from a i)
some_shift f a zero = refl
some_shift f a (suc i) = ap (λ (b : Bool). f (suc a) || b) (some_shift f (suc a) i)

module _ {A X : Type 0} (holds : A → X → Bool) where
  -- the sum is 1 where a member holds the point
  pub sum_held : (fs : List A) (s : ℕ) (x : X) → sum_at holds fs s x ≡ some (λ t. holds t x) (members fs s)
  unfolding sum_at sum_up_to
  sum_held [] s x = refl
  sum_held (f ∷ fs) s x =
      ap (λ (b : Bool). (holds f x && bit 0 s) || b) (some_shift (λ m. get_or (values_at holds (f ∷ fs) x) m false && bit m s) 0 (length fs) ∙ sum_held fs (s / 2) x)
      ∙ go (bit 0 s)
    where
      r : List A
      r = members fs (s / 2)

      held : Bool
      held = some (λ t. holds t x) r

      go : (b : Bool) → ((holds f x && b) || held) ≡ some (λ t. holds t x) (cond b (f ∷ r) r)
      go true = two (holds f x)
        where
          two : (c : Bool) → ((c && true) || held) ≡ (c || held)
          two true = refl
          two false = refl
      go false = two (holds f x)
        where
          two : (c : Bool) → ((c && false) || held) ≡ held
          two true = refl
          two false = refl

module _ {A X : Type 0} (holds : A → X → Bool) (fs : List A) (s : ℕ) (x : X) where
  summand : ℕ → Bool
  summand m = get_or (values_at holds fs x) m false && bit m s

  -- one function more
  pub sum_next : (i : ℕ) → sum_up_to holds fs s x (i + 1) ≡ (sum_up_to holds fs s x i || (get_or (values_at holds fs x) i false && bit i s))
  unfolding sum_up_to summand
  sum_next i =
      let e : 0 + i ≡ i = omega arith in
      ap (λ (j : ℕ). some summand (below j)) (add-one i) ∙ some_last summand 0 i ∙ ap (λ (j : ℕ). some summand (below i) || summand j) e

  -- behind the last function there is nothing to add
  pub sum_whole : (c : ℕ) → length fs ≤ c → sum_up_to holds fs s x c ≡ sum_at holds fs s x
  unfolding sum_at sum_up_to summand
  sum_whole c l = bool_ext (some summand (below c)) (some summand (below (length fs))) to back
    where
      none : (i : ℕ) → length fs ≤ i → T (summand i) → ⊥
      none i g t = subst (λ (b : Bool). T (b && bit i s)) (get_or-eq_default (values_at holds fs x) false (omega (arith, length-map fs (λ f. holds f x)))) t

      to : T (some summand (below c)) → T (some summand (below (length fs)))
      to t = go (dec_lt w.0 (length fs))
        where
          w : (i : ℕ) × Memᴰ i (below c) × T (summand i)
          w = some_e summand (below c) t

          go : Dec (w.0 < length fs) → T (some summand (below (length fs)))
          go (yes g) = some_i summand (below_i g) w.2
          go (no g) = absurd (none w.0 (omega arith) w.2)

      back : T (some summand (below (length fs))) → T (some summand (below c))
      back t =
          let w = some_e summand (below (length fs)) t in
          let g : w.0 < length fs = below_e (length fs) w.1 in
          let h : w.0 < c = omega arith in
          some_i summand (below_i h) w.2

-- ---- formula (4)

module _ {A X : Type 0} (k : Covering A X) (s : ℕ) where
  -- before any point, and one point more
  pub product_none : product_up_to k s 0 ≡ true
  unfolding product_up_to
  product_none = refl

  pub product_next : (i : ℕ) (d : X) → i < length k.points → product_up_to k s (i + 1) ≡ (product_up_to k s i && sum_at k.holds k.cands s (get_or k.points i d))
  unfolding product_up_to
  product_next i d l =
      ap (λ (j : ℕ). every (sum_at k.holds k.cands s) (take j k.points)) (add-one i)
      ∙ ap (every (sum_at k.holds k.cands s)) (take-suc k.points i d l)
      ∙ every_append (sum_at k.holds k.cands s) (take i k.points) (get_or k.points i d ∷ [])
      ∙ ap (λ (b : Bool). every (sum_at k.holds k.cands s) (take i k.points) && b) (and-true (sum_at k.holds k.cands s (get_or k.points i d)))

module _ {A X : Type 0} (k : Covering A X) where
  -- the product over all points is the cover test, at every set
  pub presence_cover : (s : ℕ) → presence k s ≡ cover k s
  unfolding presence product_up_to cover covers
  presence_cover s = rw (take-length k.points) (go k.points)
    where
      go : (xs : List X) → every (sum_at k.holds k.cands s) xs ≡ every (λ x. some (λ t. k.holds t x) (members k.cands s)) xs
      go [] = refl
      go (x ∷ xs) = ap₂ ◌&&◌ (sum_held k.holds k.cands s x) (go xs)

  -- at the set of all candidates: where it is 0, and there alone, 12 applies
  pub presence_all : presence k (all_of k) ≡ coverable k
  presence_all = presence_cover (all_of k) ∙ sym (coverable_all k)

  -- "Lemma 1": what represents is an implicant
  pub lemma_1 : (s : ℕ) → T (cover k s) → Implicant k s
  lemma_1 s c a w = subst (λ (b : Bool). T b) (sym (presence_cover a)) (cover_more k s a w c)

  -- "Lemma 2": an implicant represents
  pub lemma_2 : (s : ℕ) → Implicant k s → T (cover k s)
  lemma_2 s h = subst (λ (b : Bool). T b) (presence_cover s) (h s (λ i t. t))

  -- "Theorem": irredundant where "a prime implicant of S", an implicant of which no proper part is one
  pub prime_implicant : (s : ℕ) → s < 2 ^ length k.cands → Irredundant k s ↔ (Implicant k s × ((a : ℕ) → Within a s → a ≢ s → Implicant k a → ⊥))
  prime_implicant s l = (
    λ r. (lemma_1 s r.covering, λ a w d h. r.tight a w d (lemma_2 a h)),
    λ h. record { among = l; covering = lemma_2 s h.0; tight = λ a w d c. h.1 a w d (lemma_1 a c) },
  )

-- ---- the delta

module _ {A X : Type 0} (k : Covering A X) where
  -- where the candidates hold every point, the delta is seen at the set without a member alone
  pub delta_unseen : T (coverable k) → (s i : ℕ) → i < length k.cands → T (bit i s) → product_with_delta k s (length k.points) ≡ presence k s
  unfolding product_with_delta presence product_up_to coverable sum_at sum_up_to
  delta_unseen c s i l b = rw (take-length k.points) (go k.points (λ x m. m))
    where
      value : (x : X) → List Bool
      value x = values_at k.holds k.cands x

      sum : X → Bool
      sum x = sum_at k.holds k.cands s x

      at : (fs : List A) (x : X) (j : ℕ) → j < length fs → T (every (λ v. v) (values_at k.holds fs x)) → T (get_or (values_at k.holds fs x) j false)
      at [] x j l t = absurd (omega arith)
      at (f ∷ fs) x zero l t = every_e (λ v. v) {xs = values_at k.holds (f ∷ fs) x} (Memᴰ.head refl) t
      at (f ∷ fs) x (suc j) l t = at fs x j (omega arith) (go2 (k.holds f x) t)
        where
          go2 : (b : Bool) → T (b && every (λ v. v) (values_at k.holds fs x)) → T (every (λ v. v) (values_at k.holds fs x))
          go2 true t = t
          go2 false t = absurd t

      none : (fs : List A) (x : X) {t : A} → Memᴰ t fs → T (k.holds t x) → T (every not (values_at k.holds fs x)) → ⊥
      none fs x m h t = not_both (k.holds _ x) h (every_e (λ f. not (k.holds f x)) m (subst (λ (b : Bool). T b) (moved fs) t))
        where
          not_both : (b : Bool) → T b → T (not b) → ⊥
          not_both true h n = n
          not_both false h n = h

          moved : (gs : List A) → every not (values_at k.holds gs x) ≡ every (λ f. not (k.holds f x)) gs
          moved [] = refl
          moved (g ∷ gs) = ap (λ (b : Bool). not (k.holds g x) && b) (moved gs)

      point : (x : X) → Memᴰ x k.points → (delta (value x) || sum x) ≡ sum x
      point x m = bool_ext (delta (value x) || sum x) (sum x) to (or_r (delta (value x)) (sum x))
        where
          all : T (every (λ v. v) (value x)) → T (sum x)
          all t = some_i (λ j. get_or (value x) j false && bit j s) (below_i l) (and_i (get_or (value x) i false) (bit i s) (at k.cands x i l t) b)

          no : T (every not (value x)) → T (sum x)
          no t = let h = covers_e k.holds k.points k.cands c m in absurd (none k.cands x h.1 h.2 t)

          to : T (delta (value x) || sum x) → T (sum x)
          to t = ⊎_elim (λ d. ⊎_elim all no (or_cases (every (λ v. v) (value x)) (every not (value x)) d)) (λ u. u) (or_cases (delta (value x)) (sum x) t)

      go : (xs : List X) → ((x : X) → Memᴰ x xs → Memᴰ x k.points) → every (λ x. delta (value x) || sum x) xs ≡ every sum xs
      go [] f = refl
      go (x ∷ xs) f = ap₂ ◌&&◌ (point x (f x (Memᴰ.head refl))) (go xs (λ y m. f y (Memᴰ.tail m)))
