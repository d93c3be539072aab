-- The primes rise by care, then value, so each stands once.
use Prim.Native.Nat.{ℕ, zero, suc, ◌^◌, ◌≤◌, ◌<◌}
use native.Mathlib.Omega.{arith}
use native.Mathlib.Nat.{le_refl}
use mathlib.Core.Path.{◌≡◌, refl, sym, ap₂, ◌∙◌}
use mathlib.Core.Logic.{◌⊎◌, inl, inr}
use mathlib.Core.Bool.{Bool, true, false, cond}
use mathlib.Core.List.{List, [], ◌∷◌, ◌++◌, map, Memᴰ}
use Rattle.model.specs.Base.{from, below, filter, join, All, Ordered}
use Rattle.model.specs.Table.{Table, Term, term}
use Rattle.model.specs.Primes.{terms, prime, primes, drives, Before}
use Rattle.model.proofs.Lists.{all_append, all_filter, all_of, all_e}
use Rattle.model.proofs.Cubes.{primes_e}
use Rattle.model.proofs.Drives.{prime_local}

-- ---- lists made of lists, one for each number

module _ {A : Type 0} (P : A → Type 0) where
  all_map : (g : ℕ → A) (i k : ℕ) → ((y : ℕ) → i ≤ y → P (g y)) → All P (map g (from i k))
  all_map g i zero f = tt
  all_map g i (suc k) f = (f i (le_refl i), all_map g (suc i) k (λ y h. f y (omega arith)))

  all_join : (f : ℕ → List A) (i k : ℕ) → ((y : ℕ) → i ≤ y → All P (f y)) → All P (join (map f (from i k)))
  all_join f i zero h = tt
  all_join f i (suc k) h = all_append P (f i) (join (map f (from (suc i) k))) (h i (le_refl i)) (all_join f (suc i) k (λ y l. h y (omega arith)))

module _ {A : Type 0} (R : A → A → Type 0) where
  ordered_append : (xs ys : List A) → Ordered R xs → Ordered R ys → ((x : A) → Memᴰ x xs → All (R x) ys) → Ordered R (xs ++ ys)
  ordered_append [] ys a b c = b
  ordered_append (x ∷ xs) ys a b c = (all_append (R x) xs ys a.0 (c x (Memᴰ.head refl)), ordered_append xs ys a.1 b (λ y m. c y (Memᴰ.tail m)))

  ordered_filter : (f : A → Bool) (xs : List A) → Ordered R xs → Ordered R (filter f xs)
  ordered_filter f [] a = tt
  ordered_filter f (x ∷ xs) a = go (f x) (ordered_filter f xs a.1)
    where
      go : (b : Bool) → Ordered R (filter f xs) → Ordered R (cond b (x ∷ filter f xs) (filter f xs))
      go true r = (all_filter (R x) f xs a.0, r)
      go false r = r

  ordered_map : (g : ℕ → A) → ((x y : ℕ) → x < y → R (g x) (g y)) → (i k : ℕ) → Ordered R (map g (from i k))
  ordered_map g c i zero = tt
  ordered_map g c i (suc k) = (all_map (R (g i)) g (suc i) k (λ y h. c i y h), ordered_map g c (suc i) k)

  ordered_join : (f : ℕ → List A) → ((x : ℕ) → Ordered R (f x)) → ((x y : ℕ) → x < y → (a : A) → Memᴰ a (f x) → All (R a) (f y)) → (i k : ℕ) → Ordered R (join (map f (from i k)))
  ordered_join f o c i zero = tt
  ordered_join f o c i (suc k) = ordered_append (f i) (join (map f (from (suc i) k))) (o i) (ordered_join f o c (suc i) k) (λ a m. all_join (R a) f (suc i) k (λ y h. c i y h a m))

  ordered_to : (S : A → A → Type 0) (xs : List A) → ((x y : A) → Memᴰ x xs → Memᴰ y xs → R x y → S x y) → Ordered R xs → Ordered S xs
  ordered_to S [] f a = tt
  ordered_to S (x ∷ xs) f a =
      (all_of (S x) xs (λ y m. f x y (Memᴰ.head refl) (Memᴰ.tail m) (all_e (R x) xs a.0 m)), ordered_to S xs (λ y z m n. f y z (Memᴰ.tail m) (Memᴰ.tail n)) a.1)

-- ---- terms by care, then value, then outputs

abbrev Later : Term → Term → Type 0
Later t u = Before t u ⊎ ((t.care ≡ u.care) × (t.value ≡ u.value) × (t.outputs < u.outputs))

module _ (p : Table) where
  abbrev one : ℕ → ℕ → List Term
  one c v = map (term c v) (below (2 ^ p.m))

  abbrev row : ℕ → List Term
  row c = join (map (one c) (below (2 ^ p.n)))

  of_one : (c v : ℕ) → All (λ t. (t.care ≡ c) × (t.value ≡ v)) (one c v)
  of_one c v = all_map (λ (t : Term). (t.care ≡ c) × (t.value ≡ v)) (term c v) 0 (2 ^ p.m) (λ y h. (refl, refl))

  of_row : (c : ℕ) → All (λ t. t.care ≡ c) (row c)
  of_row c = all_join (λ (t : Term). t.care ≡ c) (one c) 0 (2 ^ p.n) (λ v h. all_map (λ (t : Term). t.care ≡ c) (term c v) 0 (2 ^ p.m) (λ y l. refl))

  ones_ordered : (c v : ℕ) → Ordered Later (one c v)
  ones_ordered c v = ordered_map Later (term c v) (λ x y h. inr (refl, refl, h)) 0 (2 ^ p.m)

  values : (c v w : ℕ) → v < w → (t : Term) → Memᴰ t (one c v) → All (Later t) (one c w)
  values c v w h t m =
      let e = all_e (λ (t : Term). (t.care ≡ c) × (t.value ≡ v)) (one c v) (of_one c v) m in
      all_of (Later t) (one c w) (λ u n. let f = all_e (λ (t : Term). (t.care ≡ c) × (t.value ≡ w)) (one c w) (of_one c w) n in inl (inr (e.0 ∙ sym f.0, omega (arith, e.1, f.1))))

  row_ordered : (c : ℕ) → Ordered Later (row c)
  row_ordered c = ordered_join Later (one c) (ones_ordered c) (values c) 0 (2 ^ p.n)

  cares : (c d : ℕ) → c < d → (t : Term) → Memᴰ t (row c) → All (Later t) (row d)
  cares c d h t m =
      let e = all_e (λ (t : Term). t.care ≡ c) (row c) (of_row c) m in
      all_of (Later t) (row d) (λ u n. let f = all_e (λ (t : Term). t.care ≡ d) (row d) (of_row d) n in inl (inl (omega (arith, e, f))))

  terms_ordered : Ordered Later (terms p)
  unfolding terms
  terms_ordered = ordered_join Later row row_ordered cares 0 (2 ^ p.n)

  -- two primes of one cube have the same outputs
  apart : (t u : Term) → Memᴰ t (primes p) → Memᴰ u (primes p) → Later t u → Before t u
  apart t u m n (inl b) = b
  apart t u m n (inr e) =
      let a = (prime_local p t (primes_e p t m)).outs in
      let b = (prime_local p u (primes_e p u n)).outs in
      absurd (omega (arith, e.2, a ∙ ap₂ (drives p) e.0 e.1 ∙ sym b))

  pub primes_ordered : Ordered Before (primes p)
  unfolding primes
  primes_ordered = ordered_to Later Before (primes p) apart (ordered_filter Later (prime p) (terms p) terms_ordered)
