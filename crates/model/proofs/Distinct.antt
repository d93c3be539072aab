-- Lists without repeats: a list's length is then known by its entries.
use Prim.Native.Nat.{ℕ, suc}
use native.Mathlib.Omega.{arith}
use mathlib.Core.Path.{◌≡◌, refl, sym, subst}
use mathlib.Core.Bool.{Bool, true, false, not, cond}
use mathlib.Core.List.{List, [], ◌∷◌, ◌++◌, map, Memᴰ}
use lib.Dec.{T, eqb}
use lib.ListN.{length}
use borrow.Author.Tests.{eq-eqb, ne_eqb}
use Rattle.model.specs.Base.{filter, join, All, Ordered}
use Rattle.model.specs.Pages.{Rising}
use Rattle.model.proofs.Lists.{all_of, all_e, all_append, all_filter, distinct_among, join_e}
use Rattle.model.proofs.Pages.{rising_ge}

abbrev pub Distinct : List ℕ → Type 0
Distinct xs = Ordered (λ v w. T (not (eqb v w))) xs

-- x is none of the list
abbrev Other : ℕ → List ℕ → Type 0
Other x xs = All (λ w. T (not (eqb x w))) xs

pub other_e : (x : ℕ) (xs : List ℕ) → Other x xs → Memᴰ x xs → ⊥
other_e x xs a m = rw (eq-eqb x x refl) at (all_e (λ (w : ℕ). T (not (eqb x w))) xs a m)

pub other_i : (x : ℕ) (xs : List ℕ) → (Memᴰ x xs → ⊥) → Other x xs
other_i x xs f = all_of (λ (w : ℕ). T (not (eqb x w))) xs (λ w m. rw (ne_eqb x w (λ e. f (subst (λ (z : ℕ). Memᴰ z xs) (sym e) m))) tt)

pub distinct_append : (xs ys : List ℕ) → Distinct xs → Distinct ys → ((z : ℕ) → Memᴰ z xs → Memᴰ z ys → ⊥) → Distinct (xs ++ ys)
distinct_append [] ys a b f = b
distinct_append (x ∷ xs) ys a b f = (
  all_append (λ (w : ℕ). T (not (eqb x w))) xs ys a.0 (other_i x ys (f x (mathlib.Core.List.Memᴰ.head refl))),
  distinct_append xs ys a.1 b (λ z m. f z (mathlib.Core.List.Memᴰ.tail m)),
)

pub distinct_filter : (f : ℕ → Bool) (xs : List ℕ) → Distinct xs → Distinct (filter f xs)
distinct_filter f [] a = tt
distinct_filter f (x ∷ xs) a = go (f x) (distinct_filter f xs a.1)
  where
    go : (b : Bool) → Distinct (filter f xs) → Distinct (cond b (x ∷ filter f xs) (filter f xs))
    go true d = (all_filter (λ (w : ℕ). T (not (eqb x w))) f xs a.0, d)
    go false d = d

pub distinct_map : (f : ℕ → ℕ) (xs : List ℕ) → Distinct xs → ((x y : ℕ) → Memᴰ x xs → Memᴰ y xs → f x ≡ f y → x ≡ y) → Distinct (map f xs)
distinct_map f [] a h = tt
distinct_map f (x ∷ xs) a h = (
  other_i (f x) (map f xs) (λ m.
      let b = mathlib.Core.List.Memᴰ.of_map f xs m in
      other_e x xs a.0 (subst (λ (z : ℕ). Memᴰ z xs) (sym (h x b.0 (mathlib.Core.List.Memᴰ.head refl) (mathlib.Core.List.Memᴰ.tail b.1) (sym b.2))) b.1)),
  distinct_map f xs a.1 (λ y z m k e. h y z (mathlib.Core.List.Memᴰ.tail m) (mathlib.Core.List.Memᴰ.tail k) e),
)

pub distinct_join : (f : ℕ → List ℕ) (xs : List ℕ) → Distinct xs → ((x : ℕ) → Memᴰ x xs → Distinct (f x))
    → ((x y z : ℕ) → Memᴰ x xs → Memᴰ y xs → Memᴰ z (f x) → Memᴰ z (f y) → x ≡ y) → Distinct (join (map f xs))
distinct_join f [] a d h = tt
distinct_join f (x ∷ xs) a d h =
    distinct_append (f x) (join (map f xs)) (d x (mathlib.Core.List.Memᴰ.head refl))
    (distinct_join f xs a.1 (λ y m. d y (mathlib.Core.List.Memᴰ.tail m)) (λ y w z m k. h y w z (mathlib.Core.List.Memᴰ.tail m) (mathlib.Core.List.Memᴰ.tail k)))
    (λ z m k.
    let b = join_e (map f xs) k in
    let g = mathlib.Core.List.Memᴰ.of_map f xs b.2 in
    let q : Memᴰ z (f g.0) = subst (λ (l : List ℕ). Memᴰ z l) (sym g.2) b.1 in
    other_e x xs a.0 (subst (λ (w : ℕ). Memᴰ w xs) (sym (h x g.0 z (mathlib.Core.List.Memᴰ.head refl) (mathlib.Core.List.Memᴰ.tail g.1) m q)) g.1))

pub distinct_rising : (b : ℕ) (xs : List ℕ) → Rising b xs → Distinct xs
distinct_rising b [] r = tt
distinct_rising b (x ∷ xs) r = (other_i x xs (λ m. omega (arith, rising_ge (suc x) xs r.1 m)), distinct_rising (suc x) xs r.1)

-- two lists of the same entries are as long
pub as_long : (xs ys : List ℕ) → Distinct xs → Distinct ys → ((z : ℕ) → Memᴰ z xs → Memᴰ z ys) → ((z : ℕ) → Memᴰ z ys → Memᴰ z xs) → length xs ≡ length ys
as_long xs ys a b f g =
    omega (
      arith,
      distinct_among xs ys a (all_of (λ (z : ℕ). Memᴰ z ys) xs f),
      distinct_among ys xs b (all_of (λ (z : ℕ). Memᴰ z xs) ys g),
    )
