-- K9: two jobs with a renumbering by which nothing but a T changes its position differ only in the order of their T commands. So the two
-- definitions mean the same pairs of jobs.
use Prim.Native.Nat.{ℕ, zero, suc}
use native.Mathlib.Omega.{arith}
use mathlib.Core.Path.{◌≡◌, refl, sym, ap, ◌∙◌, subst}
use mathlib.Core.Bool.{Bool, true, false, cond, ◌||◌}
use mathlib.Core.Option.{some as just, none-ne-some, some-injective}
use mathlib.Core.List.Permᴰ
use mathlib.Core.List.{List, [], ◌∷◌, Permᴰ}
use lib.ListN.{get_elem?}
use Rattle.model.specs.Base.{filter, without}
use Rattle.model.specs.Commands.{Kind, is}
use Rattle.model.specs.Pieces.{Piece, piece_kind, pieces}
use Rattle.model.specs.Renumbered.{Renumbering}
use Rattle.model.specs.Reordered.{is_t, terms_given, adding, DifferInOrder, Reordered, EveryOrder}
use Rattle.model.proofs.Orders.{has_renumbering}

-- ---- a list without one entry

-- its position j, in the whole list, whose position p is left out
abbrev over : ℕ → ℕ → ℕ
over zero j = suc j
over (suc p) zero = 0
over (suc p) (suc j) = suc (over p j)

-- and back. For p itself it means nothing
abbrev closed : ℕ → ℕ → ℕ
closed p zero = 0
closed zero (suc k) = k
closed (suc p) (suc k) = suc (closed p k)

closed_over : (p j : ℕ) → closed p (over p j) ≡ j
closed_over zero j = refl
closed_over (suc p) zero = refl
closed_over (suc p) (suc j) = ap suc (closed_over p j)

over_closed : (p k : ℕ) → (k ≡ p → ⊥) → over p (closed p k) ≡ k
over_closed zero zero n = absurd (n refl)
over_closed zero (suc k) n = refl
over_closed (suc p) zero n = refl
over_closed (suc p) (suc k) n = ap suc (over_closed p k (λ e. n (ap suc e)))

over_never : (p j : ℕ) → over p j ≡ p → ⊥
over_never zero j e = omega arith
over_never (suc p) zero e = omega arith
over_never (suc p) (suc j) e = over_never p j (omega arith)

-- f moves q to p, g back. What is at another position stays apart from p
module _ (f g : ℕ → ℕ) (h : (i : ℕ) → g (f i) ≡ i) (p q : ℕ) (e : g p ≡ q) where
  others_apart : (i : ℕ) → over p (closed p (f (over q i))) ≡ f (over q i)
  others_apart i = over_closed p (f (over q i)) (λ d. over_never q i (sym (h (over q i)) ∙ ap g d ∙ e))

  others_back : (i : ℕ) → closed q (g (over p (closed p (f (over q i))))) ≡ i
  others_back i = ap (λ (k : ℕ). closed q (g k)) (others_apart i) ∙ ap (closed q) (h (over q i)) ∙ closed_over q i

-- without position 0, and without the one that it goes to
abbrev others : Renumbering → Renumbering
others r = record {
  to = λ i. closed (r.to 0) (r.to (suc i));
  back = λ j. closed 0 (r.back (over (r.to 0) j));
  back_to = others_back r.to r.back r.back_to (r.to 0) 0 (r.back_to 0);
  to_back = others_back r.back r.to r.to_back 0 (r.to 0) refl;
}

-- ---- lists in another order

module _ {A : Type 0} where
  at_over : (p j : ℕ) (xs : List A) → get_elem? (without p xs) j ≡ get_elem? xs (over p j)
  at_over p j [] = refl
  at_over zero j (x ∷ xs) = refl
  at_over (suc p) zero (x ∷ xs) = refl
  at_over (suc p) (suc j) (x ∷ xs) = at_over p j xs

  to_its_place : (x : A) (p : ℕ) (xs : List A) → get_elem? xs p ≡ just x → Permᴰ (x ∷ without p xs) xs
  to_its_place x p [] e = absurd (none-ne-some x e)
  to_its_place x zero (y ∷ xs) e = Permᴰ.cons (sym (some-injective y x e)) (Permᴰ.refl xs)
  to_its_place x (suc p) (y ∷ xs) e = Permᴰ.trans (Permᴰ.swap refl refl) (Permᴰ.cons refl (to_its_place x p xs e))

  -- entry by entry: the first of xs is taken out of ys, and the others go to what is left
  order_moved : (xs ys : List A) (r : Renumbering) → ((i : ℕ) → get_elem? xs i ≡ get_elem? ys (r.to i)) → Permᴰ xs ys
  order_moved [] [] r h = Permᴰ.nil
  order_moved [] (y ∷ ys) r h = absurd (none-ne-some y (h (r.back 0) ∙ ap (λ (j : ℕ). get_elem? (y ∷ ys) j) (r.to_back 0)))
  order_moved (x ∷ xs) ys r h = Permᴰ.trans (Permᴰ.cons refl (order_moved xs (without p ys) (others r) rest)) (to_its_place x p ys (sym (h 0)))
    where
      p : ℕ
      p = r.to 0

      rest : (i : ℕ) → get_elem? xs i ≡ get_elem? (without p ys) (closed p (r.to (suc i)))
      rest i =
          let e = others_apart r.to r.back r.back_to p 0 (r.back_to 0) i in
          h (suc i) ∙ sym (at_over p (closed p (r.to (suc i))) ys ∙ ap (λ (j : ℕ). get_elem? ys j) e)

  order_filter : (f : A → Bool) {xs ys : List A} → Permᴰ xs ys → Permᴰ (filter f xs) (filter f ys)
  order_filter f Permᴰ.nil = Permᴰ.nil
  order_filter f (Permᴰ.cons {a = x} {l₁ = xs} {l₂ = ys} e p) = subst (λ (y : A). Permᴰ (filter f (x ∷ xs)) (filter f (y ∷ ys))) e (go (f x) (order_filter f p))
    where
      go : (b : Bool) → Permᴰ (filter f xs) (filter f ys) → Permᴰ (cond b (x ∷ filter f xs) (filter f xs)) (cond b (x ∷ filter f ys) (filter f ys))
      go true q = Permᴰ.cons refl q
      go false q = q
  order_filter f (Permᴰ.swap {a = x} {b = y} {b' = z} {l = xs} d e) =
      subst (λ (w : A). Permᴰ (filter f (x ∷ y ∷ xs)) (filter f (w ∷ z ∷ xs))) e
      (subst (λ (w : A). Permᴰ (filter f (x ∷ y ∷ xs)) (filter f (y ∷ w ∷ xs))) d (go (f x) (f y) (filter f xs)))
    where
      go : (b c : Bool) (zs : List A) → Permᴰ (cond b (x ∷ cond c (y ∷ zs) zs) (cond c (y ∷ zs) zs)) (cond c (y ∷ cond b (x ∷ zs) zs) (cond b (x ∷ zs) zs))
      go true true zs = Permᴰ.swap refl refl
      go true false zs = Permᴰ.refl (x ∷ zs)
      go false true zs = Permᴰ.refl (y ∷ zs)
      go false false zs = Permᴰ.refl zs
  order_filter f (Permᴰ.trans p q) = Permᴰ.trans (order_filter f p) (order_filter f q)

  -- what f keeps is not lost where more is kept first
  filter_or : (f g : A → Bool) (xs : List A) → filter f (filter (λ x. f x || g x) xs) ≡ filter f xs
  filter_or f g [] = refl
  filter_or f g (x ∷ xs) = go (f x) refl (g x) (filter_or f g xs)
    where
      more : List A
      more = filter (λ y. f y || g y) xs

      go : (b : Bool) → f x ≡ b → (c : Bool) → filter f more ≡ filter f xs → filter f (cond (b || c) (x ∷ more) more) ≡ cond b (x ∷ filter f xs) (filter f xs)
      go true e c h = rw (e, h)
      go false e true h = rw (e, h)
      go false e false h = h

-- ---- the T commands are among those that add

order_t : (a b : List ℕ) → Permᴰ (adding a) (adding b) → Permᴰ (filter is_t (pieces a)) (filter is_t (pieces b))
unfolding adding
order_t a b p = let only = filter_or is_t (λ c. is (piece_kind c) Kind.F || is (piece_kind c) Kind.A) in rw (only (pieces a), only (pieces b)) at (order_filter is_t p)

-- that only a T changes its position is not needed: the T commands are told by themselves, wherever they go
order_of : (r : Renumbering) (a b : List ℕ) → Reordered r a b → DifferInOrder a b
unfolding terms_given
order_of r a b h = record {
  same = h.same;
  order = Permᴰ.map (λ (c : Piece). c.operands) (order_t a b (order_moved (adding a) (adding b) r h.moved));
}

pub every_order : EveryOrder
every_order a b = (has_renumbering a b, λ q. order_of q.0 a b q.1)
