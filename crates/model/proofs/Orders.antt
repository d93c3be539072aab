-- K9: two jobs that differ only in the order of their T commands have a renumbering, by which nothing but a T changes its position.
use Prim.Native.Nat.{ℕ, zero, suc}
use mathlib.Core.Path.{◌≡◌, refl, sym, ap, ◌∙◌, subst, subst⁻¹}
use mathlib.Core.Bool.{Bool, true, false, not, cond, ◌||◌}
use mathlib.Core.List.{List, [], ◌∷◌, map, Permᴰ}
use lib.Dec.{T}
use lib.ListN.{get_or, get_elem?}
use Rattle.model.specs.Base.{filter}
use Rattle.model.specs.Commands.{Kind, form_of, is}
use Rattle.model.specs.Pieces.{Piece, piece_kind, pieces}
use Rattle.model.specs.Renumbered.{Renumbering}
use Rattle.model.specs.Reordered.{is_t, shown, masked, outline, terms_given, DifferInOrder, adds, adding, Reordered}
use Rattle.model.proofs.Lists.{T_false, at_entry, get_d_at_entry}
use Rattle.model.proofs.Codes.{kind_of_code, is_kind, code_of}

-- ---- renumberings

-- nothing moves
abbrev stay : Renumbering
stay = record { to = λ i. i; back = λ i. i; back_to = λ i. refl; to_back = λ i. refl }

-- one, then the other
abbrev in_turn : Renumbering → Renumbering → Renumbering
in_turn r s = record {
  to = λ i. s.to (r.to i);
  back = λ j. r.back (s.back j);
  back_to = λ i. ap r.back (s.back_to (r.to i)) ∙ r.back_to i;
  to_back = λ j. ap s.to (r.to_back (s.back j)) ∙ s.to_back j;
}

-- one position more in front, which stays
abbrev under : (ℕ → ℕ) → ℕ → ℕ
under f zero = 0
under f (suc i) = suc (f i)

under_under : (f g : ℕ → ℕ) → ((i : ℕ) → f (g i) ≡ i) → (i : ℕ) → under f (under g i) ≡ i
under_under f g h zero = refl
under_under f g h (suc i) = ap suc (h i)

abbrev more_in_front : Renumbering → Renumbering
more_in_front r = record { to = under r.to; back = under r.back; back_to = under_under r.back r.to r.back_to; to_back = under_under r.to r.back r.to_back }

-- the first two change places
abbrev cross : ℕ → ℕ
cross zero = 1
cross (suc zero) = 0
cross (suc (suc i)) = suc (suc i)

cross_cross : (i : ℕ) → cross (cross i) ≡ i
cross_cross zero = refl
cross_cross (suc zero) = refl
cross_cross (suc (suc i)) = refl

abbrev crossing : Renumbering
crossing = record { to = cross; back = cross; back_to = cross_cross; to_back = cross_cross }

-- ---- lists in another order

module _ {A : Type 0} (moves : A → Bool) where
  abbrev Moved : Renumbering → List A → List A → Type 0
  Moved r xs ys = (i : ℕ) → get_elem? xs i ≡ get_elem? ys (r.to i)

  -- only the entries that may move do so
  abbrev Stays : Renumbering → List A → Type 0
  Stays r xs = (i : ℕ) → get_or (map moves xs) i false ≡ false → r.to i ≡ i

  abbrev Rearranged : List A → List A → Type 0
  Rearranged xs ys = (r : Renumbering) × Moved r xs ys × Stays r xs

  unmoved : (xs : List A) → Rearranged xs xs
  unmoved xs = (stay, (λ i. refl), λ i e. refl)

  -- what stays in the one order stays in the other: it is the same entry
  in_turn_lem : (xs ys zs : List A) → Rearranged xs ys → Rearranged ys zs → Rearranged xs zs
  in_turn_lem xs ys zs p q = (in_turn p.0 q.0, (λ i. p.1 i ∙ q.1 (p.0.to i)), stays)
    where
      stays : (i : ℕ) → get_or (map moves xs) i false ≡ false → q.0.to (p.0.to i) ≡ i
      stays i e =
          let s : p.0.to i ≡ i = p.2 i e in
          let same : get_elem? xs i ≡ get_elem? ys i = p.1 i ∙ ap (λ (j : ℕ). get_elem? ys j) s in
          ap q.0.to s ∙ q.2 i (get_d_at_entry moves false ys i ∙ ap (at_entry moves false) (sym same) ∙ sym (get_d_at_entry moves false xs i) ∙ e)

  moved_later : (x : A) (xs ys : List A) (r : Renumbering) → Moved r xs ys → Moved (more_in_front r) (x ∷ xs) (x ∷ ys)
  moved_later x xs ys r h zero = refl
  moved_later x xs ys r h (suc i) = h i

  one_more : (x : A) (xs ys : List A) → Rearranged xs ys → Rearranged (x ∷ xs) (x ∷ ys)
  one_more x xs ys p = (more_in_front p.0, moved_later x xs ys p.0 p.1, stays)
    where
      stays : (i : ℕ) → get_or (map moves (x ∷ xs)) i false ≡ false → under p.0.to i ≡ i
      stays zero e = refl
      stays (suc i) e = ap suc (p.2 i e)

  crossed : (x y : A) (xs : List A) → Moved crossing (x ∷ y ∷ xs) (y ∷ x ∷ xs)
  crossed x y xs zero = refl
  crossed x y xs (suc zero) = refl
  crossed x y xs (suc (suc i)) = refl

  first_two : (x y : A) (xs : List A) → moves x ≡ true → moves y ≡ true → Rearranged (x ∷ y ∷ xs) (y ∷ x ∷ xs)
  first_two x y xs t u = (crossing, crossed x y xs, stays)
    where
      stays : (i : ℕ) → get_or (map moves (x ∷ y ∷ xs)) i false ≡ false → cross i ≡ i
      stays zero e = absurd (subst T (sym t ∙ e) tt)
      stays (suc zero) e = absurd (subst T (sym u ∙ e) tt)
      stays (suc (suc i)) e = refl

  -- an entry behind the first, which stays: it changes places with the first, and back at the end
  one_between : (x y c : A) (xs ys : List A) → Rearranged (x ∷ xs) (y ∷ ys) → Rearranged (x ∷ c ∷ xs) (y ∷ c ∷ ys)
  one_between x y c xs ys p = (
    in_turn crossing (in_turn (more_in_front p.0) crossing),
    λ i. crossed x c xs i ∙ moved_later c (x ∷ xs) (y ∷ ys) p.0 p.1 (cross i) ∙ crossed c y ys (under p.0.to (cross i)),
    stays,
  )
    where
      stays : (i : ℕ) → get_or (map moves (x ∷ c ∷ xs)) i false ≡ false → cross (under p.0.to (cross i)) ≡ i
      stays zero e = ap (λ (j : ℕ). cross (suc j)) (p.2 0 e)
      stays (suc zero) e = refl
      stays (suc (suc i)) e = ap (λ (j : ℕ). cross (suc j)) (p.2 (suc i) e)

-- ---- operands put into an outline

abbrev as_t : List ℕ → Piece
as_t t = record { byte = (form_of Kind.T).code; operands = t }

may_move : (t : List ℕ) → is_t (as_t t) ≡ true
may_move t = ap (λ (k : Kind). is k Kind.T) (kind_of_code Kind.T)

-- the T commands get the operands one by one. What is left over follows at the end, so that no count is needed
abbrev fill : List Piece → List (List ℕ) → List Piece
fill [] ts = map as_t ts
fill (c ∷ cs) [] = c ∷ fill cs []
fill (c ∷ cs) (t ∷ ts) = cond (is_t c) (as_t t ∷ fill cs ts) (c ∷ fill cs (t ∷ ts))

-- the operands in another order, in whatever outline
abbrev InOrders : List (List ℕ) → List (List ℕ) → Type 0
InOrders ts us = (cs : List Piece) → Rearranged is_t (fill cs ts) (fill cs us)

-- as far as the first T nothing moves
to_the_first : (t u : List ℕ) (ts us : List (List ℕ)) → ((cs : List Piece) → Rearranged is_t (as_t t ∷ fill cs ts) (as_t u ∷ fill cs us)) → InOrders (t ∷ ts) (u ∷ us)
to_the_first t u ts us h [] = h []
to_the_first t u ts us h (c ∷ cs) = go (is_t c) (to_the_first t u ts us h cs)
  where
    go : (b : Bool) → Rearranged is_t (fill cs (t ∷ ts)) (fill cs (u ∷ us))
        → Rearranged is_t (cond b (as_t t ∷ fill cs ts) (c ∷ fill cs (t ∷ ts))) (cond b (as_t u ∷ fill cs us) (c ∷ fill cs (u ∷ us)))
    go true r = h cs
    go false r = one_more is_t c (fill cs (t ∷ ts)) (fill cs (u ∷ us)) r

-- the first T is passed; nothing between it and the second moves
second_comes : (t u : List ℕ) (ts : List (List ℕ)) (cs : List Piece) → Rearranged is_t (as_t t ∷ fill cs (u ∷ ts)) (as_t u ∷ fill cs (t ∷ ts))
second_comes t u ts [] = first_two is_t (as_t t) (as_t u) (map as_t ts) (may_move t) (may_move u)
second_comes t u ts (c ∷ cs) = go (is_t c) (second_comes t u ts cs)
  where
    go : (b : Bool) → Rearranged is_t (as_t t ∷ fill cs (u ∷ ts)) (as_t u ∷ fill cs (t ∷ ts))
        → Rearranged is_t (as_t t ∷ cond b (as_t u ∷ fill cs ts) (c ∷ fill cs (u ∷ ts))) (as_t u ∷ cond b (as_t t ∷ fill cs ts) (c ∷ fill cs (t ∷ ts)))
    go true r = first_two is_t (as_t t) (as_t u) (fill cs ts) (may_move t) (may_move u)
    go false r = one_between is_t (as_t t) (as_t u) c (fill cs (u ∷ ts)) (fill cs (t ∷ ts)) r

rearranged : {ts us : List (List ℕ)} → Permᴰ ts us → InOrders ts us
rearranged Permᴰ.nil cs = unmoved is_t (fill cs [])
rearranged (Permᴰ.cons {a = t} {l₁ = ts} {l₂ = us} e p) cs =
    subst (λ (u : List ℕ). Rearranged is_t (fill cs (t ∷ ts)) (fill cs (u ∷ us))) e
    (to_the_first t t ts us (λ ds. one_more is_t (as_t t) (fill ds ts) (fill ds us) (rearranged p ds)) cs)
rearranged (Permᴰ.swap {a = t} {b = u} {b' = w} {l = ts} e f) cs =
    subst (λ (v : List ℕ). Rearranged is_t (fill cs (t ∷ u ∷ ts)) (fill cs (v ∷ w ∷ ts))) f
    (subst (λ (v : List ℕ). Rearranged is_t (fill cs (t ∷ u ∷ ts)) (fill cs (u ∷ v ∷ ts))) e (to_the_first t u (u ∷ ts) (t ∷ ts) (second_comes t u ts) cs))
rearranged (Permᴰ.trans {l₁ = ts} {l₂ = us} {l₃ = vs} p q) cs = in_turn_lem is_t (fill cs ts) (fill cs us) (fill cs vs) (rearranged p cs) (rearranged q cs)

-- ---- the commands of a job, from its outline and the operands of its T

-- a T is its operands behind the byte of T
t_is : (c : Piece) → is_t c ≡ true → as_t c.operands ≡ c
t_is c e =
    let k : piece_kind c ≡ Kind.T = is_kind (piece_kind c) Kind.T (subst⁻¹ T e tt) in
    let b = code_of c.byte (subst⁻¹ (λ (x : Kind). T (not (is x Kind.none))) k tt) in
    ap (λ (x : ℕ). record { byte = x; operands = c.operands }) (ap (λ (x : Kind). (form_of x).code) (sym k) ∙ b)

fill_other : (c : Piece) (cs : List Piece) (ts : List (List ℕ)) → is_t c ≡ false → fill (c ∷ cs) ts ≡ c ∷ fill cs ts
fill_other c cs [] e = refl
fill_other c cs (t ∷ ts) e = rw e

abbrev adds_one : Piece → Bool
adds_one c = adds (piece_kind c)

abbrev operands_of_t : List Piece → List (List ℕ)
operands_of_t cs = map (λ c. c.operands) (filter is_t cs)

-- a command that is no T is shown whole
pub all_shown : (k : Kind) (os : List ℕ) → T (not (is k Kind.T)) → shown k os ≡ os
all_shown k os n = rw (T_false {b = is k Kind.T} n) refl

-- nothing is lost
refill : (cs : List Piece) → fill (filter adds_one (map masked cs)) (operands_of_t cs) ≡ filter adds_one cs
refill [] = refl
refill (c ∷ cs) = go (is_t c) refl (is (piece_kind c) Kind.F || is (piece_kind c) Kind.A) (refill cs)
  where
    empty : List Piece
    empty = filter adds_one (map masked cs)

    go : (x : Bool) → is_t c ≡ x → (y : Bool) → fill empty (operands_of_t cs) ≡ filter adds_one cs
        → fill (cond (x || y) (masked c ∷ empty) empty) (map (λ d. d.operands) (cond x (c ∷ filter is_t cs) (filter is_t cs))) ≡ cond (x || y) (c ∷ filter adds_one cs) (filter adds_one cs)
    go true e y h = rw (e, h, t_is c e)
    go false e true h =
        let whole : masked c ≡ c = ap (λ (os : List ℕ). record { byte = c.byte; operands = os }) (all_shown (piece_kind c) c.operands (subst⁻¹ (λ (b : Bool). T (not b)) e tt)) in
        fill_other (masked c) empty (operands_of_t cs) e ∙ ap (λ (d : Piece). d ∷ fill empty (operands_of_t cs)) whole ∙ ap (λ (ds : List Piece). c ∷ ds) h
    go false e false h = h

reordered : (cs ds : List Piece) → map masked cs ≡ map masked ds → Permᴰ (operands_of_t cs) (operands_of_t ds) → Rearranged is_t (filter adds_one cs) (filter adds_one ds)
reordered cs ds e p = rw (← refill cs, ← refill ds, ← e) (rearranged p (filter adds_one (map masked cs)))

pub has_renumbering : (a b : List ℕ) → DifferInOrder a b → (r : Renumbering) × Reordered r a b
unfolding outline terms_given adding
has_renumbering a b h = let q = reordered (pieces a) (pieces b) h.same h.order in (q.0, record { same = h.same; moved = q.1; stays = q.2 })
