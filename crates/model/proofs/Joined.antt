-- Pages joined, of any rising list, from what each page gives.
use Prim.Native.Nat.{ℕ, min}
use native.Mathlib.Omega.{arith}
use mathlib.Core.Path.{◌≡◌, refl, sym, ap, ◌∙◌}
use mathlib.Core.Logic.{◌↔◌, ◌⊎◌, inl, inr}
use mathlib.Core.Bool.{Bool, false, ◌||◌}
use mathlib.Core.List.{List, [], ◌∷◌, ◌++◌, append_assoc, append-nil}
use lib.Dec.{T}
use lib.ListN.{length, drop, length-append}
use Rattle.model.specs.Base.{some, All}
use Rattle.model.specs.Pages.{Rising, page, next_start, Page, PageOf, is_last, joined_sets, InOrder, PageBehind, PagesBehind, Joined}
use Rattle.model.proofs.Lists.{or_cases, or_l, or_r}
use Rattle.model.proofs.Pages.{upto_got, step, page_length, more_iff}

module _ (all : List ℕ) (up : Rising 0 all) where
  page_behind : (g left : List ℕ) (p : Page) → all ≡ g ++ left → PageOf all p → p.start ≡ next_start g → PageBehind all g p
  page_behind g left p e o n = record {
    as_asked = rw (o.0, n) (page_length all up g left p.count e ∙ ap (min p.count) (omega (arith, simp length-append at (ap length e))));
    upto = rw (o.0, n) (sym (upto_got all up new (drop p.count left) more_left));
    last = rw (o.0, o.1, n) ((λ t. sym ((more_iff all up g left p.count e).0 t)), λ h. (more_iff all up g left p.count e).1 (sym h));
  }
    where
      new : List ℕ
      new = g ++ page all (next_start g) p.count

      more_left : all ≡ new ++ drop p.count left
      more_left = step all up g left p.count e

  -- each page in order, and what is left behind them
  each : (g left : List ℕ) (ps : List Page) → all ≡ g ++ left → All (PageOf all) ps → InOrder g ps → PagesBehind all g ps × ((rem : List ℕ) × (all ≡ (g ++ joined_sets ps) ++ rem))
  each g left [] e a f = (tt, (left, rw append-nil e))
  each g left (p ∷ ps) e a f =
      let o = page_behind g left p e a.0 f.0 in
      let next : all ≡ (g ++ p.sets) ++ drop p.count left = rw (a.0.0, f.0) (step all up g left p.count e) in
      let r = each (g ++ p.sets) (drop p.count left) ps next a.1 f.2 in
      ((o, r.0), (r.1.0, r.1.1 ∙ ap (λ (l : List ℕ). l ++ r.1.0) (append_assoc g p.sets (joined_sets ps))))

  -- no more exactly when none is missing: only the last page can say it
  lasts : (g : List ℕ) (p : Page) (ps : List Page) → PagesBehind all g (p ∷ ps) → InOrder g (p ∷ ps) → T (some is_last (p ∷ ps)) ↔ (g ++ joined_sets (p ∷ ps) ≡ all)
  lasts g p [] h f = rw append-nil ((λ t. h.0.last.0 (only (or_cases (is_last p) false t))), λ i. or_l (is_last p) false (h.0.last.1 i))
    where
      only : T (is_last p) ⊎ ⊥ → T (is_last p)
      only (inl t) = t
      only (inr t) = absurd t
  lasts g p (q ∷ qs) h f = go (lasts (g ++ p.sets) q qs h.1 f.2)
    where
      tail : Bool
      tail = some is_last (q ∷ qs)

      behind : T (is_last p) ⊎ T tail → T tail
      behind (inl t) = absurd (omega (arith, ap length (f.1 t)))
      behind (inr t) = t

      go : T tail ↔ ((g ++ p.sets) ++ joined_sets (q ∷ qs) ≡ all) → T (is_last p || tail) ↔ (g ++ (p.sets ++ joined_sets (q ∷ qs)) ≡ all)
      go r =
          let e = append_assoc g p.sets (joined_sets (q ∷ qs)) in
          ((λ t. sym e ∙ r.0 (behind (or_cases (is_last p) tail t))), λ i. or_r (is_last p) tail (r.1 (e ∙ i)))

  pub joined_list : (ps : List Page) → All (PageOf all) ps → InOrder [] ps → Joined all ps
  joined_list ps a f =
      let r = each [] all ps refl a f in
      record {
        each = r.0;
        upto = sym (upto_got all up (joined_sets ps) r.1.0 r.1.1);
        last = last_of ps r.0 f;
      }
    where
      last_of : (ps : List Page) → PagesBehind all [] ps → InOrder [] ps → (ps ≡ [] → ⊥) → T (some is_last ps) ↔ (joined_sets ps ≡ all)
      last_of [] h f n = absurd (n refl)
      last_of (p ∷ ps) h f n = lasts [] p ps h f
