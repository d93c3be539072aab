-- The irredundant covers of rows as crate model's list, the cursor on that list, and the row as it is filled.
use Rattle.std.proofs.Common.{None, Some, ◌≡◌, refl, sym, ap, ◌∙◌, subst, ◌↔◌, Bool, true, false, not, cond, List, [], ◌∷◌, ◌++◌, append_assoc, append-nil, ℕ, suc, ◌+◌, ◌^◌, ◌≤◌, ◌<◌, arith, add-one, leb, ltb, leb→le, length, take, drop, set, replicate, length-append, take-append-drop, pow_mono, length-take-le, take_all, take-suc-set, drop-set-lt, drop-drop, take_at, lt-ltb, le-ltb, le-leb}
use Rattle.std.proofs.lemmas.List.{length-replicate}
use mathlib.Core.List.{Memᴰ}
use Rattle.std.proofs.Math.Decide.{dec_lt}
use Rattle.std.proofs.Math.Seq.{drop-length}
use Rattle.std.proofs.lemmas.Bool.{lt-leb}
use Rattle.model.specs.Base.{filter}
use Rattle.model.specs.Pages.{Rising, at_or_above, page, more}
use Rattle.model.specs.Sets.{of_rows}
use Rattle.model.proofs.Lists.{filter_e}
use Rattle.model.proofs.Pages.{rising, rising_ge, keep, at_or_above_cons, at_or_above_nil}
use Rattle.model.proofs.Sets.{listed}
use Rattle.lister.specs.declared.cursor.Cursor.{Cursor}
use Rattle.rows.specs.Covers.{IrredundantCover, row_covers}
use Rattle.lister.specs.Lister.{Among, LeastIn, coming_to, at_first, coming, sought, advanced, Paged}
use Rattle.bits.proofs.Decide.{true_is_not_false}
use Rattle.rows.proofs.Bridge.{irredundant_to, irredundant_from}

-- ---- the list

module _ (n : ℕ) (rows : List ℕ) where
  pub row_covers_lem : (s : ℕ) → Memᴰ s (row_covers n rows) ↔ ((s < 2 ^ n) × IrredundantCover rows s)
  unfolding row_covers
  row_covers_lem s = (
    λ m.
        let q = irredundant_to (replicate n 0) rows s ((listed (of_rows (replicate n 0) rows) s).0 m) in
        (subst (λ (k : ℕ). s < 2 ^ k) (length-replicate n 0) q.0, q.1),
    λ q. (listed (of_rows (replicate n 0) rows) s).1
        (irredundant_from (replicate n 0) rows s (subst (λ (k : ℕ). s < 2 ^ k) (sym (length-replicate n 0)) q.0) q.1),
  )

  pub row_covers_rising : Rising 0 (row_covers n rows)
  unfolding row_covers
  row_covers_rising = rising (of_rows (replicate n 0) rows)

  pub row_covers_small : n ≤ 64 → (s : ℕ) → Memᴰ s (row_covers n rows) → s < 2 ^ 64
  row_covers_small l s m = omega (arith, ((row_covers_lem s).0 m).0, pow_mono l)

  -- the least set of the search is the first of the list
  found_first : (at x : ℕ) → LeastIn rows at (2 ^ n) (Some x) → at_or_above (row_covers n rows) at ≡ x ∷ at_or_above (row_covers n rows) (suc x)
  unfolding LeastIn Among at_or_above
  found_first at x l =
      at_or_above_cons 0 at x (row_covers n rows) row_covers_rising ((row_covers_lem x).1 (l.0.1, l.0.2)) l.0.0
      (λ r m h. l.1 r (h, ((row_covers_lem r).0 m).0, ((row_covers_lem r).0 m).1))

  found_none : (at : ℕ) → LeastIn rows at (2 ^ n) None → at_or_above (row_covers n rows) at ≡ []
  unfolding LeastIn Among at_or_above
  found_none at l =
      at_or_above_nil at (row_covers n rows)
      (λ r m. elim (dec_lt r at) [ yes lt ↦ lt | no ge ↦ absurd (l r (omega arith, ((row_covers_lem r).0 m).0, ((row_covers_lem r).0 m).1)) ])

-- ---- the cursor

pub sought_over : (all : List ℕ) (c : Cursor) → c.over ≡ true → c ≡ sought all c
unfolding sought coming
sought_over all c e = go c.at c.over e
  where
    go : (at : ℕ) (b : Bool) → b ≡ true → ◌≡◌ {A = Cursor} (record { at = at; over = b }) (at_first (coming_to all at b) at)
    go at true e = refl
    go at false e = absurd (true_is_not_false (sym e))

module _ (n : ℕ) (rows : List ℕ) (c : Cursor) (f : c.over ≡ false) where
  pub sought_found : (x : ℕ) → LeastIn rows c.at (2 ^ n) (Some x) → record { at = x; over = false } ≡ sought (row_covers n rows) c
  unfolding sought coming
  sought_found x l = rw (f, found_first n rows c.at x l)

  pub sought_none : LeastIn rows c.at (2 ^ n) None → record { at = c.at; over = true } ≡ sought (row_covers n rows) c
  unfolding sought coming
  sought_none l = rw (f, found_none n rows c.at l)

-- what stands at or above the first that stands at or above a, and above it
first_of : (b a : ℕ) (all : List ℕ) (x : ℕ) (xs : List ℕ) → Rising b all → filter (leb a) all ≡ x ∷ xs
    → (filter (leb x) all ≡ x ∷ xs) × (filter (leb (suc x)) all ≡ xs)
first_of b a [] x xs u e = let z : ◌≡◌ {A = ℕ} 0 1 = cc in absurd (omega arith)
first_of b a (y ∷ ys) x xs u e = go (leb a y) refl e (first_of (suc y) a ys x xs u.1)
  where
    go : (t : Bool) → leb a y ≡ t → cond t (y ∷ filter (leb a) ys) (filter (leb a) ys) ≡ x ∷ xs
        → (filter (leb a) ys ≡ x ∷ xs → (filter (leb x) ys ≡ x ∷ xs) × (filter (leb (suc x)) ys ≡ xs))
        → (filter (leb x) (y ∷ ys) ≡ x ∷ xs) × (filter (leb (suc x)) (y ∷ ys) ≡ xs)
    go true q f r =
        let same : y ≡ x = cc in
        let le : a ≤ y = leb→le a y (rw q tt) in
        let ks : filter (leb a) ys ≡ ys = keep (suc y) a ys u.1 (omega arith) in
        let rest : ys ≡ xs = cc in
        let kx : filter (leb x) ys ≡ ys = keep (suc y) x ys u.1 (omega arith) in
        let ku : filter (leb (suc x)) ys ≡ ys = keep (suc y) (suc x) ys u.1 (omega arith) in
        (rw (le-leb x y (omega arith), kx, same, rest), rw (lt-leb (suc x) y (omega arith), ku) rest)
    go false q f r =
        let m : Memᴰ x ys = (filter_e (leb a) ys (subst (λ (l : List ℕ). Memᴰ x l) (sym f) (Memᴰ.head refl))).0 in
        let lt : y < x = rising_ge (suc y) ys u.1 m in
        (rw (lt-leb x y lt) (r f).0, rw (lt-leb (suc x) y (omega arith)) (r f).1)

-- the cursor stands on the first of what is to come, or is over
unfoldable pub Standing : List ℕ → Cursor → Type 0
Standing all c = c.over ≡ false → coming all c ≡ c.at ∷ at_or_above all (suc c.at)

-- the first i of out are those from start on that the cursor is past, and the rest is as it was
pub record Filling (all : List ℕ) (start : ℕ) (old out : List ℕ) (c : Cursor) (i : ℕ) : Type 0 where
  pub got : at_or_above all start ≡ take i out ++ coming all c
  pub rest : drop i out ≡ drop i old
  pub stands : Standing all c

module _ (all : List ℕ) (up : Rising 0 all) where
  sought_keeps : (c : Cursor) → coming all (sought all c) ≡ coming all c
  unfolding sought coming at_or_above
  sought_keeps c = go (coming_to all c.at c.over) refl
    where
      go : (l : List ℕ) → coming_to all c.at c.over ≡ l → coming_to all (at_first l c.at).at (at_first l c.at).over ≡ l
      go [] e = refl
      go (x ∷ xs) e = from c.over e
        where
          from : (b : Bool) → coming_to all c.at b ≡ x ∷ xs → at_or_above all x ≡ x ∷ xs
          from true f = let z : ◌≡◌ {A = ℕ} 0 1 = cc in absurd (omega arith)
          from false f = (first_of 0 c.at all x xs up f).0

  sought_stands : (c : Cursor) → Standing all (sought all c)
  unfolding Standing sought coming at_or_above
  sought_stands c = go (coming_to all c.at c.over) refl
    where
      go : (l : List ℕ) → coming_to all c.at c.over ≡ l → (at_first l c.at).over ≡ false
          → coming_to all (at_first l c.at).at (at_first l c.at).over ≡ (at_first l c.at).at ∷ at_or_above all (suc (at_first l c.at).at)
      go [] e f = absurd (true_is_not_false f)
      go (x ∷ xs) e f = from c.over e
        where
          from : (b : Bool) → coming_to all c.at b ≡ x ∷ xs → at_or_above all x ≡ x ∷ at_or_above all (suc x)
          from true f = let z : ◌≡◌ {A = ℕ} 0 1 = cc in absurd (omega arith)
          from false f = let q = first_of 0 c.at all x xs up f in q.0 ∙ ap (λ (l : List ℕ). x ∷ l) (sym q.1)

  module _ (small : (s : ℕ) → Memᴰ s all → s < 2 ^ 64) where
    advanced_comes : (c : Cursor) → c.over ≡ false → coming all (advanced c) ≡ at_or_above all (suc c.at)
    unfolding advanced coming at_or_above
    advanced_comes c f = rw f (elim (dec_lt c.at 18446744073709551615) [
      | yes lt ↦ rw (lt-ltb c.at 18446744073709551615 lt, add-one)
      | no ge ↦ rw (le-ltb c.at 18446744073709551615 (omega arith)) (sym (at_or_above_nil (suc c.at) all (λ r m. omega (arith, small r m))))
    ])

    module _ (start : ℕ) (old : List ℕ) where
      pub filling_none : (c d : Cursor) → d ≡ record { at = start; over = false } → c ≡ sought all d → Filling all start old old c 0
      unfolding coming
      filling_none c d e f = record {
        got = sym (ap (coming all) f ∙ sought_keeps d ∙ ap (coming all) e);
        rest = refl;
        stands = subst (Standing all) (sym f) (sought_stands d);
      }

      module _ (out : List ℕ) (c : Cursor) (i : ℕ) (h : Filling all start old out c i) where
        pub filling_more : (d e : Cursor) → i < length out → c.over ≡ false → d ≡ advanced c → e ≡ sought all d
            → Filling all start old (set out i c.at) e (i + 1)
        unfolding Standing
        filling_more d e lt o p q =
            let went : coming all e ≡ at_or_above all (suc c.at) = ap (coming all) q ∙ sought_keeps d ∙ ap (coming all) p ∙ advanced_comes c o in
            let put : take (i + 1) (set out i c.at) ≡ take i out ++ (c.at ∷ []) = rw add-one (take-suc-set out i c.at lt) in
            record {
              got = h.got ∙ ap (λ (l : List ℕ). take i out ++ l) (h.stands o) ∙ rw (put, went, append_assoc);
              rest = drop-set-lt (i + 1) out i c.at (omega arith) ∙ sym (drop-drop 1 i out) ∙ ap (drop 1) h.rest ∙ drop-drop 1 i old;
              stands = subst (Standing all) (sym q) (sought_stands d);
            }

        -- nothing is left
        pub filled_over : i ≤ length out → length out ≡ length old → c.over ≡ true → Paged all start old out (record { count = i; more = false })
        unfolding coming page more
        filled_over within same o =
            let all_got : at_or_above all start ≡ take i out = h.got ∙ rw (o, append-nil) in
            let many : length (take i out) ≡ i = length-take-le i out within in
            let le : i ≤ length old = omega arith in
            let fits : take (length old) (take i out) ≡ take i out = take_all (length old) (take i out) (omega arith) in
            record {
              count = rw (all_got, fits, many);
              more = rw (all_got, many, le-ltb (length old) i le);
              row = rw (all_got, fits, many, ← h.rest, take-append-drop);
            }

        -- the row is full
        pub filled_full : length out ≤ i → length out ≡ length old → Paged all start old out (record { count = length out; more = not c.over })
        unfolding coming page more Standing
        filled_full full same =
            let whole : take i out ≡ out = take_all i out full in
            let all_got : at_or_above all start ≡ out ++ coming_to all c.at c.over = h.got ∙ rw whole in
            let fits : take (length old) (out ++ coming_to all c.at c.over) ≡ out = take_at out (coming_to all c.at c.over) (length old) same in
            record {
              count = rw (all_got, fits);
              more = rw (all_got, length-append, same) (left c.over refl);
              row = rw (all_got, fits, same, drop-length old, append-nil);
            }
          where
            left : (b : Bool) → c.over ≡ b → not b ≡ ltb (length old) (length old + length (coming_to all c.at b))
            left true o = sym (le-ltb (length old) (length old + 0) (omega arith))
            left false o =
                let s : at_or_above all c.at ≡ c.at ∷ at_or_above all (suc c.at)
                = subst (λ (b : Bool). coming_to all c.at b ≡ c.at ∷ at_or_above all (suc c.at)) o (h.stands o) in
                sym (lt-ltb (length old) (length old + length (at_or_above all c.at)) (omega (arith, ap length s)))
