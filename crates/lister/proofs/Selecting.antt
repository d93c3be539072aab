-- The law of a walk over some of the lister's sets, whatever they are: the lister moves to its next set, a test says whether that is one of the
-- list, and where it is not, a range without any is passed.
use Rattle.std.proofs.Common.{◌≡◌, refl, sym, ap, ◌∙◌, subst, ◌↔◌, Bool, true, false, cond, List, [], ◌∷◌, ℕ, suc, ◌+◌, ◌-◌, ◌^◌, ◌≤◌, ◌<◌, le_refl, arith, T, leb, leb→le, le→leb, lt-ltb, le-ltb, le-leb}
use mathlib.Core.List.{Memᴰ}
use Rattle.std.proofs.Math.Decide.{dec_lt}
use Rattle.std.proofs.lemmas.Bool.{lt-leb}
use Rattle.model.specs.Base.{filter}
use Rattle.model.specs.Pages.{Rising, at_or_above}
use Rattle.model.proofs.Lists.{filter_e, filter_i}
use Rattle.model.proofs.Pages.{rising_ge, rising_filter, at_or_above_cons, at_or_above_nil}
use Rattle.lister.specs.declared.cursor.Cursor.{Cursor}
use Rattle.lister.specs.Lister.{coming_to, at_first, coming, sought, advanced}
use Rattle.lister.specs.Selected.{Passed, room}
use Rattle.bits.proofs.Decide.{true_is_not_false}

-- ---- lists

-- no set of the list stands at or above a and below b
pub above_same : (a b : ℕ) (list : List ℕ) → a ≤ b → ((y : ℕ) → Memᴰ y list → a ≤ y → b ≤ y) → filter (leb b) list ≡ filter (leb a) list
above_same a b [] h f = refl
above_same a b (y ∷ ys) h f = go (dec_lt y a) (above_same a b ys h (λ z m. f z (Memᴰ.tail m)))
  where
    go : Dec (y < a) → filter (leb b) ys ≡ filter (leb a) ys → filter (leb b) (y ∷ ys) ≡ filter (leb a) (y ∷ ys)
    go (yes lt) e = rw (lt-leb a y lt, lt-leb b y (omega arith)) e
    go (no ge) e =
        let le : a ≤ y = omega arith in
        rw (le-leb a y le, le-leb b y (f y (Memᴰ.head refl) le), e)

none_in_nil : {x : ℕ} → Memᴰ x [] → ⊥
none_in_nil m = elim m [ ]

-- the first at or above a is the least
first_least : (a : ℕ) (all : List ℕ) (x : ℕ) (xs : List ℕ) → Rising 0 all → filter (leb a) all ≡ x ∷ xs
    → (a ≤ x) × Memᴰ x all × ((y : ℕ) → Memᴰ y all → a ≤ y → x ≤ y)
first_least a all x xs up e =
    let r : Rising 0 (x ∷ xs) = subst (Rising 0) e (rising_filter (leb a) 0 all up) in
    let q = filter_e (leb a) all (subst (λ (l : List ℕ). Memᴰ x l) (sym e) (Memᴰ.head refl)) in
    (leb→le a x q.1, q.0, λ y m h. least r.1 (subst (λ (l : List ℕ). Memᴰ y l) e (filter_i (leb a) m (le→leb a y h))))
  where
    least : {y : ℕ} → Rising (suc x) xs → Memᴰ y (x ∷ xs) → x ≤ y
    least r (Memᴰ.head h) = omega (arith, h)
    least r (Memᴰ.tail m) = omega (arith, rising_ge (suc x) xs r m)

-- ---- the lister's steps

module _ (all list : List ℕ) (rises : Rising 0 all) (inside : (s : ℕ) → Memᴰ s list → Memᴰ s all) where
  -- the lister moves on: nothing of the list is passed
  pub moved : (c d : Cursor) → d ≡ sought all c → coming list d ≡ coming list c
  unfolding sought coming at_or_above
  moved c d e = ap (coming list) e ∙ go c.over refl (coming_to all c.at c.over) refl
    where
      go : (b : Bool) → c.over ≡ b → (l : List ℕ) → coming_to all c.at c.over ≡ l
          → coming_to list (at_first l c.at).at (at_first l c.at).over ≡ coming_to list c.at c.over
      go true o [] f = rw o
      go true o (x ∷ xs) f = let z : ◌≡◌ {A = ℕ} 0 1 = cc (ap (coming_to all c.at) o) in absurd (omega arith)
      go false o [] f =
          let g : filter (leb c.at) all ≡ [] = sym (ap (coming_to all c.at) o) ∙ f in
          rw o (sym (at_or_above_nil c.at list (λ r m. elim (dec_lt r c.at) [
            | yes lt ↦ lt
            | no ge ↦ absurd (none_in_nil (subst (λ (l : List ℕ). Memᴰ r l) g (filter_i (leb c.at) (inside r m) (le→leb c.at r (omega arith)))))
          ])))
      go false o (x ∷ xs) f =
          let g : filter (leb c.at) all ≡ x ∷ xs = sym (ap (coming_to all c.at) o) ∙ f in
          let q = first_least c.at all x xs rises g in
          rw o (above_same c.at x list q.0 (λ y m h. q.2 y (inside y m) h))

  -- it stands on a set of its own, not below where it was
  pub moved_on : (c d : Cursor) → d ≡ sought all c → d.over ≡ false → (c.over ≡ false) × (c.at ≤ d.at) × Memᴰ d.at all
  unfolding sought coming at_or_above
  moved_on c d e f = go c.over refl (coming_to all c.at c.over) refl (sym (ap (λ (x : Cursor). x.over) e) ∙ f) (ap (λ (x : Cursor). x.at) e)
    where
      go : (b : Bool) → c.over ≡ b → (l : List ℕ) → coming_to all c.at c.over ≡ l → (at_first l c.at).over ≡ false → d.at ≡ (at_first l c.at).at
          → (c.over ≡ false) × (c.at ≤ d.at) × Memᴰ d.at all
      go b o [] h g k = absurd (true_is_not_false g)
      go true o (x ∷ xs) h g k = let z : ◌≡◌ {A = ℕ} 0 1 = cc (ap (coming_to all c.at) o) in absurd (omega arith)
      go false o (x ∷ xs) h g k =
          let q = first_least c.at all x xs rises (sym (ap (coming_to all c.at) o) ∙ h) in
          (o, omega (arith, q.0, k), subst (λ (y : ℕ). Memᴰ y all) (sym k) q.1)

  -- ---- the walk: self is where it began, c where it has come to, d where the lister goes from there

  module _ (up : Rising 0 list) (self c d : Cursor) (so_far : coming list c ≡ coming list self) (e : d ≡ sought all c) where
    -- the lister has none
    pub selected_none : d.over ≡ true → record { at = self.at; over = true } ≡ sought list self
    unfolding sought coming
    selected_none o =
        let none : coming_to list self.at self.over ≡ [] = sym (moved c d e ∙ so_far) ∙ ap (coming_to list d.at) o in
        rw none

    -- the lister's set is one of the list
    pub selected_found : d.over ≡ false → Memᴰ d.at list → d ≡ sought list self
    unfolding sought coming at_or_above
    selected_found o m =
        let this : filter (leb d.at) list ≡ d.at ∷ filter (leb (suc d.at)) list = at_or_above_cons 0 d.at d.at list up m (le_refl d.at) (λ r k h. h) in
        let first : coming_to list self.at self.over ≡ d.at ∷ filter (leb (suc d.at)) list
        = sym (moved c d e ∙ so_far) ∙ ap (coming_to list d.at) o ∙ this in
        rw first (made o)
      where
        made : d.over ≡ false → d ≡ record { at = d.at; over = false }
        made o = ap (λ (b : Bool). record { at = d.at; over = b }) o

    -- it is not, and a range is passed
    pub selected_on : (f : Cursor) → Passed list d f → coming list f ≡ coming list self
    selected_on f p = p.same ∙ moved c d e ∙ so_far

-- ---- ranges that can be passed

advanced_one : (d : Cursor) → d.over ≡ false → d.at < 18446744073709551615 → advanced d ≡ record { at = d.at + 1; over = false }
unfolding advanced
advanced_one d o lt = rw (o, lt-ltb d.at 18446744073709551615 lt)

advanced_last : (d : Cursor) → d.over ≡ false → 18446744073709551615 ≤ d.at → advanced d ≡ record { at = d.at; over = true }
unfolding advanced
advanced_last d o ge = rw (o, le-ltb d.at 18446744073709551615 ge)

module _ (list : List ℕ) (d : Cursor) (o : d.over ≡ false) where
  -- none up to b
  pub passed_to : (b : ℕ) (e : Cursor) → e ≡ record { at = b; over = false } → d.at < b → ((y : ℕ) → Memᴰ y list → d.at ≤ y → b ≤ y) → Passed list d e
  unfolding coming at_or_above
  passed_to b e q lt f = record {
    same = ap (coming list) q ∙ above_same d.at b list (omega arith) f ∙ sym (ap (coming_to list d.at) o);
    on = λ g. omega (arith, ap (λ (x : Cursor). x.at) q);
  }

  -- none at all
  pub passed_all : (e : Cursor) → e.over ≡ true → ((y : ℕ) → Memᴰ y list → d.at ≤ y → ⊥) → Passed list d e
  unfolding coming at_or_above
  passed_all e q f = record {
    same = ap (coming_to list e.at) q
        ∙ sym (ap (coming_to list d.at) o ∙ at_or_above_nil d.at list (λ r m. elim (dec_lt r d.at) [ yes lt ↦ lt | no ge ↦ absurd (f r m (omega arith)) ]));
    on = λ g. absurd (true_is_not_false (sym q ∙ g));
  }

  -- the set itself
  pub passed_one : ((s : ℕ) → Memᴰ s list → s < 2 ^ 64) → (Memᴰ d.at list → ⊥) → (e : Cursor) → e ≡ advanced d → Passed list d e
  passed_one small not e q = elim (dec_lt d.at 18446744073709551615) [
    | yes lt ↦ passed_to (d.at + 1) e (q ∙ advanced_one d o lt) (omega arith) (λ y m h. above y m h (dec_lt d.at y))
    | no ge ↦ passed_all e (ap (λ (x : Cursor). x.over) (q ∙ advanced_last d o (omega arith)))
        (λ y m h. not (subst (λ (x : ℕ). Memᴰ x list) (same y (omega arith) (small y m) h) m))
  ]
    where
      same : (y : ℕ) → 18446744073709551615 ≤ d.at → y < 2 ^ 64 → d.at ≤ y → y ≡ d.at
      same y a b c = omega arith

      above : (y : ℕ) → Memᴰ y list → d.at ≤ y → Dec (d.at < y) → d.at + 1 ≤ y
      above y m h (yes lt) = omega arith
      above y m h (no ge) = let z : y ≡ d.at = omega arith in absurd (not (subst (λ (x : ℕ). Memᴰ x list) z m))

-- ---- the walk ends

pub room_falls : (all list : List ℕ) → Rising 0 all → (c d e : Cursor) → c.at < 2 ^ 64 → d ≡ sought all c → d.over ≡ false → Passed list d e → room e < room c
unfolding room
room_falls all list up c d e lc s o p =
    let m = moved_on all [] up (λ t k. absurd (none_in_nil k)) c d s o in
    rw m.0 (go e.over m.1 p.on)
  where
    go : (b : Bool) → c.at ≤ d.at → (b ≡ false → d.at < e.at) → cond b 0 (2 ^ 64 - e.at) < 2 ^ 64 - c.at
    go true le f = omega arith
    go false le f = omega (arith, f refl)

-- ---- the sets of which a test is true

module _ (f : ℕ → Bool) (all : List ℕ) (rises : Rising 0 all) where
  pub chosen_rising : Rising 0 (filter f all)
  chosen_rising = rising_filter f 0 all rises

  pub chosen_inside : (s : ℕ) → Memᴰ s (filter f all) → Memᴰ s all
  chosen_inside s m = (filter_e f all m).0

  pub chosen : (s : ℕ) → Memᴰ s all → Memᴰ s (filter f all) ↔ T (f s)
  chosen s m = (λ k. (filter_e f all k).1, λ t. filter_i f m t)
