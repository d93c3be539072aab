-- Joined pages of a rising list.
use Prim.Native.Nat.{ℕ, zero, suc, ◌^◌, ◌≤◌, ◌<◌, min}
use native.Mathlib.Omega.{arith}
use native.Mathlib.Decide.{dec_le}
use native.Mathlib.Nat.{le_refl}
use mathlib.Core.Path.{◌≡◌, refl, sym, ap, ◌∙◌, subst, subst⁻¹}
use mathlib.Core.Logic.{◌↔◌}
use mathlib.Core.Bool.{Bool, true, false, not, cond}
use mathlib.Core.List.{List, [], ◌∷◌, ◌++◌, append_assoc, Memᴰ}
use lib.Dec.{T, leb, ltb, nltb→le, le→leb, lt→ltb}
use lib.Arith.{lt→nleb, le→nltb}
use lib.Seq.{take_all}
use lib.ListN.{length, take, drop, take-append-drop, length-take, length-append}
use Rattle.model.specs.Base.{from, filter, All}
use Rattle.model.specs.Sets.{Covering, irredundant, irredundants}
use Rattle.model.specs.Pages.{Rising, at_or_above, page, more, one_above, next_start}
use Rattle.model.proofs.Lists.{T_true, T_false, all_take, all_filter}

pub rising_down : (a b : ℕ) (xs : List ℕ) → a ≤ b → Rising b xs → Rising a xs
rising_down a b [] h r = tt
rising_down a b (x ∷ xs) h r = (omega (arith, r.0), r.1)

-- what a filter keeps of a rising list rises
pub rising_filter : (f : ℕ → Bool) (b : ℕ) (xs : List ℕ) → Rising b xs → Rising b (filter f xs)
rising_filter f b [] r = tt
rising_filter f b (x ∷ xs) r = go (f x) (rising_filter f (suc x) xs r.1)
  where
    go : (c : Bool) → Rising (suc x) (filter f xs) → Rising b (cond c (x ∷ filter f xs) (filter f xs))
    go true h = (r.0, h)
    go false h = rising_down b (suc x) (filter f xs) (omega (arith, r.0)) h

pub rising_from : (i k : ℕ) → Rising i (from i k)
rising_from i zero = tt
rising_from i (suc k) = (le_refl i, rising_from (suc i) k)

pub rising : {A X : Type 0} (k : Covering A X) → Rising 0 (irredundants k)
unfolding irredundants
rising k = rising_filter (irredundant k) 0 (from 0 (2 ^ length k.cands)) (rising_from 0 (2 ^ length k.cands))

-- "the next start is .. one above the last"
pub one_above_last : (b : ℕ) (xs : List ℕ) (s : ℕ) → one_above b (xs ++ (s ∷ [])) ≡ suc s
one_above_last b [] s = refl
one_above_last b (x ∷ xs) s = one_above_last (suc x) xs s

one_above_ge : (b : ℕ) (xs ys : List ℕ) → Rising b (xs ++ ys) → b ≤ one_above b xs
one_above_ge b [] ys r = le_refl b
one_above_ge b (x ∷ xs) ys r = omega (arith, r.0, one_above_ge (suc x) xs ys r.1)

pub keep : (b c : ℕ) (ys : List ℕ) → Rising b ys → c ≤ b → filter (leb c) ys ≡ ys
keep b c [] r h = refl
keep b c (y ∷ ys) r h = rw (T_true {b = leb c y} (le→leb c y (omega (arith, r.0))), keep (suc y) c ys r.1 (omega (arith, r.0)))

-- what stands at or above the next start is what is not joined
rest : (b : ℕ) (xs ys : List ℕ) → Rising b (xs ++ ys) → filter (leb (one_above b xs)) (xs ++ ys) ≡ ys
rest b [] ys r = keep b b ys r (le_refl b)
rest b (x ∷ xs) ys r = rw (T_false {b = leb (one_above (suc x) xs) x} (lt→nleb (one_above (suc x) xs) x (one_above_ge (suc x) xs ys r.1)), rest (suc x) xs ys r.1)

none_below : (b c : ℕ) (ys : List ℕ) → Rising b ys → c ≤ b → filter (λ s. ltb s c) ys ≡ []
none_below b c [] r h = refl
none_below b c (y ∷ ys) r h = rw (T_false {b = ltb y c} (le→nltb y c (omega (arith, r.0))), none_below (suc y) c ys r.1 (omega (arith, r.0)))

-- and what stands below it is what is joined
joined_below : (b : ℕ) (xs ys : List ℕ) → Rising b (xs ++ ys) → filter (λ s. ltb s (one_above b xs)) (xs ++ ys) ≡ xs
joined_below b [] ys r = none_below b b ys r (le_refl b)
joined_below b (x ∷ xs) ys r = rw (T_true {b = ltb x (one_above (suc x) xs)} (lt→ltb x (one_above (suc x) xs) (one_above_ge (suc x) xs ys r.1)), joined_below (suc x) xs ys r.1)

-- what is so of each set is so of each of a page
pub all_page : (P : ℕ → Type 0) (all : List ℕ) (a c : ℕ) → All P all → All P (page all a c)
unfolding page at_or_above
all_page P all a c h = all_take P c (filter (leb a) all) (all_filter P (leb a) all h)

module _ (all : List ℕ) (up : Rising 0 all) where
  at_or_above_left : (got left : List ℕ) → all ≡ got ++ left → at_or_above all (next_start got) ≡ left
  unfolding at_or_above
  at_or_above_left got left e =
      let r = rest 0 got left (subst (λ (l : List ℕ). Rising 0 l) e up) in
      subst⁻¹ (λ (l : List ℕ). filter (leb (next_start got)) l ≡ left) e r

  -- what is joined is what stands below the next start
  pub upto_got : (got left : List ℕ) → all ≡ got ++ left → filter (λ s. ltb s (next_start got)) all ≡ got
  upto_got got left e =
      let r = joined_below 0 got left (subst (λ (l : List ℕ). Rising 0 l) e up) in
      subst⁻¹ (λ (l : List ℕ). filter (λ s. ltb s (next_start got)) l ≡ got) e r

  -- one page more
  pub step : (got left : List ℕ) (c : ℕ) → all ≡ got ++ left → all ≡ (got ++ page all (next_start got) c) ++ drop c left
  unfolding page
  step got left c e = rw (at_or_above_left got left e, append_assoc, take-append-drop) e

  -- a page with count c behind what is got: as many of those left as it asks for
  pub page_length : (got left : List ℕ) (c : ℕ) → all ≡ got ++ left → length (page all (next_start got) c) ≡ min c (length left)
  unfolding page
  page_length got left c e = rw (at_or_above_left got left e, length-take)

  -- "no more" exactly when none is missing
  pub more_iff : (got left : List ℕ) (c : ℕ) → all ≡ got ++ left → T (not (more all (next_start got) c)) ↔ (all ≡ got ++ page all (next_start got) c)
  unfolding more page
  more_iff got left c e = rw (at_or_above_left got left e) (full, none)
    where
      full : T (not (ltb c (length left))) → all ≡ got ++ take c left
      full t = rw (take_all c left (nltb→le c (length left) t)) e

      none : all ≡ got ++ take c left → T (not (ltb c (length left)))
      none h = le→nltb c (length left) (omega (arith, simp (length-append, length-take) at (ap length (sym e ∙ h))))

-- ---- a lister that goes from set to set

-- pages from 0 on, of lists of one length, are as long and say the same of more
pub first_alike : (xs ys : List ℕ) (c : ℕ) → Rising 0 xs → Rising 0 ys → length xs ≡ length ys → (length (page xs 0 c) ≡ length (page ys 0 c)) × (more xs 0 c ≡ more ys 0 c)
unfolding more at_or_above
first_alike xs ys c r s e = (
  page_length xs r [] xs c refl ∙ ap (min c) e ∙ sym (page_length ys s [] ys c refl),
  rw (keep 0 0 xs r (le_refl 0), keep 0 0 ys s (le_refl 0), e) refl,
)

pub rising_ge : (b : ℕ) (xs : List ℕ) {x : ℕ} → Rising b xs → Memᴰ x xs → b ≤ x
rising_ge b [] r x4 = elim x4 [ ]
rising_ge b (y ∷ ys) r (Memᴰ.head e) = omega (arith, r.0)
rising_ge b (y ∷ ys) r (Memᴰ.tail m) = omega (arith, r.0, rising_ge (suc y) ys r.1 m)

-- the least set at or above a stands first, and then those above it
pub at_or_above_cons : (b a s : ℕ) (all : List ℕ) → Rising b all → Memᴰ s all → a ≤ s → ((r : ℕ) → Memᴰ r all → a ≤ r → s ≤ r) → filter (leb a) all ≡ s ∷ filter (leb (suc s)) all
at_or_above_cons b a s [] u x4 h l = elim x4 [ ]
at_or_above_cons b a s (y ∷ ys) u (Memᴰ.head e) h l =
    let q : leb a y ≡ true = T_true {b = leb a y} (le→leb a y (omega arith)) in
    let n : leb (suc s) y ≡ false = T_false {b = leb (suc s) y} (lt→nleb (suc s) y (omega arith)) in
    rw (q, n, keep (suc y) a ys u.1 (omega arith), keep (suc y) (suc s) ys u.1 (omega arith), e)
at_or_above_cons b a s (y ∷ ys) u (Memᴰ.tail m) h l =
    let g = rising_ge (suc y) ys u.1 m in
    let q : leb a y ≡ false = T_false {b = leb a y} (lt→nleb a y (go (dec_le a y) g)) in
    let n : leb (suc s) y ≡ false = T_false {b = leb (suc s) y} (lt→nleb (suc s) y (omega arith)) in
    rw (q, n) (at_or_above_cons (suc y) a s ys u.1 m h (λ r k. l r (Memᴰ.tail k)))
  where
    go : Dec (a ≤ y) → suc y ≤ s → y < a
    go (yes c) g = absurd (omega (arith, l y (Memᴰ.head refl) c))
    go (no c) g = omega arith

pub at_or_above_nil : (a : ℕ) (all : List ℕ) → ((r : ℕ) → Memᴰ r all → r < a) → filter (leb a) all ≡ []
at_or_above_nil a [] h = refl
at_or_above_nil a (y ∷ ys) h = rw (T_false {b = leb a y} (lt→nleb a y (h y (Memᴰ.head refl)))) (at_or_above_nil a ys (λ r k. h r (Memᴰ.tail k)))
