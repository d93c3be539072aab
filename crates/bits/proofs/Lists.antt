-- Lists by parts, lists in arrays, arrays that a loop fills, and a filter that passes one entry. Nothing here is from the paper.
use Prim.Native.Nat.{ℕ, zero, suc, ◌+◌, ◌-◌, ◌≤◌, ◌<◌}
use native.Mathlib.Omega.{arith}
use native.Mathlib.Decide.{dec_lt}
use native.Mathlib.Numerals.{add-one}
use mathlib.Core.Path.{◌≡◌, refl, sym, ap, ap₂, ◌∙◌, subst, subst⁻¹}
use mathlib.Core.Bool.{Bool, false, cond}
use mathlib.Core.List.{List, [], ◌∷◌, ◌++◌, map, map-append, append-nil, append_assoc}
use borrow.Author.Tests.{eq-eqb, ne_eqb}
use lib.Dec.{eqb}
use lib.ListN.{get_or, length, take, drop, set, length-append, length-drop, length-set, length-map}
use lib.Seq.{take-suc, take-suc-set, take-length, drop-cons, set_at, take_at, append_snoc, length-take-le, get_or-append-add, get_or-drop}
use Rattle.model.specs.Base.{from, below, filter, join, without}
use Rattle.model.proofs.Lists.{length_without, filter_append}
use Rattle.bits.specs.Lists.{Filled, parts, up_to}

-- ---- numbers in a row, in two parts

from_split : (i k d s : ℕ) → s ≡ k + d → from i s ≡ from i k ++ from (i + k) d
from_split i zero d s e =
    let g : s ≡ d = omega arith in
    let h : i + 0 ≡ i = omega arith in
    rw (g, h)
from_split i (suc k) d zero e = absurd (omega arith)
from_split i (suc k) d (suc s) e =
    let g : suc i + k ≡ i + suc k = omega arith in
    ap (λ (l : List ℕ). i ∷ l) (from_split (suc i) k d s (omega arith) ∙ ap (λ (x : ℕ). from (suc i) k ++ from x d) g)

pub below_split : (k s : ℕ) → k ≤ s → below s ≡ below k ++ from k (s - k)
below_split k s l =
    let e : 0 + k ≡ k = omega arith in
    from_split 0 k (s - k) s (omega arith) ∙ ap (λ (x : ℕ). below k ++ from x (s - k)) e

-- ---- a filtered list of parts

module _ {A : Type 0} where
  join_append : (xs ys : List (List A)) → join (xs ++ ys) ≡ join xs ++ join ys
  join_append [] ys = refl
  join_append (x ∷ xs) ys = ap (λ (l : List A). x ++ l) (join_append xs ys) ∙ sym (append_assoc x (join xs) (join ys))

  module _ (part : ℕ → List A) (k : ℕ) where
    pub parts_split : (s : ℕ) → k ≤ s → parts part s ≡ parts part k ++ join (map part (from k (s - k)))
    parts_split s l =
        ap (λ (xs : List ℕ). join (map part xs)) (below_split k s l)
        ∙ ap join (map-append part (below k) (from k (s - k)))
        ∙ join_append (map part (below k)) (map part (from k (s - k)))

    pub parts_next : parts part (k + 1) ≡ parts part k ++ part k
    parts_next =
        let e : k + 1 - k ≡ 1 = omega arith in
        parts_split (k + 1) (omega arith) ∙ ap (λ (x : ℕ). parts part k ++ join (map part (from k x))) e ∙ ap (λ (l : List A). parts part k ++ l) (append-nil (part k))

  module _ (f : A → Bool) (part : ℕ → List A) (k : ℕ) where
    -- what passes f in the parts from k up to s - 1
    abbrev pub rest : ℕ → List A
    rest s = filter f (join (map part (from k (s - k))))

    pub up_to_split : (s : ℕ) → k ≤ s → up_to f part s ≡ up_to f part k ++ rest s
    up_to_split s l = ap (filter f) (parts_split part k s l) ∙ filter_append f (parts part k) (join (map part (from k (s - k))))

    pub up_to_next : up_to f part (k + 1) ≡ up_to f part k ++ filter f (part k)
    up_to_next = ap (filter f) (parts_next part k) ∙ filter_append f (parts part k) (part k)

  -- ---- a filter over numbers that passes none, or r alone

  module _ (f : A → Bool) (g : ℕ → A) where
    pub passes_none : (xs : List ℕ) → ((o : ℕ) → f (g o) ≡ false) → filter f (map g xs) ≡ []
    passes_none [] h = refl
    passes_none (x ∷ xs) h = rw (h x) (passes_none xs h)

    module _ (r : ℕ) (h : (o : ℕ) → f (g o) ≡ eqb o r) where
      passes_past : (i k : ℕ) → r < i → filter f (map g (from i k)) ≡ []
      passes_past i zero l = refl
      passes_past i (suc k) l = rw (h i ∙ ne_eqb i r (λ e. omega arith)) (passes_past (suc i) k (omega arith))

      passes_from : (i k : ℕ) → i ≤ r → r < i + k → filter f (map g (from i k)) ≡ g r ∷ []
      passes_from i zero a b = absurd (omega arith)
      passes_from i (suc k) a b = go (dec_lt i r) (passes_from (suc i) k)
        where
          go : Dec (i < r) → (suc i ≤ r → r < suc i + k → filter f (map g (from (suc i) k)) ≡ g r ∷ [])
              → cond (f (g i)) (g i ∷ filter f (map g (from (suc i) k))) (filter f (map g (from (suc i) k))) ≡ g r ∷ []
          go (yes l) ih = rw (h i ∙ ne_eqb i r (λ e. omega arith)) (ih l (omega arith))
          go (no l) ih =
              let e : i ≡ r = omega arith in
              rw (h i ∙ eq-eqb i r e) (ap₂ (λ (x : A) (l : List A). x ∷ l) (ap g e) (passes_past (suc i) k (omega arith)))

      pub passes_one : (k : ℕ) → r < k → filter f (map g (below k)) ≡ g r ∷ []
      passes_one k l = passes_from 0 k (omega arith) (omega arith)

  -- ---- a list without one entry: those before it stay

  pub take_without : (i k : ℕ) (xs : List A) → i ≤ k → take i (without k xs) ≡ take i xs
  take_without zero k xs l = refl
  take_without (suc i) k [] l = refl
  take_without (suc i) zero (x ∷ xs) l = absurd (omega arith)
  take_without (suc i) (suc k) (x ∷ xs) l = ap (λ (r : List A). x ∷ r) (take_without i k xs (omega arith))

  -- ---- a loop that puts a list over the front of an array, entry by entry

  pub over_next : (array xs : List A) (i : ℕ) (d : A) → i < length array → i < length xs → set (take i xs ++ drop i array) i (get_or xs i d) ≡ take (suc i) xs ++ drop (suc i) array
  over_next array xs i d h l =
      ap (λ (r : List A). set (take i xs ++ r) i (get_or xs i d)) (drop-cons array i d h)
      ∙ set_at (take i xs) (get_or array i d) (drop (suc i) array) (get_or xs i d) i (length-take-le i xs (omega arith))
      ∙ sym (append_snoc (take i xs) (get_or xs i d) (drop (suc i) array))
      ∙ ap (λ (r : List A). r ++ drop (suc i) array) (sym (take-suc xs i d l))

  -- behind the front nothing has changed
  pub over_behind : (array xs : List A) (i j : ℕ) (d : A) → i ≤ length xs → i ≤ j → get_or (take i xs ++ drop i array) j d ≡ get_or array j d
  over_behind array xs i j d l h =
      let w : length (take i xs) ≡ i = length-take-le i xs l in
      let e : j ≡ length (take i xs) + (j - i) = omega arith in
      let f : i + (j - i) ≡ j = omega arith in
      ap (λ (n : ℕ). get_or (take i xs ++ drop i array) n d) e
      ∙ get_or-append-add (take i xs) (drop i array) (j - i) d
      ∙ get_or-drop i array (j - i) d
      ∙ ap (λ (n : ℕ). get_or array n d) f

  -- ---- an array that holds a list, with one entry more, and with one fewer

  module _ (cap : ℕ) (array : List A) (count : ℕ) where
    pub filled_next : (xs : List A) (x : A) → Filled cap xs array count → count < cap → Filled cap (xs ++ (x ∷ [])) (set array count x) (count + 1)
    filled_next xs x f l = record {
      size = length-set array count x ∙ f.size;
      counted = omega (arith, f.counted, length-append xs (x ∷ []));
      same =
          ap (λ (k : ℕ). take k (set array count x)) (add-one count)
          ∙ take-suc-set array count x (omega (arith, f.size))
          ∙ ap (λ (l : List A). l ++ (x ∷ [])) f.same;
    }

    pub filled_without : (xs : List A) (k : ℕ) → Filled cap xs array count → k < count → count ≤ cap → Filled cap (without k xs) (without k (take count array) ++ drop (count - 1) array) (count - 1)
    filled_without xs k f h l =
        let n : suc (length (without k xs)) ≡ length xs = length_without k xs (omega (arith, f.counted)) in
        let m : length (without k xs) ≡ count - 1 = omega (arith, f.counted) in
        subst⁻¹ (λ (ys : List A). Filled cap (without k xs) (without k ys ++ drop (count - 1) array) (count - 1)) f.same record {
          size = omega (arith, length-append (without k xs) (drop (count - 1) array), length-drop (count - 1) array, f.size);
          counted = sym m;
          same = take_at (without k xs) (drop (count - 1) array) (count - 1) m;
        }

-- ---- an array that a loop fills entry by entry

module _ {A B : Type 0} (f : A → B) (cap : ℕ) where
  -- the first i entries are done
  abbrev pub MappedBelow : List A → ℕ → List B → Type 0
  MappedBelow xs i all = (length all ≡ cap) × (take i all ≡ map f (take i xs))

  pub mapped_next : (d : A) (xs : List A) (i : ℕ) (all : List B) (w : B) → i < cap → i < length xs → w ≡ f (get_or xs i d) → MappedBelow xs i all → MappedBelow xs (i + 1) (set all i w)
  mapped_next d xs i all w l k e c = (
    length-set all i w ∙ c.0,
    rw (add-one i) (take-suc-set all i w (omega (arith, c.0)) ∙ ap₂ (λ (ys : List B) (y : B). ys ++ (y ∷ [])) c.1 e
        ∙ sym (map-append f (take i xs) (get_or xs i d ∷ [])) ∙ ap (map f) (sym (take-suc xs i d k))),
  )

  -- as far as it is filled
  pub mapped_front : (xs : List A) (i : ℕ) (all : List B) → i ≤ length xs → MappedBelow xs i all → Filled cap (map f (take i xs)) all i
  mapped_front xs i all l c = record { size = c.0; counted = sym (length-map (take i xs) f ∙ length-take-le i xs l); same = c.1 }

  pub mapped_all : (xs : List A) (i : ℕ) (all : List B) → length xs ≤ i → i ≤ length xs → MappedBelow xs i all → Filled cap (map f xs) all (length xs)
  mapped_all xs i all l k c =
      let e : i ≡ length xs = omega arith in
      record {
        size = c.0;
        counted = sym (length-map xs f);
        same = subst (λ (n : ℕ). take n all ≡ map f (take n xs)) e c.1 ∙ ap (map f) (take-length xs);
      }
