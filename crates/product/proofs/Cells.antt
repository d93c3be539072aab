-- One cell: of the least sets of a family, what the code leaves are the least of those that meet the row as well, each once.
use Prim.Native.Nat.{ℕ, ◌+◌, ◌-◌, ◌^◌, ◌<◌, ◌≤◌}
use native.Mathlib.Omega.{arith}
use mathlib.Core.Path.{◌≡◌, sym, ap, ◌∙◌, subst}
use mathlib.Core.Logic.{◌⊎◌, inl, inr, ⊎_elim}
use mathlib.Core.Bool.{not, cond, ◌&&◌}
use mathlib.Core.List.Memᴰ
use mathlib.Core.List.{List, [], map, Memᴰ}
use lib.Bits.{bit_and, bit_or, or_lt}
use lib.Dec.{T, T_not}
use lib.Pow.{pow-lt, pow_mono}
use borrow.Author.Tests.{eq-eqb, ne_eqb}
use Rattle.model.specs.Base.{bit, below, filter, join}
use Rattle.model.specs.Sets.{Within}
use Rattle.model.proofs.Lists.{yes_or_no, and_l, and_r, and_i, filter_i, filter_e, join_i, join_e, below_i}
use Rattle.model.proofs.Bits.{bit_lt, within_with, with_here, with_within}
use Rattle.model.proofs.Pages.{rising_from}
use Rattle.model.proofs.Products.{Least}
use Rattle.bits.specs.Bits.{digit, Part}
use Rattle.bits.proofs.Digits.{eq?, digit_or, digit_lt, digit_bit, member_ext, a_member, pow_here, pow_only}
use Rattle.bits.proofs.Members.{and_left, and_right, and_both, not_zero}
use Rattle.bits.proofs.Parts.{by_members, and_outside, apart_by, no_common}
use Rattle.product.specs.Steps.{meets, meeting, candidates, barred, added, extended, stepped}
use Rattle.product.proofs.Joining.{barred_e, barred_i}
use Rattle.model.proofs.Distinct.{Distinct, distinct_append, distinct_filter, distinct_map, distinct_join, distinct_rising}

-- ---- a product and a candidate

or_e : (p i b : ℕ) → digit b (bit_or p (2 ^ i)) ≡ 1 → (digit b p ≡ 1) ⊎ (b ≡ i)
or_e p i b m =
    ⊎_elim (λ (e : digit b p ≡ 1). inl e)
    (λ (d : digit b p ≡ 1 → ⊥). inr (pow_only b i (omega (arith, digit_or b p (2 ^ i), digit_lt b p, digit_lt b (2 ^ i), d))))
    (eq? (digit b p) 1)

-- m has the members that p has not
module _ (p m : ℕ) (e : p + m + 1 ≡ 2 ^ 64) where
  outside_or : (c : ℕ) → c < 64 → (digit c p ≡ 1 → ⊥) → digit c m ≡ 1
  outside_or c l d =
      let z : bit_and (2 ^ c) p ≡ 0 = apart_by (2 ^ c) p (λ b h g. d (subst (λ (j : ℕ). digit j p ≡ 1) (pow_only b c h) g)) in
      let w : bit_and (2 ^ c) m ≡ 2 ^ c = omega (arith, and_outside 64 p m (2 ^ c) e (pow-lt l)) in
      and_right c (2 ^ c) m (ap (digit c) w ∙ pow_here c)

  outside_not : (c : ℕ) → c < 64 → digit c p ≡ 1 → digit c m ≡ 1 → ⊥
  unfolding Part
  outside_not c l h g =
      let w : bit_and (2 ^ c) p ≡ 2 ^ c = by_members (2 ^ c) p (λ b k. subst (λ (j : ℕ). digit j p ≡ 1) (sym (pow_only b c k)) h) in
      no_common (2 ^ c) m c (omega (arith, and_outside 64 p m (2 ^ c) e (pow-lt l))) (pow_here c) g

  module _ (q i : ℕ) (fits : q < 2 ^ 64) (l : i < 64) where
    -- i is all that q has beyond p: q is within p with i
    alone_within : bit_and q m ≡ 2 ^ i → Within q (bit_or p (2 ^ i))
    alone_within a c t =
        let h : digit c q ≡ 1 = (digit_bit c q).0 t in
        ⊎_elim (λ (g : digit c p ≡ 1). within_with p i c ((digit_bit c p).1 g))
        (λ (d : digit c p ≡ 1 → ⊥).
        let o : digit c m ≡ 1 = outside_or c (bit_lt c 64 q t fits) d in
        let f : c ≡ i = pow_only c i (sym (ap (digit c) a) ∙ and_both c q m h o) in
        subst (λ (j : ℕ). T (bit j (bit_or p (2 ^ i)))) (sym f) (with_here p i))
        (eq? (digit c p) 1)

    -- and the other way round, where q has a member that p has not
    within_alone : Within q (bit_or p (2 ^ i)) → (c : ℕ) → digit c q ≡ 1 → (digit c p ≡ 1 → ⊥) → bit_and q m ≡ 2 ^ i
    within_alone w c h d = member_ext (bit_and q m) (2 ^ i) to back
      where
        in_both : (b : ℕ) → digit b q ≡ 1 → (digit b p ≡ 1) ⊎ (b ≡ i)
        in_both b g = or_e p i b ((digit_bit b (bit_or p (2 ^ i))).0 (w b ((digit_bit b q).1 g)))

        is : c ≡ i
        is = ⊎_elim (λ g. absurd (d g)) (λ f. f) (in_both c h)

        to : (b : ℕ) → digit b (bit_and q m) ≡ 1 → digit b (2 ^ i) ≡ 1
        to b g =
            ⊎_elim (λ o. absurd (outside_not b (bit_lt b 64 q ((digit_bit b q).1 (and_left b q m g)) fits) o (and_right b q m g)))
            (λ f. subst (λ (j : ℕ). digit j (2 ^ i) ≡ 1) (sym f) (pow_here i)) (in_both b (and_left b q m g))

        back : (b : ℕ) → digit b (2 ^ i) ≡ 1 → digit b (bit_and q m) ≡ 1
        back b g =
            let f : b ≡ c = pow_only b i g ∙ sym is in
            subst (λ (j : ℕ). digit j (bit_and q m) ≡ 1) (sym f) (and_both c q m h (outside_or c (subst (λ (j : ℕ). j < 64) (sym is) l) d))

candidates_distinct : Distinct candidates
unfolding candidates
candidates_distinct = distinct_rising 0 (below 64) (rising_from 0 64)

-- ---- the cell

module _ (n r : ℕ) (fits : n ≤ 64) (small : r < 2 ^ n) (D : ℕ → Type 0) (among : (t : ℕ) → D t → t < 2 ^ n)
    (grows : (s t : ℕ) → Within s t → t < 2 ^ n → D s → D t) (ps : List ℕ) (l : Least D ps) where
  -- the family: those that have a member of the row as well
  abbrev pub Wanted : ℕ → Type 0
  Wanted t = D t × (bit_and r t ≡ 0 → ⊥)

  abbrev kept : List ℕ
  kept = meeting r ps

  kept_e : (q : ℕ) → Memᴰ q kept → Memᴰ q ps × (bit_and r q ≡ 0 → ⊥)
  unfolding meeting
  kept_e q m = let a = filter_e (meets r) ps m in (a.0, λ e. rw (eq-eqb (bit_and r q) 0 e) at a.1)

  kept_i : (q : ℕ) → Memᴰ q ps → (bit_and r q ≡ 0 → ⊥) → Memᴰ q kept
  unfolding meeting
  kept_i q m d = filter_i (meets r) m (rw (ne_eqb (bit_and r q) 0 d) tt)

  fit : (p : ℕ) → Memᴰ p ps → p < 2 ^ 64
  fit p m = omega (arith, among p (l.sound p m), pow_mono {i = n} {j = 64} fits)

  beyond : (p : ℕ) → Memᴰ p ps → p + (2 ^ 64 - 1 - p) + 1 ≡ 2 ^ 64
  beyond p m = omega (arith, fit p m)

  row_lt : (i : ℕ) → T (bit i r) → i < 64
  row_lt i b = omega (arith, bit_lt i n r b small)

  -- no product that stays is within q
  abbrev Free : ℕ → Type 0
  Free q = (s : ℕ) → Memᴰ s ps → (bit_and r s ≡ 0 → ⊥) → Within s q → ⊥

  module _ (p i : ℕ) (m : Memᴰ p ps) (z : bit_and r p ≡ 0) (b : T (bit i r)) where
    free_e : T (not (barred kept p i)) → Free (bit_or p (2 ^ i))
    free_e t s k d w =
        let a = a_member (bit_and r s) d in
        let out : digit a.0 p ≡ 1 → ⊥ = λ g. no_common r p a.0 z (and_left a.0 r s a.1) g in
        T_not (barred kept p i) t
        (barred_i kept p i s (kept_i s k d)
        (within_alone p (2 ^ 64 - 1 - p) (beyond p m) s i (fit s k) (row_lt i b) w a.0 (and_right a.0 r s a.1) out))

    barred_within : T (barred kept p i) → (s : ℕ) × Memᴰ s kept × Within s (bit_or p (2 ^ i))
    barred_within t =
        let a = barred_e kept p i t in
        (a.0, a.1, alone_within p (2 ^ 64 - 1 - p) (beyond p m) a.0 i (fit a.0 (kept_e a.0 a.1).0) (row_lt i b) a.2)

  -- what remains: a product that stays, or one with one member more
  data Left (q : ℕ) : Type 0 where
    itself : Memᴰ q ps → (bit_and r q ≡ 0 → ⊥) → Left q
    with_one : (p i : ℕ) → Memᴰ p ps → bit_and r p ≡ 0 → T (bit i r) → bit_or p (2 ^ i) ≡ q → Free q → Left q

  -- what one product leaves
  record From (p q : ℕ) : Type 0 where
    i : ℕ
    unmet : bit_and r p ≡ 0
    holds : T (bit i r)
    is : bit_or p (2 ^ i) ≡ q
    clear : T (not (barred kept p i))

  from_e : (p q : ℕ) → Memᴰ q (extended kept r p) → From p q
  unfolding extended added
  from_e p q m = go (eq? (bit_and r p) 0) m
    where
      go : (bit_and r p ≡ 0) ⊎ (bit_and r p ≡ 0 → ⊥) → Memᴰ q (cond (meets r p) [] (map (λ i. bit_or p (2 ^ i)) (filter (λ i. bit i r && not (barred kept p i)) candidates))) → From p q
      go (inl z) k =
          let a = Memᴰ.of_map (λ i. bit_or p (2 ^ i)) (filter (λ i. bit i r && not (barred kept p i)) candidates) (rw (eq-eqb (bit_and r p) 0 z) at k) in
          let t = (filter_e (λ i. bit i r && not (barred kept p i)) candidates a.1).1 in
          record { i = a.0; unmet = z; holds = and_l (bit a.0 r) (not (barred kept p a.0)) t; is = a.2; clear = and_r (bit a.0 r) (not (barred kept p a.0)) t }
      go (inr d) k = elim (rw (ne_eqb (bit_and r p) 0 d) at k) [ ]

  from_i : (p i : ℕ) → bit_and r p ≡ 0 → T (bit i r) → T (not (barred kept p i)) → Memᴰ (bit_or p (2 ^ i)) (extended kept r p)
  unfolding extended added candidates
  from_i p i z b t =
      rw (eq-eqb (bit_and r p) 0 z)
      (Memᴰ.map (λ i. bit_or p (2 ^ i)) (filter_i (λ i. bit i r && not (barred kept p i)) (below_i (row_lt i b)) (and_i (bit i r) (not (barred kept p i)) b t)))

  left_from : (p q : ℕ) → Memᴰ p ps → From p q → Left q
  left_from p q m f = with_one p f.i m f.unmet f.holds f.is (subst Free f.is (free_e p f.i m f.unmet f.holds f.clear))

  rest_e : (q : ℕ) → Memᴰ q (join (map (extended kept r) ps)) → (p : ℕ) × Memᴰ p ps × From p q
  rest_e q m =
      let a = join_e (map (extended kept r) ps) m in
      let b = Memᴰ.of_map (extended kept r) ps a.2 in
      (b.0, b.1, from_e b.0 q (subst (λ (l : List ℕ). Memᴰ q l) (sym b.2) a.1))

  left_e : (q : ℕ) → Memᴰ q (stepped r ps) → Left q
  unfolding stepped
  left_e q m = go (Memᴰ.append_cases kept m)
    where
      go : Memᴰ q kept ⊎ Memᴰ q (join (map (extended kept r) ps)) → Left q
      go (inl k) = let a = kept_e q k in itself a.0 a.1
      go (inr k) = let a = rest_e q k in left_from a.0 q a.1 a.2

  stays_i : (q : ℕ) → Memᴰ q kept → Memᴰ q (stepped r ps)
  unfolding stepped
  stays_i q m = Memᴰ.append_left (join (map (extended kept r) ps)) m

  joined_i : (p i : ℕ) → Memᴰ p ps → bit_and r p ≡ 0 → T (bit i r) → T (not (barred kept p i)) → Memᴰ (bit_or p (2 ^ i)) (stepped r ps)
  unfolding stepped
  joined_i p i m z b t = Memᴰ.append_right kept (join_i (from_i p i z b t) (Memᴰ.map (extended kept r) m))

  -- ---- all of the family, and a part of each of it

  left_wanted : (q : ℕ) → Left q → Wanted q
  left_wanted q (itself m d) = (l.sound q m, d)
  left_wanted q (with_one p i m z b e f) = subst Wanted e
      (up, not_zero i (bit_and r (bit_or p (2 ^ i))) (and_both i r (bit_or p (2 ^ i)) ((digit_bit i r).0 b) ((digit_bit i (bit_or p (2 ^ i))).0 (with_here p i))))
    where
      up : D (bit_or p (2 ^ i))
      up = let d = l.sound p m in grows p (bit_or p (2 ^ i)) (within_with p i) (or_lt n p (2 ^ i) (among p d) (pow-lt (bit_lt i n r b small))) d

  left_below : (t : ℕ) → Wanted t → (q : ℕ) × Memᴰ q (stepped r ps) × Within q t
  left_below t w = go (eq? (bit_and r a.0) 0)
    where
      a : (p : ℕ) × Memᴰ p ps × Within p t
      a = l.below t w.0

      s : (i : ℕ) × (digit i (bit_and r t) ≡ 1)
      s = a_member (bit_and r t) w.1

      b : T (bit s.0 r)
      b = (digit_bit s.0 r).1 (and_left s.0 r t s.1)

      inside : Within (bit_or a.0 (2 ^ s.0)) t
      inside = with_within a.0 s.0 t a.2 ((digit_bit s.0 t).1 (and_right s.0 r t s.1))

      one : bit_and r a.0 ≡ 0 → T (barred kept a.0 s.0) ⊎ T (not (barred kept a.0 s.0)) → (q : ℕ) × Memᴰ q (stepped r ps) × Within q t
      one z (inl u) = let k = barred_within a.0 s.0 a.1 z b u in (k.0, stays_i k.0 k.1, λ c h. inside c (k.2 c h))
      one z (inr u) = (bit_or a.0 (2 ^ s.0), joined_i a.0 s.0 a.1 z b u, inside)

      go : (bit_and r a.0 ≡ 0) ⊎ (bit_and r a.0 ≡ 0 → ⊥) → (q : ℕ) × Memᴰ q (stepped r ps) × Within q t
      go (inl z) = one z (yes_or_no (barred kept a.0 s.0))
      go (inr d) = (a.0, stays_i a.0 (kept_i a.0 a.1 d), a.2)

  -- ---- none in another

  -- a product without a member of r, in one with one more
  inner : (p q i j : ℕ) → bit_and r p ≡ 0 → bit_and r q ≡ 0 → T (bit i r) → T (bit j r) → Within (bit_or p (2 ^ i)) (bit_or q (2 ^ j)) → (i ≡ j) × Within p q
  inner p q i j z y b d w = (⊎_elim (λ e. absurd (no_common r q i y ((digit_bit i r).0 b) e)) (λ e. e) (or_e q j i (whole i (with_here p i))), inside)
    where
      whole : (c : ℕ) → T (bit c (bit_or p (2 ^ i))) → digit c (bit_or q (2 ^ j)) ≡ 1
      whole c t = (digit_bit c (bit_or q (2 ^ j))).0 (w c t)

      inside : Within p q
      inside c t =
          ⊎_elim (λ e. (digit_bit c q).1 e)
          (λ e. absurd (no_common r p c z ((digit_bit c r).0 (subst (λ (x : ℕ). T (bit x r)) (sym e) d)) ((digit_bit c p).0 t)))
          (or_e q j c (whole c (within_with p i c t)))

  left_apart : (x y : ℕ) → Left x → Left y → Within x y → x ≡ y
  left_apart x y (itself m d) (itself k f) w = l.apart x y m k w
  left_apart x y (itself m d) (with_one p i k z b e f) w = absurd (f x m d w)
  left_apart x y (with_one p i m z b e f) (itself k d) w =
      let q : p ≡ y = l.apart p y m k (λ c t. w c (subst (λ (v : ℕ). T (bit c v)) e (within_with p i c t))) in
      absurd (d (subst (λ (v : ℕ). bit_and r v ≡ 0) q z))
  left_apart x y (with_one p i m z b e f) (with_one q j k z' b' e' f') w =
      let a = inner p q i j z z' b b' (subst (λ (v : ℕ). Within v (bit_or q (2 ^ j))) (sym e) (subst (Within x) (sym e') w)) in
      let s : p ≡ q = l.apart p q m k a.1 in
      sym e ∙ rw (a.0, s) e'

  pub stepped_least : Least Wanted (stepped r ps)
  stepped_least =
      record {
        sound = λ q m. left_wanted q (left_e q m);
        below = left_below;
        apart = λ x y m k w. left_apart x y (left_e x m) (left_e y k) w;
      }

  -- ---- each once

  same_from : (p q z : ℕ) → Memᴰ p ps → Memᴰ q ps → From p z → From q z → p ≡ q
  same_from p q z m k a b =
      l.apart p q m k
      (inner p q a.i b.i a.unmet b.unmet a.holds b.holds (subst (Within (bit_or p (2 ^ a.i))) (a.is ∙ sym b.is) (λ c t. t))).1

  one_distinct : (p : ℕ) → Distinct (extended kept r p)
  unfolding extended added
  one_distinct p = go (eq? (bit_and r p) 0)
    where
      go : (bit_and r p ≡ 0) ⊎ (bit_and r p ≡ 0 → ⊥) → Distinct (cond (meets r p) [] (map (λ i. bit_or p (2 ^ i)) (filter (λ i. bit i r && not (barred kept p i)) candidates)))
      go (inl z) = rw (eq-eqb (bit_and r p) 0 z)
          (distinct_map (λ i. bit_or p (2 ^ i)) (filter (λ i. bit i r && not (barred kept p i)) candidates)
          (distinct_filter (λ i. bit i r && not (barred kept p i)) candidates candidates_distinct)
          (λ i j m k e. (inner p p i j z z (held i m) (held j k) (subst (Within (bit_or p (2 ^ i))) e (λ c t. t))).0))
        where
          held : (i : ℕ) → Memᴰ i (filter (λ j. bit j r && not (barred kept p j)) candidates) → T (bit i r)
          held i m = and_l (bit i r) (not (barred kept p i)) (filter_e (λ j. bit j r && not (barred kept p j)) candidates m).1
      go (inr d) = rw (ne_eqb (bit_and r p) 0 d) tt

  pub stepped_distinct : Distinct ps → Distinct (stepped r ps)
  unfolding stepped meeting
  stepped_distinct d =
      distinct_append kept (join (map (extended kept r) ps)) (distinct_filter (meets r) ps d)
      (distinct_join (extended kept r) ps d (λ p m. one_distinct p) (λ p q z m k a b. same_from p q z m k (from_e p z a) (from_e q z b)))
      (λ z m k.
      let a = rest_e z k in
      let s = kept_e z m in
      let f = a.2 in
      free_e a.0 f.i a.1 f.unmet f.holds f.clear z s.0 s.1 (subst (Within z) (sym f.is) (λ c t. t)))
