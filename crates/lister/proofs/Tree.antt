-- The search tree: ranges of numbers, and what a node answers, from its two halves.
use Rattle.std.proofs.Common.{◌≡◌, refl, sym, ap, ◌∙◌, subst, ⊎_elim, Bool, true, false, Option, None, Some, List, ℕ, ◌+◌, ◌-◌, ◌*◌, ◌/◌, ◌%◌, ◌^◌, ◌≤◌, ◌<◌, arith, mul_assoc, add-mul, bit_and, bit_or}
use Rattle.std.specs.Bool.{then_some}
use Rattle.std.proofs.Math.Decide.{dec_lt}
use Rattle.std.proofs.Math.Pow.{split}
use Rattle.lister_narrowing.specs.declared.Tight.{Tight}
use Rattle.bits.specs.Bits.{digit, Minus, Decides}
use Rattle.rows.specs.Covers.{IrredundantCover, Between, Node}
use Rattle.lister.specs.Lister.{Among, LeastIn, RangeKept}
use Rattle.lister_narrowing.specs.Narrowing.{IrredundantBetween, NoneBetween, Narrowed}
use Rattle.bits.proofs.Digits.{eq?, digit_lt, digit_or}
use Rattle.bits.proofs.Decide.{decides_true, decides_false}
use Rattle.bits.proofs.Members.{has_bit, bit_here, lacks_bit, bit_elsewhere, above, within}
use Rattle.bits.proofs.Tops.{digit_in}
use Rattle.rows.proofs.Nodes.{halves}

pub found_none : (rows : List ℕ) (lo hi : ℕ) (r : Option ℕ) → r ≡ None → LeastIn rows lo hi r → LeastIn rows lo hi None
found_none rows lo hi r e l = subst (LeastIn rows lo hi) e l

pub not_zero_pos : {n : ℕ} → (n ≡ 0 → ⊥) → 0 < n
not_zero_pos h = omega arith

-- ---- bit j of the numbers in the two halves

module _ (i s : ℕ) (n : Node i s) (p : 0 < i) where
  -- s is a multiple of both halves
  even : s ≡ s / 2 ^ i * 2 * 2 ^ (i - 1)
  even =
      let e : s / 2 ^ i * 2 ^ i + s % 2 ^ i ≡ s = split s i in
      let h : 2 ^ i ≡ 2 * 2 ^ (i - 1) = omega (arith, halves i p) in
      let a : s / 2 ^ i * 2 * 2 ^ (i - 1) ≡ s / 2 ^ i * (2 * 2 ^ (i - 1)) = mul_assoc (s / 2 ^ i) 2 (2 ^ (i - 1)) in
      let b : s / 2 ^ i * 2 ^ i ≡ s / 2 ^ i * (2 * 2 ^ (i - 1)) = ap (λ (x : ℕ). s / 2 ^ i * x) h in
      omega (arith, n.aligned)

  pub low_digit : (y : ℕ) → s ≤ y → y < s + 2 ^ (i - 1) → digit (i - 1) y ≡ 0
  low_digit y lo hi = digit_in (i - 1) (s / 2 ^ i * 2) y (omega (arith, even)) (omega (arith, even)) ∙ omega arith

  pub high_digit : (y : ℕ) → s + 2 ^ (i - 1) ≤ y → y < s + 2 ^ i → digit (i - 1) y ≡ 1
  high_digit y lo hi =
      let a : (s / 2 ^ i * 2 + 1) * 2 ^ (i - 1) ≡ s / 2 ^ i * 2 * 2 ^ (i - 1) + 1 * 2 ^ (i - 1) = add-mul (s / 2 ^ i * 2) 1 (2 ^ (i - 1)) in
      digit_in (i - 1) (s / 2 ^ i * 2 + 1) y (omega (arith, even)) (omega (arith, even, halves i p)) ∙ omega arith

-- ---- ranges

module _ (rows : List ℕ) (lo mid hi : ℕ) where
  -- what is found in the first range
  pub in_first : (x : ℕ) → mid ≤ hi → LeastIn rows lo mid (Some x) → LeastIn rows lo hi (Some x)
  unfolding LeastIn Among
  in_first x p l = (
    (l.0.0, omega (arith, l.0.1), l.0.2),
    λ y a. elim (dec_lt y mid) [ yes lt ↦ l.1 y (a.0, lt, a.2) | no ge ↦ omega (arith, l.0.1) ],
  )

  -- what is found in the second, where the first has none
  pub in_second : (r : Option ℕ) → lo ≤ mid → LeastIn rows lo mid None → LeastIn rows mid hi r → LeastIn rows lo hi r
  unfolding LeastIn Among
  in_second (Some x) p l u = (
    (omega (arith, u.0.0), u.0.1, u.0.2),
    λ y a. elim (dec_lt y mid) [ yes lt ↦ absurd (l y (a.0, lt, a.2)) | no ge ↦ u.1 y (omega arith, a.1, a.2) ],
  )
  in_second None p l u =
      λ y a. elim (dec_lt y mid) [ yes lt ↦ l y (a.0, lt, a.2) | no ge ↦ u y (omega arith, a.1, a.2) ]

  -- what is found in the first, where the second has none
  pub only_first : (r : Option ℕ) → mid ≤ hi → LeastIn rows mid hi None → LeastIn rows lo mid r → LeastIn rows lo hi r
  unfolding LeastIn Among
  only_first (Some x) p u l = in_first x p l
  only_first None p u l =
      λ y a. elim (dec_lt y mid) [ yes lt ↦ l y (a.0, lt, a.2) | no ge ↦ u y (omega arith, a.1, a.2) ]

-- ---- a node

module _ (rows : List ℕ) (i s : ℕ) where
  leaf : i ≡ 0 → IrredundantCover rows s → LeastIn rows s (s + 2 ^ i) (Some s)
  unfolding LeastIn Among
  leaf z f = let p : 2 ^ i ≡ 1 = ap (λ (k : ℕ). 2 ^ k) z in ((omega arith, omega arith, f), λ y a. a.0)

  no_leaf : i ≡ 0 → (IrredundantCover rows s → ⊥) → LeastIn rows s (s + 2 ^ i) None
  unfolding LeastIn Among
  no_leaf z f y a =
      let p : 2 ^ i ≡ 1 = ap (λ (k : ℕ). 2 ^ k) z in
      let e : y ≡ s = omega (arith, a.0, a.1) in
      f (subst (IrredundantCover rows) e a.2)

  pub at_leaf : i ≡ 0 → (b : Bool) → Decides (IrredundantCover rows s) b → LeastIn rows s (s + 2 ^ i) (then_some b s)
  at_leaf z true d = leaf z (decides_true (IrredundantCover rows s) true d refl)
  at_leaf z false d = no_leaf z (decides_false (IrredundantCover rows s) false d refl)

  -- the bits of s and all the free ones
  module _ (free : ℕ) (e : free ≡ 2 ^ i - 1) (n : Node i s) where
    between_node : (y : ℕ) → Among rows s (s + 2 ^ i) y → IrredundantBetween rows s free y
    unfolding Among IrredundantBetween Between
    between_node y a =
        let w : (b : ℕ) → digit b y ≡ 1 → digit b (bit_or s free) ≡ 1
        = subst (λ (f : ℕ). (b : ℕ) → digit b y ≡ 1 → digit b (bit_or s f) ≡ 1) (sym e) (within i s y n.aligned a.0 a.1) in
        (a.2, (above i s y n.aligned a.0 a.1, w))

    pub range_node : (t : Tight) → Narrowed rows s free t → RangeKept rows i s t
    unfolding RangeKept IrredundantBetween
    range_node t h y a = (h.keeps y (between_node y a)).1

    pub no_node : NoneBetween rows s free → LeastIn rows s (s + 2 ^ i) None
    unfolding LeastIn NoneBetween
    no_node f y a = f y (between_node y a)

  module _ (t : Tight) (h : RangeKept rows i s t) where
    module _ (m : ℕ) (e : m ≡ 2 ^ (i - 1)) (n : Node i s) (p : 0 < i) where
      low : (y : ℕ) → Among rows s (s + 2 ^ (i - 1)) y → Among rows s (s + 2 ^ i) y
      unfolding Among
      low y a = (a.0, omega (arith, a.1, halves i p), a.2)

      up : (y : ℕ) → Among rows (s + m) (s + m + 2 ^ (i - 1)) y → Among rows s (s + 2 ^ i) y
      unfolding Among
      up y a = (omega (arith, a.0), omega (arith, a.1, halves i p), a.2)

      whole : s + m + 2 ^ (i - 1) ≡ s + 2 ^ i
      whole = omega (arith, halves i p)

      pub low_range : RangeKept rows (i - 1) s t
      unfolding RangeKept
      low_range y a = h y (low y a)

      pub high_range : RangeKept rows (i - 1) (s + m) t
      unfolding RangeKept
      high_range y a = h y (up y a)

      -- t has the candidate: the low half has nothing
      pub with_bit : (r : Option ℕ) → (bit_and t.s m ≡ 0 → ⊥) → LeastIn rows (s + m) (s + m + 2 ^ (i - 1)) r → LeastIn rows s (s + 2 ^ i) r
      unfolding LeastIn Among RangeKept Between
      with_bit r d u =
          in_second rows s (s + m) (s + 2 ^ i) r (omega arith)
          (λ y a.
          let in_low : Among rows s (s + 2 ^ (i - 1)) y = (a.0, omega (arith, a.1), a.2) in
          absurd (omega (arith, (h y (low y in_low)).0 (i - 1) (has_bit (i - 1) m e t.s d), low_digit i s n p y a.0 (omega (arith, a.1)))))
          (subst (λ (x : ℕ). LeastIn rows (s + m) x r) whole u)

      -- t lacks it: the high half has nothing
      pub without_bit : (r : Option ℕ) → bit_and t.s m ≡ 0 → bit_and t.free m ≡ 0 → LeastIn rows s (s + 2 ^ (i - 1)) r → LeastIn rows s (s + 2 ^ i) r
      unfolding LeastIn Among RangeKept Between
      without_bit r z w l =
          only_first rows s (s + 2 ^ (i - 1)) (s + 2 ^ i) r (omega (arith, halves i p))
          (λ y a.
          let one : digit (i - 1) y ≡ 1 = high_digit i s n p y a.0 a.1 in
          let either : digit (i - 1) (bit_or t.s t.free) ≡ 1 = (h y (omega (arith, a.0), a.1, a.2)).1 (i - 1) one in
          absurd (omega (arith, digit_or (i - 1) t.s t.free, lacks_bit (i - 1) m e t.s z, lacks_bit (i - 1) m e t.free w)))
          l

      module _ (rest : ℕ) (d : Minus t.free m rest) where
        -- t is open: without the candidate
        low_between : (y : ℕ) → Among rows s (s + 2 ^ (i - 1)) y → IrredundantBetween rows t.s rest y
        unfolding RangeKept Among IrredundantBetween Between Minus
        low_between y a =
            let w : Between t.s t.free y = h y (low y a) in
            let zero : digit (i - 1) y ≡ 0 = low_digit i s n p y a.0 a.1 in (
              a.2,
              (
                w.0,
                λ b q. ⊎_elim
                    (λ (f : b ≡ i - 1). absurd (omega (arith, ap (λ (c : ℕ). digit c y) f)))
                    (λ (f : b ≡ i - 1 → ⊥). omega (arith, w.1 b q, d b, bit_elsewhere (i - 1) m e b f, digit_or b t.s t.free, digit_or b t.s rest))
                    (eq? b (i - 1)),
              ),
            )

        pub low_open : (r : Tight) → Narrowed rows t.s rest r → RangeKept rows (i - 1) s r
        unfolding RangeKept IrredundantBetween
        low_open r g y a = (g.keeps y (low_between y a)).1

        pub low_none : NoneBetween rows t.s rest → LeastIn rows s (s + 2 ^ (i - 1)) None
        unfolding LeastIn NoneBetween
        low_none f y a = f y (low_between y a)

        -- and with it
        high_between : (y : ℕ) → Among rows (s + m) (s + m + 2 ^ (i - 1)) y → IrredundantBetween rows (bit_or t.s m) rest y
        unfolding RangeKept Among IrredundantBetween Between Minus
        high_between y a =
            let w : Between t.s t.free y = h y (up y a) in
            let one : digit (i - 1) y ≡ 1 = high_digit i s n p y (omega (arith, a.0)) (omega (arith, a.1, whole)) in (
              a.2,
              (
                λ b q. ⊎_elim
                    (λ (f : b ≡ i - 1). subst (λ (c : ℕ). digit c y ≡ 1) (sym f) one)
                    (λ (f : b ≡ i - 1 → ⊥). w.0 b (omega (arith, digit_or b t.s m, bit_elsewhere (i - 1) m e b f)))
                    (eq? b (i - 1)),
                λ b q. ⊎_elim
                    (λ (f : b ≡ i - 1).
                    let g : digit b m ≡ 1 = ap (λ (c : ℕ). digit c m) f ∙ bit_here (i - 1) m e in
                    omega (arith, digit_or b t.s m, digit_or b (bit_or t.s m) rest, digit_lt b t.s, digit_lt b rest))
                    (λ (f : b ≡ i - 1 → ⊥). omega (arith, w.1 b q, d b, bit_elsewhere (i - 1) m e b f, digit_or b t.s t.free, digit_or b t.s m, digit_or b (bit_or t.s m) rest))
                    (eq? b (i - 1)),
              ),
            )

        pub high_open : (r : Tight) → Narrowed rows (bit_or t.s m) rest r → RangeKept rows (i - 1) (s + m) r
        unfolding RangeKept IrredundantBetween
        high_open r g y a = (g.keeps y (high_between y a)).1

        pub high_none : NoneBetween rows (bit_or t.s m) rest → LeastIn rows (s + m) (s + m + 2 ^ (i - 1)) None
        unfolding LeastIn NoneBetween
        high_none f y a = f y (high_between y a)

      pub from_low : (x : ℕ) → LeastIn rows s (s + 2 ^ (i - 1)) (Some x) → LeastIn rows s (s + 2 ^ i) (Some x)
      from_low x l = in_first rows s (s + 2 ^ (i - 1)) (s + 2 ^ i) x (omega (arith, halves i p)) l

      pub from_high : (r : Option ℕ) → LeastIn rows s (s + 2 ^ (i - 1)) None → LeastIn rows (s + m) (s + m + 2 ^ (i - 1)) r → LeastIn rows s (s + 2 ^ i) r
      from_high r f g =
          in_second rows s (s + m) (s + 2 ^ i) r (omega arith)
          (subst (λ (x : ℕ). LeastIn rows s (s + x) None) (sym e) f)
          (subst (λ (x : ℕ). LeastIn rows (s + m) x r) whole g)
