-- The cover facts, over any candidates, once.
use Prim.Native.Nat.{ℕ, zero, suc, ◌-◌, ◌/◌, ◌%◌, ◌^◌, ◌≤◌, ◌<◌}
use native.Mathlib.Omega.{arith}
use native.Mathlib.Decide.{ℕ_discrete}
use native.Mathlib.Nat.{pow-suc, le_refl}
use mathlib.Core.Path.{◌≡◌, refl, sym, ap}
use mathlib.Core.Logic.{◌↔◌, ◌⊎◌, inl, inr}
use mathlib.Core.Bool.{Bool, true, false, not, cond, ◌&&◌}
use mathlib.Core.List.{List, [], ◌∷◌, Memᴰ}
use lib.Dec.{T, ltb, T_not, not_T, ltb→lt, nltb→le}
use lib.Pow.{pow_pos}
use lib.ListN.{length}
use Rattle.model.specs.Base.{bit, below, every, some, filter, sum}
use Rattle.model.specs.Sets.{Covering, Within, members, covers, cover, coverable, Irredundant, redundant, irredundant, irredundants, cost, least, least_of, cheapest}
use Rattle.model.proofs.Lists.{yes_or_no, twice, and_l, and_r, and_i, every_e, every_i, some_e, some_i, not_every, filter_e, filter_i, below_e, below_i}
use Rattle.model.proofs.Bits.{bit_le, lacks, without_within, within_without}

-- ---- a larger set, a larger list

module _ {A : Type 0} where
  pub members_more : (ts : List A) (a s : ℕ) → Within a s → {t : A} → Memᴰ t (members ts a) → Memᴰ t (members ts s)
  members_more [] a s w m = m
  members_more (u ∷ us) a s w {t} m = go (bit 0 a) (bit 0 s) (w 0) m (members_more us (a / 2) (s / 2) (λ i. w (suc i)) {t = t})
    where
      less : List A
      less = members us (a / 2)

      all : List A
      all = members us (s / 2)

      one : (Memᴰ t less → Memᴰ t all) → Memᴰ t (u ∷ less) → Memᴰ t (u ∷ all)
      one r (Memᴰ.head e) = Memᴰ.head e
      one r (Memᴰ.tail h) = Memᴰ.tail (r h)

      go : (x y : Bool) → (T x → T y) → Memᴰ t (cond x (u ∷ less) less) → (Memᴰ t less → Memᴰ t all) → Memᴰ t (cond y (u ∷ all) all)
      go true true f h r = one r h
      go true false f h r = absurd (f tt)
      go false true f h r = Memᴰ.tail (r h)
      go false false f h r = r h

  pub sum_more : (w : A → ℕ) (ts : List A) (a s : ℕ) → Within a s → sum w (members ts a) ≤ sum w (members ts s)
  sum_more w [] a s h = omega arith
  sum_more w (u ∷ us) a s h = go (bit 0 a) (bit 0 s) (h 0) (sum_more w us (a / 2) (s / 2) (λ i. h (suc i)))
    where
      less : List A
      less = members us (a / 2)

      all : List A
      all = members us (s / 2)

      go : (x y : Bool) → (T x → T y) → sum w less ≤ sum w all → sum w (cond x (u ∷ less) less) ≤ sum w (cond y (u ∷ all) all)
      go true true f l = omega arith
      go true false f l = absurd (f tt)
      go false true f l = omega arith
      go false false f l = l

  -- all candidates together
  pub members_all : (ts : List A) → members ts (2 ^ length ts - 1) ≡ ts
  members_all [] = refl
  members_all (t ∷ ts) =
      let q = pow_pos (length ts) in
      let h : (2 ^ suc (length ts) - 1) / 2 ≡ 2 ^ length ts - 1 = omega (arith, pow-suc 2 (length ts)) in
      let o : (2 ^ suc (length ts) - 1) % 2 ≡ 1 = omega (arith, pow-suc 2 (length ts)) in
      rw (h, o, members_all ts)

-- what the test on a list of points says, both ways
module _ {A X : Type 0} (holds : A → X → Bool) where
  pub covers_e : (xs : List X) (ts : List A) → T (covers holds xs ts) → {x : X} → Memᴰ x xs → (t : A) × Memᴰ t ts × T (holds t x)
  unfolding covers
  covers_e xs ts c {x} m = some_e (λ t. holds t x) ts (every_e (λ x. some (λ t. holds t x) ts) m c)

  pub covers_i : (xs : List X) (ts : List A) → ((x : X) → Memᴰ x xs → (t : A) × Memᴰ t ts × T (holds t x)) → T (covers holds xs ts)
  unfolding covers
  covers_i xs ts f = every_i _ xs (λ x m. let q = f x m in some_i (λ t. holds t x) q.1 q.2)

  pub covers_more : (xs : List X) (ts us : List A) → ((t : A) → Memᴰ t ts → Memᴰ t us) → T (covers holds xs ts) → T (covers holds xs us)
  covers_more xs ts us f c = covers_i xs us (λ x m. let q = covers_e xs ts c m in (q.0, f q.0 q.1, q.2))

-- ---- the first of least cost

least_in : (f : ℕ → ℕ) (b : ℕ) (ss : List ℕ) → Memᴰ (least f b ss) (b ∷ ss)
least_in f b [] = Memᴰ.head refl
least_in f b (s ∷ ss) = go (ltb (f s) (f b)) (least_in f (cond (ltb (f s) (f b)) s b) ss)
  where
    skip : {x : ℕ} → Memᴰ x (b ∷ ss) → Memᴰ x (b ∷ s ∷ ss)
    skip (Memᴰ.head e) = Memᴰ.head e
    skip (Memᴰ.tail h) = Memᴰ.tail (Memᴰ.tail h)

    go : (c : Bool) → Memᴰ (least f (cond (ltb (f s) (f b)) s b) ss) (cond c s b ∷ ss) → Memᴰ (least f (cond (ltb (f s) (f b)) s b) ss) (b ∷ s ∷ ss)
    go true m = Memᴰ.tail m
    go false m = skip m

pick_le : (f : ℕ → ℕ) (s b : ℕ) → (f (cond (ltb (f s) (f b)) s b) ≤ f b) × (f (cond (ltb (f s) (f b)) s b) ≤ f s)
pick_le f s b = go (ltb (f s) (f b)) refl
  where
    go : (c : Bool) → ltb (f s) (f b) ≡ c → (f (cond c s b) ≤ f b) × (f (cond c s b) ≤ f s)
    go true e = omega (arith, ltb→lt (f s) (f b) (rw e tt))
    go false e = omega (arith, nltb→le (f s) (f b) (rw e tt))

pub least_le_first : (f : ℕ → ℕ) (b : ℕ) (ss : List ℕ) → f (least f b ss) ≤ f b
least_le_first f b [] = le_refl _
least_le_first f b (s ∷ ss) = omega (arith, least_le_first f (cond (ltb (f s) (f b)) s b) ss, (pick_le f s b).0)

least_le : (f : ℕ → ℕ) (b : ℕ) (ss : List ℕ) {x : ℕ} → Memᴰ x ss → f (least f b ss) ≤ f x
least_le f b [] {x = x} x3 = elim x3 [ ]
least_le f b (s ∷ ss) {x} (Memᴰ.head e) = omega (arith, least_le_first f (cond (ltb (f s) (f b)) s b) ss, (pick_le f s b).1, ap f e)
least_le f b (s ∷ ss) (Memᴰ.tail h) = least_le f (cond (ltb (f s) (f b)) s b) ss h

pub least_of_le : (f : ℕ → ℕ) (ss : List ℕ) {x : ℕ} → Memᴰ x ss → f (least_of f ss) ≤ f x
least_of_le f [] x3 = elim x3 [ ]
least_of_le f (s ∷ ss) (Memᴰ.head e) = omega (arith, least_le_first f s ss, ap f e)
least_of_le f (s ∷ ss) (Memᴰ.tail h) = least_le f s ss h

pub least_of_in : (f : ℕ → ℕ) (ss : List ℕ) {x : ℕ} → Memᴰ x ss → Memᴰ (least_of f ss) ss
least_of_in f [] m = elim m [ ]
least_of_in f (s ∷ ss) m = least_in f s ss

-- ---- irredundant: the test and the proposition

module _ {A X : Type 0} (k : Covering A X) where
  -- "each wanted cell is held by a member", both ways
  pub cover_e : (s : ℕ) → T (cover k s) → {x : X} → Memᴰ x k.points → (t : A) × Memᴰ t (members k.cands s) × T (k.holds t x)
  unfolding cover
  cover_e s c = covers_e k.holds k.points (members k.cands s) c

  pub cover_i : (s : ℕ) → ((x : X) → Memᴰ x k.points → (t : A) × Memᴰ t (members k.cands s) × T (k.holds t x)) → T (cover k s)
  unfolding cover
  cover_i s f = covers_i k.holds k.points (members k.cands s) f

  pub cover_more : (a s : ℕ) → Within a s → T (cover k a) → T (cover k s)
  unfolding cover
  cover_more a s w t = covers_more k.holds k.points (members k.cands a) (members k.cands s) (λ u m. members_more k.cands a s w m) t

  pub cost_more : (a s : ℕ) → Within a s → cost k a ≤ cost k s
  unfolding cost
  cost_more a s w = sum_more k.weight k.cands a s w

  pub cover_all : T (coverable k) → T (cover k (2 ^ length k.cands - 1))
  unfolding cover coverable
  cover_all t = rw (members_all k.cands) t

  redundant_e : (s i : ℕ) → T (redundant k s i) → T (bit i s) × T (cover k (s - 2 ^ i))
  unfolding redundant
  redundant_e s i t = (and_l (bit i s) (cover k (s - 2 ^ i)) t, and_r (bit i s) (cover k (s - 2 ^ i)) t)

  redundant_i : (s i : ℕ) → T (bit i s) → T (cover k (s - 2 ^ i)) → T (redundant k s i)
  unfolding redundant
  redundant_i s i b c = and_i (bit i s) (cover k (s - 2 ^ i)) b c

  none_redundant : ℕ → Bool
  none_redundant s = every (λ i. not (redundant k s i)) (below (length k.cands))

  pub irredundant_e : (s : ℕ) → s < 2 ^ length k.cands → T (irredundant k s) → Irredundant k s
  unfolding irredundant none_redundant
  irredundant_e s l t = record {
    among = l;
    covering = and_l (cover k s) (none_redundant s) t;
    tight = λ a w d c.
        let q = lacks (length k.cands) a s l w d in
        let n = every_e (λ i. not (redundant k s i)) (below_i q.1) (and_r (cover k s) (none_redundant s) t) in
        T_not (redundant k s q.0) n (redundant_i s q.0 q.2 (cover_more a (s - 2 ^ q.0) (within_without q.0 a s q.2 q.3 w) c));
  }

  pub irredundant_i : (s : ℕ) → Irredundant k s → T (irredundant k s)
  unfolding irredundant none_redundant
  irredundant_i s r = and_i (cover k s) (none_redundant s) r.covering (every_i (λ i. not (redundant k s i)) (below (length k.cands)) (λ i m. not_T (redundant k s i) (λ t.
      let q = redundant_e s i t in
      r.tight (s - 2 ^ i) (without_within i s q.0) (λ e. omega (arith, bit_le i s q.0, pow_pos i, e)) q.1)))

  -- "with no wanted cell, set 0 is the only irredundant cover"
  pub none_wanted : k.points ≡ [] → (s : ℕ) → Irredundant k s ↔ (s ≡ 0)
  unfolding cover covers
  none_wanted e s = (
    λ r. go r (ℕ_discrete s 0),
    λ z. rw z (record {
      among = pow_pos (length k.cands);
      covering = rw e tt;
      tight = λ a w d c. let q = lacks (length k.cands) a 0 (pow_pos (length k.cands)) w d in omega (arith, bit_le q.0 0 q.2, pow_pos q.0);
    }),
  )
    where
      none : (i s : ℕ) → T (bit i 0) → T (bit i s)
      none i s t = absurd (omega (arith, bit_le i 0 t, pow_pos i))

      go : Irredundant k s → Dec (s ≡ 0) → s ≡ 0
      go r (yes z) = z
      go r (no d) = absurd (r.tight 0 (λ i. none i s) (λ z. d (sym z)) (rw e tt))

  -- the list is that of the irredundant covers
  pub listed : (s : ℕ) → Memᴰ s (irredundants k) ↔ Irredundant k s
  unfolding irredundants
  listed s = (to, back)
    where
      to : Memᴰ s (filter (irredundant k) (below (2 ^ length k.cands))) → Irredundant k s
      to m = let q = filter_e (irredundant k) (below (2 ^ length k.cands)) m in irredundant_e s (below_e (2 ^ length k.cands) q.0) q.1

      back : Irredundant k s → Memᴰ s (filter (irredundant k) (below (2 ^ length k.cands)))
      back r = filter_i (irredundant k) (below_i r.among) (irredundant_i s r)

  -- every cover contains an irredundant one, which costs no more
  pub record Core (s : ℕ) : Type 0 where
    pub core : ℕ
    pub inside : Within core s
    pub irredundant : Irredundant k core
    pub cheaper : cost k core ≤ cost k s

  widen : (a s : ℕ) → Within a s → Core a → Core s
  widen a s w c = record { core = c.core; inside = λ i b. w i (c.inside i b); irredundant = c.irredundant; cheaper = omega (arith, cost_more a s w, c.cheaper) }

  find_redundant : (s : ℕ) → T (cover k s) → T (not (irredundant k s)) → (i : ℕ) × T (redundant k s i)
  unfolding irredundant none_redundant
  find_redundant s c t =
      let q = not_every (λ i. not (redundant k s i)) (below (length k.cands)) (go (cover k s) (none_redundant s) c t) in
      (q.0, twice (redundant k s q.0) q.2)
    where
      go : (a b : Bool) → T a → T (not (a && b)) → T (not b)
      go true b u v = v
      go false b u v = absurd u

  shrink_to : (n s : ℕ) → s < n → s < 2 ^ length k.cands → T (cover k s) → Core s
  shrink_to zero s h l c = absurd (omega arith)
  shrink_to (suc n) s h l c = go (yes_or_no (irredundant k s)) (λ i b. shrink_to n (s - 2 ^ i) (omega (arith, bit_le i s b, pow_pos i)) (omega arith))
    where
      go : T (irredundant k s) ⊎ T (not (irredundant k s)) → ((i : ℕ) → T (bit i s) → T (cover k (s - 2 ^ i)) → Core (s - 2 ^ i)) → Core s
      go (inl t) r = record { core = s; inside = λ i b. b; irredundant = irredundant_e s l t; cheaper = le_refl _ }
      go (inr t) r =
          let q = find_redundant s c t in
          let e = redundant_e s q.0 q.1 in
          widen (s - 2 ^ q.0) s (without_within q.0 s e.0) (r q.0 e.0 e.1)

  pub shrink : (s : ℕ) → s < 2 ^ length k.cands → T (cover k s) → Core s
  shrink s l c = shrink_to (suc s) s (le_refl (suc s)) l c

  -- ---- the cheapest

  -- it costs at most as much as any cover of the candidates
  pub cheapest_le : (s : ℕ) → s < 2 ^ length k.cands → T (cover k s) → cost k (cheapest k) ≤ cost k s
  unfolding cheapest
  cheapest_le s l c =
      let h = shrink s l c in
      omega (arith, least_of_le (cost k) (irredundants k) ((listed h.core).1 h.irredundant), h.cheaper)

  -- and it is an irredundant cover, wherever there is a cover at all (refusal 12 does not apply)
  pub cheapest_irredundant : T (coverable k) → Irredundant k (cheapest k)
  unfolding cheapest
  cheapest_irredundant t =
      let s : ℕ = 2 ^ length k.cands - 1 in
      let l : s < 2 ^ length k.cands = omega (arith, pow_pos (length k.cands)) in
      let h = shrink s l (cover_all t) in
      (listed (least_of (cost k) (irredundants k))).0 (least_of_in (cost k) (irredundants k) ((listed h.core).1 h.irredundant))
