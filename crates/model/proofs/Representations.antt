-- What a list of other things costs, each of which some candidate outdoes; and the rival: where the candidates hold every prime,
-- no list of terms that represents the table costs less than the cheapest set.
use Prim.Native.Nat.{ℕ, zero, suc, ◌+◌, ◌*◌, ◌/◌, ◌%◌, ◌^◌, ◌≤◌, ◌<◌}
use native.Mathlib.Omega.{arith}
use native.Mathlib.Nat.{pow-suc}
use mathlib.Core.Path.{◌≡◌, refl, ap, subst}
use mathlib.Core.Logic.{◌⊎◌, inl, inr}
use mathlib.Core.Bool.{Bool, true, false, not, cond}
use mathlib.Core.List.{List, [], ◌∷◌, Memᴰ}
use lib.Dec.{T}
use lib.Pow.{pow_pos}
use lib.Count.{ones}
use lib.ListN.{length}
use Rattle.model.specs.Base.{bit, every, sum}
use Rattle.model.specs.Table.{Table, Term, is_on, on_cells, holds, cells, legal, represents}
use Rattle.model.specs.Primes.{prime}
use Rattle.model.specs.Sets.{Covering, Within, members, covers, cover, cost, cheapest}
use Rattle.model.specs.Candidates.{Candidate, terms_alone, Prices, term_cost, candidate_cost, list_cost, Basis, priced, covering}
use Rattle.model.proofs.Lists.{yes_or_no, and_l, and_r, every_e, filter_e, T_true, T_false}
use Rattle.model.proofs.Bits.{bit0_e, bit0_n}
use Rattle.model.proofs.Sets.{members_more, covers_e, cover_i, cheapest_le}
use Rattle.model.proofs.Cubes.{contains_e, Over, prime_over}

-- ---- set s and the candidate t besides

module _ {A : Type 0} (w : A → ℕ) where
  record Pick (ts : List A) (t : A) (s : ℕ) : Type 0 where
    pick : ℕ
    small : s < 2 ^ length ts → pick < 2 ^ length ts
    keeps : Within s pick
    has : Memᴰ t (members ts pick)
    price : sum w (members ts pick) ≤ sum w (members ts s) + w t

  picked : {t : A} {ts : List A} (m : Memᴰ t ts) (s : ℕ) → Pick ts t s
  picked {t} (Memᴰ.head {x = u} {xs = us} e) s = go (yes_or_no (bit 0 s))
    where
      go : T (bit 0 s) ⊎ T (not (bit 0 s)) → Pick (u ∷ us) t s
      go (inl b) = record { pick = s; small = λ h. h; keeps = λ i q. q; has = rw (T_true {b = bit 0 s} b) (Memᴰ.head e); price = omega arith }
      go (inr n) =
          let z = bit0_n s n in
          let o : suc s % 2 ≡ 1 = omega arith in
          let h : suc s / 2 ≡ s / 2 = omega arith in
          record {
            pick = suc s;
            small = λ l. omega (arith, pow-suc 2 (length us));
            keeps = keep h;
            has = rw o (Memᴰ.head e);
            price = rw (o, h, T_false {b = bit 0 s} n) (omega (arith, ap w e));
          }
        where
          keep : suc s / 2 ≡ s / 2 → Within s (suc s)
          keep h zero q = absurd (omega (arith, bit0_n s n, bit0_e s q))
          keep h (suc i) q = rw h q
  picked {t} (Memᴰ.tail {x = u} {xs = us} m) s = up (picked m (s / 2))
    where
      half : (r : ℕ) → (r * 2 + s % 2) / 2 ≡ r
      half r = omega arith

      low : (r : ℕ) → (r * 2 + s % 2) % 2 ≡ s % 2
      low r = omega arith

      keep : (r : ℕ) → Within (s / 2) r → Within s (r * 2 + s % 2)
      keep r h zero q = rw (low r) q
      keep r h (suc i) q = rw (half r) (h i q)

      inside : (b : Bool) (xs : List A) → Memᴰ t xs → Memᴰ t (cond b (u ∷ xs) xs)
      inside true xs h = Memᴰ.tail h
      inside false xs h = h

      pay : (b : Bool) (xs ys : List A) → sum w xs ≤ sum w ys + w t → sum w (cond b (u ∷ xs) xs) ≤ sum w (cond b (u ∷ ys) ys) + w t
      pay true xs ys h = omega arith
      pay false xs ys h = h

      up : Pick us t (s / 2) → Pick (u ∷ us) t s
      up r = record {
        pick = r.pick * 2 + s % 2;
        small = λ l. omega (arith, pow-suc 2 (length us), r.small (omega (arith, pow-suc 2 (length us))));
        keeps = keep r.pick r.keeps;
        has = rw (low r.pick, half r.pick) (inside (bit 0 s) (members us r.pick) r.has);
        price = rw (low r.pick, half r.pick) (pay (bit 0 s) (members us r.pick) (members us (s / 2)) r.price);
      }

  pub none_cost : (ts : List A) → sum w (members ts 0) ≡ 0
  none_cost [] = refl
  none_cost (t ∷ ts) = none_cost ts

-- ---- any other list of things that hold points and have a price

module _ {A B X : Type 0} (k : Covering A X) (held_by : B → X → Bool) (price_of : B → ℕ) where
  -- a candidate that holds the points that q holds, and costs no more
  record Dominated (q : B) : Type 0 where
    by : A
    listed : Memᴰ by k.cands
    wider : (x : X) → Memᴰ x k.points → T (held_by q x) → T (k.holds by x)
    fewer : k.weight by ≤ price_of q

  -- a set of candidates that outdoes a list
  record Match (qs : List B) : Type 0 where
    set : ℕ
    small : set < 2 ^ length k.cands
    over : (q : B) → Memᴰ q qs → (x : X) → Memᴰ x k.points → T (held_by q x) → (t : A) × Memᴰ t (members k.cands set) × T (k.holds t x)
    price : sum k.weight (members k.cands set) ≤ sum price_of qs

  add : (q : B) (qs : List B) → Match qs → Dominated q → Match (q ∷ qs)
  add q qs m o =
      let h = picked k.weight o.listed m.set in
      record { set = h.pick; small = h.small m.small; over = λ r i. go h r i; price = omega (arith, h.price, m.price, o.fewer) }
    where
      go : (h : Pick k.weight k.cands o.by m.set) (r : B) → Memᴰ r (q ∷ qs) → (x : X) → Memᴰ x k.points → T (held_by r x)
          → (t : A) × Memᴰ t (members k.cands h.pick) × T (k.holds t x)
      go h r (Memᴰ.head e) x i b = (o.by, h.has, o.wider x i (subst (λ (y : B). T (held_by y x)) e b))
      go h r (Memᴰ.tail n) x i b = let w = m.over r n x i b in (w.0, members_more k.cands m.set h.pick h.keeps w.1, w.2)

  matched : (qs : List B) → ((q : B) → Memᴰ q qs → Dominated q) → Match qs
  matched [] f = record { set = 0; small = pow_pos (length k.cands); over = λ q i. elim i [ ]; price = omega (arith, none_cost k.weight k.cands) }
  matched (q ∷ qs) f = add q qs (matched qs (λ r m. f r (Memᴰ.tail m))) (f q (Memᴰ.head refl))

  -- a list of any length that holds each point, each of it dominated, costs at least as much as the cheapest set
  dominated : (qs : List B) → ((q : B) → Memᴰ q qs → Dominated q) → T (covers held_by k.points qs) → cost k (cheapest k) ≤ sum price_of qs
  unfolding cost
  dominated qs f c =
      let m = matched qs f in
      let d : T (cover k m.set) = cover_i k m.set (λ x i. let h = covers_e held_by k.points qs c i in m.over h.0 h.1 x i h.2) in
      omega (arith, cheapest_le k m.set m.small d, m.price)

-- ---- terms, at any weight that more literals do not lower

module _ (b : Basis) (dearer : (t u : Term) → ones t.care ≤ ones u.care → term_cost b.prices t ≤ term_cost b.prices u) where
  pub no_cheaper_list : ((t : Term) → T (prime b.table t) → Memᴰ (Candidate.term t) b.cands) → (qs : List Term)
      → T (represents b.table qs) → cost (covering b) (cheapest (covering b)) ≤ list_cost b qs
  unfolding represents on_cells covers list_cost
  no_cheaper_list all qs r =
      let fair = and_l (every (legal p) qs) (covers holds (on_cells p) qs) r in
      dominated (covering b) holds (term_cost b.prices) qs (λ q m. one q (prime_over p q (every_e (legal p) m fair))) (and_r (every (legal p) qs) (covers holds (on_cells p) qs) r)
    where
      p : Table
      p = b.table

      one : (q : Term) → Over p q → Dominated (covering b) holds (term_cost b.prices) q
      one q o = record {
        by = Candidate.term o.top;
        listed = all o.top o.prime_top;
        wider = λ x i h. contains_e p o.top q o.containing x (filter_e (is_on p) (cells p) i).0 h;
        fewer = dearer o.top q o.fewer;
      }

-- the rival pays for the members of a set of terms what the set costs
pub members_cost : (w : Prices) (p : Table) (ts : List Term) (s : ℕ) → list_cost (priced w p (terms_alone ts)) (members ts s) ≡ cost (covering (priced w p (terms_alone ts))) s
unfolding list_cost cost
members_cost w p [] s = refl
members_cost w p (t ∷ ts) s = go (bit 0 s) (members_cost w p ts (s / 2))
  where
    ms : List Term
    ms = members ts (s / 2)

    ks : List Candidate
    ks = members (terms_alone ts) (s / 2)

    go : (b : Bool) → sum (term_cost w) ms ≡ sum (candidate_cost w) ks → sum (term_cost w) (cond b (t ∷ ms) ms) ≡ sum (candidate_cost w) (cond b (Candidate.term t ∷ ks) ks)
    go true e = ap (λ (x : ℕ). term_cost w t + x) e
    go false e = e
