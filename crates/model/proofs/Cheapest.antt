-- The cheapest: the least cost, then the least number.
use Prim.Native.Nat.{ℕ, suc, ◌^◌, ◌≤◌, ◌<◌}
use native.Mathlib.Omega.{arith}
use native.Mathlib.Nat.{le_antisymm}
use mathlib.Core.Path.{◌≡◌, refl, ap}
use mathlib.Core.Bool.{Bool, true, false, cond}
use mathlib.Core.List.{List, [], ◌∷◌, Memᴰ}
use lib.Dec.{T, ltb, ltb→lt, nltb→le}
use lib.ListN.{length}
use Rattle.model.specs.Sets.{Covering, cover, Irredundant, Best, least, least_of, coverable, cost, irredundants, cheapest}
use Rattle.model.specs.Pages.{Rising}
use Rattle.model.proofs.Bits.{within_le}
use Rattle.model.proofs.Sets.{least_le_first, listed, cost_more, cheapest_le, cheapest_irredundant}
use Rattle.model.proofs.Pages.{rising, rising_down}

-- of those that cost the same, the cheapest is the smallest
least_small : (f : ℕ → ℕ) (b : ℕ) (ss : List ℕ) → Rising (suc b) ss → (x : ℕ) → Memᴰ x (b ∷ ss) → f x ≤ f (least f b ss) → least f b ss ≤ x
least_small f b [] r x (Memᴰ.tail x10) h = elim x10 [ ]
least_small f b [] r x (Memᴰ.head e) h = omega arith
least_small f b (s ∷ ss) r x m h = go (ltb (f s) (f b)) refl (least_small f (cond (ltb (f s) (f b)) s b) ss) h
  where
    Goal : ℕ → Type 0
    Goal c = f x ≤ f (least f c ss) → least f c ss ≤ x

    Known : ℕ → Type 0
    Known c = Rising (suc c) ss → (y : ℕ) → Memᴰ y (c ∷ ss) → f y ≤ f (least f c ss) → least f c ss ≤ y

    taken : f s < f b → Known s → Memᴰ x (b ∷ s ∷ ss) → Goal s
    taken l k (Memᴰ.head e) g = absurd (omega (arith, least_le_first f s ss, ap f e))
    taken l k (Memᴰ.tail n) g = k r.1 x n g

    left : f b ≤ f s → Known b → Memᴰ x (b ∷ s ∷ ss) → Goal b
    left l k (Memᴰ.head e) g = k (rising_down (suc b) (suc s) ss (omega (arith, r.0)) r.1) x (Memᴰ.head e) g
    left l k (Memᴰ.tail n) g = after n
      where
        up : Rising (suc b) ss
        up = rising_down (suc b) (suc s) ss (omega (arith, r.0)) r.1

        after : Memᴰ x (s ∷ ss) → least f b ss ≤ x
        after (Memᴰ.head e) = omega (arith, k up b (Memᴰ.head refl) (omega (arith, ap f e)), r.0)
        after (Memᴰ.tail o) = k up x (Memᴰ.tail o) g

    go : (c : Bool) → ltb (f s) (f b) ≡ c → Known (cond c s b) → Goal (cond c s b)
    go true e k = taken (ltb→lt (f s) (f b) (rw e tt)) k m
    go false e k = left (nltb→le (f s) (f b) (rw e tt)) k m

least_of_small : (f : ℕ → ℕ) (b : ℕ) (ss : List ℕ) → Rising b ss → (x : ℕ) → Memᴰ x ss → f x ≤ f (least_of f ss) → least_of f ss ≤ x
least_of_small f b [] r x m h = elim m [ ]
least_of_small f b (s ∷ ss) r x m h = least_small f s ss r.1 x m h

module _ {A X : Type 0} (k : Covering A X) where
  cheapest_smallest : (s : ℕ) → Irredundant k s → cost k s ≤ cost k (cheapest k) → cheapest k ≤ s
  unfolding cheapest
  cheapest_smallest s r h = least_of_small (cost k) 0 (irredundants k) (rising k) s ((listed k s).1 r) h

  pub cheapest_best : T (coverable k) → Best k (cost k (cheapest k)) (cheapest k)
  cheapest_best c = record { tight = cheapest_irredundant k c; price = refl; least_cost = cheapest_le k; smallest = cheapest_smallest }

  -- what a search has to find: the least number among the covers of least cost. It is irredundant by itself, at weights of 0 too
  pub least_is_best : (s : ℕ) → s < 2 ^ length k.cands → T (cover k s)
      → ((a : ℕ) → a < 2 ^ length k.cands → T (cover k a) → (cost k s ≤ cost k a) × (cost k a ≤ cost k s → s ≤ a)) → Best k (cost k s) s
  least_is_best s l c f = record {
    tight = record {
      among = l;
      covering = c;
      tight = λ a w d h.
          let b : a < 2 ^ length k.cands = omega (arith, within_le a s w) in
          d (le_antisymm (within_le a s w) ((f a b h).1 (cost_more k a s w)));
    };
    price = refl;
    least_cost = λ a b h. (f a b h).0;
    smallest = λ a r h. (f a r.among r.covering).1 h;
  }

  -- there is only one
  best_one : (c d s t : ℕ) → Best k c s → Best k d t → (c ≡ d) × (s ≡ t)
  best_one c d s t p q =
      let a = p.least_cost t q.tight.among q.tight.covering in
      let b = q.least_cost s p.tight.among p.tight.covering in
      let x = p.smallest t q.tight (omega (arith, b, q.price)) in
      let y = q.smallest s p.tight (omega (arith, a, p.price)) in
      (omega (arith, a, b, p.price, q.price), le_antisymm x y)

  pub best_cheapest : (c s : ℕ) → T (coverable k) → Best k c s → (c ≡ cost k (cheapest k)) × (s ≡ cheapest k)
  best_cheapest c s h b = best_one c (cost k (cheapest k)) s (cheapest k) b (cheapest_best h)
