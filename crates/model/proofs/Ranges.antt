-- Weights between two ends (K11): the test of a possible set decides the definition, over all choices.
use Prim.Native.Nat.{ℕ, ◌+◌, ◌-◌, ◌/◌, ◌^◌, ◌≤◌, ◌<◌}
use native.Mathlib.Omega.{arith}
use native.Mathlib.Nat.{le_refl}
use native.Mathlib.Decide.{ℕ_discrete}
use mathlib.Core.Path.{◌≡◌, ap}
use mathlib.Core.Logic.{◌↔◌}
use mathlib.Core.Bool.{Bool, true, false, cond}
use mathlib.Core.List.{List, [], ◌∷◌, map, Memᴰ}
use lib.Dec.{T, leb, leb→le, le→leb}
use lib.Pow.{pow_pos}
use lib.ListN.{length}
use Rattle.model.specs.Base.{bit, every, filter, sum, All}
use Rattle.model.specs.Sets.{Covering, Within, members, cover, coverable, Irredundant, irredundants, least_of}
use Rattle.model.specs.Pages.{Rising}
use Rattle.model.specs.Ranges.{Range, Ranged, Choice, cost_at, Possible, favouring, possible, possibles}
use Rattle.model.proofs.Lists.{every_e, every_i, filter_e, filter_i, all_filter}
use Rattle.model.proofs.Sets.{sum_more, listed, shrink, cover_all, least_of_le, least_of_in}
use Rattle.model.proofs.Pages.{rising, rising_filter}

-- ---- choices

-- the lowest weights are a choice
pub choice_low : (rs : List Range) → Ranged rs → Choice rs (map (λ r. r.low) rs)
choice_low [] h = tt
choice_low (r ∷ rs) h = (le_refl r.low, h.0, choice_low rs h.1)

pub choice_favouring : (rs : List Range) (s : ℕ) → Ranged rs → Choice rs (favouring rs s)
choice_favouring [] s h = tt
choice_favouring (r ∷ rs) s h = go (bit 0 s) (choice_favouring rs (s / 2) h.1)
  where
    go : (b : Bool) → Choice rs (favouring rs (s / 2)) → (r.low ≤ cond b r.low r.high) × (cond b r.low r.high ≤ r.high) × Choice rs (favouring rs (s / 2))
    go true c = (le_refl r.low, h.0, c)
    go false c = (h.0, le_refl r.high, c)

-- against any other set, s stands at no choice better than where it is favoured
pub favoured : (rs : List Range) (ws : List ℕ) (s t : ℕ) → Choice rs ws
    → cost_at (favouring rs s) s + cost_at ws t ≤ cost_at (favouring rs s) t + cost_at ws s
unfolding cost_at
favoured [] [] s t c = omega arith
favoured [] (w ∷ ws) s t c = absurd c
favoured (r ∷ rs) [] s t c = absurd c
favoured (r ∷ rs) (w ∷ ws) s t c = go (bit 0 s) (bit 0 t) (favoured rs ws (s / 2) (t / 2) c.2)
  where
    fs : List ℕ
    fs = members (favouring rs (s / 2)) (s / 2)

    ft : List ℕ
    ft = members (favouring rs (s / 2)) (t / 2)

    os : List ℕ
    os = members ws (s / 2)

    ot : List ℕ
    ot = members ws (t / 2)

    go : (x y : Bool) → sum (λ v. v) fs + sum (λ v. v) ot ≤ sum (λ v. v) ft + sum (λ v. v) os
        → sum (λ v. v) (cond x (cond x r.low r.high ∷ fs) fs) + sum (λ v. v) (cond y (w ∷ ot) ot)
        ≤ sum (λ v. v) (cond y (cond x r.low r.high ∷ ft) ft) + sum (λ v. v) (cond x (w ∷ os) os)
    go true true h = omega arith
    go true false h = omega (arith, c.0)
    go false true h = omega (arith, c.1)
    go false false h = h

-- with more members a set costs no less
pub cost_at_more : (ws : List ℕ) (a s : ℕ) → Within a s → cost_at ws a ≤ cost_at ws s
unfolding cost_at
cost_at_more ws a s w = sum_more (λ v. v) ws a s w

-- ---- the test

module _ {A X : Type 0} (k : Covering A X) (rs : List Range) where
  -- where s is favoured, no irredundant cover costs less
  pub possible_favoured : (s : ℕ) → Possible k rs s → (t : ℕ) → Irredundant k t → cost_at (favouring rs s) s ≤ cost_at (favouring rs s) t
  possible_favoured s p t i = go (ℕ_discrete t s)
    where
      go : Dec (t ≡ s) → cost_at (favouring rs s) s ≤ cost_at (favouring rs s) t
      go (yes e) = omega (arith, ap (cost_at (favouring rs s)) e)
      go (no n) = omega (arith, favoured rs p.weights s t p.choice, p.least t i n)

  -- and no cover at all: each contains an irredundant one
  pub possible_covers : (s : ℕ) → Possible k rs s → (t : ℕ) → t < 2 ^ length k.cands → T (cover k t) → cost_at (favouring rs s) s ≤ cost_at (favouring rs s) t
  possible_covers s p t l c =
      let h = shrink k t l c in
      omega (arith, possible_favoured s p h.core h.irredundant, cost_at_more (favouring rs s) h.core t h.inside)

  -- a set that costs no more than a possible one, whatever the weights, is possible
  pub possible_by : (s t : ℕ) → Possible k rs t → Irredundant k s → ((ws : List ℕ) → Choice rs ws → cost_at ws s ≤ cost_at ws t) → Possible k rs s
  possible_by s t p i f = record {
    tight = i;
    weights = p.weights;
    choice = p.choice;
    least = λ u j n. go u j (ℕ_discrete u t);
  }
    where
      go : (u : ℕ) → Irredundant k u → Dec (u ≡ t) → cost_at p.weights s ≤ cost_at p.weights u
      go u j (yes e) = omega (arith, f p.weights p.choice, ap (cost_at p.weights) e)
      go u j (no n) = omega (arith, f p.weights p.choice, p.least u j n)

  -- at any choice some possible set costs no more than a given cover
  pub possible_within : (ws : List ℕ) → Choice rs ws → (t : ℕ) → t < 2 ^ length k.cands → T (cover k t) → (s : ℕ) × Possible k rs s × (cost_at ws s ≤ cost_at ws t)
  possible_within ws c t l v =
      let h = shrink k t l v in
      let inside : Memᴰ h.core (irredundants k) = (listed k h.core).1 h.irredundant in
      let s : ℕ = least_of (cost_at ws) (irredundants k) in (
        s,
        record {
          tight = (listed k s).0 (least_of_in (cost_at ws) (irredundants k) inside);
          weights = ws;
          choice = c;
          least = λ u i n. least_of_le (cost_at ws) (irredundants k) ((listed k u).1 i);
        },
        omega (arith, least_of_le (cost_at ws) (irredundants k) inside, cost_at_more ws h.core t h.inside),
      )

  module _ (ranged : Ranged rs) where
    pub favoured_possible : (s : ℕ) → Irredundant k s → ((t : ℕ) → Irredundant k t → cost_at (favouring rs s) s ≤ cost_at (favouring rs s) t) → Possible k rs s
    favoured_possible s i f = record { tight = i; weights = favouring rs s; choice = choice_favouring rs s ranged; least = λ t j n. f t j }

    -- the list is that of the possible sets
    pub possible_listed : (s : ℕ) → Memᴰ s (possibles k rs) ↔ Possible k rs s
    unfolding possibles possible
    possible_listed s = (to, back)
      where
        test : ℕ → ℕ → Bool
        test a t = leb (cost_at (favouring rs a) a) (cost_at (favouring rs a) t)

        to : Memᴰ s (filter (λ a. every (test a) (irredundants k)) (irredundants k)) → Possible k rs s
        to m =
            let q = filter_e (λ a. every (test a) (irredundants k)) (irredundants k) m in
            favoured_possible s ((listed k s).0 q.0) (λ t i. leb→le _ _ (every_e (test s) ((listed k t).1 i) q.1))

        back : Possible k rs s → Memᴰ s (filter (λ a. every (test a) (irredundants k)) (irredundants k))
        back p = filter_i (λ a. every (test a) (irredundants k)) ((listed k s).1 p.tight)
            (every_i (test s) (irredundants k) (λ t m. le→leb _ _ (possible_favoured s p t ((listed k t).0 m))))

    -- wherever there is a cover there is a possible set
    pub possible_some : T (coverable k) → (s : ℕ) × Possible k rs s
    possible_some t =
        let a : ℕ = 2 ^ length k.cands - 1 in
        let l : a < 2 ^ length k.cands = omega (arith, pow_pos (length k.cands)) in
        let w = possible_within (map (λ r. r.low) rs) (choice_low rs ranged) a l (cover_all k t) in
        (w.0, w.1)

  -- ---- the list

  pub possibles_rising : Rising 0 (possibles k rs)
  unfolding possibles
  possibles_rising = rising_filter (possible rs (irredundants k)) 0 (irredundants k) (rising k)

  -- it is known from the irredundant covers and the ranges
  pub possibles_same : {B Y : Type 0} (j : Covering B Y) → irredundants k ≡ irredundants j → possibles k rs ≡ possibles j rs
  unfolding possibles
  possibles_same j e = rw e

  -- what holds of each irredundant cover holds of each of these
  pub all_possible : (P : ℕ → Type 0) → All P (irredundants k) → All P (possibles k rs)
  unfolding possibles
  all_possible P a = all_filter P (possible rs (irredundants k)) (irredundants k) a
