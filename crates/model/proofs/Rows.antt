-- Rows of the covering matrix (document 000's presence function): a set is a cover where it meets the row of each point.
use Prim.Native.Nat.{ℕ, ◌+◌, ◌*◌, ◌/◌, ◌%◌, ◌<◌, min}
use native.Mathlib.Omega.{arith}
use mathlib.Core.Path.{◌≡◌, ◌∙◌}
use mathlib.Core.Logic.{◌↔◌, ◌⊎◌, inl, inr}
use mathlib.Core.Bool.{Bool, true, false, not, cond}
use mathlib.Core.List.{List, [], ◌∷◌}
use lib.Dec.{T, ltb, ltb→lt, lt→ltb}
use lib.Bits.{bit_and, and_step, and_zero_r}
use Rattle.model.specs.Base.{bit, some, every}
use Rattle.model.specs.Sets.{Covering, members, covers, cover, row_of}
use Rattle.model.proofs.Lists.{yes_or_no, T_true, T_false, or_cases, or_l, or_r, every_e, every_i}
use Rattle.model.proofs.Bits.{bit0_e, bit0_n}

meet_step : (s x : ℕ) (b : Bool) → (0 < bit_and s (x * 2 + cond b 1 0)) ↔ ((0 < bit_and (s / 2) x) ⊎ (T (bit 0 s) × T b))
meet_step s x true = (to (yes_or_no (bit 0 s)), back)
  where
    h : (x * 2 + 1) / 2 ≡ x
    h = omega arith

    l : (x * 2 + 1) % 2 ≡ 1
    l = omega arith

    step : bit_and s (x * 2 + 1) ≡ bit_and (s / 2) x * 2 + min (s % 2) 1
    step = and_step s (x * 2 + 1) ∙ rw (h, l)

    to : T (bit 0 s) ⊎ T (not (bit 0 s)) → 0 < bit_and s (x * 2 + 1) → (0 < bit_and (s / 2) x) ⊎ (T (bit 0 s) × Unit {0})
    to (inl o) k = inr (o, tt)
    to (inr o) k = inl (omega (arith, step, bit0_n s o))

    back : (0 < bit_and (s / 2) x) ⊎ (T (bit 0 s) × Unit {0}) → 0 < bit_and s (x * 2 + 1)
    back (inl k) = omega (arith, step)
    back (inr k) = omega (arith, step, bit0_e s k.0)
meet_step s x false = (λ k. inl (omega (arith, step)), back)
  where
    h : (x * 2 + 0) / 2 ≡ x
    h = omega arith

    l : (x * 2 + 0) % 2 ≡ 0
    l = omega arith

    step : bit_and s (x * 2 + 0) ≡ bit_and (s / 2) x * 2 + min (s % 2) 0
    step = and_step s (x * 2 + 0) ∙ rw (h, l)

    back : (0 < bit_and (s / 2) x) ⊎ (T (bit 0 s) × ⊥) → 0 < bit_and s (x * 2 + 0)
    back (inl k) = omega (arith, step)
    back (inr k) = absurd k.1

module _ {A X : Type 0} (holds : A → X → Bool) where
  pub held_iff : (ts : List A) (c : X) (s : ℕ) → T (some (λ t. holds t c) (members ts s)) ↔ (0 < bit_and s (row_of holds ts c))
  unfolding row_of
  held_iff [] c s = (λ t. absurd t, λ h. absurd (omega (arith, and_zero_r s)))
  held_iff (t ∷ ts) c s = (λ h. m.1 (to (yes_or_no (bit 0 s)) h (held_iff ts c (s / 2))), λ k. back (m.0 k) (held_iff ts c (s / 2)))
    where
      m : (0 < bit_and s (row_of holds ts c * 2 + cond (holds t c) 1 0)) ↔ ((0 < bit_and (s / 2) (row_of holds ts c)) ⊎ (T (bit 0 s) × T (holds t c)))
      m = meet_step s (row_of holds ts c) (holds t c)

      r : List A
      r = members ts (s / 2)

      to : T (bit 0 s) ⊎ T (not (bit 0 s)) → T (some (λ u. holds u c) (cond (bit 0 s) (t ∷ r) r))
          → T (some (λ u. holds u c) r) ↔ (0 < bit_and (s / 2) (row_of holds ts c)) → (0 < bit_and (s / 2) (row_of holds ts c)) ⊎ (T (bit 0 s) × T (holds t c))
      to (inl o) h ih = go (or_cases (holds t c) (some (λ u. holds u c) r) (rw (T_true {b = bit 0 s} o) at h))
        where
          go : T (holds t c) ⊎ T (some (λ u. holds u c) r) → (0 < bit_and (s / 2) (row_of holds ts c)) ⊎ (T (bit 0 s) × T (holds t c))
          go (inl x) = inr (o, x)
          go (inr x) = inl (ih.0 x)
      to (inr o) h ih = inl (ih.0 (rw (T_false {b = bit 0 s} o) at h))

      keep : (b : Bool) → T (some (λ u. holds u c) r) → T (some (λ u. holds u c) (cond b (t ∷ r) r))
      keep true x = or_r (holds t c) (some (λ u. holds u c) r) x
      keep false x = x

      back : (0 < bit_and (s / 2) (row_of holds ts c)) ⊎ (T (bit 0 s) × T (holds t c)) → T (some (λ u. holds u c) r) ↔ (0 < bit_and (s / 2) (row_of holds ts c))
          → T (some (λ u. holds u c) (cond (bit 0 s) (t ∷ r) r))
      back (inl k) ih = keep (bit 0 s) (ih.1 k)
      back (inr k) ih = rw (T_true {b = bit 0 s} k.0) (or_l (holds t c) (some (λ u. holds u c) r) k.1)

-- a set is a cover where it meets the row of each point
pub cover_iff : {A X : Type 0} (k : Covering A X) (s : ℕ) → T (cover k s) ↔ T (every (λ x. ltb 0 (bit_and s (row_of k.holds k.cands x))) k.points)
unfolding cover covers
cover_iff {X = X} k s = (to, back)
  where
    in_set : X → Bool
    in_set x = some (λ t. k.holds t x) (members k.cands s)

    meets : X → Bool
    meets x = ltb 0 (bit_and s (row_of k.holds k.cands x))

    to : T (every in_set k.points) → T (every meets k.points)
    to c = every_i meets k.points (λ x m. lt→ltb 0 _ ((held_iff k.holds k.cands x s).0 (every_e in_set m c)))

    back : T (every meets k.points) → T (every in_set k.points)
    back c = every_i in_set k.points (λ x m. (held_iff k.holds k.cands x s).1 (ltb→lt 0 _ (every_e meets m c)))
