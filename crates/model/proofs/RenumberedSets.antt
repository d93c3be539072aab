-- K9: sets renumbered by a bijection of positions. What goes there comes back by the inverse; lists of sets that go to each other are as long.
use Prim.Native.Nat.{ℕ, ◌-◌, ◌^◌, ◌≤◌, ◌<◌}
use native.Mathlib.Omega.{arith}
use native.Mathlib.Decide.{dec_lt}
use mathlib.Core.Path.{◌≡◌, sym, ap, ◌∙◌, subst, subst⁻¹}
use mathlib.Core.Logic.{◌≢◌}
use mathlib.Core.List.Memᴰ
use mathlib.Core.List.{List, map, Memᴰ}
use lib.Dec.{T}
use lib.ListN.{length-map}
use Rattle.model.specs.Base.{bit}
use Rattle.model.specs.Sets.{Within}
use Rattle.model.specs.Renumbered.{Renumbering, inverse, renumbered, SameSets}
use Rattle.model.proofs.Bits.{bit_lt, without_within, within_both, bit_none, from_bits_e, from_bits_i, from_bits_lt, without_gone, without_others}
use Rattle.model.proofs.Distinct.{Distinct, distinct_map, as_long}

-- ---- sets, there and back

-- from n on nothing moves
abbrev pub FixedFrom : ℕ → Renumbering → Type 0
FixedFrom n r = (i : ℕ) → n ≤ i → r.to i ≡ i

pub fixed_back : (n : ℕ) (r : Renumbering) → FixedFrom n r → FixedFrom n (inverse r)
fixed_back n r f i l = ap r.back (sym (f i l)) ∙ r.back_to i

module _ (n : ℕ) (r : Renumbering) (fixed : FixedFrom n r) where
  -- so nothing leaves
  pub to_lt : (i : ℕ) → i < n → r.to i < n
  to_lt i l = go (dec_lt (r.to i) n)
    where
      go : Dec (r.to i < n) → r.to i < n
      go (yes h) = h
      go (no h) = let e = fixed_back n r fixed (r.to i) (omega arith) in omega (arith, r.back_to i, e)

  pub renumbered_lt : (s : ℕ) → renumbered r n s < 2 ^ n
  unfolding renumbered
  renumbered_lt s = from_bits_lt _ n

  -- the members of a renumbered set
  pub renumbered_e : (s j : ℕ) → T (bit j (renumbered r n s)) → (j < n) × T (bit (r.back j) s)
  unfolding renumbered
  renumbered_e s j t = from_bits_e _ j n t

  renumbered_i : (s j : ℕ) → j < n → T (bit (r.back j) s) → T (bit j (renumbered r n s))
  unfolding renumbered
  renumbered_i s j l t = from_bits_i _ j n l t

  -- a member at its new position
  pub there : (s i : ℕ) → i < n → T (bit i s) → T (bit (r.to i) (renumbered r n s))
  there s i l t = renumbered_i s (r.to i) (to_lt i l) (subst⁻¹ (λ (x : ℕ). T (bit x s)) (r.back_to i) t)

  pub within_there : (a s : ℕ) → Within a s → Within (renumbered r n a) (renumbered r n s)
  within_there a s w j t = let q = renumbered_e a j t in renumbered_i s j q.0 (w (r.back j) q.1)

  pub none_there : renumbered r n 0 ≡ 0
  none_there = within_both (renumbered r n 0) 0 (λ j t. absurd (bit_none (r.back j) (renumbered_e 0 j t).1)) (λ j t. absurd (bit_none j t))

  -- a set without one of its members
  pub without_there : (s i : ℕ) → s < 2 ^ n → T (bit i s) → renumbered r n s - 2 ^ r.to i ≡ renumbered r n (s - 2 ^ i)
  without_there s i l t = within_both (new - 2 ^ r.to i) (renumbered r n (s - 2 ^ i)) one two
    where
      new : ℕ
      new = renumbered r n s

      has : T (bit (r.to i) new)
      has = there s i (bit_lt i n s t l) t

      one : Within (new - 2 ^ r.to i) (renumbered r n (s - 2 ^ i))
      one j u =
          let q = renumbered_e s j (without_within (r.to i) new has j u) in
          let other : r.back j ≢ i = λ e. without_gone (r.to i) new has (subst (λ (x : ℕ). T (bit x (new - 2 ^ r.to i))) (sym (r.to_back j) ∙ ap r.to e) u) in
          renumbered_i (s - 2 ^ i) j q.0 (without_others i (r.back j) s t q.1 other)

      two : Within (renumbered r n (s - 2 ^ i)) (new - 2 ^ r.to i)
      two j u =
          let q = renumbered_e (s - 2 ^ i) j u in
          let other : j ≢ r.to i = λ e. without_gone i s t (subst (λ (x : ℕ). T (bit x (s - 2 ^ i))) (ap r.back e ∙ r.back_to i) q.1) in
          without_others (r.to i) j new has (renumbered_i s j q.0 (without_within i s t (r.back j) q.1)) other

module _ (n : ℕ) (r : Renumbering) (fixed : FixedFrom n r) where
  pub back_there : (s : ℕ) → s < 2 ^ n → renumbered (inverse r) n (renumbered r n s) ≡ s
  back_there s l = within_both (renumbered (inverse r) n (renumbered r n s)) s one two
    where
      back : FixedFrom n (inverse r)
      back = fixed_back n r fixed

      one : Within (renumbered (inverse r) n (renumbered r n s)) s
      one i t =
          let q = renumbered_e n (inverse r) back (renumbered r n s) i t in
          subst (λ (x : ℕ). T (bit x s)) (r.back_to i) (renumbered_e n r fixed s (r.to i) q.1).1

      two : Within s (renumbered (inverse r) n (renumbered r n s))
      two i t =
          let l = bit_lt i n s t l in
          renumbered_i n (inverse r) back (renumbered r n s) i l (there n r fixed s i l t)

module _ (n : ℕ) (r : Renumbering) (fixed : FixedFrom n r) where
  pub there_back : (t : ℕ) → t < 2 ^ n → renumbered r n (renumbered (inverse r) n t) ≡ t
  unfolding renumbered
  there_back t l = back_there n (inverse r) (fixed_back n r fixed) t l

  -- two lists without repeats that go to each other
  module _ (ss ts : List ℕ) (short : (s : ℕ) → Memᴰ s ss → s < 2 ^ n) (short' : (t : ℕ) → Memᴰ t ts → t < 2 ^ n) (go_to : (s : ℕ) → Memᴰ s ss → Memᴰ (renumbered r n s) ts)
      (come : (t : ℕ) → Memᴰ t ts → Memᴰ (renumbered (inverse r) n t) ss) where
    there_e : (t : ℕ) → Memᴰ t (map (renumbered r n) ss) → Memᴰ t ts
    there_e t m = let q = Memᴰ.of_map (renumbered r n) ss m in subst (λ (x : ℕ). Memᴰ x ts) q.2 (go_to q.0 q.1)

    there_i : (t : ℕ) → Memᴰ t ts → Memᴰ t (map (renumbered r n) ss)
    there_i t m = subst (λ (x : ℕ). Memᴰ x (map (renumbered r n) ss)) (there_back t (short' t m)) (Memᴰ.map (renumbered r n) (come t m))

    back_e : (s : ℕ) → Memᴰ s (map (renumbered (inverse r) n) ts) → Memᴰ s ss
    back_e s m = let q = Memᴰ.of_map (renumbered (inverse r) n) ts m in subst (λ (x : ℕ). Memᴰ x ss) q.2 (come q.0 q.1)

    back_i : (s : ℕ) → Memᴰ s ss → Memᴰ s (map (renumbered (inverse r) n) ts)
    back_i s m = subst (λ (x : ℕ). Memᴰ x (map (renumbered (inverse r) n) ts)) (back_there n r fixed s (short s m)) (Memᴰ.map (renumbered (inverse r) n) (go_to s m))

    apart : (s t : ℕ) → Memᴰ s ss → Memᴰ t ss → renumbered r n s ≡ renumbered r n t → s ≡ t
    apart s t a b e = sym (back_there n r fixed s (short s a)) ∙ ap (renumbered (inverse r) n) e ∙ back_there n r fixed t (short t b)

    pub same_sets : Distinct ss → Distinct ts → SameSets r n ss ts
    same_sets d e = record {
      there = λ t. (there_e t, there_i t);
      back_again = λ s. (back_e s, back_i s);
      as_many = sym (length-map ss (renumbered r n)) ∙ as_long (map (renumbered r n) ss) ts (distinct_map (renumbered r n) ss d apart) e there_e there_i;
    }
