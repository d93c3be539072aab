-- The covers of rows are those of crate model's covering problem by rows.
use Prim.Native.Nat.{ℕ, zero, suc, ◌+◌, ◌/◌, ◌^◌, ◌<◌}
use native.Mathlib.Omega.{arith}
use mathlib.Core.Path.{◌≡◌, subst, subst⁻¹}
use mathlib.Core.Logic.{◌⊎◌, inl, inr, ⊎_elim}
use mathlib.Core.Bool.{Bool, true, false, not, cond}
use mathlib.Core.List.{List, [], ◌∷◌, Memᴰ}
use lib.Dec.{T}
use lib.Bits.{bit_and}
use lib.ListN.{get_or, length}
use Rattle.model.specs.Base.{bit, from, below, every}
use Rattle.model.specs.Sets.{members, covers, cover, of_rows}
use Rattle.model.specs.Sets as model
use Rattle.model.proofs.Lists.{and_l, and_r, and_i, some_e, some_i, yes_or_no, T_true, T_false}
use Rattle.model.proofs.Bits.{bit_lt, within_le}
use Rattle.model.proofs.Matrix.{from_length}
use Rattle.bits.proofs.Digits.{eq?, digit_bit, a_member}
use Rattle.bits.proofs.Members.{and_left, and_right, and_both, not_zero, part_of, to_part}
use Rattle.rows.specs.Covers.{Cover, IrredundantCover}

-- ---- members by their numbers

members_in : (k i s : ℕ) {x : ℕ} → Memᴰ x (members (from i k) s) → (j : ℕ) × (x ≡ i + j) × T (bit j s)
members_in zero i s m = elim m [ ]
members_in (suc k) i s {x} m = go (yes_or_no (bit 0 s)) m (members_in k (suc i) (s / 2))
  where
    rest : List ℕ
    rest = members (from (suc i) k) (s / 2)

    later : (j : ℕ) × (x ≡ suc i + j) × T (bit j (s / 2)) → (j : ℕ) × (x ≡ i + j) × T (bit j s)
    later r = (suc r.0, omega (arith, r.1), r.2)

    first : T (bit 0 s) → Memᴰ x (i ∷ rest) → (Memᴰ x rest → (j : ℕ) × (x ≡ suc i + j) × T (bit j (s / 2))) → (j : ℕ) × (x ≡ i + j) × T (bit j s)
    first t (mathlib.Core.List.Memᴰ.head e) r = (0, omega (arith, e), t)
    first t (mathlib.Core.List.Memᴰ.tail h) r = later (r h)

    go : T (bit 0 s) ⊎ T (not (bit 0 s)) → Memᴰ x (cond (bit 0 s) (i ∷ rest) rest) → (Memᴰ x rest → (j : ℕ) × (x ≡ suc i + j) × T (bit j (s / 2))) → (j : ℕ) × (x ≡ i + j) × T (bit j s)
    go (inl t) h r = first t (rw (T_true {b = bit 0 s} t) at h) r
    go (inr t) h r = later (r (rw (T_false {b = bit 0 s} t) at h))

in_members : (k i s j : ℕ) → j < k → T (bit j s) → Memᴰ (i + j) (members (from i k) s)
in_members zero i s j l t = absurd (omega arith)
in_members (suc k) i s zero l t = let e : i + 0 ≡ i = omega arith in rw (T_true {b = bit 0 s} t) (mathlib.Core.List.Memᴰ.head e)
in_members (suc k) i s (suc j) l t = go (bit 0 s) (subst (λ (x : ℕ). Memᴰ x rest) same (in_members k (suc i) (s / 2) j (omega arith) t))
  where
    rest : List ℕ
    rest = members (from (suc i) k) (s / 2)

    same : suc i + j ≡ i + suc j
    same = omega arith

    go : (b : Bool) → Memᴰ (i + suc j) rest → Memᴰ (i + suc j) (cond b (i ∷ rest) rest)
    go true m = mathlib.Core.List.Memᴰ.tail m
    go false m = m

-- ---- a test of every entry, by index

every_at : (f : ℕ → Bool) (xs : List ℕ) → T (every f xs) → (k : ℕ) → k < length xs → T (f (get_or xs k 0))
every_at f [] t k l = absurd (omega arith)
every_at f (x ∷ xs) t zero l = and_l (f x) (every f xs) t
every_at f (x ∷ xs) t (suc k) l = every_at f xs (and_r (f x) (every f xs) t) k (omega arith)

every_by : (f : ℕ → Bool) (xs : List ℕ) → ((k : ℕ) → k < length xs → T (f (get_or xs k 0))) → T (every f xs)
every_by f [] h = tt
every_by f (x ∷ xs) h = and_i (f x) (every f xs) (h 0 (omega arith)) (every_by f xs (λ k l. h (suc k) (omega arith)))

-- ---- covers

module _ (costs rows : List ℕ) where
  pub cover_to : (s : ℕ) → T (cover (of_rows costs rows) s) → Cover rows s
  unfolding cover covers Cover
  cover_to s c k l z =
      let r : ℕ = get_or rows k 0 in
      let q = some_e (λ i. bit i r) (members (below (length costs)) s) (every_at _ rows c k l) in
      let m = members_in (length costs) 0 s q.1 in
      let e : q.0 ≡ m.0 = omega (arith, m.1) in
      not_zero m.0 (bit_and r s)
      (and_both m.0 r s ((digit_bit m.0 r).0 (subst (λ (i : ℕ). T (bit i r)) e q.2)) ((digit_bit m.0 s).0 m.2)) z

  pub cover_from : (s : ℕ) → s < 2 ^ length costs → Cover rows s → T (cover (of_rows costs rows) s)
  unfolding cover covers Cover
  cover_from s l c = every_by _ rows (λ k h.
      let r : ℕ = get_or rows k 0 in
      let m = a_member (bit_and r s) (c k h) in
      let b : T (bit m.0 s) = (digit_bit m.0 s).1 (and_right m.0 r s m.1) in
      let i : Memᴰ (0 + m.0) (members (below (length costs)) s) = in_members (length costs) 0 s m.0 (bit_lt m.0 (length costs) s b l) b in
      let z : 0 + m.0 ≡ m.0 = omega arith in
      some_i (λ i. bit i r) (subst (λ (x : ℕ). Memᴰ x (members (below (length costs)) s)) z i) ((digit_bit m.0 r).1 (and_left m.0 r s m.1)))

  -- as many candidates as costs
  pub of_rows_size : length (of_rows costs rows).cands ≡ length costs
  of_rows_size = from_length 0 (length costs)

  pub irredundant_to : (s : ℕ) → model.Irredundant (of_rows costs rows) s → (s < 2 ^ length costs) × IrredundantCover rows s
  unfolding IrredundantCover
  irredundant_to s r = (small, (cover_to s r.covering, λ t p c. ⊎_elim (λ (e : t ≡ s). e) (λ (d : t ≡ s → ⊥). absurd (r.tight t (inside t p) d (cover_from t (less t p) c))) (eq? t s)))
    where
      small : s < 2 ^ length costs
      small = subst (λ (n : ℕ). s < 2 ^ n) of_rows_size r.among

      inside : (t : ℕ) → bit_and t s ≡ t → model.Within t s
      inside t p i b = (digit_bit i s).1 (part_of t s p i ((digit_bit i t).0 b))

      less : (t : ℕ) → bit_and t s ≡ t → t < 2 ^ length costs
      less t p = omega (arith, within_le t s (inside t p), small)

  pub irredundant_from : (s : ℕ) → s < 2 ^ length costs → IrredundantCover rows s → model.Irredundant (of_rows costs rows) s
  unfolding IrredundantCover
  irredundant_from s l r = record {
    among = subst⁻¹ (λ (n : ℕ). s < 2 ^ n) of_rows_size l;
    covering = cover_from s l r.0;
    tight = λ a w d c. d (r.1 a (to_part a s (λ b m. (digit_bit b s).0 (w b ((digit_bit b a).1 m)))) (cover_to a c));
  }
