-- K8's multiplication, one point: what is joined, and what is kept of it.
use Prim.Native.Nat.{ℕ, zero, suc, ◌^◌, ◌<◌}
use native.Mathlib.Omega.{arith}
use mathlib.Core.Path.{◌≡◌, sym, subst, subst⁻¹}
use mathlib.Core.Logic.{◌⊎◌, inl, inr}
use mathlib.Core.Bool.{Bool, true, false, not, ◌&&◌}
use mathlib.Core.List.Memᴰ
use mathlib.Core.List.{List, map, Memᴰ}
use lib.Bits.{bit_and, bit_or}
use lib.Dec.{T, eqb, T_not, eqb→eq, eqb_refl}
use lib.ListN.{get_or, length}
use Rattle.model.specs.Base.{bit, below, some, implies}
use Rattle.model.specs.Sets.{Covering, Within}
use Rattle.model.specs.Presence.{values_at, sum_up_to, sum_at}
use Rattle.model.specs.Products.{contains_product, contains_no_other, holders, joined, kept}
use Rattle.model.proofs.Lists.{yes_or_no, and_l, and_r, and_i, implies_e, every_e, some_e, some_i, not_every, filter_e, filter_i, join_e, join_i, below_e, below_i}
use Rattle.model.proofs.Bits.{bit_of_and, within_le, within_both}

-- ---- those of a list that contain no other

pub contained_e : (p q : ℕ) → T (contains_product p q) → Within q p
contained_e p q t i b =
    let c : T (bit i (bit_and p q)) = subst⁻¹ (λ (z : ℕ). T (bit i z)) (eqb→eq (bit_and p q) q t) b in
    and_l (bit i p) (bit i q) (rw (bit_of_and i p q) at c)

pub contained_i : (p q : ℕ) → Within q p → T (contains_product p q)
contained_i p q w = rw (within_both (bit_and p q) q inside whole) (eqb_refl q)
  where
    inside : Within (bit_and p q) q
    inside i t = and_r (bit i p) (bit i q) (rw (bit_of_and i p q) at t)

    whole : Within q (bit_and p q)
    whole i t = rw (bit_of_and i p q) (and_i (bit i p) (bit i q) (w i t) t)

pub no_other_e : (js : List ℕ) (p j : ℕ) → T (contains_no_other js p) → Memᴰ j js → Within j p → j ≡ p
unfolding contains_no_other
no_other_e js p j t m w = eqb→eq j p (implies_e (contains_product p j) (eqb j p) (every_e (λ i. implies (contains_product p i) (eqb i p)) m t) (contained_i p j w))

-- one that contains another: the other is smaller
some_other : (js : List ℕ) (p : ℕ) → T (not (contains_no_other js p)) → (j : ℕ) × Memᴰ j js × Within j p × (j < p)
unfolding contains_no_other
some_other js p t =
    let a = not_every (λ j. implies (contains_product p j) (eqb j p)) js t in
    let b = two (contains_product p a.0) (eqb a.0 p) a.2 in
    let w : Within a.0 p = contained_e p a.0 b.0 in
    let d : a.0 ≡ p → ⊥ = λ e. T_not (eqb a.0 p) b.1 (rw e (eqb_refl p)) in
    (a.0, a.1, w, omega (arith, within_le a.0 p w, d))
  where
    two : (x y : Bool) → T (not (implies x y)) → T x × T (not y)
    two true y u = (tt, u)
    two false y u = absurd u

-- so that each contains one that contains no other
pub one_below : (js : List ℕ) (b p : ℕ) → p < b → Memᴰ p js → (q : ℕ) × Memᴰ q js × T (contains_no_other js q) × Within q p
one_below js zero p l m = absurd (omega arith)
one_below js (suc b) p l m = go (yes_or_no (contains_no_other js p)) (one_below js b)
  where
    go : T (contains_no_other js p) ⊎ T (not (contains_no_other js p)) → ((q : ℕ) → q < b → Memᴰ q js → (r : ℕ) × Memᴰ r js × T (contains_no_other js r) × Within r q)
        → (r : ℕ) × Memᴰ r js × T (contains_no_other js r) × Within r p
    go (inl t) r = (p, m, t, λ i u. u)
    go (inr t) r =
        let a = some_other js p t in
        let c = r a.0 (omega (arith, a.3)) a.1 in
        (c.0, c.1, c.2, λ i u. a.2 i (c.3 i u))

module _ {A X : Type 0} (k : Covering A X) where
  pub kept_e : (js : List ℕ) {p : ℕ} → Memᴰ p (kept k js) → Memᴰ p js × T (contains_no_other js p)
  unfolding kept
  kept_e js {p} m =
      let a = filter_e (λ q. some (eqb q) js && contains_no_other js q) (below (2 ^ length k.cands)) m in
      let b = some_e (eqb p) js (and_l (some (eqb p) js) (contains_no_other js p) a.1) in
      (subst (λ (q : ℕ). Memᴰ q js) (sym (eqb→eq p b.0 b.2)) b.1, and_r (some (eqb p) js) (contains_no_other js p) a.1)

  pub kept_i : (js : List ℕ) {p : ℕ} → p < 2 ^ length k.cands → Memᴰ p js → T (contains_no_other js p) → Memᴰ p (kept k js)
  unfolding kept
  kept_i js {p} l m t = filter_i (λ q. some (eqb q) js && contains_no_other js q) (below_i l) (and_i (some (eqb p) js) (contains_no_other js p) (some_i (eqb p) m (eqb_refl p)) t)

  -- ---- the candidates that hold a point

  -- a set meets a point where it has a member that holds it
  pub held_e : (s : ℕ) (x : X) → T (sum_at k.holds k.cands s x) → (i : ℕ) × Memᴰ i (holders k x) × T (bit i s)
  unfolding sum_at sum_up_to holders
  held_e s x t =
      let a = some_e (λ i. get_or (values_at k.holds k.cands x) i false && bit i s) (below (length k.cands)) t in
      let v : Bool = get_or (values_at k.holds k.cands x) a.0 false in
      (a.0, filter_i (λ i. get_or (values_at k.holds k.cands x) i false) a.1 (and_l v (bit a.0 s) a.2), and_r v (bit a.0 s) a.2)

  pub held_i : (s : ℕ) (x : X) (i : ℕ) → Memᴰ i (holders k x) → T (bit i s) → T (sum_at k.holds k.cands s x)
  unfolding sum_at sum_up_to holders
  held_i s x i m t =
      let a = filter_e (λ j. get_or (values_at k.holds k.cands x) j false) (below (length k.cands)) m in
      some_i (λ j. get_or (values_at k.holds k.cands x) j false && bit j s) a.0 (and_i (get_or (values_at k.holds k.cands x) i false) (bit i s) a.1 t)

  pub holder_lt : (x : X) (i : ℕ) → Memᴰ i (holders k x) → i < length k.cands
  unfolding holders
  holder_lt x i m = below_e (length k.cands) (filter_e (λ j. get_or (values_at k.holds k.cands x) j false) (below (length k.cands)) m).0

  -- more members meet no fewer points
  pub sum_more : (x : X) (s t : ℕ) → Within s t → T (sum_at k.holds k.cands s x) → T (sum_at k.holds k.cands t x)
  sum_more x s t w u = let a = held_e s x u in held_i t x a.0 a.1 (w a.0 a.2)

  pub joined_e : (x : X) (ps : List ℕ) {q : ℕ} → Memᴰ q (joined k x ps) → (p : ℕ) × (i : ℕ) × Memᴰ p ps × Memᴰ i (holders k x) × (bit_or p (2 ^ i) ≡ q)
  unfolding joined
  joined_e x ps {q} m =
      let a = join_e (map (λ p. map (λ i. bit_or p (2 ^ i)) (holders k x)) ps) m in
      let b = Memᴰ.of_map (λ p. map (λ i. bit_or p (2 ^ i)) (holders k x)) ps a.2 in
      let c = Memᴰ.of_map (λ i. bit_or b.0 (2 ^ i)) (holders k x) (subst⁻¹ (λ (l : List ℕ). Memᴰ q l) b.2 a.1) in
      (b.0, c.0, b.1, c.1, c.2)

  pub joined_i : (x : X) (ps : List ℕ) (p i : ℕ) → Memᴰ p ps → Memᴰ i (holders k x) → Memᴰ (bit_or p (2 ^ i)) (joined k x ps)
  unfolding joined
  joined_i x ps p i m h = join_i (Memᴰ.map (λ j. bit_or p (2 ^ j)) h) (Memᴰ.map (λ q. map (λ j. bit_or q (2 ^ j)) (holders k x)) m)
