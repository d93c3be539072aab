-- The narrowing of a set and what it can grow by: each step loses no irredundant cover.
use Rattle.std.proofs.Common.{◌≡◌, sym, ap, ◌∙◌, subst, Option, None, Some, inl, inr, ⊎_elim, List, ℕ, ◌^◌, ◌<◌, arith, length, get_or, bit_and, bit_or}
use Rattle.std.proofs.lemmas.Nat.{and_le_l}
use Rattle.lister_narrowing.specs.declared.Tight.{Tight}
use Rattle.lister_narrowing.specs.declared.Scan.{Scan}
use Rattle.bits.specs.Bits.{digit, Single, Minus}
use Rattle.rows.specs.Covers.{IrredundantCover, Own, Unmet, Between}
use Rattle.lister_narrowing.specs.Narrowing.{IrredundantBetween, NoneBetween, Forced, Taken, Found, Infeasible, Narrowed, Tightened}
use Rattle.bits.proofs.Digits.{eq?, digit_lt, digit_or, pow_only}
use Rattle.bits.proofs.Members.{and_left, and_both, not_zero}
use Rattle.rows.proofs.Sets.{own_rows, own_has, own_only, own_row_fewer, own_fewer, all_privates, meets}
use Rattle.bits.proofs.Parts.{part_le, members, minus_part, apart_by}

-- ---- what an irredundant cover t above s has

-- each member of it has a row of its own
pub between_own : (rows : List ℕ) (s free t b : ℕ) → IrredundantBetween rows s free t → digit b t ≡ 1 → Own rows (length rows) t b
unfolding IrredundantBetween
between_own rows s free t b w m = own_rows rows t w.0 b m

-- a part of t without b does not meet b's own row
own_unmet : (h s t b : ℕ) → ((c : ℕ) → digit c s ≡ 1 → digit c t ≡ 1) → bit_and h t ≡ 2 ^ b → (digit b s ≡ 1 → ⊥) → bit_and h s ≡ 0
own_unmet h s t b up e n =
    apart_by h s (λ c p q. n (subst (λ (j : ℕ). digit j s ≡ 1) (own_only h t b e c p (up c q)) q))

-- ---- rows that s does not meet

module _ (rows : List ℕ) (s free k : ℕ) (lt : k < length rows) (z : bit_and (get_or rows k 0) s ≡ 0) where
  abbrev x : ℕ
  x = get_or rows k 0

  pub row_dead : bit_and (get_or rows k 0) free ≡ 0 → NoneBetween rows s free
  unfolding NoneBetween IrredundantBetween IrredundantCover
  row_dead e t w =
      let m : (b : ℕ) × (digit b (bit_and x free) ≡ 1) × (digit b t ≡ 1) = meets rows s free k lt z t w.0.0 w.1 in
      not_zero m.0 (bit_and x free) m.1 e

  -- the only free candidate of the row is in each cover
  pub row_forces : Single (bit_and (get_or rows k 0) free) → Forced rows s free (bit_and (get_or rows k 0) free)
  unfolding Forced Single IrredundantBetween IrredundantCover
  row_forces one b m = (
    λ p. not_zero b (bit_and x s) (and_both b x s (and_left b x free m) p) z,
    λ t w.
        let q : (c : ℕ) × (digit c (bit_and x free) ≡ 1) × (digit c t ≡ 1) = meets rows s free k lt z t w.0.0 w.1 in
        let same : (c : ℕ) → digit c (bit_and x free) ≡ 1 → c ≡ one.0 = λ c h. pow_only c one.0 (sym (ap (digit c) one.1) ∙ h) in
        subst (λ (c : ℕ). digit c t ≡ 1) (same q.0 q.1 ∙ sym (same b m)) q.2,
  )

-- ---- one pass

module _ (rows : List ℕ) (s free t : ℕ) (w : IrredundantBetween rows s free t) where
  up : (c : ℕ) → digit c s ≡ 1 → digit c t ≡ 1
  unfolding IrredundantBetween Between
  up = w.1.0

  own : (b : ℕ) → digit b t ≡ 1 → Own rows (length rows) t b
  own b m = between_own rows s free t b w m

  -- a member outside s meets a row that s does not
  useful : (u b : ℕ) → Unmet rows (length rows) s u → digit b t ≡ 1 → (digit b s ≡ 1 → ⊥) → digit b u ≡ 1
  unfolding Unmet Own
  useful u b h m n =
      let r : Own rows (length rows) t b = own b m in
      let x : ℕ = get_or rows r.0 0 in
      members x u (h r.0 r.1 (own_unmet x s t b up r.2 n)) b (own_has x t b r.2)

  -- and leaves each member of s a row of its own
  harmless : (x b : ℕ) → Taken rows s x → digit b t ≡ 1 → (digit b s ≡ 1 → ⊥) → digit b x ≡ 1 → ⊥
  unfolding Taken Own
  harmless x b h m n q =
      let k : (c : ℕ) × (digit c s ≡ 1) × ((j : ℕ) → j < length rows → bit_and (get_or rows j 0) s ≡ 2 ^ c → digit b (get_or rows j 0) ≡ 1) = h b q in
      let c : ℕ = k.0 in
      let r : Own rows (length rows) t c = own c (up c k.1) in
      let y : ℕ = get_or rows r.0 0 in
      let e : b ≡ c = own_only y t c r.2 b (k.2 r.0 r.1 (own_row_fewer y s t c up k.1 r.2)) m in
      n (subst (λ (j : ℕ). digit j s ≡ 1) (sym e) k.1)

  free_of : (x b : ℕ) → Taken rows s x → digit b t ≡ 1 → (digit b s ≡ 1 → ⊥) → digit b x ≡ 0
  free_of x b h m n =
      ⊎_elim (λ (q : digit b x ≡ 1). absurd (harmless x b h m n q)) (λ (q : digit b x ≡ 1 → ⊥). omega (arith, digit_lt b x)) (eq? (digit b x) 1)

  module _ (g : Scan) (h : Found rows s free g) where
    not_infeasible : Infeasible g s → ⊥
    unfolding Infeasible Forced
    not_infeasible (inl d) = d (all_privates rows s g.owners h.owners (λ b m. own_fewer rows (length rows) s t b up m (own b (up b m))))
    not_infeasible (inr d) = d (apart_by g.forced g.taken (λ b p q.
        let f = h.forced b p in harmless g.taken b h.taken (f.1 t w) f.0 q))

    -- the cover is between s with what is forced and the free ones that are left
    narrower : (left rest : ℕ) → Minus (bit_and free g.unmet) g.taken left → Minus left g.forced rest → IrredundantBetween rows (bit_or s g.forced) rest t
    unfolding IrredundantBetween Between Minus Forced
    narrower left rest dl dr = (
      w.0,
      (
        λ b m. ⊎_elim (λ (e : digit b s ≡ 1). up b e)
            (λ (e : digit b s ≡ 1 → ⊥). (h.forced b (omega (arith, digit_or b s g.forced, digit_lt b s, digit_lt b g.forced))).1 t w)
            (eq? (digit b s) 1),
        λ b m. ⊎_elim
            (λ (e : digit b s ≡ 1). omega (arith, digit_or b s g.forced, digit_or b (bit_or s g.forced) rest, digit_lt b g.forced, digit_lt b rest))
            (λ (e : digit b s ≡ 1 → ⊥).
            let fr : digit b free ≡ 1 = omega (arith, w.1.1 b m, digit_or b s free, digit_lt b s, digit_lt b free) in
            let us : digit b g.unmet ≡ 1 = useful g.unmet b h.unmet m e in
            let ok : digit b g.taken ≡ 0 = free_of g.taken b h.taken m e in
            let l : digit b left ≡ 1 = omega (arith, dl b, and_both b free g.unmet fr us) in
            omega (arith, dr b, digit_or b s g.forced, digit_or b (bit_or s g.forced) rest, digit_lt b g.forced, digit_lt b s))
            (eq? (digit b s) 1),
      ),
    )

module _ (rows : List ℕ) (s free : ℕ) (g : Scan) (h : Found rows s free g) where
  pub tightened_never : Infeasible g s → NoneBetween rows s free
  unfolding NoneBetween
  tightened_never i t w = not_infeasible rows s free t w g h i

  pub tightened_once : (left rest : ℕ) → Minus (bit_and free g.unmet) g.taken left → Minus left g.forced rest
      → Narrowed rows s free (record { s = bit_or s g.forced; free = rest })
  tightened_once left rest dl dr = record {
    less = omega (
      arith,
      part_le rest left (minus_part left g.forced rest dr),
      part_le left (bit_and free g.unmet) (minus_part (bit_and free g.unmet) g.taken left dl),
      and_le_l free g.unmet,
    );
    keeps = λ t w. narrower rows s free t w g h left rest dl dr;
  }

-- ---- pass after pass

pub nothing_left : (rows : List ℕ) (s free : ℕ) (r : Option Tight) → r ≡ None → Tightened rows s free r → NoneBetween rows s free
nothing_left rows s free None e h = h
nothing_left rows s free (Some t) e h = cc

pub narrowed_self : (rows : List ℕ) (s free : ℕ) → Narrowed rows s free (record { s = s; free = free })
narrowed_self rows s free = record { less = omega arith; keeps = λ t w. w }

module _ {rows : List ℕ} {s free : ℕ} {now : Tight} (n : Narrowed rows s free now) where
  pub narrowed_none : NoneBetween rows now.s now.free → NoneBetween rows s free
  unfolding NoneBetween
  narrowed_none f t w = f t (n.keeps t w)
