-- The rows that a set meets, and what they make needless.
use Rattle.std.proofs.Common.{◌≡◌, sym, ap, ◌∙◌, subst, ⊎_elim, not, Option, List, ℕ, ◌+◌, ◌≤◌, ◌<◌, arith, length, get_or, take, get_or-take, length-take-le, bit_and}
use Rattle.std.specs.Prelude.{◌==◌}
use Rattle.std.specs.Bool.{then_some}
use Rattle.bits.specs.Bits.{digit, Minus}
use Rattle.bits.proofs.Digits.{eq?, digit_lt}
use Rattle.bits.proofs.Parts.{apart_by}
use Rattle.rows.specs.Covers.{Cover}
use Rattle.rows.specs.Keeping.{Kept}
use Rattle.rows.proofs.Making.{Told, unless_zero, kept_has, kept_from}
use Rattle.ranges.specs.Listed.{Outmeets, Needless}
use Rattle.ranges.specs.Rivals.{RowsMet}

-- ---- the rows that s meets

-- they are there where each of them, and no other, gives itself
pub met_kept : (makes : ℕ → Option ℕ → Type 0) (rows new : List ℕ) (s size r : ℕ)
    → ((x : ℕ) (o : Option ℕ) → makes x o → o ≡ then_some (not (bit_and x s == 0)) x)
    → Kept makes rows size r new → RowsMet rows s size r new
met_kept makes rows new s size r is g = record {
  size_is = g.size_is;
  few = g.few;
  has = kept_has makes _ _ told _ _ _ _ g;
  from = kept_from makes _ _ told _ _ _ _ g;
}
  where
    told : (x : ℕ) (o : Option ℕ) → makes x o → Told (bit_and x s ≡ 0 → ⊥) x o
    told x o m = unless_zero _ _ _ (is x o m)

pub met_fits : (rows : List ℕ) (s size r : ℕ) (new : List ℕ) → RowsMet rows s size r new → length rows ≤ size → r ≤ length new
met_fits rows s size r new m le = omega (arith, m.few, m.size_is)

-- what covers these has a member in each row that s meets, and the other way
module _ (rows : List ℕ) (s size r : ℕ) (new : List ℕ) (m : RowsMet rows s size r new) (fits : r ≤ length new) (t : ℕ) where
  long : length (take r new) ≡ r
  long = length-take-le r new fits

  pub met_outmeets : Cover (take r new) t → Outmeets rows t s
  unfolding Cover Outmeets
  met_outmeets c k lt y z =
      let q = m.has k lt y in
      c q.0 (omega (arith, q.1, long)) (ap (λ (v : ℕ). bit_and v t) (get_or-take r new q.0 0 q.1 ∙ q.2) ∙ z)

  pub outmeets_met : Outmeets rows t s → Cover (take r new) t
  unfolding Cover Outmeets
  outmeets_met f j lt z =
      let l : j < r = omega (arith, long) in
      let q = m.from j l in
      f q.0 q.1 q.2 (ap (λ (v : ℕ). bit_and v t) (sym (get_or-take r new j 0 l ∙ q.3)) ∙ z)

-- ---- what t makes needless

-- acc is apart from t, and from each row among the first i that t does not meet
pub record Sparing (rows : List ℕ) (t acc i : ℕ) : Type 0 where
  pub apart : (c : ℕ) → digit c acc ≡ 1 → digit c t ≡ 1 → ⊥
  pub spared : (k : ℕ) → k < i → bit_and (get_or rows k 0) t ≡ 0 → (c : ℕ) → digit c acc ≡ 1 → digit c (get_or rows k 0) ≡ 1 → ⊥

pub sparing_none : (rows : List ℕ) (t all acc : ℕ) → Minus all t acc → Sparing rows t acc 0
unfolding Minus
sparing_none rows t all acc d = record {
  apart = λ c p q. omega (arith, d c, digit_lt c all);
  spared = λ k lt z c p. absurd (omega arith);
}

module _ (rows : List ℕ) (t acc i : ℕ) (g : Sparing rows t acc i) where
  pub sparing_skip : (acc' : ℕ) → acc' ≡ acc → (bit_and (get_or rows i 0) t ≡ 0 → ⊥) → Sparing rows t acc' (i + 1)
  sparing_skip acc' same y = subst (λ (a : ℕ). Sparing rows t a (i + 1)) (sym same) (record {
    apart = g.apart;
    spared = λ k lt z. ⊎_elim
        (λ (e : k ≡ i). absurd (y (ap (λ (v : ℕ). bit_and (get_or rows v 0) t) (sym e) ∙ z)))
        (λ (d : k ≡ i → ⊥). g.spared k (omega arith) z)
        (eq? k i);
  })

  pub sparing_take : (new acc' : ℕ) → acc' ≡ new → Minus acc (get_or rows i 0) new → Sparing rows t acc' (i + 1)
  unfolding Minus
  sparing_take new acc' same d = subst (λ (a : ℕ). Sparing rows t a (i + 1)) (sym same) (record {
    apart = λ c p q. g.apart c (omega (arith, d c, digit_lt c acc)) q;
    spared = λ k lt z c p q. ⊎_elim
        (λ (e : k ≡ i).
        let q' : digit c (get_or rows i 0) ≡ 1 = ap (λ (v : ℕ). digit c (get_or rows v 0)) (sym e) ∙ q in
        omega (arith, d c, digit_lt c acc))
        (λ (n : k ≡ i → ⊥). g.spared k (omega arith) z c (omega (arith, d c, digit_lt c acc)) q)
        (eq? k i);
  })

pub sparing_all : (rows : List ℕ) (t acc i : ℕ) → Sparing rows t acc i → i ≡ length rows → Needless rows t acc
unfolding Outmeets
sparing_all rows t acc i g e = record {
  apart = apart_by acc t g.apart;
  met = λ k lt y z. y (apart_by (get_or rows k 0) acc (λ c p q. g.spared k (omega arith) z c q p));
}
