-- Candidates that no listed set has: the irredundant covers without them are those of the rows without them.
use Rattle.std.proofs.Common.{◌≡◌, sym, ap, ◌∙◌, subst, ◌↔◌, ⊎_elim, List, ℕ, ◌+◌, ◌-◌, ◌^◌, ◌≤◌, ◌<◌, arith, length, get_or, set, take, get_or-set_same, get_or-set_other, get_or-take, length-take-le, bit_and, bit_or, true, true≢false, Option, Some, None}
use Rattle.model.specs.Pages.{Rising}
use Rattle.model.proofs.Products.{rising_same}
use Rattle.bits.specs.Bits.{digit, Minus}
use Rattle.bits.proofs.Digits.{eq?, digit_lt, digit_or, digit_of_zero, a_member, pow_here, pow_only}
use Rattle.bits.proofs.Members.{and_left, and_right, part_of}
use Rattle.bits.proofs.Parts.{by_members, apart_by, no_common}
use Rattle.rows.specs.Covers.{Cover, IrredundantCover}
use Rattle.rows.specs.Covers as covers
use Rattle.rows.proofs.Sets.{own_rows}
use Rattle.std.specs.Option.{is_some}
use Rattle.lister.specs.declared.cursor.PageFill.{PageFill}
use Rattle.lister.specs.Lister.{Paged}
use Rattle.ranges.specs.Listed.{minus, Listed, Ends, Cleared, Banned, row_possibles}
use Rattle.ranges.specs.Rivals.{Rival, ClearedIn}
use Rattle.ranges.proofs.Sums.{less_bits}
use Rattle.ranges.proofs.Outbidding.{exchange}
use Rattle.ranges.proofs.Bridge.{covering, row_possibles_lem, listed_within, possibles_rise}
use Rattle.ranges.proofs.Contesting.{minus_less}

module _ (rows : List ℕ) (banned : ℕ) (own : List ℕ) (o : Cleared rows banned own) where
  -- a member of an own row
  in_own : (k : ℕ) → k < length rows → (c : ℕ) → digit c (get_or own k 0) ≡ digit c (get_or rows k 0) - digit c banned
  unfolding Minus
  in_own k lt c = ap (digit c) (o.is k lt) ∙ less_bits (get_or rows k 0) banned c

  own_covers : (s : ℕ) → Cover own s → Cover rows s
  unfolding Cover
  own_covers s h k lt z =
      let x : ℕ = get_or own k 0 in
      let m : (c : ℕ) × (digit c (bit_and x s) ≡ 1) = a_member (bit_and x s) (h k (omega (arith, o.size))) in
      let c : ℕ = m.0 in
      no_common (get_or rows k 0) s c z (omega (arith, in_own k lt c, and_left c x s m.1, digit_lt c (get_or rows k 0))) (and_right c x s m.1)

  covers_own : (s : ℕ) → bit_and s banned ≡ 0 → Cover rows s → Cover own s
  unfolding Cover
  covers_own s free h k l z =
      let lt : k < length rows = omega (arith, o.size) in
      let x : ℕ = get_or rows k 0 in
      let m : (c : ℕ) × (digit c (bit_and x s) ≡ 1) = a_member (bit_and x s) (h k lt) in
      let c : ℕ = m.0 in
      let in_s : digit c s ≡ 1 = and_right c x s m.1 in
      let not : digit c banned ≡ 1 → ⊥ = no_common s banned c free in_s in
      no_common (get_or own k 0) s c z (omega (arith, in_own k lt c, and_left c x s m.1, digit_lt c banned)) in_s

  -- an irredundant cover of the own rows has no banned member: each has a row of its own
  own_free : (s : ℕ) → IrredundantCover own s → bit_and s banned ≡ 0
  unfolding covers.Own
  own_free s i = apart_by s banned (λ b m n.
      let r = own_rows own s i b m in
      let in_row : digit b (get_or own r.0 0) ≡ 1 = and_left b (get_or own r.0 0) s (ap (digit b) r.2 ∙ pow_here b) in
      omega (arith, in_own r.0 (omega (arith, r.1, o.size)) b, digit_lt b (get_or rows r.0 0)))

  free_part : (t s : ℕ) → bit_and t s ≡ t → bit_and s banned ≡ 0 → bit_and t banned ≡ 0
  free_part t s p f = apart_by t banned (λ c m n. no_common s banned c f (part_of t s p c m) n)

  -- L4
  pub own_irredundant : (s : ℕ) → IrredundantCover own s ↔ (IrredundantCover rows s × (bit_and s banned ≡ 0))
  unfolding IrredundantCover
  own_irredundant s = (
    λ i. let f = own_free s i in ((own_covers s i.0, λ t p c. i.1 t p (covers_own t (free_part t s p f) c)), f),
    λ i. (covers_own s i.1 i.0.0, λ t p c. i.0.1 t p (own_covers t c)),
  )

  module _ (low high : List ℕ) (ends : Ends (length low) low high) (none : Banned rows low high banned) where
    -- the own rows have the same listed sets: where one is favoured, a cover that costs no more than a given one is listed itself
    own_listed : (s : ℕ) → Listed (length low) own low high s ↔ Listed (length low) rows low high s
    unfolding Banned
    own_listed s = (to, back)
      where
        to : Listed (length low) own low high s → Listed (length low) rows low high s
        to h = record {
          among = h.among;
          tight = ((own_irredundant s).0 h.tight).0;
          least = λ t lt c.
              let w = listed_within (length low) rows low high ends s t lt c in
              omega (arith, w.2, h.least w.0 w.1.among (covers_own w.0 (none w.0 w.1) (covering rows w.0 w.1.tight)));
        }

        back : Listed (length low) rows low high s → Listed (length low) own low high s
        back h = record {
          among = h.among;
          tight = (own_irredundant s).1 (h.tight, none s h);
          least = λ t lt c. h.least t lt (own_covers t c);
        }

    -- and so the same list
    own_possibles : row_possibles (length low) own low high ≡ row_possibles (length low) rows low high
    own_possibles = rising_same 0 (row_possibles n own low high) (row_possibles n rows low high) (rises own) (rises rows)
        (λ s m. (row_possibles_lem n rows low high ends s).1 ((own_listed s).0 ((row_possibles_lem n own low high ends s).0 m)))
        (λ s m. (row_possibles_lem n own low high ends s).1 ((own_listed s).1 ((row_possibles_lem n rows low high ends s).0 m)))
      where
        n : ℕ
        n = length low

        rises : (any : List ℕ) → Rising 0 (row_possibles (length low) any low high)
        rises any = possibles_rise (length low) any low high ends

    pub own_page : (start : ℕ) (old new : List ℕ) (r : PageFill) → Paged (row_possibles (length low) own low high) start old new r
        → Paged (row_possibles (length low) rows low high) start old new r
    own_page start old new r p = subst (λ (l : List ℕ). Paged l start old new r) own_possibles p

-- ---- the rows without the banned candidates

-- the first i entries of out are rows without the banned candidates
pub record Clearing (rows : List ℕ) (banned : ℕ) (out : List ℕ) (i : ℕ) : Type 0 where
  pub is : (k : ℕ) → k < i → get_or out k 0 ≡ minus (get_or rows k 0) banned

pub clearing_more : (rows : List ℕ) (banned : ℕ) (out : List ℕ) (i x : ℕ) → Clearing rows banned out i → i < length out → Minus (get_or rows i 0) banned x
    → Clearing rows banned (set out i x) (i + 1)
clearing_more rows banned out i x g room d = record {
  is = λ k lt. ⊎_elim
      (λ (e : k ≡ i).
      ap (λ (v : ℕ). get_or (set out i x) v 0) e ∙ get_or-set_same out i x 0 room ∙ minus_less (get_or rows i 0) banned x d
      ∙ ap (λ (v : ℕ). minus (get_or rows v 0) banned) (sym e))
      (λ (n : k ≡ i → ⊥). get_or-set_other out i k x 0 n ∙ g.is k (omega arith))
      (eq? k i);
}

module _ {rows : List ℕ} {banned size : ℕ} {new : List ℕ} (o : ClearedIn rows banned size new) (le : length rows ≤ size) where
  long : length (take (length rows) new) ≡ length rows
  long = length-take-le (length rows) new (omega (arith, o.size_is))

  pub own_first : Cleared rows banned (take (length rows) new)
  own_first = record { size = long; is = λ k lt. get_or-take (length rows) new k 0 lt ∙ o.is k lt }

-- ---- the banned candidates

pub banned_none : (rows low high : List ℕ) → Banned rows low high 0
unfolding Banned
banned_none rows low high s h = apart_by s 0 (λ c m n. absurd (omega (arith, digit_of_zero c)))

pub banned_as : (rows low high : List ℕ) {a b : ℕ} → b ≡ a → Banned rows low high a → Banned rows low high b
banned_as rows low high e h = subst (Banned rows low high) (sym e) h

banned_power : (rows low high : List ℕ) (banned i t : ℕ) → Banned rows low high banned → Rival rows low high (2 ^ i) (Some t)
    → Banned rows low high (bit_or banned (2 ^ i))
unfolding Banned Rival
banned_power rows low high banned i t b r s h = apart_by s (bit_or banned (2 ^ i)) (λ c m n.
    let not : digit c banned ≡ 1 → ⊥ = no_common s banned c (b s h) m in
    let is : c ≡ i = pow_only c i (omega (arith, digit_or c banned (2 ^ i), digit_lt c banned, digit_lt c (2 ^ i))) in
    omega (
      arith,
      r.2,
      exchange (length low) rows low high s h (2 ^ i) t r.0
          (by_members (2 ^ i) s (λ d k. subst (λ (j : ℕ). digit j s ≡ 1) (is ∙ sym (pow_only d i k)) m)) r.1,
    ))

-- a candidate with a rival of its own is in no listed set
pub banned_one : (rows low high : List ℕ) (banned i m : ℕ) → m ≡ 2 ^ i → Banned rows low high banned
    → (f : Option ℕ) → Rival rows low high m f → is_some f ≡ true → Banned rows low high (bit_or banned m)
banned_one rows low high banned i m is b None r some = absurd (true≢false (sym some))
banned_one rows low high banned i m is b (Some t) r some =
    subst (λ (v : ℕ). Banned rows low high (bit_or banned v)) (sym is)
    (banned_power rows low high banned i t b (subst (λ (v : ℕ). Rival rows low high v (Some t)) is r))
