-- The sets that V lists by the rows are crate model's, and what is known of one set from another.
use Rattle.std.proofs.Common.{◌≡◌, refl, sym, ap, ◌∙◌, subst, ◌↔◌, ◌⊎◌, inl, inr, ⊎_elim, not, cond, List, [], ◌∷◌, ℕ, zero, suc, ◌+◌, ◌*◌, ◌/◌, ◌^◌, ◌≤◌, ◌<◌, zero-mul, arith, T, length, get_or, replicate, bit_and}
use mathlib.Core.List.{Memᴰ}
use lib.ListN.{length-replicate}
use lib.Bits.{and_self, and_comm}
use Rattle.model.specs.Base.{bit}
use Rattle.model.specs.Sets.{of_rows}
use Rattle.model.specs.Pages.{Rising}
use Rattle.model.specs.Ranges.{Ranged, Choice, cost_at, Possible, favouring}
use Rattle.model.proofs.Lists.{yes_or_no, T_true, T_false}
use Rattle.model.proofs.Bits.{bit0_e, bit0_n}
use Rattle.model.proofs.Matrix.{from_length}
use Rattle.model.proofs.Ranges.{choice_favouring, possible_covers, possible_by, possible_within, favoured_possible, possible_listed, possibles_rising}
use Rattle.bits.specs.Bits.{digit, Minus}
use Rattle.bits.proofs.Digits.{eq?, digit_lt, digit_first, digit_next, digit_and, digit_ext, digit_of_zero}
use Rattle.rows.specs.Covers.{Cover, IrredundantCover}
use Rattle.rows.proofs.Bridge.{cover_from, irredundant_to, irredundant_from}
use Rattle.cheapest_bounds.specs.Costs.{cost_of}
use Rattle.cheapest_bounds.proofs.Costing.{cost_none}
use Rattle.cheapest.proofs.Optimality.{sum_cost}
use Rattle.ranges.specs.Listed.{minus, against, Listed, Ends, ranges, row_possibles}
use Rattle.ranges.proofs.Sums.{cost_mixed, cost_over, less_bits, cost_split}

cost_at_is : (ws : List ℕ) (s : ℕ) → cost_at ws s ≡ cost_of ws s
unfolding cost_at
cost_at_is ws s = sum_cost ws s

-- ---- where s is favoured

-- weights that are low for the members of s and high for the others, one by one
pub mixed_against : (n : ℕ) (ws low high : List ℕ) (s : ℕ) → length ws ≤ n → length low ≤ n → length high ≤ n
    → ((i : ℕ) → digit i s ≡ 1 → get_or ws i 0 ≡ get_or low i 0) → ((i : ℕ) → digit i s ≡ 0 → get_or ws i 0 ≡ get_or high i 0)
    → (t : ℕ) → cost_of ws t ≡ against low high s t
unfolding against Minus
mixed_against n ws low high s lw ll lh f g t = cost_mixed n ws low high t (bit_and t s) (minus t s) lw ll lh each
  where
    times : (i x : ℕ) → (digit i x ≡ 1) ⊎ (digit i x ≡ 0)
    times i x = ⊎_elim (λ (e : digit i x ≡ 1). inl e) (λ (e : digit i x ≡ 1 → ⊥). inr (omega (arith, digit_lt i x))) (eq? (digit i x) 1)

    each : (i : ℕ) → digit i t * get_or ws i 0 ≡ digit i (bit_and t s) * get_or low i 0 + digit i (minus t s) * get_or high i 0
    each i = go (times i s)
      where
        go : (digit i s ≡ 1) ⊎ (digit i s ≡ 0) → digit i t * get_or ws i 0 ≡ digit i (bit_and t s) * get_or low i 0 + digit i (minus t s) * get_or high i 0
        go (inl e) =
            let a : digit i (bit_and t s) ≡ digit i t = omega (arith, digit_and i t s, digit_lt i t) in
            let b : digit i (minus t s) ≡ 0 = omega (arith, less_bits t s i, digit_lt i t) in
            rw (a, b, f i e) (omega (arith, zero-mul (get_or high i 0)))
        go (inr e) =
            let a : digit i (bit_and t s) ≡ 0 = omega (arith, digit_and i t s) in
            let b : digit i (minus t s) ≡ digit i t = omega (arith, less_bits t s i) in
            rw (a, b, g i e) (omega (arith, zero-mul (get_or low i 0)))

favouring_length : (low high : List ℕ) (s : ℕ) → length (favouring (ranges low high) s) ≤ length low
favouring_length [] high s = omega arith
favouring_length (l ∷ low) [] s = omega arith
favouring_length (l ∷ low) (h ∷ high) s = omega (arith, favouring_length low high (s / 2))

favouring_low : (low high : List ℕ) (s i : ℕ) → length low ≡ length high → digit i s ≡ 1 → get_or (favouring (ranges low high) s) i 0 ≡ get_or low i 0
favouring_low [] high s i e d = refl
favouring_low (l ∷ low) [] s i e d = absurd (omega arith)
favouring_low (l ∷ low) (h ∷ high) s zero e d = go (yes_or_no (bit 0 s))
  where
    go : T (bit 0 s) ⊎ T (not (bit 0 s)) → cond (bit 0 s) l h ≡ l
    go (inl t) = rw (T_true {b = bit 0 s} t)
    go (inr t) = absurd (omega (arith, bit0_n s t, digit_first s))
favouring_low (l ∷ low) (h ∷ high) s (suc i) e d = favouring_low low high (s / 2) i (omega arith) (sym (digit_next i s) ∙ d)

favouring_high : (low high : List ℕ) (s i : ℕ) → length low ≡ length high → digit i s ≡ 0 → get_or (favouring (ranges low high) s) i 0 ≡ get_or high i 0
favouring_high [] [] s i e d = refl
favouring_high [] (h ∷ high) s i e d = absurd (omega arith)
favouring_high (l ∷ low) [] s i e d = absurd (omega arith)
favouring_high (l ∷ low) (h ∷ high) s zero e d = go (yes_or_no (bit 0 s))
  where
    go : T (bit 0 s) ⊎ T (not (bit 0 s)) → cond (bit 0 s) l h ≡ h
    go (inl t) = absurd (omega (arith, bit0_e s t, digit_first s))
    go (inr t) = rw (T_false {b = bit 0 s} t)
favouring_high (l ∷ low) (h ∷ high) s (suc i) e d = favouring_high low high (s / 2) i (omega arith) (sym (digit_next i s) ∙ d)

pub against_self : (low high : List ℕ) (s : ℕ) → against low high s s ≡ cost_of low s
unfolding against Minus
against_self low high s =
    let none : minus s s ≡ 0 = digit_ext (minus s s) 0 (λ c. omega (arith, less_bits s s c, digit_of_zero c)) in
    omega (arith, ap (cost_of low) (and_self s), ap (cost_of high) none, cost_none high)

-- ---- choices

choice_at : (low high ws : List ℕ) → length low ≡ length high → Choice (ranges low high) ws
    → (length ws ≡ length low) × ((i : ℕ) → (get_or low i 0 ≤ get_or ws i 0) × (get_or ws i 0 ≤ get_or high i 0))
choice_at [] [] [] e c = (refl, λ i. omega arith)
choice_at [] [] (w ∷ ws) e c = absurd c
choice_at [] (h ∷ high) ws e c = absurd (omega arith)
choice_at (l ∷ low) [] ws e c = absurd (omega arith)
choice_at (l ∷ low) (h ∷ high) [] e c = absurd c
choice_at (l ∷ low) (h ∷ high) (w ∷ ws) e c =
    let later : (length ws ≡ length low) × ((i : ℕ) → (get_or low i 0 ≤ get_or ws i 0) × (get_or ws i 0 ≤ get_or high i 0)) = choice_at low high ws (omega arith) c.2 in
    (ap suc later.0, each later.1)
  where
    each : ((i : ℕ) → (get_or low i 0 ≤ get_or ws i 0) × (get_or ws i 0 ≤ get_or high i 0)) → (i : ℕ) → (get_or (l ∷ low) i 0 ≤ get_or (w ∷ ws) i 0) × (get_or (w ∷ ws) i 0 ≤ get_or (h ∷ high) i 0)
    each later zero = (c.0, c.1)
    each later (suc i) = later i

ranged : (low high : List ℕ) → ((i : ℕ) → get_or low i 0 ≤ get_or high i 0) → Ranged (ranges low high)
ranged [] high f = tt
ranged (l ∷ low) [] f = tt
ranged (l ∷ low) (h ∷ high) f = (f 0, ranged low high (λ i. f (suc i)))

-- ---- by the rows

pub covering : (rows : List ℕ) (t : ℕ) → IrredundantCover rows t → Cover rows t
unfolding IrredundantCover
covering rows t i = i.0

module _ (n : ℕ) (rows low high : List ℕ) (ends : Ends n low high) where
  even : length low ≡ length high
  even = ends.lows ∙ sym ends.highs

  favouring_is : (s t : ℕ) → cost_at (favouring (ranges low high) s) t ≡ against low high s t
  favouring_is s t =
      cost_at_is (favouring (ranges low high) s) t
      ∙ mixed_against n (favouring (ranges low high) s) low high s (omega (arith, favouring_length low high s, ends.lows)) (omega (arith, ends.lows)) (omega (arith, ends.highs))
      (λ i d. favouring_low low high s i even d) (λ i d. favouring_high low high s i even d) t

  module _ (costs : List ℕ) (size : length costs ≡ n) where
    many : length (of_rows costs rows).cands ≡ n
    many = from_length 0 (length costs) ∙ size

    -- L1: the sets by the definition, over all choices, are those by the sums
    pub listed_is : (s : ℕ) → Possible (of_rows costs rows) (ranges low high) s ↔ Listed n rows low high s
    listed_is s = (to, back)
      where
        small : (t : ℕ) → t < 2 ^ n → t < 2 ^ length costs
        small t l = subst (λ (k : ℕ). t < 2 ^ k) (sym size) l

        to : Possible (of_rows costs rows) (ranges low high) s → Listed n rows low high s
        to p =
            let i : (s < 2 ^ length costs) × IrredundantCover rows s = irredundant_to costs rows s p.tight in
            record {
              among = subst (λ (k : ℕ). s < 2 ^ k) size i.0;
              tight = i.1;
              least = λ t l c. omega (
                arith,
                favouring_is s s,
                favouring_is s t,
                against_self low high s,
                possible_covers (of_rows costs rows) (ranges low high) s p t (subst (λ (k : ℕ). t < 2 ^ k) (sym many) l) (cover_from costs rows t (small t l) c),
              );
            }

        back : Listed n rows low high s → Possible (of_rows costs rows) (ranges low high) s
        back h = favoured_possible (of_rows costs rows) (ranges low high) (ranged low high ends.ordered) s
            (irredundant_from costs rows s (small s h.among) h.tight)
            (λ t i.
            let j : (t < 2 ^ length costs) × IrredundantCover rows t = irredundant_to costs rows t i in
            omega (arith, favouring_is s s, favouring_is s t, against_self low high s, h.least t (subst (λ (k : ℕ). t < 2 ^ k) size j.0) (covering rows t j.1)))

  pub row_possibles_lem : (s : ℕ) → Memᴰ s (row_possibles n rows low high) ↔ Listed n rows low high s
  unfolding row_possibles
  row_possibles_lem s =
      let p = possible_listed (of_rows (replicate n 0) rows) (ranges low high) (ranged low high ends.ordered) s in
      let q = listed_is (replicate n 0) (length-replicate n 0) s in
      (λ m. q.0 (p.0 m), λ h. p.1 (q.1 h))

  pub possibles_rise : Rising 0 (row_possibles n rows low high)
  unfolding row_possibles
  possibles_rise = possibles_rising (of_rows (replicate n 0) rows) (ranges low high)

  -- where any set is favoured, some listed set costs no more than a given cover
  pub listed_within : (s t : ℕ) → t < 2 ^ n → Cover rows t → (u : ℕ) × Listed n rows low high u × (against low high s u ≤ against low high s t)
  listed_within s t l c =
      let zeros : List ℕ = replicate n 0 in
      let long : length zeros ≡ n = length-replicate n 0 in
      let ws : List ℕ = favouring (ranges low high) s in
      let w = possible_within (of_rows zeros rows) (ranges low high) ws (choice_favouring (ranges low high) s (ranged low high ends.ordered)) t
      (subst (λ (k : ℕ). t < 2 ^ k) (sym (many zeros long)) l) (cover_from zeros rows t (subst (λ (k : ℕ). t < 2 ^ k) (sym long) l) c) in
      (w.0, (listed_is zeros long w.0).0 w.1, omega (arith, w.2, favouring_is s t, favouring_is s w.0))

  -- L5: what a listed set has and s has not costs at least what s has and that has not, whatever the weights: s is listed too
  pub transfer : (s t : ℕ) → Listed n rows low high t → s < 2 ^ n → IrredundantCover rows s → cost_of high (minus s t) ≤ cost_of low (minus t s) → Listed n rows low high s
  transfer s t h l i le =
      let q = listed_is (replicate n 0) (length-replicate n 0) in
      (q s).0 (possible_by (of_rows (replicate n 0) rows) (ranges low high) s t ((q t).1 h)
      (irredundant_from (replicate n 0) rows s (subst (λ (k : ℕ). s < 2 ^ k) (sym (length-replicate n 0)) l) i) cheaper)
    where
      cheaper : (ws : List ℕ) → Choice (ranges low high) ws → cost_at ws s ≤ cost_at ws t
      cheaper ws c =
          let a = choice_at low high ws even c in
          let lw : length ws ≤ n = omega (arith, a.0, ends.lows) in
          let ll : length low ≤ n = omega (arith, ends.lows) in
          let lh : length high ≤ n = omega (arith, ends.highs) in
          omega (
            arith,
            cost_at_is ws s,
            cost_at_is ws t,
            cost_split ws s t,
            cost_split ws t s,
            ap (cost_of ws) (and_comm s t),
            cost_over n ws high (minus s t) lw lh (λ j. (a.1 j).1),
            cost_over n low ws (minus t s) ll lw (λ j. (a.1 j).0),
          )
