-- The rival law, and what follows from it: what a listed set costs at most against any set, and sets with too dear a part.
use Rattle.std.proofs.Common.{◌≡◌, ap, ⊎_elim, List, ℕ, ◌+◌, ◌-◌, ◌^◌, ◌≤◌, ◌<◌, arith, get_or, bit_and, bit_or}
use lib.Bits.{and_comm, or_lt}
use Rattle.bits.specs.Bits.{digit, Part, Minus}
use Rattle.bits.proofs.Digits.{eq?, digit_lt, digit_and, digit_or, digit_ext, digit_of_zero, a_member}
use Rattle.bits.proofs.Members.{and_left, and_right, and_both, not_zero}
use Rattle.bits.proofs.Parts.{members, by_members, part_le, minus_part, apart_by, no_common}
use Rattle.rows.specs.Covers.{Cover, IrredundantCover}
use Rattle.cheapest_bounds.specs.Costs.{cost_of}
use Rattle.cheapest_bounds.proofs.Costing.{cost_part}
use Rattle.ranges.specs.Listed.{minus, against, Listed, Outmeets, Needless}
use Rattle.ranges.proofs.Sums.{less_bits, cost_split}

apart_less : (a b : ℕ) → bit_and (minus a b) b ≡ 0
unfolding Minus
apart_less a b = apart_by (minus a b) b (λ c p q. omega (arith, less_bits a b c, digit_lt c a))

outmeets_part : (rows : List ℕ) (t i r : ℕ) → Part r i → Outmeets rows t i → Outmeets rows t r
unfolding Outmeets
outmeets_part rows t i r p f k lt m =
    let e : (c : ℕ) × (digit c (bit_and (get_or rows k 0) r) ≡ 1) = a_member (bit_and (get_or rows k 0) r) m in
    f k lt (not_zero e.0 (bit_and (get_or rows k 0) i)
    (and_both e.0 (get_or rows k 0) i (and_left e.0 (get_or rows k 0) r e.1) (members r i p e.0 (and_right e.0 (get_or rows k 0) r e.1))))

module _ (n : ℕ) (rows low high : List ℕ) (s : ℕ) (h : Listed n rows low high s) where
  -- in place of the members of r, those of t
  module _ (t r : ℕ) (small : t < 2 ^ n) (needless : Needless rows t r) where
    instead : ℕ
    instead = bit_or (minus s r) t

    instead_bits : (c : ℕ) → (digit c s - digit c r ≤ digit c instead) × (digit c t ≤ digit c instead) × (digit c instead ≤ digit c s - digit c r + digit c t)
    unfolding instead Minus
    instead_bits c = omega (arith, digit_or c (minus s r) t, less_bits s r c, digit_lt c s, digit_lt c r, digit_lt c t)

    covers_instead : Cover rows instead
    unfolding Cover Outmeets IrredundantCover
    covers_instead k lt z =
        let x : ℕ = get_or rows k 0 in
        ⊎_elim
        (λ (e : bit_and x r ≡ 0).
        let m : (c : ℕ) × (digit c (bit_and x s) ≡ 1) = a_member (bit_and x s) (h.tight.0 k lt) in
        let c : ℕ = m.0 in
        let in_x : digit c x ≡ 1 = and_left c x s m.1 in
        let in_s : digit c s ≡ 1 = and_right c x s m.1 in
        let not_r : digit c r ≡ 1 → ⊥ = no_common x r c e in_x in
        no_common x instead c z in_x (omega (arith, (instead_bits c).0, digit_lt c r, digit_lt c instead)))
        (λ (e : bit_and x r ≡ 0 → ⊥).
        let m : (c : ℕ) × (digit c (bit_and x t) ≡ 1) = a_member (bit_and x t) (needless.met k lt e) in
        let c : ℕ = m.0 in
        no_common x instead c z (and_left c x t m.1) (omega (arith, (instead_bits c).1, and_right c x t m.1, digit_lt c instead)))
        (eq? (bit_and x r) 0)

    -- L2: a listed set costs no more than all of t does, where t is at its high ends, what it makes needless at its low ones, and all else is free
    pub rival_law : cost_of low (bit_and s r) + cost_of high (bit_and s t) ≤ cost_of high t
    unfolding against Minus instead
    rival_law =
        let one : (c : ℕ) → digit c r + digit c t ≤ 1 = λ c. omega (arith, digit_and c r t, ap (digit c) needless.apart, digit_of_zero c, digit_lt c r, digit_lt c t) in
        let kept : bit_and instead s ≡ minus s r = digit_ext (bit_and instead s) (minus s r) (λ c.
        omega (arith, digit_and c instead s, less_bits s r c, (instead_bits c).0, (instead_bits c).2, one c, digit_lt c s, digit_lt c instead)) in
        let new : minus instead s ≡ minus t s = digit_ext (minus instead s) (minus t s) (λ c.
        omega (arith, less_bits instead s c, less_bits t s c, (instead_bits c).1, (instead_bits c).2, digit_lt c s, digit_lt c t, digit_lt c instead)) in
        let fits : instead < 2 ^ n = or_lt n (minus s r) t (omega (arith, part_le (minus s r) s (minus_part s r (minus s r) (less_bits s r)), h.among)) small in
        omega (arith, h.least instead fits covers_instead, ap (cost_of low) kept, ap (cost_of high) new, cost_split low s r, cost_split high t s, ap (cost_of high) (and_comm s t))

  -- the same of two sets (L1): what s has and a cover has not costs no more than what that has and s has not
  pub no_dearer_lem : (t : ℕ) → t < 2 ^ n → Cover rows t → cost_of low (minus s t) ≤ cost_of high (minus t s)
  unfolding against
  no_dearer_lem t lt c = omega (arith, h.least t lt c, cost_split low s t, ap (cost_of low) (and_comm s t))

  -- E: a part i of s, where t meets all the rows that it meets: i costs no more than t where i is favoured
  pub exchange : (i t : ℕ) → t < 2 ^ n → Part i s → Outmeets rows t i → cost_of low i ≤ against low high i t
  unfolding against
  exchange i t lt part out =
      let r : ℕ = minus i t in
      let inside : Part r i = minus_part i t r (less_bits i t) in
      let free : Needless rows t r = record { apart = apart_less i t; met = outmeets_part rows t i r inside out } in
      let same : bit_and s r ≡ r = digit_ext (bit_and s r) r (λ c. ⊎_elim
      (λ (e : digit c r ≡ 1). omega (arith, digit_and c s r, members i s part c (members r i inside c e)))
      (λ (e : digit c r ≡ 1 → ⊥). omega (arith, digit_and c s r, digit_lt c r))
      (eq? (digit c r) 1)) in
      let both : Part (bit_and i t) (bit_and s t) = by_members (bit_and i t) (bit_and s t) (λ c m. and_both c s t (members i s part c (and_left c i t m)) (and_right c i t m)) in
      omega (
        arith,
        rival_law t r lt free,
        ap (cost_of low) same,
        cost_part high (bit_and i t) (bit_and s t) both,
        cost_split low i t,
        cost_split high t i,
        ap (cost_of low) (and_comm i t),
        ap (cost_of high) (and_comm i t),
      )
