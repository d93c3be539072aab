-- The cost of one candidate, the floor of a set, and the bound by disjoint unmet rows.
use Rattle.std.proofs.Common.{◌≡◌, ℕ, ◌+◌, ◌^◌, ◌≤◌, ◌<◌, List, Some, length, get_or, bit_and, bit_or, refl, sym, ap, ap₂, ◌∙◌, subst, arith, ⊎_elim}
use lib.ListN.{get_or-eq_default}
use Rattle.bits.specs.Bits.{digit, Part, Minus, Member, Index}
use Rattle.rows.specs.Covers.{Cover, Between}
use Rattle.cheapest_bounds.specs.Costs.{cost_of, no_cost, Price, Floor, CoverBetween, Fresh, Bound}
use Rattle.bits.proofs.Digits.{eq?, digit_lt, digit_or, a_member}
use Rattle.bits.proofs.Members.{not_zero, and_left, and_right, and_both}
use Rattle.bits.proofs.Parts.{by_members, part_self, the_member, part_and_left, apart_by, no_common, and_or}
use Rattle.bits.proofs.Steps.{Visited, visited_none, visited_more, visited_all}
use Rattle.cheapest_bounds.proofs.Costing.{cost_join, cost_part, cost_one, cost_small, cost_floor}
use Rattle.rows.proofs.Sets.{meets}

-- ---- one candidate

module _ (costs : List ℕ) (m i : ℕ) (h : Index m i) where
  price_is : get_or costs i 0 ≡ cost_of costs m
  price_is = sym (cost_one costs i) ∙ ap (cost_of costs) (sym h.is)

  pub priced : (r : ℕ) → r ≡ get_or costs i 0 → r < 65536 → Price costs m r
  priced r e lt = record { is = e ∙ price_is; small = lt }

  pub priced_past : length costs ≤ i → Price costs m 0
  priced_past le = record { is = sym (get_or-eq_default costs 0 le) ∙ price_is; small = omega arith }

-- ---- the floor

-- no member of x that is not in rest costs less than low
unfoldable pub Floored : List ℕ → ℕ → ℕ → ℕ → Type 0
Floored costs x rest low = (low < 65536) × Visited (λ b. low ≤ cost_of costs (2 ^ b)) x rest

pub floored_none : (costs : List ℕ) (x : ℕ) → Floored costs x x 65535
unfolding Floored
floored_none costs x = (omega arith, visited_none _ x)

pub floored_more : (costs : List ℕ) (x rest low m p rest' low' : ℕ) → Floored costs x rest low → Member rest m → Price costs m p → Minus rest m rest'
    → low' ≤ low → low' ≤ p → Floored costs x rest' low'
unfolding Floored Visited
floored_more costs x rest low m p rest' low' f one q d le le' =
    let k : (c : ℕ) × (m ≡ 2 ^ c) × (digit c rest ≡ 1) = the_member rest m one in (
      omega (arith, f.0),
      visited_more (λ b. low' ≤ cost_of costs (2 ^ b)) x rest m k.0 rest' (λ b h n. omega (arith, f.1 b h n)) k.1 d (omega (arith, q.is, ap (cost_of costs) k.1)),
    )

pub floored_all : (costs : List ℕ) (x rest low : ℕ) → rest ≡ 0 → Floored costs x rest low → Floor costs x low
unfolding Floored
floored_all costs x rest low z f = record { under = visited_all _ x rest f.1 z; small = f.0 }

-- ---- disjoint unmet rows

-- each cover between s and s | free has members in used that cost sum or more
pub record Packed (rows costs : List ℕ) (s free used sum : ℕ) : Type 0 where
  pub apart : bit_and s used ≡ 0
  pub little : sum ≤ cost_of costs used
  pub under : (t : ℕ) → CoverBetween rows s free t → sum ≤ cost_of costs (bit_and t used)

pub packed_none : (rows costs : List ℕ) (s free : ℕ) → Packed rows costs s free 0 0
packed_none rows costs s free = record {
  apart = apart_by s 0 (λ c p q. not_zero c 0 q refl);
  little = omega arith;
  under = λ t w. omega arith;
}

pub packed_more : (rows costs : List ℕ) (s free used sum k x w : ℕ) → Packed rows costs s free used sum → k < length rows
    → (bit_and (get_or rows k 0) (bit_or s free) ≡ 0 → ⊥) → Fresh (get_or rows k 0) s free used (Some x) → Floor costs x w → Packed rows costs s free (bit_or used x) (sum + w)
unfolding CoverBetween
packed_more rows costs s free used sum k x w h lt n fr f = record {
  apart = apart_by s (bit_or used x)
      (λ c p q. ⊎_elim
      (λ (e : digit c used ≡ 1). no_common s used c h.apart p e)
      (λ (e : digit c used ≡ 1 → ⊥). no_common row s c fr.0 (and_left c row free (in_row c (omega (arith, digit_or c used x, digit_lt c used, digit_lt c x)))) p)
      (eq? (digit c used) 1));
  little = omega (arith, h.little, cost_join costs used x fr.2, cost_floor costs x w x f (part_self x) some_member);
  under = λ t r.
      let b : (c : ℕ) × (digit c (bit_and row free) ≡ 1) × (digit c t ≡ 1) = meets rows s free k lt fr.0 t r.0 r.1 in
      let some : bit_and t x ≡ 0 → ⊥ = not_zero b.0 (bit_and t x) (and_both b.0 t x b.2 (ap (digit b.0) fr.1 ∙ b.1)) in
      let apart : bit_and (bit_and t used) (bit_and t x) ≡ 0
      = apart_by (bit_and t used) (bit_and t x) (λ c p q. no_common used x c fr.2 (and_right c t used p) (and_right c t x q)) in
      omega (
        arith,
        h.under t r,
        cost_floor costs x w (bit_and t x) f (part_and_left t x) some,
        cost_join costs (bit_and t used) (bit_and t x) apart,
        ap (cost_of costs) (and_or t used x),
      );
}
  where
    row : ℕ
    row = get_or rows k 0

    in_row : (c : ℕ) → digit c x ≡ 1 → digit c (bit_and row free) ≡ 1
    in_row c q = sym (ap (digit c) fr.1) ∙ q

    some_member : x ≡ 0 → ⊥
    some_member z = n (and_or row s free ∙ ap₂ bit_or fr.0 (sym fr.1 ∙ z))

pub packed_as : (rows costs : List ℕ) (s free : ℕ) {used used' sum sum' : ℕ} → used' ≡ used → sum' ≡ sum → Packed rows costs s free used sum → Packed rows costs s free used' sum'
packed_as rows costs s free {used} {used'} {sum} {sum'} e f h =
    subst (λ (u : ℕ). Packed rows costs s free u sum') (sym e) (subst (λ (v : ℕ). Packed rows costs s free used v) (sym f) h)

-- the sum, and one cost more, stay small
pub packed_small : (rows costs : List ℕ) (s free used sum : ℕ) → length costs ≤ 64 → ((k : ℕ) → get_or costs k 0 < 65536) → Packed rows costs s free used sum → sum < no_cost
packed_small rows costs s free used sum l lt h = omega (arith, h.little, cost_small costs used lt)

pub packed_all : (rows costs : List ℕ) (s free used sum : ℕ) → length costs ≤ 64 → ((k : ℕ) → get_or costs k 0 < 65536)
    → Packed rows costs s free used sum → Bound rows costs s free sum
unfolding CoverBetween Between
packed_all rows costs s free used sum l lt h = record {
  under = λ t r.
      let apart : bit_and s (bit_and t used) ≡ 0 = apart_by s (bit_and t used) (λ c p q. no_common s used c h.apart p (and_right c t used q)) in
      let part : Part (bit_or s (bit_and t used)) t = by_members (bit_or s (bit_and t used)) t (λ c q. ⊎_elim
      (λ (e : digit c s ≡ 1). r.1.0 c e)
      (λ (e : digit c s ≡ 1 → ⊥). and_left c t used (omega (arith, digit_or c s (bit_and t used), digit_lt c s, digit_lt c (bit_and t used))))
      (eq? (digit c s) 1)) in
      omega (arith, h.under t r, cost_join costs s (bit_and t used) apart, cost_part costs (bit_or s (bit_and t used)) t part);
  small = omega (arith, packed_small rows costs s free used sum l lt h);
}

-- a row with no member in s or free: no cover lies there
pub bound_lost : (rows costs : List ℕ) (s free k : ℕ) → k < length rows → bit_and (get_or rows k 0) (bit_or s free) ≡ 0 → Bound rows costs s free no_cost
unfolding CoverBetween Between Cover
bound_lost rows costs s free k lt z = record {
  under = λ t r.
      let x : ℕ = get_or rows k 0 in
      let m : (c : ℕ) × (digit c (bit_and x t) ≡ 1) = a_member (bit_and x t) (r.0 k lt) in
      absurd (no_common x (bit_or s free) m.0 z (and_left m.0 x t m.1) (r.1.1 m.0 (and_right m.0 x t m.1)));
  small = omega arith;
}
