-- The least cost with a candidate and without it.
use Rattle.std.proofs.Common.{◌≡◌, sym, ap, ◌∙◌, subst, inl, inr, ⊎_elim, List, ℕ, ◌+◌, ◌≤◌, ◌<◌, arith, get_or, bit_and, bit_or}
use Rattle.cheapest_bounds.specs.declared.costs.Incumbent.{Incumbent}
use Rattle.bits.specs.Bits.{digit, Single, Part, Minus, Member}
use Rattle.rows.specs.Covers.{Between}
use Rattle.cheapest_bounds.specs.Costs.{no_cost, Price, CoverBetween}
use Rattle.cheapest.specs.Optimum.{Priced, Attained, Valued}
use Rattle.bits.proofs.Digits.{eq?, digit_lt, digit_or, pow_only}
use Rattle.bits.proofs.Members.{and_right}
use Rattle.bits.proofs.Parts.{members, by_members}
use Rattle.cheapest_bounds.proofs.Costing.{cost_join, cost_fits}

module _ (rows : List ℕ) (s free m rest : ℕ) (one : Member free m) (d : Minus free m rest) (t : ℕ) where
  -- a cover there has m or not
  pub reached_with : bit_and m t ≡ m → CoverBetween rows s free t → CoverBetween rows (bit_or s m) rest t
  unfolding CoverBetween Between Minus
  reached_with p r = (
    r.0,
    (
      λ b q. ⊎_elim (λ (e : digit b s ≡ 1). r.1.0 b e)
          (λ (e : digit b s ≡ 1 → ⊥). and_right b m t (ap (digit b) p ∙ omega (arith, digit_or b s m, digit_lt b s, digit_lt b m))) (eq? (digit b s) 1),
      λ b q. omega (arith, r.1.1 b q, d b, digit_or b s free, digit_or b s m, digit_or b (bit_or s m) rest, digit_lt b s, digit_lt b m, digit_lt b free, digit_lt b rest),
    ),
  )

  pub reached_without : (bit_and m t ≡ m → ⊥) → CoverBetween rows s free t → CoverBetween rows s rest t
  unfolding CoverBetween Between Minus Single Part
  reached_without n r = (
    r.0,
    (
      r.1.0,
      λ b q. ⊎_elim
          (λ (e : digit b m ≡ 1). absurd (n (by_bits b e q)))
          (λ (e : digit b m ≡ 1 → ⊥). omega (arith, r.1.1 b q, d b, digit_or b s free, digit_or b s rest, digit_lt b s, digit_lt b m, digit_lt b free, digit_lt b rest))
          (eq? (digit b m) 1),
    ),
  )
    where
      -- where t has the member b of m, it has all of m
      by_bits : (b : ℕ) → digit b m ≡ 1 → digit b t ≡ 1 → bit_and m t ≡ m
      by_bits b e q =
          let is : (c : ℕ) → digit c m ≡ 1 → c ≡ one.single.0 = λ c h. pow_only c one.single.0 (sym (ap (digit c) one.single.1) ∙ h) in
          by_members m t (λ c h. subst (λ (j : ℕ). digit j t ≡ 1) (is b e ∙ sym (is c h)) q)

  -- and what is found with it or without it lies there
  pub from_with : CoverBetween rows (bit_or s m) rest t → CoverBetween rows s free t
  unfolding CoverBetween Between Minus
  from_with r = (
    r.0,
    (
      λ b q. r.1.0 b (omega (arith, digit_or b s m, digit_lt b m)),
      λ b q. ⊎_elim
          (λ (e : digit b m ≡ 1). omega (arith, members m free one.part b e, digit_or b s free, digit_lt b s))
          (λ (e : digit b m ≡ 1 → ⊥). omega (arith, r.1.1 b q, d b, digit_or b s free, digit_or b s m, digit_or b (bit_or s m) rest, digit_lt b s, digit_lt b m, digit_lt b free))
          (eq? (digit b m) 1),
    ),
  )

  pub from_without : CoverBetween rows s rest t → CoverBetween rows s free t
  unfolding CoverBetween Between Minus
  from_without r = (
    r.0,
    (r.1.0, λ b q. omega (arith, r.1.1 b q, d b, digit_or b s free, digit_or b s rest, digit_lt b s, digit_lt b m, digit_lt b free)),
  )

pub valued_both : (rows costs : List ℕ) (s free m rest : ℕ) (best with r : Incumbent) → Member free m → Minus free m rest
    → Valued rows costs (bit_or s m) rest best with → Valued rows costs s rest with r → Valued rows costs s free best r
valued_both rows costs s free m rest best with r one d u v = record {
  within = omega (arith, u.within, v.within);
  found = ⊎_elim
      (λ (e : r ≡ with). ⊎_elim
      (λ (f : with ≡ best). inl (e ∙ f))
      (λ (f : Attained rows costs (bit_or s m) rest with × (with.cost < best.cost)).
      inr (subst (λ (x : Incumbent). Attained rows costs s free x × (x.cost < best.cost)) (sym e)
      (record { cover = from_with rows s free m rest one d with.set f.0.cover; cost_is = f.0.cost_is }, f.1)))
      u.found)
      (λ (f : Attained rows costs s rest r × (r.cost < with.cost)).
      inr (record { cover = from_without rows s free m rest one d r.set f.0.cover; cost_is = f.0.cost_is }, omega (arith, f.1, u.within)))
      v.found;
  least = λ t h. ⊎_elim
      (λ (p : bit_and m t ≡ m). omega (arith, v.within, u.least t (reached_with rows s free m rest one d t p h)))
      (λ (n : bit_and m t ≡ m → ⊥). v.least t (reached_without rows s free m rest one d t n h))
      (eq? (bit_and m t) m);
}

-- m is taken
pub priced_with : (costs : List ℕ) (s m cost bound p : ℕ) → Priced costs s cost bound → Price costs m p → bit_and s m ≡ 0 → Priced costs (bit_or s m) (cost + p) bound
priced_with costs s m cost bound p h q z =
    record { few = h.few; is = omega (arith, h.is, q.is, cost_join costs s m z); near = omega (arith, h.near) }

-- a lower bound
pub priced_less : (costs : List ℕ) (s cost bound bound' : ℕ) → Priced costs s cost bound → bound' ≤ bound → Priced costs s cost bound'
priced_less costs s cost bound bound' h le = record { few = h.few; is = h.is; near = omega (arith, h.near) }

-- a cost and a bound fit
pub priced_fits : (costs : List ℕ) (s cost bound : ℕ) → ((k : ℕ) → get_or costs k 0 < 65536) → Priced costs s cost bound → (cost < no_cost) × (bound < no_cost + no_cost)
priced_fits costs s cost bound lt h =
    let f : cost < no_cost = cost_fits costs s cost h.few lt h.is in
    (f, omega (arith, h.near))
