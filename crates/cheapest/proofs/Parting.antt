-- Free candidates in two parts that no unmet row links: the cheapest choice in one part is right for every choice in the other.
use Rattle.std.proofs.Common.{◌≡◌, refl, sym, ap, ◌∙◌, inl, inr, ⊎_elim, List, ℕ, ◌+◌, ◌≤◌, ◌<◌, min, max, arith, get_or, bit_and, bit_or}
use Rattle.cheapest_bounds.specs.declared.costs.Incumbent.{Incumbent}
use Rattle.bits.specs.Bits.{digit, Part, Minus}
use Rattle.rows.specs.Covers.{Cover, Between}
use Rattle.cheapest_bounds.specs.Costs.{cost_of, CoverBetween}
use Rattle.cheapest.specs.Optimum.{Priced, Attained, Valued}
use Rattle.cheapest_nodes.specs.Nodes.{Closed, Component}
use Rattle.bits.proofs.Digits.{eq?, digit_lt, digit_and, digit_or, digit_ext, digit_of_zero, a_member}
use Rattle.bits.proofs.Members.{and_left, and_right, and_both}
use Rattle.rows.proofs.Sets.{cover_more}
use Rattle.bits.proofs.Parts.{members, apart_by, no_common}
use Rattle.cheapest_bounds.proofs.Costing.{cost_join, cost_either, cost_modular}

between_bits : (s free t : ℕ) → Between s free t → (c : ℕ) → (digit c s ≤ digit c t) × (digit c t ≤ max (digit c s) (digit c free))
unfolding Between
between_bits s free t h c = (
  ⊎_elim (λ (e : digit c s ≡ 1). omega (arith, h.0 c e)) (λ (e : digit c s ≡ 1 → ⊥). omega (arith, digit_lt c s)) (eq? (digit c s) 1),
  ⊎_elim (λ (e : digit c t ≡ 1). omega (arith, h.1 c e, digit_or c s free)) (λ (e : digit c t ≡ 1 → ⊥). omega (arith, digit_lt c t)) (eq? (digit c t) 1),
)

bits_between : (s free t : ℕ) → ((c : ℕ) → (digit c s ≤ digit c t) × (digit c t ≤ max (digit c s) (digit c free))) → Between s free t
unfolding Between
bits_between s free t h = (
  λ c q. omega (arith, (h c).0, digit_lt c t),
  λ c q. omega (arith, (h c).1, digit_or c s free, digit_lt c s, digit_lt c free),
)

more_cover : (rows : List ℕ) (t b : ℕ) → Cover rows t → Cover rows (bit_or t b)
more_cover rows t b c = cover_more rows t (bit_or t b) (λ e q. omega (arith, digit_or e t b, digit_lt e b)) c

-- s is apart from free, which is a and b
module _ (rows costs : List ℕ) (s free a b : ℕ) (apart : bit_and s free ≡ 0) (comp : Component rows s free a) (d : Minus free a b) where
  bits : (c : ℕ) → (digit c s + digit c free ≤ 1) × (digit c a + digit c b ≡ digit c free)
  unfolding Minus
  bits c =
      let z : min (digit c s) (digit c free) ≡ 0 = sym (digit_and c s free) ∙ ap (digit c) apart ∙ digit_of_zero c in
      let le : digit c a ≤ digit c free
      = ⊎_elim (λ (e : digit c a ≡ 1). omega (arith, members a free comp.part c e)) (λ (e : digit c a ≡ 1 → ⊥). omega (arith, digit_lt c a)) (eq? (digit c a) 1) in
      (omega (arith, digit_lt c s, digit_lt c free), omega (arith, d c))

  apart_part : (q : ℕ) → ((c : ℕ) → digit c q ≡ 1 → digit c free ≡ 1) → bit_and s q ≡ 0
  apart_part q f = apart_by s q (λ c p r. omega (arith, (bits c).0, f c r))

  in_this : (c : ℕ) → digit c a ≡ 1 → digit c free ≡ 1
  in_this c m = omega (arith, (bits c).1, digit_lt c free)

  in_other : (c : ℕ) → digit c b ≡ 1 → digit c free ≡ 1
  in_other c m = omega (arith, (bits c).1, digit_lt c free)

  -- all of b is taken, and the bound is as far from the cost as it was
  pub priced_other : (cost w bound : ℕ) → Priced costs s cost bound → w ≡ cost_of costs b → Priced costs (bit_or s b) (cost + w) (bound + w)
  priced_other cost w bound h f = record {
    few = h.few;
    is = omega (arith, h.is, cost_join costs s b (apart_part b in_other));
    near = omega (arith, h.near);
  }

  -- some of a is taken
  pub priced_this : (cost w bound x : ℕ) → Priced costs s cost bound → w ≡ cost_of costs (bit_and x a) → Priced costs (bit_or s (bit_and x a)) (cost + w) bound
  priced_this cost w bound x h f = record {
    few = h.few;
    is = omega (arith, h.is, cost_join costs s (bit_and x a) (apart_part (bit_and x a) (λ c m. in_this c (and_right c x a m))));
    near = omega (arith, h.near);
  }

  -- a cover with all of b
  with_other : (t : ℕ) → CoverBetween rows s free t → CoverBetween rows (bit_or s b) a (bit_or t b)
  unfolding CoverBetween
  with_other t r = (
    more_cover rows t b r.0,
    bits_between (bit_or s b) a (bit_or t b) (λ c.
        let w : (digit c s ≤ digit c t) × (digit c t ≤ max (digit c s) (digit c free)) = between_bits s free t r.1 c in
        (omega (arith, w.0, digit_or c s b, digit_or c t b), omega (arith, w.1, (bits c).0, (bits c).1, digit_or c s b, digit_or c t b, digit_lt c free, digit_lt c a))),
  )

  -- the part a alone costs too much
  pub valued_over : (best p : Incumbent) (w : ℕ) → w ≡ cost_of costs b → Valued rows costs (bit_or s b) a (record { cost = best.cost + w; set = 0 }) p → best.cost + w ≤ p.cost
      → Valued rows costs s free best best
  valued_over best p w f v le = record {
    within = omega arith;
    found = inl refl;
    least = λ t r. omega (arith, v.least (bit_or t b) (with_other t r), cost_either costs t b);
  }

  -- p is a cheapest cover with all of b: its members in a are right for every cover
  module _ (p : ℕ) (g : CoverBetween rows (bit_or s b) a p) where
    q : ℕ
    q = bit_and p a

    p_bits : (c : ℕ) → digit c p ≡ digit c s + digit c b + digit c q
    unfolding q CoverBetween
    p_bits c =
        let w : (digit c (bit_or s b) ≤ digit c p) × (digit c p ≤ max (digit c (bit_or s b)) (digit c a)) = between_bits (bit_or s b) a p g.1 c in
        let lo : digit c s + digit c b ≤ digit c p = omega (arith, w.0, (bits c).0, (bits c).1, digit_or c s b) in
        let hi : digit c p ≤ digit c s + digit c b + digit c a = omega (arith, w.1, digit_or c s b) in
        omega (arith, (bits c).0, (bits c).1, digit_and c p a, digit_lt c p, digit_lt c a)

    -- what is found from s | q lies between s and s | free
    pub from_this : (t : ℕ) → CoverBetween rows (bit_or s (bit_and p a)) b t → CoverBetween rows s free t
    unfolding q CoverBetween
    from_this t r = (
      r.0,
      bits_between s free t (λ c.
          let w : (digit c (bit_or s q) ≤ digit c t) × (digit c t ≤ max (digit c (bit_or s q)) (digit c b)) = between_bits (bit_or s q) b t r.1 c in
          let q_a : digit c q ≤ digit c a = omega (arith, digit_and c p a) in
          (omega (arith, w.0, digit_or c s q), omega (arith, w.1, (bits c).1, digit_or c s q))),
    )

    module _ (t : ℕ) (r : CoverBetween rows s free t) where
      mixed : ℕ
      mixed = bit_or (bit_or s q) (bit_and t b)

      mixed_bits : (c : ℕ) → digit c mixed ≡ digit c s + digit c q + min (digit c t) (digit c b)
      unfolding mixed
      mixed_bits c =
          omega (arith, p_bits c, (bits c).0, (bits c).1, digit_lt c p, digit_or c (bit_or s q) (bit_and t b), digit_or c s q, digit_and c t b)

      mixed_cover : Cover rows mixed
      unfolding Cover CoverBetween Closed
      mixed_cover k lt w =
          let x : ℕ = get_or rows k 0 in
          ⊎_elim
          (λ (z : bit_and x s ≡ 0). ⊎_elim
          (λ (h : bit_and (bit_and x free) a ≡ 0).
          let e : (e : ℕ) × (digit e (bit_and x t) ≡ 1) = a_member (bit_and x t) (r.0 k lt) in
          let c : ℕ = e.0 in
          let in_x : digit c x ≡ 1 = and_left c x t e.1 in
          let in_t : digit c t ≡ 1 = and_right c x t e.1 in
          let not_s : digit c s ≡ 1 → ⊥ = no_common x s c z in_x in
          let in_free : digit c free ≡ 1 = omega (arith, (between_bits s free t r.1 c).1, digit_lt c s, digit_lt c free) in
          let not_a : digit c a ≡ 1 → ⊥ = no_common (bit_and x free) a c h (and_both c x free in_x in_free) in
          no_common x mixed c w in_x (omega (arith, mixed_bits c, (bits c).1, digit_lt c a, digit_lt c mixed)))
          (λ (h : Part (bit_and x free) a).
          let e : (e : ℕ) × (digit e (bit_and x p) ≡ 1) = a_member (bit_and x p) (g.0 k lt) in
          let c : ℕ = e.0 in
          let in_x : digit c x ≡ 1 = and_left c x p e.1 in
          let in_p : digit c p ≡ 1 = and_right c x p e.1 in
          let not_s : digit c s ≡ 1 → ⊥ = no_common x s c z in_x in
          let not_b : digit c b ≡ 1 → ⊥ = λ m. let i : digit c a ≡ 1 = members (bit_and x free) a h c (and_both c x free in_x (in_other c m)) in omega (arith, (bits c).1, digit_lt c free) in
          no_common x mixed c w in_x (omega (arith, mixed_bits c, p_bits c, digit_lt c s, digit_lt c b, digit_lt c mixed)))
          (comp.closed k lt z))
          (λ (z : bit_and x s ≡ 0 → ⊥).
          let e : (e : ℕ) × (digit e (bit_and x s) ≡ 1) = a_member (bit_and x s) z in
          let c : ℕ = e.0 in
          let in_s : digit c s ≡ 1 = and_right c x s e.1 in
          no_common x mixed c w (and_left c x s e.1) (omega (arith, mixed_bits c, digit_lt c mixed)))
          (eq? (bit_and x s) 0)

      mixed_reached : CoverBetween rows (bit_or s q) b mixed
      unfolding CoverBetween
      mixed_reached = (
        mixed_cover,
        bits_between (bit_or s q) b mixed (λ c.
            let sq : digit c (bit_or s q) ≡ digit c s + digit c q = omega (arith, p_bits c, digit_lt c p, digit_or c s q) in
            (omega (arith, mixed_bits c), omega (arith, mixed_bits c, digit_lt c mixed, digit_lt c b))),
      )

      -- p is it with all of b, as t | b is t with all of b
      mixed_cost : cost_of costs p ≤ cost_of costs (bit_or t b) → cost_of costs mixed ≤ cost_of costs t
      unfolding CoverBetween
      mixed_cost le =
          let any : bit_or mixed b ≡ p = digit_ext (bit_or mixed b) p (λ c.
          omega (arith, mixed_bits c, p_bits c, (bits c).0, (bits c).1, digit_lt c p, digit_or c mixed b)) in
          let all : bit_and mixed b ≡ bit_and t b = digit_ext (bit_and mixed b) (bit_and t b) (λ c.
          omega (arith, mixed_bits c, p_bits c, digit_lt c p, digit_and c mixed b, digit_and c t b, digit_lt c b)) in
          omega (arith, cost_modular costs mixed b, cost_modular costs t b, ap (cost_of costs) any, ap (cost_of costs) all)

  -- the part a first, then the rest with a's members chosen
  pub valued_parts : (best p r : Incumbent) (w : ℕ) → Valued rows costs (bit_or s b) a (record { cost = best.cost + w; set = 0 }) p → p.cost < best.cost + w
      → Valued rows costs (bit_or s (bit_and p.set a)) b best r → Valued rows costs s free best r
  unfolding q
  valued_parts best p r w v lt u =
      let g : Attained rows costs (bit_or s b) a p = ⊎_elim
      (λ (e : p ≡ record { cost = best.cost + w; set = 0 }). absurd (omega (arith, ap (λ (x : Incumbent). x.cost) e)))
      (λ (e : Attained rows costs (bit_or s b) a p × (p.cost < best.cost + w)). e.0)
      v.found in
      record {
        within = u.within;
        found = ⊎_elim
            (λ (e : r ≡ best). inl e)
            (λ (e : Attained rows costs (bit_or s (bit_and p.set a)) b r × (r.cost < best.cost)).
            inr (record { cover = from_this p.set g.cover r.set e.0.cover; cost_is = e.0.cost_is }, e.1))
            u.found;
        least = λ t h.
            let le : cost_of costs p.set ≤ cost_of costs (bit_or t b) = omega (arith, v.least (bit_or t b) (with_other t h), g.cost_is) in
            omega (arith, u.least (mixed p.set g.cover t h) (mixed_reached p.set g.cover t h), mixed_cost p.set g.cover t h le);
      }
