-- A free candidate that meets no unmet row, or for which another one stands in at no greater cost, is not needed.
use Rattle.std.proofs.Common.{◌≡◌, ℕ, ◌-◌, ◌≤◌, ◌<◌, ⊎_elim, List, Option, Some, None, is_some, true, length, get_or, bit_and, bit_or, bit_xor, sym, ap, ◌∙◌, subst, arith, pow_pos}
use Rattle.bits.specs.Bits.{digit, Single, Part, Minus, Member}
use Rattle.rows.specs.Covers.{Cover, Unmet, Between}
use Rattle.cheapest_bounds.specs.Costs.{cost_of, Price, CoverBetween}
use Rattle.cheapest_nodes.specs.Nodes.{Dominators, Cheaper, Thinned}
use Rattle.bits.proofs.Digits.{eq?, digit_lt, digit_or, a_member, pow_only}
use Rattle.bits.proofs.Members.{not_zero, and_left, and_right, and_both}
use Rattle.bits.proofs.Parts.{members, by_members, part_self, part_trans, part_and_less, minus_bits, minus_part, member_of_more, no_common}
use Rattle.cheapest_bounds.proofs.Costing.{cost_part, cost_either, cost_apart}

pub cheaper_one : (costs : List ℕ) (x rest d m p q : ℕ) → Part rest x → Member rest d → Price costs d q → Price costs m p → q ≤ p → Cheaper costs x m (Some d)
cheaper_one costs x rest d m p q h one dr mr le = (member_of_more rest x d h one, omega (arith, dr.is, mr.is))

-- where one was found there is one
pub cheaper_found : (costs : List ℕ) (x m : ℕ) (r : Option ℕ) → is_some r ≡ true → Cheaper costs x m r → (d : ℕ) × Member x d × (cost_of costs d ≤ cost_of costs m)
cheaper_found costs x m (Some d) e h = (d, h.0, h.1)
cheaper_found costs x m None e h = absurd (cc)

-- ---- the swap

pub thinned_trans : (rows costs : List ℕ) (s free f g : ℕ) → Thinned rows costs s free f → Thinned rows costs s f g → Thinned rows costs s free g
thinned_trans rows costs s free f g p q = record {
  part = part_trans g f free q.part p.part;
  swap = λ t r.
      let u : (u : ℕ) × CoverBetween rows s f u × (cost_of costs u ≤ cost_of costs t) = p.swap t r in
      let w : (w : ℕ) × CoverBetween rows s g w × (cost_of costs w ≤ cost_of costs u.0) = q.swap u.0 u.1 in
      (w.0, w.1, omega (arith, u.2, w.2));
}

-- b stands in for m
module _ (rows costs : List ℕ) (s free m f doms b : ℕ) (one : Single m) (d : Minus free m f) (h : Dominators rows (length rows) s m doms)
    (by : Member (bit_and f doms) b × (cost_of costs b ≤ cost_of costs m)) where
  some_b : b ≡ 0 → ⊥
  unfolding Single
  some_b z = omega (arith, by.0.single.1, pow_pos by.0.single.0)

  in_f : (e : ℕ) → digit e b ≡ 1 → digit e f ≡ 1
  in_f e q = and_left e f doms (members b (bit_and f doms) by.0.part e q)

  in_doms : (e : ℕ) → digit e b ≡ 1 → digit e doms ≡ 1
  in_doms e q = and_right e f doms (members b (bit_and f doms) by.0.part e q)

  -- a set that lacks m, or a set with m in s, needs no swap
  kept : (t : ℕ) → ((e : ℕ) → digit e t ≡ 1 → digit e m ≡ 1 → digit e s ≡ 1) → CoverBetween rows s free t → CoverBetween rows s f t
  unfolding CoverBetween Between Minus
  kept t g r = (
    r.0,
    (
      r.1.0,
      λ e q. ⊎_elim
          (λ (k : digit e m ≡ 1). omega (arith, g e q k, digit_or e s f, digit_lt e f))
          (λ (k : digit e m ≡ 1 → ⊥). omega (arith, r.1.1 e q, d e, digit_or e s free, digit_or e s f, digit_lt e s, digit_lt e m, digit_lt e free, digit_lt e f))
          (eq? (digit e m) 1),
    ),
  )

  module _ (t : ℕ) (has : (e : ℕ) → digit e m ≡ 1 → digit e t ≡ 1) (out : (e : ℕ) → digit e m ≡ 1 → digit e s ≡ 1 → ⊥) (r : CoverBetween rows s free t) where
    rest : ℕ
    rest = bit_xor t (bit_and t m)

    lacks : (e : ℕ) → digit e rest ≡ digit e t - digit e m
    unfolding rest Minus
    lacks = minus_bits t m

    other : ℕ
    other = bit_or rest b

    up : (e : ℕ) → digit e s ≡ 1 → digit e other ≡ 1
    unfolding other CoverBetween Between
    up e q =
        ⊎_elim (λ (k : digit e m ≡ 1). absurd (out e k q))
        (λ (k : digit e m ≡ 1 → ⊥). omega (arith, r.1.0 e q, lacks e, digit_or e rest b, digit_lt e m, digit_lt e b)) (eq? (digit e m) 1)

    down : (e : ℕ) → digit e other ≡ 1 → digit e (bit_or s f) ≡ 1
    unfolding other CoverBetween Between Minus
    down e q =
        ⊎_elim
        (λ (k : digit e b ≡ 1). omega (arith, in_f e k, digit_or e s f, digit_lt e s))
        (λ (k : digit e b ≡ 1 → ⊥).
        let in_rest : digit e rest ≡ 1 = omega (arith, digit_or e rest b, digit_lt e b, digit_lt e rest) in
        let in_t : digit e t ≡ 1 = omega (arith, lacks e, digit_lt e t) in
        omega (arith, r.1.1 e in_t, lacks e, d e, digit_or e s free, digit_or e s f, digit_lt e s, digit_lt e m, digit_lt e free, digit_lt e f))
        (eq? (digit e b) 1)

    -- b meets what m met and s does not
    meets_still : (k : ℕ) → k < length rows → bit_and (get_or rows k 0) s ≡ 0 → (bit_and (get_or rows k 0) m ≡ 0 → ⊥) → bit_and (get_or rows k 0) other ≡ 0 → ⊥
    unfolding other Dominators
    meets_still k lt z q w =
        let x : ℕ = get_or rows k 0 in
        let e : (e : ℕ) × (digit e b ≡ 1) = a_member b some_b in
        not_zero e.0 (bit_and x (bit_or rest b))
        (and_both e.0 x (bit_or rest b) (members doms x (h k lt z q) e.0 (in_doms e.0 e.1))
        (omega (arith, digit_or e.0 rest b, e.1, digit_lt e.0 rest))) w

    cover : Cover rows other
    unfolding other Cover CoverBetween
    cover k lt w =
        let x : ℕ = get_or rows k 0 in
        ⊎_elim
        (λ (z : bit_and x s ≡ 0). ⊎_elim
        (λ (y : bit_and x m ≡ 0).
        let e : (e : ℕ) × (digit e (bit_and x t) ≡ 1) = a_member (bit_and x t) (r.0 k lt) in
        let in_x : digit e.0 x ≡ 1 = and_left e.0 x t e.1 in
        let in_t : digit e.0 t ≡ 1 = and_right e.0 x t e.1 in
        let not_m : digit e.0 m ≡ 1 → ⊥ = no_common x m e.0 y in_x in
        no_common x (bit_or rest b) e.0 w in_x (omega (arith, lacks e.0, digit_or e.0 rest b, digit_lt e.0 m, digit_lt e.0 b)))
        (λ (y : bit_and x m ≡ 0 → ⊥). meets_still k lt z y w)
        (eq? (bit_and x m) 0))
        (λ (z : bit_and x s ≡ 0 → ⊥).
        let e : (e : ℕ) × (digit e (bit_and x s) ≡ 1) = a_member (bit_and x s) z in
        no_common x (bit_or rest b) e.0 w (and_left e.0 x s e.1) (up e.0 (and_right e.0 x s e.1)))
        (eq? (bit_and x s) 0)

    dear : cost_of costs other ≤ cost_of costs t
    unfolding other rest
    dear =
        omega (arith, cost_either costs rest b, cost_apart costs t m rest (by_members m t has) (minus_bits t m), by.1)

    swapped : (u : ℕ) × CoverBetween rows s f u × (cost_of costs u ≤ cost_of costs t)
    unfolding CoverBetween Between
    swapped = (other, (cover, (up, down)), dear)

  pub thinned_drop : Thinned rows costs s free f
  unfolding Single
  thinned_drop = record {
    part = minus_part free m f d;
    swap = λ t r. ⊎_elim
        (λ (q : digit a s ≡ 1). (t, kept t (λ e p k. subst (λ (j : ℕ). digit j s ≡ 1) (sym (only e k)) q) r, omega arith))
        (λ (q : digit a s ≡ 1 → ⊥). ⊎_elim
        (λ (w : digit a t ≡ 1). swapped t (λ e k. subst (λ (j : ℕ). digit j t ≡ 1) (sym (only e k)) w)
        (λ e k i. q (subst (λ (j : ℕ). digit j s ≡ 1) (only e k) i)) r)
        (λ (w : digit a t ≡ 1 → ⊥). (t, kept t (λ e p k. absurd (w (subst (λ (j : ℕ). digit j t ≡ 1) (only e k) p))) r, omega arith))
        (eq? (digit a t) 1))
        (eq? (digit a s) 1);
  }
    where
      a : ℕ
      a = one.0

      only : (e : ℕ) → digit e m ≡ 1 → e ≡ a
      only e q = pow_only e a (sym (ap (digit e) one.1) ∙ q)

-- what meets no unmet row is not needed
module _ (rows costs : List ℕ) (s free u : ℕ) (h : Unmet rows (length rows) s u) (t : ℕ) (r : CoverBetween rows s free t) where
  trimmed : ℕ
  trimmed = bit_or s (bit_and t u)

  trimmed_cover : Cover rows trimmed
  unfolding trimmed Cover CoverBetween Unmet
  trimmed_cover k lt w =
      let x : ℕ = get_or rows k 0 in
      ⊎_elim
      (λ (z : bit_and x s ≡ 0).
      let e : (e : ℕ) × (digit e (bit_and x t) ≡ 1) = a_member (bit_and x t) (r.0 k lt) in
      let c : ℕ = e.0 in
      let in_x : digit c x ≡ 1 = and_left c x t e.1 in
      let in_tu : digit c (bit_and t u) ≡ 1 = and_both c t u (and_right c x t e.1) (members x u (h k lt z) c in_x) in
      no_common x (bit_or s (bit_and t u)) c w in_x (omega (arith, digit_or c s (bit_and t u), digit_lt c s)))
      (λ (z : bit_and x s ≡ 0 → ⊥).
      let e : (e : ℕ) × (digit e (bit_and x s) ≡ 1) = a_member (bit_and x s) z in
      let c : ℕ = e.0 in
      let in_s : digit c s ≡ 1 = and_right c x s e.1 in
      no_common x (bit_or s (bit_and t u)) c w (and_left c x s e.1) (omega (arith, digit_or c s (bit_and t u), digit_lt c (bit_and t u))))
      (eq? (bit_and x s) 0)

  trimmed_between : Between s (bit_and free u) trimmed
  unfolding trimmed CoverBetween Between
  trimmed_between = (
    λ c q. omega (arith, digit_or c s (bit_and t u), digit_lt c (bit_and t u)),
    λ c q. ⊎_elim
        (λ (e : digit c s ≡ 1). omega (arith, digit_or c s (bit_and free u), digit_lt c (bit_and free u)))
        (λ (e : digit c s ≡ 1 → ⊥).
        let in_tu : digit c (bit_and t u) ≡ 1 = omega (arith, digit_or c s (bit_and t u), digit_lt c s, digit_lt c (bit_and t u)) in
        let either : digit c (bit_or s free) ≡ 1 = r.1.1 c (and_left c t u in_tu) in
        let in_free : digit c free ≡ 1 = omega (arith, digit_or c s free, digit_lt c s, digit_lt c free) in
        let in_fu : digit c (bit_and free u) ≡ 1 = and_both c free u in_free (and_right c t u in_tu) in
        omega (arith, digit_or c s (bit_and free u), digit_lt c s))
        (eq? (digit c s) 1),
  )

  trimmed_part : Part trimmed t
  unfolding trimmed CoverBetween Between
  trimmed_part = by_members (bit_or s (bit_and t u)) t (λ c q. ⊎_elim
      (λ (e : digit c s ≡ 1). r.1.0 c e)
      (λ (e : digit c s ≡ 1 → ⊥). and_left c t u (omega (arith, digit_or c s (bit_and t u), digit_lt c s, digit_lt c (bit_and t u))))
      (eq? (digit c s) 1))

-- what is both free and in an unmet row is free
pub free_part : (free u : ℕ) → Part (bit_and free u) free
free_part free u = part_and_less free u free (part_self free)

pub thinned_unmet : (rows costs : List ℕ) (s free u : ℕ) → Unmet rows (length rows) s u → Thinned rows costs s free (bit_and free u)
unfolding CoverBetween
thinned_unmet rows costs s free u h = record {
  part = free_part free u;
  swap = λ t r.
      let x : ℕ = trimmed rows costs s free u h t r in
      (x, (trimmed_cover rows costs s free u h t r, trimmed_between rows costs s free u h t r), cost_part costs x t (trimmed_part rows costs s free u h t r));
}

-- ---- the value

pub reached_wider : (rows : List ℕ) (s f free t : ℕ) → Part f free → CoverBetween rows s f t → CoverBetween rows s free t
unfolding CoverBetween Between
reached_wider rows s f free t p r = (
  r.0,
  (
    r.1.0,
    λ e q. ⊎_elim
        (λ (k : digit e f ≡ 1). omega (arith, members f free p e k, digit_or e s free, digit_lt e s))
        (λ (k : digit e f ≡ 1 → ⊥). omega (arith, r.1.1 e q, digit_or e s f, digit_or e s free, digit_lt e s, digit_lt e f, digit_lt e free))
        (eq? (digit e f) 1),
  ),
)
