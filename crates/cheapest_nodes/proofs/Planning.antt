-- What is left of the rows when s is taken, and how the search for the cheapest cover goes on: candidates that are too dear are not needed.
use Rattle.std.proofs.Common.{◌≡◌, sym, ap, ◌∙◌, subst, ◌⊎◌, ⊎_elim, Option, List, ℕ, ◌+◌, ◌-◌, ◌≤◌, ◌<◌, arith, length, get_or, take, get_or-take, length-take-le, bit_and, bit_xor}
use Rattle.std.specs.Prelude.{◌==◌}
use Rattle.std.specs.Bool.{then_some}
use native.Mathlib.Decide.{dec_lt}
use Rattle.cheapest_nodes.specs.declared.branching.Choice.{Choice}
use Rattle.cheapest_nodes.specs.declared.branching.Choice.TheVariants.{Done as IsDone, Lost, Try}
use Rattle.cheapest_nodes.specs.declared.plan.Next.{Next}
use Rattle.cheapest_nodes.specs.declared.plan.Next.TheVariants.{Cut, Done, Split, Branch}
use Rattle.bits.specs.Bits.{digit, Part, Minus}
use Rattle.rows.specs.Covers.{Cover, Between}
use Rattle.rows.specs.Keeping.{Kept}
use Rattle.cheapest_bounds.specs.Costs.{cost_of, CoverBetween, Bound}
use Rattle.cheapest_nodes.specs.Nodes.{Chosen, Closed, Component, Thinned}
use Rattle.cheapest_bounds.specs.Ascent.{Affordable, Meets}
use Rattle.cheapest_nodes.specs.Plan.{Residue, ResidueIn, Open, Sufficient, Planned}
use Rattle.bits.proofs.Digits.{eq?, digit_lt, digit_and, digit_or, digit_ext, a_member}
use Rattle.bits.proofs.Members.{and_left, and_right, and_both}
use Rattle.bits.proofs.Parts.{members, by_members, part_self, part_trans, part_and_left, minus_bits, apart_by, no_common}
use Rattle.cheapest_bounds.proofs.Costing.{cost_apart}
use Rattle.rows.proofs.Sets.{meets}
use Rattle.rows.proofs.Making.{Told, if_zero, kept_has, kept_from}
use Rattle.cheapest_nodes.proofs.Choosing.{tried}

-- ---- what is left of the rows

-- it is there where each row that s does not meet, and no other, gives what is free of it
pub residue_kept : (makes : ℕ → Option ℕ → Type 0) (rows new : List ℕ) (s free size r : ℕ)
    → ((x : ℕ) (o : Option ℕ) → makes x o → o ≡ then_some (bit_and x s == 0) (bit_and x free))
    → length rows ≤ size → Kept makes rows size r new → ResidueIn rows s free size r new
residue_kept makes rows new s free size r is le g = record {
  size_is = g.size_is;
  few = few;
  residue = record {
    has = λ k lt z.
        let m = kept_has makes _ _ told _ _ _ _ g k lt z in
        (m.0, omega (arith, m.1, long), get_or-take r new m.0 0 m.1 ∙ m.2);
    from = λ j lt.
        let l : j < r = omega (arith, long) in
        let m = kept_from makes _ _ told _ _ _ _ g j l in
        (m.0, m.1, m.2, get_or-take r new j 0 l ∙ m.3);
  };
}
  where
    few : r ≤ length new
    few = omega (arith, g.size_is, g.few)

    long : length (take r new) ≡ r
    long = length-take-le r new few

    told : (x : ℕ) (o : Option ℕ) → makes x o → Told (bit_and x s ≡ 0) (bit_and x free) o
    told x o m = if_zero _ _ _ (is x o m)

-- ---- rows that s does not meet: what a cover costs beyond s

module _ (rows costs : List ℕ) (s free : ℕ) (unmet : Open rows s free) where
  -- a cover above s meets each row with what it has beyond s
  meets_beyond : (t u : ℕ) → CoverBetween rows s free t → Minus t s u → Meets rows (length rows) u
  unfolding Open CoverBetween Cover Minus Meets
  meets_beyond t u r d k lt n z =
      let x : ℕ = get_or rows k 0 in
      let m : (b : ℕ) × (digit b (bit_and x t) ≡ 1) = a_member (bit_and x t) (r.0 k lt) in
      let b : ℕ = m.0 in
      let in_x : digit b x ≡ 1 = and_left b x t m.1 in
      let in_t : digit b t ≡ 1 = and_right b x t m.1 in
      let not_s : digit b s ≡ 1 → ⊥ = no_common x s b (unmet k lt).0 in_x in
      no_common x u b z in_x (omega (arith, d b, digit_lt b s))

  -- a cover that costs less than limit has beyond s only what is affordable
  keeps_cheap : (cost limit kept : ℕ) → cost ≡ cost_of costs s → Affordable rows costs free (limit - cost) kept → (t : ℕ) → CoverBetween rows s free t
      → cost_of costs t < limit → CoverBetween rows s kept t
  unfolding CoverBetween Between Minus
  keeps_cheap cost limit kept is w t r lt = (
    r.0,
    (
      r.1.0,
      λ b q. ⊎_elim
          (λ (e : digit b s ≡ 1). omega (arith, digit_or b s kept, digit_lt b kept))
          (λ (e : digit b s ≡ 1 → ⊥). omega (arith, members u kept inside b (beyond_s b q e), digit_or b s kept, digit_lt b s))
          (eq? (digit b s) 1),
    ),
  )
    where
      u : ℕ
      u = bit_xor t (bit_and t s)

      beyond : (c : ℕ) → digit c u ≡ digit c t - digit c s
      beyond = minus_bits t s

      beyond_s : (b : ℕ) → digit b t ≡ 1 → (digit b s ≡ 1 → ⊥) → digit b u ≡ 1
      beyond_s b q e = omega (arith, beyond b, digit_lt b s)

      in_free : Part u free
      in_free = by_members u free (λ b q. omega (arith, beyond b, r.1.1 b (omega (arith, beyond b, digit_lt b t)), digit_or b s free, digit_lt b s, digit_lt b free, digit_lt b t))

      cheap : cost_of costs u < limit - cost
      cheap = omega (arith, cost_apart costs t s u (by_members s t r.1.0) (minus_bits t s))

      inside : Part u kept
      inside = w.keeps u (meets_beyond t u r (minus_bits t s)) in_free cheap

  pub sufficient_thinned : (cost limit kept useful : ℕ) → cost ≡ cost_of costs s → Affordable rows costs free (limit - cost) kept → Thinned rows costs s kept useful
      → Sufficient rows costs s free limit useful
  sufficient_thinned cost limit kept useful is w v = record {
    part = part_trans useful kept free v.part w.part;
    swap = λ t r lt. v.swap t (keeps_cheap cost limit kept is w t r lt);
  }

-- ---- what is done next

pub cut_bound : (rows costs : List ℕ) (s free cost limit more : ℕ) → cost ≡ cost_of costs s → Bound rows costs s free more → limit ≤ cost + more
    → Planned rows costs s free cost limit Cut
unfolding Planned
cut_bound rows costs s free cost limit more is h le t r = omega (arith, h.under t r)

pub done_next : (rows costs : List ℕ) (s free cost limit useful more : ℕ) (choice : Choice) → choice ≡ IsDone → Chosen rows s useful choice
    → cost + more < limit → Planned rows costs s free cost limit Done
unfolding Planned Chosen
done_next rows costs s free cost limit useful more choice e c lt = (subst (Chosen rows s useful) e c, omega arith)

module _ (rows costs : List ℕ) (s free cost limit useful : ℕ) (w : Sufficient rows costs s free limit useful) where
  pub lost_next : (choice : Choice) → choice ≡ Lost → Chosen rows s useful choice → Planned rows costs s free cost limit Cut
  unfolding Planned Chosen
  lost_next choice e c₀ t r =
      let c : Chosen rows s useful Lost = subst (Chosen rows s useful) e c₀ in
      elim (dec_lt (cost_of costs t) limit) [
        | yes lt ↦ absurd (c (w.swap t r lt).0 (w.swap t r lt).1)
        | no ge ↦ omega arith
      ]

  pub split_next : (part other : ℕ) → Component rows s useful part → Minus useful part other
      → (part < useful) × (other < useful) × (bit_and s useful ≡ 0) → Planned rows costs s free cost limit (Split useful part)
  unfolding Planned Minus
  split_next part other comp d l = (
    w,
    record {
      component = comp;
      apart = l.2;
      less = l.0;
      other_less = λ o q. subst (λ (v : ℕ). v < useful) (digit_ext other o (λ c. d c ∙ sym (q c))) l.1;
    },
  )

  pub branch_next : (choice : Choice) (m : ℕ) → choice ≡ Try m → Chosen rows s useful choice → Planned rows costs s free cost limit (Branch useful m)
  unfolding Planned
  branch_next choice m e c = (w, (tried rows s useful choice m e c).0, (tried rows s useful choice m e c).1)

-- ---- the same for the rows that xs is left of: between s and s | free they have the same covers

module _ (rows : List ℕ) (s free : ℕ) (xs : List ℕ) (h : Residue rows s free xs) where
  pub residue_open : Open xs s free
  unfolding Open
  residue_open j lt =
      let r : (k : ℕ) × (k < length rows) × (bit_and (get_or rows k 0) s ≡ 0) × (get_or xs j 0 ≡ bit_and (get_or rows k 0) free) = h.from j lt in
      let x : ℕ = get_or rows r.0 0 in (
        ap (λ (v : ℕ). bit_and v s) r.3 ∙ apart_by (bit_and x free) s (λ c p q. no_common x s c r.2 (and_left c x free p) q),
        subst (λ (v : ℕ). Part v free) (sym r.3) (part_and_left x free),
      )

  cover_less : (f t : ℕ) → Part f free → CoverBetween rows s f t → CoverBetween xs s f t
  unfolding CoverBetween Cover
  cover_less f t p c = (
    λ j lt z.
        let r : (k : ℕ) × (k < length rows) × (bit_and (get_or rows k 0) s ≡ 0) × (get_or xs j 0 ≡ bit_and (get_or rows k 0) free) = h.from j lt in
        let x : ℕ = get_or rows r.0 0 in
        let m : (b : ℕ) × (digit b (bit_and x f) ≡ 1) × (digit b t ≡ 1) = meets rows s f r.0 r.1 r.2 t c.0 c.1 in
        let b : ℕ = m.0 in
        no_common (bit_and x free) t b (ap (λ (v : ℕ). bit_and v t) (sym r.3) ∙ z)
        (and_both b x free (and_left b x f m.1) (members f free p b (and_right b x f m.1))) m.2,
    c.1,
  )

  cover_whole : (t : ℕ) → ((b : ℕ) → digit b s ≡ 1 → digit b t ≡ 1) → Cover xs t → Cover rows t
  unfolding Cover
  cover_whole t up c k lt w =
      let x : ℕ = get_or rows k 0 in
      ⊎_elim
      (λ (z : bit_and x s ≡ 0).
      let r : (j : ℕ) × (j < length xs) × (get_or xs j 0 ≡ bit_and x free) = h.has k lt z in
      c r.0 r.1 (ap (λ (v : ℕ). bit_and v t) r.2 ∙ apart_by (bit_and x free) t (λ b p q. no_common x t b w (and_left b x free p) q)))
      (λ (z : bit_and x s ≡ 0 → ⊥).
      let m : (b : ℕ) × (digit b (bit_and x s) ≡ 1) = a_member (bit_and x s) z in
      no_common x t m.0 w (and_left m.0 x s m.1) (up m.0 (and_right m.0 x s m.1)))
      (eq? (bit_and x s) 0)

  sufficient_whole : (costs : List ℕ) (limit f : ℕ) → Sufficient xs costs s free limit f → Sufficient rows costs s free limit f
  unfolding CoverBetween Between
  sufficient_whole costs limit f w = record {
    part = w.part;
    swap = λ t r lt.
        let u : (u : ℕ) × CoverBetween xs s f u × (cost_of costs u ≤ cost_of costs t) = w.swap t (cover_less free t (part_self free) r) lt in
        (u.0, (cover_whole u.0 u.1.1.0 u.1.0, u.1.1), u.2);
  }

  component_whole : (useful part : ℕ) → Part useful free → Component xs s useful part → Component rows s useful part
  unfolding Closed Open
  component_whole useful part p c = record {
    part = c.part;
    closed = λ k lt z.
        let x : ℕ = get_or rows k 0 in
        let r : (j : ℕ) × (j < length xs) × (get_or xs j 0 ≡ bit_and x free) = h.has k lt z in
        let same : bit_and (get_or xs r.0 0) useful ≡ bit_and x useful = ap (λ (v : ℕ). bit_and v useful) r.2 ∙ inner x in
        subst (λ (v : ℕ). (bit_and v part ≡ 0) ⊎ Part v part) same (c.closed r.0 r.1 (residue_open r.0 r.1).0);
  }
    where
      inner : (x : ℕ) → bit_and (bit_and x free) useful ≡ bit_and x useful
      inner x = digit_ext (bit_and (bit_and x free) useful) (bit_and x useful) (λ b. ⊎_elim
          (λ (e : digit b useful ≡ 1). omega (arith, members useful free p b e, digit_and b (bit_and x free) useful, digit_and b x free, digit_and b x useful, digit_lt b x))
          (λ (e : digit b useful ≡ 1 → ⊥). omega (arith, digit_lt b useful, digit_and b (bit_and x free) useful, digit_and b x useful))
          (eq? (digit b useful) 1))

  pub planned_whole : (costs : List ℕ) (cost limit : ℕ) (p : Next) → Planned xs costs s free cost limit p → Planned rows costs s free cost limit p
  unfolding Planned
  planned_whole costs cost limit Cut q = λ t r. q t (cover_less free t (part_self free) r)
  planned_whole costs cost limit Done q = (cover_whole s (λ b m. m) q.0, q.1)
  planned_whole costs cost limit (Split useful part) q = (
    sufficient_whole costs limit useful q.0,
    record {
      component = component_whole useful part q.0.part q.1.component;
      apart = q.1.apart;
      less = q.1.less;
      other_less = q.1.other_less;
    },
  )
  planned_whole costs cost limit (Branch useful m) q = (sufficient_whole costs limit useful q.0, q.1, q.2)
