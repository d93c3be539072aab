-- The least cost, and how the members of the first cover of that cost are found from the top.
use Rattle.std.proofs.Common.{◌≡◌, refl, sym, ap, ◌∙◌, subst, inl, inr, ⊎_elim, List, ℕ, ◌+◌, ◌-◌, ◌*◌, ◌/◌, ◌%◌, ◌^◌, ◌≤◌, ◌<◌, arith, length, get_or, pow_pos, pow_mono, bit_and, bit_or}
use Rattle.std.proofs.lemmas.Nat.{or_shifted, or_disjoint}
use native.Mathlib.Nat.{zero-mod}
use native.Mathlib.Decide.{dec_lt}
use lib.Pow.{split}
use lib.Bits.{and_shifted}
use Rattle.cheapest_bounds.specs.declared.costs.Incumbent.{Incumbent}
use Rattle.bits.specs.Bits.{digit, Single, Part, Minus, Member}
use Rattle.rows.specs.Covers.{Cover, Between, Node}
use Rattle.cheapest_bounds.specs.Costs.{cost_of, no_cost, Price, CoverBetween}
use Rattle.cheapest.specs.Optimum.{Priced, Attained, Known, Valued, LeastCost, Cheapest}
use Rattle.bits.proofs.Digits.{eq?, digit_lt, digit_or}
use Rattle.bits.proofs.Members.{or_right, not_zero, bit_here, above, within}
use Rattle.bits.proofs.Parts.{part_le, members, by_members, part_self, part_trans, minus_part, no_common}
use Rattle.cheapest_bounds.proofs.Costing.{cost_none, cost_join, cost_small}
use Rattle.rows.proofs.Nodes.{halves, low_node, high_node}

reached_cover : (rows : List ℕ) (s free t : ℕ) → CoverBetween rows s free t → Cover rows t
unfolding CoverBetween
reached_cover rows s free t r = r.0

-- ---- an interval is what lies between s and s with its low bits

module _ (rows : List ℕ) (j s t : ℕ) (z : s % 2 ^ j ≡ 0) where
  reached_inside : Cover rows t → s ≤ t → t < s + 2 ^ j → CoverBetween rows s (2 ^ j - 1) t
  unfolding CoverBetween Between
  reached_inside c lo hi = (c, (above j s t z lo hi, within j s t z lo hi))

  inside_reached : CoverBetween rows s (2 ^ j - 1) t → (s ≤ t) × (t < s + 2 ^ j)
  unfolding CoverBetween Between
  inside_reached r =
      let e : s / 2 ^ j * 2 ^ j + s % 2 ^ j ≡ s = split s j in
      let f : s / 2 ^ j * 2 ^ j ≡ s = omega arith in
      let p : 0 < 2 ^ j = pow_pos j in
      let top : bit_or s (2 ^ j - 1) ≡ s + (2 ^ j - 1)
      = subst (λ (v : ℕ). bit_or v (2 ^ j - 1) ≡ v + (2 ^ j - 1)) f (or_shifted (s / 2 ^ j) j (2 ^ j - 1) (omega arith)) in
      let lo : s ≤ t = part_le s t (by_members s t r.1.0) in
      let hi : t ≤ bit_or s (2 ^ j - 1) = part_le t (bit_or s (2 ^ j - 1)) (by_members t (bit_or s (2 ^ j - 1)) r.1.1) in
      (lo, omega arith)

-- ---- the least cost

-- the start of a search for all
pub priced_start : (rows costs : List ℕ) (free : ℕ) (b : Incumbent) → length costs ≤ 64 → ((k : ℕ) → get_or costs k 0 < 65536) → Known rows costs free b → Priced costs 0 0 b.cost
unfolding Known
priced_start rows costs free b l lt k = record {
  few = l;
  is = sym (cost_none costs);
  near = ⊎_elim
      (λ (e : b.cost ≡ no_cost). omega arith)
      (λ (h : Attained rows costs 0 free b). omega (arith, h.cost_is, cost_small costs b.set lt))
      k;
}

module _ (rows costs : List ℕ) (n free : ℕ) (start best : Incumbent) (e : free ≡ 2 ^ n - 1) (k : Known rows costs free start) (v : Valued rows costs 0 free start best) where
  under : (t : ℕ) → t < 2 ^ n → Cover rows t → best.cost ≤ cost_of costs t
  under t lt c = v.least t (subst (λ (f : ℕ). CoverBetween rows 0 f t) (sym e) (reached_inside rows n 0 t (zero-mod (2 ^ n)) c (omega arith) (omega arith)))

  pub none_below : ((k : ℕ) → get_or costs k 0 < 65536) → length costs ≤ 64 → best.cost ≡ no_cost → (t : ℕ) → t < 2 ^ n → Cover rows t → ⊥
  none_below lt l b t h c = omega (arith, under t h c, cost_small costs t lt)

  -- a search that starts from a cover or from no bound ends with a cover, if with anything
  attained : (best.cost ≡ no_cost → ⊥) → Attained rows costs 0 free best
  unfolding Known
  attained m =
      ⊎_elim
      (λ (q : best ≡ start). subst (Attained rows costs 0 free) (sym q) (⊎_elim
      (λ (w : start.cost ≡ no_cost). absurd (m (ap (λ (x : Incumbent). x.cost) q ∙ w)))
      (λ (w : Attained rows costs 0 free start). w)
      k))
      (λ (w : Attained rows costs 0 free best × (best.cost < start.cost)). w.0)
      v.found

  pub least_cost : (best.cost ≡ no_cost → ⊥) → LeastCost rows costs n best
  least_cost m =
      let a : Attained rows costs 0 free best = attained m in
      let c : CoverBetween rows 0 (2 ^ n - 1) best.set = subst (λ (f : ℕ). CoverBetween rows 0 f best.set) e a.cover in
      let w : (0 ≤ best.set) × (best.set < 0 + 2 ^ n) = inside_reached rows n 0 best.set (zero-mod (2 ^ n)) c in
      record { below = omega (arith, w.1); cover = reached_cover rows 0 (2 ^ n - 1) best.set c; cost_is = a.cost_is; least = under }

-- ---- the members, from the top

-- w is a cover in [s, s + 2^i) that costs best, and none that does is below s
pub record Witnessed (rows costs : List ℕ) (n best i s cost w : ℕ) : Type 0 where
  pub node : Node i s
  pub inside : s + 2 ^ i ≤ 2 ^ n
  pub cost_is : cost ≡ cost_of costs s
  pub low : s ≤ w
  pub high : w < s + 2 ^ i
  pub cover : Cover rows w
  pub reaches : cost_of costs w ≡ best
  pub first : (t : ℕ) → t < 2 ^ n → Cover rows t → cost_of costs t ≡ best → s ≤ t

pub witnessed_none : (rows costs : List ℕ) (n : ℕ) (best : Incumbent) → n ≤ 64 → LeastCost rows costs n best → Witnessed rows costs n best.cost n 0 0 best.set
witnessed_none rows costs n best le h =
    let p : 2 ^ n ≤ 2 ^ 64 = pow_mono le in
    record {
      node = record { small = le; aligned = zero-mod (2 ^ n); room = omega arith };
      inside = omega arith;
      cost_is = sym (cost_none costs);
      low = omega arith;
      high = omega (arith, h.below);
      cover = h.cover;
      reaches = h.cost_is;
      first = λ t lt c e. omega arith;
    }

pub witnessed_all : (rows costs : List ℕ) (n i s cost w : ℕ) (best : Incumbent) → i ≡ 0 → LeastCost rows costs n best
    → Witnessed rows costs n best.cost i s cost w → Cheapest rows costs n best.cost s
witnessed_all rows costs n i s cost w best z h p =
    let one : 2 ^ i ≡ 1 = ap (λ (k : ℕ). 2 ^ k) z in
    let e : w ≡ s = omega (arith, p.low, p.high) in
    record {
      below = omega (arith, p.inside);
      cover = subst (Cover rows) e p.cover;
      cost_is = ap (cost_of costs) (sym e) ∙ p.reaches;
      least = h.least;
      first = p.first;
    }

module _ (rows costs : List ℕ) (n i s cost w m : ℕ) (best : Incumbent) (h : LeastCost rows costs n best) (p : Witnessed rows costs n best.cost i s cost w)
    (pos : 0 < i) (is : m ≡ 2 ^ (i - 1)) where
  low_half : Node (i - 1) s
  low_half = low_node i s p.node pos

  high_half : Node (i - 1) (s + m)
  high_half = high_node i s m is p.node pos

  two : 2 ^ i ≡ 2 ^ (i - 1) + 2 ^ (i - 1)
  two = halves i pos

  apart : bit_and s m ≡ 0
  apart =
      let f : s / 2 ^ i * 2 ^ i + s % 2 ^ i ≡ s = split s i in
      let g : s / 2 ^ i * 2 ^ i ≡ s = omega (arith, p.node.aligned) in
      let l : m < 2 ^ i = omega (arith, two, pow_pos (i - 1)) in
      subst (λ (x : ℕ). bit_and x m ≡ 0) g (and_shifted (s / 2 ^ i) i m l)

  -- what is in the upper half has the candidate
  upper_has : s + m ≤ w → bit_and w m ≡ 0 → ⊥
  upper_has le z =
      let in_s : digit (i - 1) (s + m) ≡ 1 = ap (digit (i - 1)) (sym (or_disjoint s m apart)) ∙ or_right (i - 1) s m (bit_here (i - 1) m is) in
      no_common w m (i - 1) z
      (above (i - 1) (s + m) w high_half.aligned le (omega (arith, two, p.high)) (i - 1) in_s)
      (bit_here (i - 1) m is)

  -- the witness lacks the candidate
  pub witnessed_lacks : bit_and w m ≡ 0 → Witnessed rows costs n best.cost (i - 1) s cost w
  witnessed_lacks z = record {
    node = low_half;
    inside = omega (arith, two, p.inside);
    cost_is = p.cost_is;
    low = p.low;
    high = elim (dec_lt w (s + m)) [ yes lt ↦ omega arith | no ge ↦ absurd (upper_has (omega arith) z) ];
    cover = p.cover;
    reaches = p.reaches;
    first = p.first;
  }

  module _ (free : ℕ) (r : Incumbent) (e : free ≡ 2 ^ (i - 1) - 1) (v₀ : Valued rows costs s free (record { cost = best.cost + 1; set = 0 }) r) where
    limit : Incumbent
    limit = record { cost = best.cost + 1; set = 0 }

    val : Valued rows costs s (2 ^ (i - 1) - 1) limit r
    unfolding limit
    val = subst (λ (f : ℕ). Valued rows costs s f (record { cost = best.cost + 1; set = 0 }) r) e v₀

    hit : (r.cost ≡ best.cost + 1 → ⊥) → Attained rows costs s (2 ^ (i - 1) - 1) r
    unfolding limit
    hit n' =
        ⊎_elim
        (λ (f : r ≡ record { cost = best.cost + 1; set = 0 }). absurd (n' (ap (λ (x : Incumbent). x.cost) f)))
        (λ (f : Attained rows costs s (2 ^ (i - 1) - 1) r × (r.cost < best.cost + 1)). f.0)
        val.found

    where_hit : Attained rows costs s (2 ^ (i - 1) - 1) r → (s ≤ r.set) × (r.set < s + 2 ^ (i - 1))
    where_hit a = inside_reached rows (i - 1) s r.set low_half.aligned a.cover

    -- a cover that costs best does without the candidate: it is the next witness
    pub witnessed_without : r.cost ≡ best.cost → Witnessed rows costs n best.cost (i - 1) s cost r.set
    witnessed_without q =
        let a : Attained rows costs s (2 ^ (i - 1) - 1) r = hit (λ f. omega arith) in
        record {
          node = low_half;
          inside = omega (arith, two, p.inside);
          cost_is = p.cost_is;
          low = (where_hit a).0;
          high = (where_hit a).1;
          cover = reached_cover rows s (2 ^ (i - 1) - 1) r.set a.cover;
          reaches = a.cost_is ∙ q;
          first = p.first;
        }

    -- none does
    needed : (r.cost ≡ best.cost → ⊥) → (t : ℕ) → Cover rows t → cost_of costs t ≡ best.cost → s ≤ t → s + 2 ^ (i - 1) ≤ t
    unfolding limit
    needed n' t c q lo =
        elim (dec_lt t (s + 2 ^ (i - 1))) [
          | yes lt ↦ absurd (n' (exact (val.least t (reached_inside rows (i - 1) s t low_half.aligned c lo lt))))
          | no ge ↦ omega arith
        ]
      where
        exact : r.cost ≤ cost_of costs t → r.cost ≡ best.cost
        exact le =
            let a : Attained rows costs s (2 ^ (i - 1) - 1) r = hit (λ f. omega arith) in
            let b : best.cost ≤ cost_of costs r.set = h.least r.set (omega (arith, (where_hit a).1, two, p.inside)) (reached_cover rows s (2 ^ (i - 1) - 1) r.set a.cover) in
            omega (arith, a.cost_is)

    pub witnessed_with : (q : ℕ) → (r.cost ≡ best.cost → ⊥) → Price costs m q → Witnessed rows costs n best.cost (i - 1) (s + m) (cost + q) w
    witnessed_with q not pr = record {
      node = high_half;
      inside = omega (arith, two, p.inside);
      cost_is = ap (λ (x : ℕ). x + q) p.cost_is ∙ ap (λ (x : ℕ). cost_of costs s + x) pr.is ∙ sym (cost_join costs s m apart) ∙ ap (cost_of costs) (or_disjoint s m apart);
      low = omega (arith, needed not w p.cover p.reaches p.low);
      high = omega (arith, two, p.high);
      cover = p.cover;
      reaches = p.reaches;
      first = λ t lt c k. let lo : s + 2 ^ (i - 1) ≤ t = needed not t c k (p.first t lt c k) in omega arith;
    }

pub power_single : (m i : ℕ) → m ≡ 2 ^ i → Single m
unfolding Single
power_single m i e = (i, e)

-- the least cost fits
pub best_fits : (rows costs : List ℕ) (n : ℕ) (best : Incumbent) → length costs ≤ 64 → ((k : ℕ) → get_or costs k 0 < 65536) → LeastCost rows costs n best → best.cost < no_cost
best_fits rows costs n best l lt h = omega (arith, h.cost_is, cost_small costs best.set lt)

-- the search for one that does without a candidate
pub priced_without : (rows costs : List ℕ) (n i s cost w : ℕ) (best : Incumbent) → length costs ≤ 64 → ((k : ℕ) → get_or costs k 0 < 65536) → LeastCost rows costs n best
    → Witnessed rows costs n best.cost i s cost w → (bound : ℕ) → bound ≤ best.cost + 1 → Priced costs s cost bound
priced_without rows costs n i s cost w best l lt h p bound le =
    record { few = l; is = p.cost_is; near = omega (arith, best_fits rows costs n best l lt h) }

-- ---- what a search starts from

-- s is what is taken of free, and rest what is left
pub record PartsOf (free s rest : ℕ) : Type 0 where
  pub taken : Part s free
  pub left : Part rest free

pub parts_none : (free : ℕ) → PartsOf free 0 free
parts_none free = record { taken = by_members 0 free (λ b m. absurd (not_zero b 0 m refl)); left = part_self free }

pub parts_more : (free s rest m rest' : ℕ) → PartsOf free s rest → Member rest m → Minus rest m rest' → PartsOf free (bit_or s m) rest'
parts_more free s rest m rest' h one d = record {
  taken = by_members (bit_or s m) free (λ b q. ⊎_elim
      (λ (e : digit b s ≡ 1). members s free h.taken b e)
      (λ (e : digit b s ≡ 1 → ⊥). members rest free h.left b (members m rest one.part b (omega (arith, digit_or b s m, digit_lt b s, digit_lt b m))))
      (eq? (digit b s) 1));
  left = part_trans rest' rest free (minus_part rest m rest' d) h.left;
}

pub known_cover : (rows costs : List ℕ) (free x c : ℕ) → Part x free → Cover rows x → c ≡ cost_of costs x → Known rows costs free (record { cost = c; set = x })
unfolding Known CoverBetween Between
known_cover rows costs free x c p h e = inr (record {
  cover = (h, (λ b m. absurd (not_zero b 0 m refl), λ b m. omega (arith, members x free p b m, digit_or b 0 free, digit_lt b 0)));
  cost_is = sym e;
})

pub known_none : (rows costs : List ℕ) (free x : ℕ) → Known rows costs free (record { cost = no_cost; set = x })
unfolding Known
known_none rows costs free x = inl refl
