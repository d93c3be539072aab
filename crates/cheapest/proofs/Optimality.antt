-- The cost and the cheapest cover by rows are crate model's.
use Rattle.std.specs.Prelude.{Some, None}
use Rattle.std.proofs.Common.{◌≡◌, refl, sym, ap, ◌∙◌, subst, ◌⊎◌, inl, inr, not, cond, List, [], ◌∷◌, map, ℕ, ◌+◌, ◌-◌, ◌*◌, ◌/◌, ◌%◌, ◌^◌, ◌≤◌, ◌<◌, arith, T, pow_pos, length, get_or}
use lib.Dec.{not_T}
use Rattle.model.specs.Base.{bit, sum}
use Rattle.model.specs.Sets.{members, of_rows, coverable, cost}
use Rattle.model.specs.Sets as model
use Rattle.model.proofs.Lists.{yes_or_no, T_true, T_false}
use Rattle.model.proofs.Bits.{bit0_e, bit0_n}
use Rattle.model.proofs.Sets.{cover_all}
use Rattle.model.proofs.Cheapest.{least_is_best}
use Rattle.model.proofs.Matrix.{sum_index}
use Rattle.rows.specs.Covers.{Cover}
use Rattle.cheapest_bounds.specs.Costs.{cost_of}
use Rattle.cheapest.specs.Optimum.{Cheapest, Optimal}
use Rattle.cheapest_bounds.proofs.Costing.{cost_small}
use Rattle.rows.proofs.Bridge.{cover_to, cover_from, of_rows_size}

-- ---- costs

pub sum_cost : (ws : List ℕ) (s : ℕ) → sum (λ x. x) (members ws s) ≡ cost_of ws s
unfolding cost_of
sum_cost [] s = refl
sum_cost (w ∷ ws) s = go (yes_or_no (bit 0 s)) (sum_cost ws (s / 2))
  where
    go : T (bit 0 s) ⊎ T (not (bit 0 s)) → sum (λ x. x) (members ws (s / 2)) ≡ cost_of ws (s / 2)
        → sum (λ x. x) (cond (bit 0 s) (w ∷ members ws (s / 2)) (members ws (s / 2))) ≡ s % 2 * w + cost_of ws (s / 2)
    go (inl t) e = rw (T_true {b = bit 0 s} t, bit0_e s t) (omega (arith, e))
    go (inr t) e = rw (T_false {b = bit 0 s} t, bit0_n s t) (omega (arith, e))

map_same : (ws : List ℕ) → map (λ x. x) ws ≡ ws
map_same [] = refl
map_same (w ∷ ws) = ap (λ (l : List ℕ). w ∷ l) (map_same ws)

pub cost_is : (costs rows : List ℕ) (s : ℕ) → cost (of_rows costs rows) s ≡ cost_of costs s
unfolding cost
cost_is costs rows s =
    sum_index (λ x. x) costs costs 0 s (λ j. let z : 0 + j ≡ j = omega arith in ap (λ (i : ℕ). get_or costs i 0) z ∙ ap (λ (l : List ℕ). get_or l j 0) (sym (map_same costs)))
    ∙ sum_cost costs s

-- ---- the cheapest

module _ (rows costs : List ℕ) where
  small : (s : ℕ) → s < 2 ^ length (of_rows costs rows).cands → s < 2 ^ length costs
  small s l = subst (λ (n : ℕ). s < 2 ^ n) (of_rows_size costs rows) l

  -- no set of candidates is a cover, so all of them is none
  pub optimal_none : ((t : ℕ) → t < 2 ^ length costs → Cover rows t → ⊥) → Optimal rows costs None
  unfolding Optimal
  optimal_none f = not_T (coverable (of_rows costs rows)) (λ h.
      let n : ℕ = length (of_rows costs rows).cands in
      let l : 2 ^ n - 1 < 2 ^ n = omega (arith, pow_pos n) in
      f (2 ^ n - 1) (small (2 ^ n - 1) l) (cover_to costs rows (2 ^ n - 1) (cover_all (of_rows costs rows) h)))

  pub optimal_cover : (c s : ℕ) → length costs ≤ 64 → ((k : ℕ) → get_or costs k 0 < 65536) → Cheapest rows costs (length costs) c s → Optimal rows costs (Some (record { cost = c; set = s }))
  unfolding Optimal
  optimal_cover c s l lt h = (
    subst (λ (x : ℕ). model.Best (of_rows costs rows) x s) (cost_is costs rows s ∙ h.cost_is)
        (least_is_best (of_rows costs rows) s (subst (λ (n : ℕ). s < 2 ^ n) (sym (of_rows_size costs rows)) h.below) (cover_from costs rows s h.below h.cover)
        (λ a b t.
        let cover_a : Cover rows a = cover_to costs rows a t in
        let le : c ≤ cost_of costs a = h.least a (small a b) cover_a in
        let cs : cost (of_rows costs rows) s ≡ c = cost_is costs rows s ∙ h.cost_is in (
          omega (arith, cost_is costs rows a),
          λ q. h.first a (small a b) cover_a (omega (arith, cost_is costs rows a)),
        ))),
    omega (arith, h.cost_is, cost_small costs s lt),
  )
