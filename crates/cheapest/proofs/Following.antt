-- The least cost, by what is planned: the plan keeps to a limit that each cover below the best one known is below.
use Rattle.std.proofs.Common.{◌≡◌, ℕ, ◌≤◌, ◌<◌, ⊎_elim, inl, inr, List, bit_and, refl, sym, arith}
use native.Mathlib.Decide.{dec_le}
use Rattle.cheapest_nodes.specs.declared.plan.Next.TheVariants.{Cut, Done, Split, Branch}
use Rattle.cheapest_bounds.specs.declared.costs.Incumbent.{Incumbent}
use Rattle.bits.specs.Bits.{Member}
use Rattle.rows.specs.Covers.{Between}
use Rattle.cheapest_bounds.specs.Costs.{cost_of, CoverBetween}
use Rattle.cheapest_bounds.specs.Units.{CommonUnit, LimitBelow}
use Rattle.cheapest.specs.Optimum.{Attained, Valued}
use Rattle.cheapest_nodes.specs.Plan.{Sufficient, Divided, Planned}
use Rattle.bits.proofs.Digits.{digit_lt, digit_or}
use Rattle.bits.proofs.Parts.{by_members}
use Rattle.cheapest_bounds.proofs.Costing.{cost_part}
use Rattle.cheapest_nodes.proofs.Thinning.{reached_wider}

module _ (rows costs : List ℕ) (u s free limit : ℕ) (best : Incumbent) (unit : CommonUnit costs u) (lower : LimitBelow best.cost u limit) where
  -- a cover that is below best is below the limit
  below : (t : ℕ) → cost_of costs t < best.cost → cost_of costs t < limit
  below t lt = lower.kept (cost_of costs t) (unit.whole t) lt

  pub valued_cut : (cost : ℕ) → Planned rows costs s free cost limit Cut → Valued rows costs s free best best
  unfolding Planned
  valued_cut cost h = record {
    within = omega arith;
    found = inl refl;
    least = λ t r. elim (dec_le best.cost (cost_of costs t)) [
      | yes le ↦ le
      | no gt ↦ absurd (omega (arith, h t r, below t (omega arith)))
    ];
  }

  pub valued_met : (cost : ℕ) → cost ≡ cost_of costs s → Planned rows costs s free cost limit Done → Valued rows costs s free best (record { cost = cost; set = s })
  unfolding Planned CoverBetween Between
  valued_met cost is h = record {
    within = omega (arith, h.1, lower.near);
    found = inr (
      record { cover = (h.0, (λ b m. m, λ b m. omega (arith, digit_or b s free, digit_lt b free))); cost_is = sym is },
      omega (arith, h.1, lower.near),
    );
    least = λ t r. omega (arith, cost_part costs s t (by_members s t r.1.0));
  }

  pub valued_sufficient : (f : ℕ) (r : Incumbent) → Sufficient rows costs s free limit f → Valued rows costs s f best r → Valued rows costs s free best r
  valued_sufficient f r h v = record {
    within = v.within;
    found = ⊎_elim
        (λ (e : r ≡ best). inl e)
        (λ (w : Attained rows costs s f r × (r.cost < best.cost)).
        inr (record { cover = reached_wider rows s f free r.set h.part w.0.cover; cost_is = w.0.cost_is }, w.1))
        v.found;
    least = λ t q. elim (dec_le best.cost (cost_of costs t)) [
      | yes le ↦ omega (arith, v.within)
      | no gt ↦
          let w : (u : ℕ) × CoverBetween rows s f u × (cost_of costs u ≤ cost_of costs t) = h.swap t q (below t (omega arith)) in
          omega (arith, w.2, v.least w.0 w.1)
    ];
  }

pub planned_split : (rows costs : List ℕ) (s free cost limit useful part : ℕ) → Planned rows costs s free cost limit (Split useful part)
    → Sufficient rows costs s free limit useful × Divided rows s useful part
unfolding Planned
planned_split rows costs s free cost limit useful part h = h

pub planned_branch : (rows costs : List ℕ) (s free cost limit useful m : ℕ) → Planned rows costs s free cost limit (Branch useful m)
    → Sufficient rows costs s free limit useful × Member useful m × (bit_and s m ≡ 0)
unfolding Planned
planned_branch rows costs s free cost limit useful m h = h
