-- A cover below a limit, by the laws of the search for the cheapest: where none is found, the limit is the least that the search knows.
use Rattle.std.proofs.Common.{◌≡◌, ℕ, ◌+◌, ◌≤◌, ◌<◌, List, Option, Some, None, bit_and, bit_or, refl, ap, inl, arith, ⊎_elim}
use Rattle.cheapest_nodes.specs.declared.plan.Next.TheVariants.{Cut, Done}
use Rattle.cheapest_bounds.specs.declared.costs.Incumbent.{Incumbent}
use Rattle.bits.specs.Bits.{Minus, Member}
use Rattle.bits.proofs.Digits.{eq?}
use Rattle.cheapest_bounds.specs.Costs.{cost_of}
use Rattle.cheapest_bounds.specs.Units.{CommonUnit, LimitBelow}
use Rattle.cheapest_nodes.specs.Nodes.{Component}
use Rattle.cheapest_nodes.specs.Plan.{Sufficient, Planned}
use Rattle.cheapest_nodes.proofs.Thinning.{reached_wider}
use Rattle.cheapest.specs.Optimum.{Attained, Valued, Below}
use Rattle.cheapest.proofs.Valuing.{reached_with, reached_without, from_with, from_without}
use Rattle.cheapest.proofs.Following.{valued_cut, valued_met, valued_sufficient}
use Rattle.cheapest.proofs.Parting.{valued_over, valued_parts, from_this}

-- nothing found yet
abbrev bar : ℕ → Incumbent
bar limit = record { cost = limit; set = 0 }

none_below : (rows costs : List ℕ) (s free limit : ℕ) → Below rows costs s free limit None → Valued rows costs s free (bar limit) (bar limit)
unfolding Below
none_below rows costs s free limit b = record { within = omega arith; found = inl refl; least = b }

module _ (rows costs : List ℕ) (u s free inner limit : ℕ) (unit : CommonUnit costs u) (lower : LimitBelow limit u inner) where
  pub below_cut : (cost : ℕ) → Planned rows costs s free cost inner Cut → Below rows costs s free limit None
  unfolding Below
  below_cut cost h = (valued_cut rows costs u s free inner (bar limit) unit lower cost h).least

  pub below_met : (cost : ℕ) → cost ≡ cost_of costs s → Planned rows costs s free cost inner Done → Below rows costs s free limit (Some (record { cost = cost; set = s }))
  unfolding Below Planned
  below_met cost is h =
      let less : cost < limit = omega (arith, h.1, lower.near) in
      ⊎_elim
      (λ (q : record { cost = cost; set = s } ≡ bar limit). absurd (omega (arith, ap (λ (x : Incumbent). x.cost) q)))
      (λ (q : Attained rows costs s free (record { cost = cost; set = s }) × (cost < limit)). q)
      (valued_met rows costs u s free inner (bar limit) unit lower cost is h).found

  pub below_sufficient : (f : ℕ) (r : Option Incumbent) → Sufficient rows costs s free inner f → Below rows costs s f limit r → Below rows costs s free limit r
  unfolding Below
  below_sufficient f (Some b) h a = (record { cover = reached_wider rows s f free b.set h.part a.0.cover; cost_is = a.0.cost_is }, a.1)
  below_sufficient f None h n = (valued_sufficient rows costs u s free inner (bar limit) unit lower f (bar limit) h (none_below rows costs s f limit n)).least

-- with the candidate m, and without it where there is none with it
module _ (rows costs : List ℕ) (s free m rest limit : ℕ) (one : Member free m) (d : Minus free m rest) where
  pub below_with : (b : Incumbent) → Below rows costs (bit_or s m) rest limit (Some b) → Below rows costs s free limit (Some b)
  unfolding Below
  below_with b a = (record { cover = from_with rows s free m rest one d b.set a.0.cover; cost_is = a.0.cost_is }, a.1)

  pub below_without : (r : Option Incumbent) → Below rows costs (bit_or s m) rest limit None → Below rows costs s rest limit r → Below rows costs s free limit r
  unfolding Below
  below_without (Some b) n a = (record { cover = from_without rows s free m rest one d b.set a.0.cover; cost_is = a.0.cost_is }, a.1)
  below_without None n v = λ t h. ⊎_elim
      (λ (p : bit_and m t ≡ m). n t (reached_with rows s free m rest one d t p h))
      (λ (q : bit_and m t ≡ m → ⊥). v t (reached_without rows s free m rest one d t q h))
      (eq? (bit_and m t) m)

-- the part a first, with all of b taken, then b
module _ (rows costs : List ℕ) (s free a b limit : ℕ) (apart : bit_and s free ≡ 0) (comp : Component rows s free a) (d : Minus free a b)
    (p : Incumbent) (w : ℕ) (v : Valued rows costs (bit_or s b) a (record { cost = limit + w; set = 0 }) p) where
  pub below_over : w ≡ cost_of costs b → limit + w ≤ p.cost → Below rows costs s free limit None
  unfolding Below
  below_over f le = (valued_over rows costs s free a b apart comp d (bar limit) p w f v le).least

  pub below_parts : (r : Option Incumbent) → p.cost < limit + w → Below rows costs (bit_or s (bit_and p.set a)) b limit r → Below rows costs s free limit r
  unfolding Below
  below_parts (Some r) lt u = (record { cover = from_this rows costs s free a b apart comp d p.set reached.cover r.set u.0.cover; cost_is = u.0.cost_is }, u.1)
    where
      reached : Attained rows costs (bit_or s b) a p
      reached = ⊎_elim
          (λ (e : p ≡ record { cost = limit + w; set = 0 }). absurd (omega (arith, ap (λ (x : Incumbent). x.cost) e)))
          (λ (e : Attained rows costs (bit_or s b) a p × (p.cost < limit + w)). e.0)
          v.found
  below_parts None lt u =
      (valued_parts rows costs s free a b apart comp d (bar limit) p (bar limit) w v lt (none_below rows costs (bit_or s (bit_and p.set a)) b limit u)).least
