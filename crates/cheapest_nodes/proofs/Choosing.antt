-- The choice of a candidate.
use Rattle.std.proofs.Common.{◌≡◌, ℕ, ◌+◌, ◌<◌, ◌⊎◌, ⊎_elim, List, Option, Some, None, length, get_or, bit_and, sym, subst, arith, below_more}
use Rattle.cheapest_nodes.specs.declared.branching.Choice.{Choice}
use Rattle.cheapest_nodes.specs.declared.branching.Choice.TheVariants.{Done, Lost, Try}
use Rattle.bits.specs.Bits.{digit, Part, Member}
use Rattle.rows.specs.Covers.{Cover}
use Rattle.cheapest_bounds.specs.Costs.{CoverBetween}
use Rattle.cheapest_nodes.specs.Nodes.{Chosen}
use Rattle.bits.proofs.Members.{not_zero, and_left}
use Rattle.bits.proofs.Parts.{members, member_of_more, part_and_left, apart_by, no_common}
use Rattle.rows.proofs.Sets.{meets}

-- pick is free and not in s; where there is none, s meets the first n rows
unfoldable pub Picked : List ℕ → ℕ → ℕ → ℕ → Option ℕ → Type 0
Picked rows n s free (Some pick) = Part pick free × (bit_and s pick ≡ 0) × (0 < pick)
Picked rows n s free None = (k : ℕ) → k < n → bit_and (get_or rows k 0) s ≡ 0 → ⊥

pub picked_none : (rows : List ℕ) (s free : ℕ) → Picked rows 0 s free None
unfolding Picked
picked_none rows s free k lt = absurd (omega arith)

module _ (rows : List ℕ) (n s free : ℕ) where
  pub picked_met : (pick : Option ℕ) → Picked rows n s free pick → (bit_and (get_or rows n 0) s ≡ 0 → ⊥) → Picked rows (n + 1) s free pick
  unfolding Picked
  picked_met (Some pick) h m = h
  picked_met None h m = below_more (λ k. bit_and (get_or rows k 0) s ≡ 0 → ⊥) n h m

  pub picked_unmet : (pick : Option ℕ) → Picked rows n s free pick → (next : ℕ) → bit_and (get_or rows n 0) s ≡ 0 → (bit_and (get_or rows n 0) free ≡ 0 → ⊥)
      → (next ≡ bit_and (get_or rows n 0) free) ⊎ (pick ≡ Some next) → Picked rows (n + 1) s free (Some next)
  unfolding Picked
  picked_unmet pick h next z nz =
      ⊎_elim
      (λ (e : next ≡ bit_and (get_or rows n 0) free). (
        subst (λ (v : ℕ). Part v free) (sym e) (part_and_left (get_or rows n 0) free),
        subst (λ (v : ℕ). bit_and s v ≡ 0) (sym e)
            (apart_by s (bit_and (get_or rows n 0) free) (λ b p q. no_common (get_or rows n 0) s b z (and_left b (get_or rows n 0) free q) p)),
        omega arith,
      ))
      (λ (e : pick ≡ Some next). subst (Picked rows n s free) e h)

  pub chosen_done : n ≡ length rows → Picked rows n s free None → Chosen rows s free Done
  unfolding Picked Chosen Cover
  chosen_done e h k lt = h k (omega arith)

  pub picked_some : (pick : ℕ) → Picked rows n s free (Some pick) → 0 < pick
  unfolding Picked
  picked_some pick h = h.2

  pub chosen_try : (pick : ℕ) → Picked rows n s free (Some pick) → (m : ℕ) → Member pick m → Chosen rows s free (Try m)
  unfolding Picked Chosen
  chosen_try pick h m one = (
    member_of_more pick free m h.0 one,
    apart_by s m (λ b p q. no_common s pick b h.1 p (members m pick one.part b q)),
  )

pub chosen_lost : (rows : List ℕ) (s free k : ℕ) → k < length rows → bit_and (get_or rows k 0) s ≡ 0 → bit_and (get_or rows k 0) free ≡ 0 → Chosen rows s free Lost
unfolding Chosen CoverBetween
chosen_lost rows s free k lt z e t r =
    let m : (b : ℕ) × (digit b (bit_and (get_or rows k 0) free) ≡ 1) × (digit b t ≡ 1) = meets rows s free k lt z t r.0 r.1 in
    not_zero m.0 (bit_and (get_or rows k 0) free) m.1 e

-- a candidate to try: in free, and not in s
pub tried : (rows : List ℕ) (s free : ℕ) (choice : Choice) (m : ℕ) → choice ≡ Try m → Chosen rows s free choice → Member free m × (bit_and s m ≡ 0)
unfolding Chosen
tried rows s free choice m e c = subst (Chosen rows s free) e c
