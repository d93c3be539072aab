-- Paper 02, K9, over any candidates: "each candidate .. renumbered by its new position", and what stays the same.
use Rattle.std.specs.Prelude.{ℕ, ◌^◌, ◌≤◌, ◌<◌, ◌≡◌, ◌↔◌, false, get_or, length}
use mathlib.Core.List.{List, map, Memᴰ}
use Rattle.model.specs.Base.{bit, from_bits}
use Rattle.model.specs.Sets.{Covering, cover, irredundants, cost, cheapest}
use Rattle.model.specs.Presence.{values_at}
use Rattle.model.specs.Products.{products_up_to, has_too_many}

-- a bijection of positions: `to` gives each its new one, `back` the old one of each
pub record Renumbering : Type 0 where
  pub to : ℕ → ℕ
  pub back : ℕ → ℕ
  pub back_to : (i : ℕ) → back (to i) ≡ i
  pub to_back : (j : ℕ) → to (back j) ≡ j

-- from the new positions to the old ones
abbrev pub inverse : Renumbering → Renumbering
inverse r = record { to = r.back; back = r.to; back_to = r.to_back; to_back = r.back_to }

-- a set of n candidates, "renumbered": candidate j is one of it where the one whose new position is j is one of s
unfoldable pub renumbered : Renumbering → ℕ → ℕ → ℕ
renumbered r n s = from_bits (λ j. bit (r.back j) s) n

-- the sets of one list, renumbered, "are exactly those of the other", both ways, and as many
pub record SameSets (r : Renumbering) (n : ℕ) (ss ts : List ℕ) : Type 0 where
  pub there : (t : ℕ) → Memᴰ t (map (renumbered r n) ss) ↔ Memᴰ t ts
  pub back_again : (s : ℕ) → Memᴰ s (map (renumbered (inverse r) n) ts) ↔ Memᴰ s ss
  pub as_many : length ss ≡ length ts

module _ {A B X : Type 0} (r : Renumbering) (k : Covering A X) (l : Covering B X) where
  -- candidate i of k is candidate `to i` of l: it holds the same and weighs the same. From the number of candidates on nothing moves
  pub record Renumbers : Type 0 where
    pub points : k.points ≡ l.points
    pub count : length k.cands ≡ length l.cands
    pub beyond : (i : ℕ) → length k.cands ≤ i → r.to i ≡ i
    pub holds : (x : X) (i : ℕ) → i < length k.cands → get_or (values_at k.holds k.cands x) i false ≡ get_or (values_at l.holds l.cands x) (r.to i) false
    pub weight : (i : ℕ) → i < length k.cands → get_or (map k.weight k.cands) i 0 ≡ get_or (map l.weight l.cands) (r.to i) 0

  -- then, "for every reordering, equal candidates too" (law `same_covers`)
  pub record SameCovers : Type 0 where
    -- covers, and only they, become covers; every set costs what it did
    pub covers : (s : ℕ) → s < 2 ^ length k.cands → cover k s ≡ cover l (renumbered r (length k.cands) s)
    pub costs : (s : ℕ) → s < 2 ^ length k.cands → cost k s ≡ cost l (renumbered r (length k.cands) s)
    -- "the irredundant covers of one, renumbered, are exactly those of the other"
    pub irredundant_covers : SameSets r (length k.cands) (irredundants k) (irredundants l)
    -- "and both cheapest costs agree"
    pub cheapest_costs : cost k (cheapest k) ≡ cost l (cheapest l)
    -- K8: the products after each point, and so whether 17 applies
    pub products : (i : ℕ) → SameSets r (length k.cands) (products_up_to k i) (products_up_to l i)
    pub too_many : has_too_many k ≡ has_too_many l
