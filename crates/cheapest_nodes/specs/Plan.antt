-- How the search for the cheapest cover goes on from a set.
use Rattle.std.specs.Prelude.{◌≡◌, List, ℕ, ◌≤◌, ◌<◌, length, get_or, take}
use Rattle.std.specs.Int.Bits.{bit_and}
use Rattle.cheapest_nodes.specs.declared.plan.Next.{Next}
use Rattle.cheapest_nodes.specs.declared.plan.Next.TheVariants.{Cut, Done, Split, Branch}
use Rattle.bits.specs.Bits.{Part, Minus, Member}
use Rattle.rows.specs.Covers.{Cover}
use Rattle.cheapest_bounds.specs.Costs.{cost_of, CoverBetween}
use Rattle.cheapest_nodes.specs.Nodes.{Component}

-- xs is what is free of the rows that s does not meet
pub record Residue (rows : List ℕ) (s free : ℕ) (xs : List ℕ) : Type 0 where
  pub has : (k : ℕ) → k < length rows → bit_and (get_or rows k 0) s ≡ 0 → (j : ℕ) × (j < length xs) × (get_or xs j 0 ≡ bit_and (get_or rows k 0) free)
  pub from : (j : ℕ) → j < length xs → (k : ℕ) × (k < length rows) × (bit_and (get_or rows k 0) s ≡ 0) × (get_or xs j 0 ≡ bit_and (get_or rows k 0) free)

-- the first r entries of new are that, and new has as many entries as before
pub record ResidueIn (rows : List ℕ) (s free size r : ℕ) (new : List ℕ) : Type 0 where
  pub size_is : length new ≡ size
  pub few : r ≤ length new
  pub residue : Residue rows s free (take r new)

-- s meets no row, and each row is a part of free
unfoldable pub Open : List ℕ → ℕ → ℕ → Type 0
Open rows s free = (k : ℕ) → k < length rows → (bit_and (get_or rows k 0) s ≡ 0) × Part (get_or rows k 0) free

-- f is a part of free, and for each cover between s and s | free that costs less than limit there is one with f for free that costs no more
pub record Sufficient (rows costs : List ℕ) (s free limit f : ℕ) : Type 0 where
  pub part : Part f free
  pub swap : (t : ℕ) → CoverBetween rows s free t → cost_of costs t < limit → (u : ℕ) × CoverBetween rows s f u × (cost_of costs u ≤ cost_of costs t)

-- the two parts of useful are smaller than it, apart from s, and no unmet row is partly in one
pub record Divided (rows : List ℕ) (s useful part : ℕ) : Type 0 where
  pub component : Component rows s useful part
  pub apart : bit_and s useful ≡ 0
  pub less : part < useful
  pub other_less : (other : ℕ) → Minus useful part other → other < useful

-- no cover there costs less than limit; s is a cover; the useful candidates fall into part and the rest; or m is one of them to try
unfoldable pub Planned : List ℕ → List ℕ → ℕ → ℕ → ℕ → ℕ → Next → Type 0
Planned rows costs s free cost limit Cut = (t : ℕ) → CoverBetween rows s free t → limit ≤ cost_of costs t
Planned rows costs s free cost limit Done = Cover rows s × (cost < limit)
Planned rows costs s free cost limit (Split useful part) = Sufficient rows costs s free limit useful × Divided rows s useful part
Planned rows costs s free cost limit (Branch useful m) = Sufficient rows costs s free limit useful × Member useful m × (bit_and s m ≡ 0)
