-- What is looked at at a node of the search for the cheapest cover: which candidates are needed, and which rows fall apart.
use Rattle.std.specs.Prelude.{◌≡◌, List, ◌⊎◌, ℕ, ◌^◌, ◌≤◌, ◌<◌, length, get_or, Option, IfSome}
use Rattle.std.specs.Int.Bits.{bit_and}
use Rattle.cheapest_nodes.specs.declared.branching.Choice.{Choice}
use Rattle.cheapest_nodes.specs.declared.branching.Choice.TheVariants.{Done, Lost, Try}
use Rattle.bits.specs.Bits.{digit, Part, Member}
use Rattle.rows.specs.Covers.{Cover}
use Rattle.cheapest_bounds.specs.Costs.{cost_of, CoverBetween}

-- how to go on: s is a cover; no cover lies there; or a free candidate that is not in s
unfoldable pub Chosen : List ℕ → ℕ → ℕ → Choice → Type 0
Chosen rows s free Done = Cover rows s
Chosen rows s free Lost = (t : ℕ) → CoverBetween rows s free t → ⊥
Chosen rows s free (Try m) = Member free m × (bit_and s m ≡ 0)

-- a is in each row among the first n that s does not meet and m does
unfoldable pub Dominators : List ℕ → ℕ → ℕ → ℕ → ℕ → Type 0
Dominators rows n s m a = (k : ℕ) → k < n → bit_and (get_or rows k 0) s ≡ 0 → (bit_and (get_or rows k 0) m ≡ 0 → ⊥) → Part a (get_or rows k 0)

-- new is old with less in its entries; the entry of each member of x has only what is in row
pub record Restricted (row x : ℕ) (old new : List ℕ) : Type 0 where
  pub size : length new ≡ length old
  pub less : (b : ℕ) → Part (get_or new b 0) (get_or old b 0)
  pub met : (b : ℕ) → digit b x ≡ 1 → Part (get_or new b 0) row

-- the entry of each free candidate is in each row among the first n that s does not meet and the candidate does
pub record Shared (rows : List ℕ) (n s free : ℕ) (common : List ℕ) : Type 0 where
  pub size : length common ≡ 64
  pub each : (b : ℕ) → digit b free ≡ 1 → Dominators rows n s (2 ^ b) (get_or common b 0)

-- where there is one, it is one member of x that costs no more than m
abbrev pub Cheaper : List ℕ → ℕ → ℕ → Option ℕ → Type 0
Cheaper costs x m r = IfSome r (λ d. Member x d × (cost_of costs d ≤ cost_of costs m))

-- f is a part of free, and for each cover between s and s | free there is one with f for free that costs no more
pub record Thinned (rows costs : List ℕ) (s free f : ℕ) : Type 0 where
  pub part : Part f free
  pub swap : (t : ℕ) → CoverBetween rows s free t → (u : ℕ) × CoverBetween rows s f u × (cost_of costs u ≤ cost_of costs t)

-- the free part of each unmet row among the first n is apart from a, or in a
unfoldable pub Closed : List ℕ → ℕ → ℕ → ℕ → ℕ → Type 0
Closed rows n s free a = (k : ℕ) → k < n → bit_and (get_or rows k 0) s ≡ 0
    → (bit_and (bit_and (get_or rows k 0) free) a ≡ 0) ⊎ Part (bit_and (get_or rows k 0) free) a

-- r is a part of free, and no unmet row is partly in it
pub record Component (rows : List ℕ) (s free r : ℕ) : Type 0 where
  pub part : Part r free
  pub closed : Closed rows (length rows) s free r
