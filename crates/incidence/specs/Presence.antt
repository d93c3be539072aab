-- What the contract on the cover test and its loop cite.
use Rattle.std.specs.Prelude.{ℕ, ◌^◌, ◌≤◌, ◌<◌, ◌≡◌, Bool, false, ◌&&◌, List, ◌++◌, map, get_or, length}
use Rattle.std.specs.Int.Bits.{bit_and}
use Rattle.model.specs.declared.Term.{Term}
use Rattle.model.specs.Base.{bit, below, filter}
use Rattle.model.specs.Table.{Table, Cell, cell, in_cube, holds, is_on}
use Rattle.model.specs.Candidates.{Candidate, basis, covering}
use Rattle.model.specs.Sets.{row_of}
use Rattle.model.specs.Presence.{values_at, sum_at, product_up_to, presence}
use Rattle.bits.specs.Bits.{Minus}
use Rattle.bits.specs.Lists.{parts}
use Rattle.incidence.specs.Stored.{Stored}
use Rattle.incidence.specs.Rows.{OnBytes, drives_output, AtOutputs}

-- place i of three columns at a point: the cube there contains the vertex, and the output is one of those there
abbrev pub place_at : List ℕ → List ℕ → List ℕ → ℕ → Cell → Bool
place_at care value outputs i x = in_cube (get_or care i 0) (get_or value i 0) x.v && bit x.j (get_or outputs i 0)

-- the columns have the summands of formula (3), "F_m(ξ_k) σ_m", at every point; behind the last candidate they are 0
pub record SummandsOf (ts : List Term) (s : ℕ) (care value outputs : List ℕ) : Type 0 where
  pub few : length ts ≤ 64
  pub summand : (i : ℕ) (x : Cell) → i < 64 → place_at care value outputs i x ≡ (get_or (values_at holds ts x) i false && bit i s)

-- r is their sum at point x
abbrev pub TellsSum : List ℕ → List ℕ → List ℕ → Cell → Bool → Type 0
TellsSum care value outputs x r = (ts : List Term) (s : ℕ) → SummandsOf ts s care value outputs → r ≡ sum_at holds ts s x

-- an array has at each output below m the members of s that drive it: where s are blocks, their summands at all points of the output
abbrev pub BlockSummands : List Term → ℕ → ℕ → List ℕ → Type 0
BlockSummands ts s m array = AtOutputs (λ j. bit_and (row_of drives_output ts j) s) m array

-- r is the presence function of a table and its candidates at this set
abbrev pub TellsPresence : List ℕ → ℕ → ℕ → List Term → ℕ → List ℕ → ℕ → Bool → Type 0
TellsPresence on n m ts blocks held set r = (p : Table) (cs : List Candidate) → OnBytes p n m on → Stored cs ts blocks held → r ≡ presence (covering (basis p cs)) set

-- the cells before cell (v, j), by vertex, then output; the points among them are the wanted ones
unfoldable pub cells_before : Table → ℕ → ℕ → List Cell
cells_before p v j = parts (λ u. map (cell u) (below p.m)) v ++ map (cell v) (below j)

abbrev pub points_before : Table → ℕ → ℕ → ℕ
points_before p v j = length (filter (is_on p) (cells_before p v j))

-- at cell (v, j) the product stands at formula (4) up to the points before it
pub record StandsAt (on : List ℕ) (n m : ℕ) (ts : List Term) (blocks : ℕ) (held : List ℕ) (set v j : ℕ) (product : Bool) : Type 0 where
  pub up_to : (p : Table) (cs : List Candidate) → OnBytes p n m on → Stored cs ts blocks held → product ≡ product_up_to (covering (basis p cs)) set (points_before p v j)

-- the parts of set s as they are found once for all points: rest has its terms
pub record InParts (ts : List Term) (blocks s m : ℕ) (care value outputs driving : List ℕ) : Type 0 where
  pub rest : ℕ
  pub terms : Minus s blocks rest
  pub columns : SummandsOf ts rest care value outputs
  pub blocks_driving : BlockSummands ts (bit_and s blocks) m driving

-- behind the cells (v, 0) to (v, j - 1) the product is r, where before them it was `product`; on has the byte of the vertex, held its blocks
pub record AtVertex (product : Bool) (on : ℕ) (care value outputs : List ℕ) (held : ℕ) (driving : List ℕ) (v m j : ℕ) (r : Bool) : Type 0 where
  pub up_to : (table : List ℕ) (n : ℕ) (ts : List Term) (blocks : ℕ) (sets : List ℕ) (set : ℕ) → InParts ts blocks set m care value outputs driving
      → v < 2 ^ n → get_or table v 0 ≡ on → get_or sets v 0 ≡ held → StandsAt table n m ts blocks sets set v 0 product → StandsAt table n m ts blocks sets set v j r
