-- What the contracts on the covering matrix cite.
use Rattle.std.specs.Prelude.{ℕ, ◌≤◌, ◌≡◌, Bool, List, Result, map, length, take, replicate}
use denote.Ref.{MutBor}
use Rattle.model.specs.Table.{on_cells}
use Rattle.model.specs.Sets.{coverable, irredundants, cheapest, row_of, of_rows}
use Rattle.model.specs.Presence.{presence, all_of}
use Rattle.model.specs.Candidates.{candidate_holds, Basis, weigh, covering}
use Rattle.model.specs.Commands as model
use Rattle.model.specs.Commands.{table_of, basis_of}
use Rattle.incidence.specs.Stored.{BlocksAt}
use Rattle.product.specs.declared.TooMany.{TooMany}
use Rattle.product.specs.Outcome.{RowsBelow, MultipliedTo}
use Rattle.problem.specs.declared.Problem.{Problem}
use Rattle.problem.specs.declared.matrix.Matrix.{Matrix}
use Rattle.problem.specs.Problems.{Stocked, Holds}

-- the rows have the covers and the cheapest of a table and its candidates
pub record RowsOf (b : Basis) (rows : List ℕ) : Type 0 where
  pub listed : irredundants (covering b) ≡ irredundants (of_rows (replicate (length b.cands) 0) rows)
  pub cheapest : cheapest (covering b) ≡ cheapest (of_rows (map (weigh b) b.cands) rows)
  pub covered : coverable (covering b) ≡ coverable (of_rows (map (weigh b) b.cands) rows)

-- the covering matrix: its rows, and whether each on cell is held by a candidate
pub record MatrixOf (b : Basis) (rows : List ℕ) (covered : Bool) : Type 0 where
  pub rows_of : RowsOf b rows
  pub told : covered ≡ coverable (covering b)

-- r is the presence function at the set of all candidates
abbrev pub PresenceOfAll : Problem → List ℕ → Bool → Type 0
PresenceOfAll p held r = (q : model.Problem) → Holds p q → BlocksAt q.cands held → r ≡ presence (covering (basis_of q)) (all_of (covering (basis_of q)))

-- the first r entries are the rows of the wanted cells, "by vertex, then output", of the problem that p and held hold
pub record CellRows (p : Problem) (held out : List ℕ) (r : ℕ) : Type 0 where
  pub size : length out ≡ 2048
  pub within : r ≤ 2048
  pub small : Stocked p held → RowsBelow p.candidates.count (take r out)
  pub rows : (q : model.Problem) → Holds p q → BlocksAt q.cands held → take r out ≡ map (row_of candidate_holds q.cands) (on_cells (table_of q))

-- the first r entries are rows with the covers of the problem that p and held hold
pub record PutsRows (p : Problem) (held out : List ℕ) (r : ℕ) : Type 0 where
  pub size : length out ≡ 2048
  pub within : r ≤ 2048
  pub rows : (q : model.Problem) → Holds p q → BlocksAt q.cands held → RowsOf (basis_of q) (take r out)

-- m is its covering matrix, with the rows in front of `out`
pub record Prepares (p : Problem) (held out : List ℕ) (m : Matrix) : Type 0 where
  pub size : length out ≡ 2048
  pub within : m.count ≤ 2048
  pub matrix : (q : model.Problem) → Holds p q → BlocksAt q.cands held → MatrixOf (basis_of q) (take m.count out) m.covered

-- what the multiplication of the problem that p and held hold tells and hands back
abbrev pub Multiplies : Problem → List ℕ → MutBor (List ℕ) → MutBor (List ℕ) → MutBor (List ℕ) → Result ℕ TooMany → Type 0
Multiplies p held first second row outcome = (q : model.Problem) → Holds p q → BlocksAt q.cands held → MultipliedTo (covering (basis_of q)) first second row outcome
