-- What the contracts on the rows of the covering matrix cite.
use Rattle.std.specs.Prelude.{ℕ, ◌+◌, ◌^◌, ◌≤◌, ◌<◌, ◌≡◌, ◌⊎◌, Bool, cond, List, [], ◌∷◌, ◌++◌, map, length, drop, get_or}
use Rattle.std.specs.Int.Bits.{bit_and}
use Rattle.model.specs.declared.Term.{Term}
use Rattle.model.specs.Base.{bit}
use Rattle.model.specs.Table.{Table, in_cube, on_cells}
use Rattle.model.specs.Blocks.{vertex_bit}
use Rattle.model.specs.Candidates.{Candidate, candidate_holds}
use Rattle.model.specs.Sets.{row_of}
use Rattle.bits.specs.Lists.{parts}
use Rattle.incidence.specs.Stored.{Stored}

-- on has the on bytes of table p, of n inputs and m outputs
pub record OnBytes (p : Table) (n m : ℕ) (on : List ℕ) : Type 0 where
  pub inputs : p.n ≡ n
  pub outputs : p.m ≡ m
  pub bytes : (v : ℕ) → v < 2 ^ n → get_or on v 0 ≡ get_or p.on v 0

-- ---- sets of candidates

-- the cube of entry t contains vertex v, and t drives output j
abbrev pub has_vertex : Term → ℕ → Bool
has_vertex t v = in_cube t.care t.value v

abbrev pub drives_output : Term → ℕ → Bool
drives_output t j = bit j t.outputs

-- s is the set of the candidates that pass a test: `told t b` says that b may be what the test tells of t
pub record Passing (told : Term → Bool → Type 0) (ts : List Term) (s : ℕ) : Type 0 where
  pub same : (f : Term → ℕ → Bool) (x : ℕ) → ((k : ℕ) (d : Term) (b : Bool) → k < length ts → told (get_or ts k d) b → b ≡ f (get_or ts k d) x) → s ≡ row_of f ts x

-- a candidate has cells at vertex v: where it drives output j too, it holds the cell (law `cell_row_lem`)
abbrev pub at_vertex : Candidate → ℕ → Bool
at_vertex (Candidate.term t) v = has_vertex t v
at_vertex (Candidate.block b) v = vertex_bit b v

-- r serves as the set of the candidates at vertex v, where on is the byte of v: a vertex without an on cell asks for none
abbrev pub CandidatesFor : ℕ → List Term → ℕ → List ℕ → ℕ → ℕ → Type 0
CandidatesFor on ts blocks held v r = (on ≡ 0) ⊎ ((cs : List Candidate) → Stored cs ts blocks held → r ≡ row_of at_vertex cs v)

-- an array of 8 has at each output below m the set that f says
pub record AtOutputs (f : ℕ → ℕ) (m : ℕ) (array : List ℕ) : Type 0 where
  pub size : length array ≡ 8
  pub sets : (j : ℕ) → j < m → get_or array j 0 ≡ f j

-- the candidates that drive it
abbrev pub Driving : List Term → ℕ → List ℕ → Type 0
Driving ts m array = AtOutputs (row_of drives_output ts) m array

-- ---- rows into a buffer

-- the first r entries of new are xs, the rest is as in old; r is at most the number of cells of the largest table
pub record Put (xs old new : List ℕ) (r : ℕ) : Type 0 where
  pub counted : r ≡ length xs
  pub most : r ≤ 2048
  pub same : new ≡ xs ++ drop (length xs) old

-- buffer a with at entries becomes b with r: the new ones are xs, at most k
pub record Appends (a : List ℕ) (at : ℕ) (xs : List ℕ) (k : ℕ) (b : List ℕ) (r : ℕ) : Type 0 where
  pub size : length b ≡ length a
  pub within : r ≤ at + k
  pub put : (ys old : List ℕ) → Put ys old a at → Put (ys ++ xs) old b r

-- the row of one cell, where the cell is on; on is the byte of its vertex
unfoldable pub cell_row : ℕ → ℕ → ℕ → List ℕ
cell_row on row j = cond (bit j on) (row ∷ []) []

-- the rows of one vertex: here has the candidates at it
unfoldable pub vertex_rows : ℕ → ℕ → List ℕ → ℕ → List ℕ
vertex_rows on here driving m = parts (λ j. cell_row on (bit_and here (get_or driving j 0)) j) m

-- the rows of all on cells, by vertex, then output; of any arrays no more than the cells of the largest table
pub record AllRows (on : List ℕ) (n m : ℕ) (ts : List Term) (blocks : ℕ) (held old new : List ℕ) (r : ℕ) : Type 0 where
  pub most : r ≤ 2048
  pub put : (p : Table) (cs : List Candidate) → OnBytes p n m on → Stored cs ts blocks held → Put (map (row_of candidate_holds cs) (on_cells p)) old new r
