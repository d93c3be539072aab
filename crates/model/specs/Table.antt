-- Paper 01, "Table, cell, term".
use Rattle.std.specs.Prelude.{ℕ, ◌^◌, Bool, not, ◌&&◌, ◌||◌, List, map, ltb, eqb, get_or}
use Rattle.std.specs.Int.Bits.{bit_and}
pub use Rattle.model.specs.declared.Term.{Term}
use Rattle.model.specs.Base.{bit, below, every, some, filter, join}

-- "n inputs and m outputs"; "a row has two bytes, on and dc": those of vertex v stand at v, 0 and 0 for "a vertex with no row"
pub record Table : Type 0 where
  pub n : ℕ
  pub m : ℕ
  pub on : List ℕ
  pub dc : List ℕ

-- "cell (v, j)": vertex v, output j
pub record Cell : Type 0 where
  pub v : ℕ
  pub j : ℕ

abbrev pub cell : ℕ → ℕ → Cell
cell v j = record { v = v; j = j }

-- "wanted if on has bit j": an on cell
unfoldable pub is_on : Table → Cell → Bool
is_on p c = bit c.j (get_or p.on c.v 0)

-- "free if dc has it": a don't-care cell
unfoldable pub is_dc : Table → Cell → Bool
is_dc p c = bit c.j (get_or p.dc c.v 0)

-- "else off"
unfoldable pub is_off : Table → Cell → Bool
is_off p c = not (is_on p c || is_dc p c)

-- every cell: "vertex v is 0 to 2^n − 1", and its outputs
unfoldable pub cells : Table → List Cell
cells p = join (map (λ v. map (cell v) (below p.m)) (below (2 ^ p.n)))

-- the wanted cells, by vertex, then output
unfoldable pub on_cells : Table → List Cell
on_cells p = filter (is_on p) (cells p)

-- "a term has three bytes: care, value, outputs"
abbrev pub term : ℕ → ℕ → ℕ → Term
term care value outputs = record { care = care; value = value; outputs = outputs }

-- "v and value agree on each bit of care": vertex v is in the cube, "care with value"
abbrev pub in_cube : ℕ → ℕ → ℕ → Bool
in_cube care value v = eqb (bit_and v care) (bit_and value care)

-- "it holds cell (v, j) when v and value agree on each bit of care and outputs has bit j"
unfoldable pub holds : Term → Cell → Bool
holds t c = in_cube t.care t.value c.v && bit c.j t.outputs

-- "care is below 2^n, value has no bit outside care, outputs are not 0 and below 2^m": refusal 9 does not apply
unfoldable pub formed : Table → Term → Bool
formed p t = ltb t.care (2 ^ p.n) && (eqb (bit_and t.value t.care) t.value && (ltb 0 t.outputs && ltb t.outputs (2 ^ p.m)))

-- "it holds no off cell": refusal 10 does not apply
unfoldable pub holds_no_off : Table → Term → Bool
holds_no_off p t = every (λ c. not (holds t c && is_off p c)) (cells p)

-- "a term is legal"
unfoldable pub legal : Table → Term → Bool
legal p t = formed p t && holds_no_off p t

-- "a list of terms represents the table when each is legal and each wanted cell is held by one of them"
unfoldable pub represents : Table → List Term → Bool
represents p ts = every (legal p) ts && every (λ c. some (λ t. holds t c) ts) (on_cells p)
