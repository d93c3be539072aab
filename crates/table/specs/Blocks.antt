-- What the contracts on blocks cite.
use Rattle.std.specs.Prelude.{ℕ, ◌/◌, ◌%◌, ◌^◌, ◌<◌, ◌≡◌, Bool, List, eqb, get_or}
use Rattle.std.specs.Int.Bits.{bit_and}
use Rattle.model.specs.declared.Block.{Block}
use Rattle.model.specs.Base.{bit, implies}
use Rattle.model.specs.Table.{Table}
use Rattle.model.specs.Blocks.{block_formed, block_holds_no_off}
use Rattle.table.specs.Cubes.{Allowed}

-- r tells whether b is well-formed (refusal 18 does not apply) in a table of n inputs and m outputs
abbrev pub TellsBlockFormed : ℕ → ℕ → Block → Bool → Type 0
TellsBlockFormed n m b r = (p : Table) → p.n ≡ n → p.m ≡ m → r ≡ block_formed p b

-- `vertex_bit`, by the 32 bytes alone
abbrev pub vertex_in : List ℕ → ℕ → Bool
vertex_in vertices v = bit (v % 8) (get_or vertices (v / 8) 0)

-- where v is one of the vertices, each of the outputs is in may
unfoldable pub no_off_at : ℕ → ℕ → List ℕ → ℕ → Bool
no_off_at may outputs vertices v = implies (vertex_in vertices v) (eqb (bit_and outputs may) outputs)

-- r tells whether b holds no off cell (refusal 10 does not apply)
abbrev pub TellsBlockNoOff : List ℕ → ℕ → Block → Bool → Type 0
TellsBlockNoOff may n b r = (p : Table) → Allowed p n may → b.outputs < 2 ^ p.m → r ≡ block_holds_no_off p b
