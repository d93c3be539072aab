-- What the contracts on cubes cite.
use Rattle.std.specs.Prelude.{ℕ, ◌+◌, ◌^◌, ◌≤◌, ◌<◌, ◌≡◌, Bool, List, get_or}
use Rattle.std.specs.Int.Bits.{bit_or}
use Rattle.model.specs.declared.Term.{Term}
use Rattle.model.specs.Table.{Table, formed, holds_no_off}
use Rattle.model.specs.Primes.{drives}
use Rattle.model.specs.Sets.{Within}

-- may is on | dc of table p at each vertex; p has n inputs
pub record Allowed (p : Table) (n : ℕ) (may : List ℕ) : Type 0 where
  pub inputs : p.n ≡ n
  pub on_or_dc : (v : ℕ) → v < 2 ^ n → get_or may v 0 ≡ bit_or (get_or p.on v 0) (get_or p.dc v 0)
  pub outputs : (v : ℕ) → v < 2 ^ n → get_or may v 0 < 2 ^ p.m

-- on and dc have the bytes of table p, of n inputs, none above the outputs
pub record TableBytes (p : Table) (n : ℕ) (on dc : List ℕ) : Type 0 where
  pub inputs : p.n ≡ n
  pub on_bytes : (v : ℕ) → v < 2 ^ n → get_or on v 0 ≡ get_or p.on v 0
  pub dc_bytes : (v : ℕ) → v < 2 ^ n → get_or dc v 0 ≡ get_or p.dc v 0
  pub on_lt : (v : ℕ) → v < 2 ^ n → get_or on v 0 < 2 ^ p.m
  pub dc_lt : (v : ℕ) → v < 2 ^ n → get_or dc v 0 < 2 ^ p.m

-- may is right for every table that on and dc come from
abbrev pub MayOf : List ℕ → List ℕ → List ℕ → Type 0
MayOf on dc may = (p : Table) (n : ℕ) → n ≤ 8 → TableBytes p n on dc → Allowed p n may

-- care and value are a cube over n inputs
pub record Cube (n care value : ℕ) : Type 0 where
  pub inputs : n ≤ 8
  pub care_lt : care < 2 ^ n
  pub value_in : Within value care

-- free has the inputs of n that care leaves free: together they are all n, each once
abbrev pub Free : ℕ → ℕ → ℕ → Type 0
Free n care free = care + free + 1 ≡ 2 ^ n

-- r is what the cube may drive, by every table that may comes from
abbrev pub Drives : List ℕ → ℕ → ℕ → ℕ → ℕ → Type 0
Drives may n care value r = (p : Table) → Allowed p n may → r ≡ drives p care value

-- the same of a cube by its free inputs, whatever the inputs of the table are
abbrev pub DrivesFree : List ℕ → ℕ → ℕ → ℕ → Type 0
DrivesFree may free value r = (n care : ℕ) → Cube n care value → Free n care free → Drives may n care value r

-- r tells whether t is well-formed (refusal 9 does not apply) in a table of n inputs and m outputs
abbrev pub TellsFormed : ℕ → ℕ → Term → Bool → Type 0
TellsFormed n m t r = (p : Table) → p.n ≡ n → p.m ≡ m → r ≡ formed p t

-- r tells whether t holds no off cell (refusal 10 does not apply)
abbrev pub TellsNoOff : List ℕ → ℕ → Term → Bool → Type 0
TellsNoOff may n t r = (p : Table) → Allowed p n may → t.outputs < 2 ^ p.m → r ≡ holds_no_off p t
