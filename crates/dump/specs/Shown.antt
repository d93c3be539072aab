-- What the contracts of the program cite: the record that it prints, and the block of a line.
use Rattle.std.specs.Prelude.{ℕ, ◌*◌, ◌<◌, ◌≡◌, Bool, List, length, get_or}
use Rattle.model.specs.Base.{bit, from}
use Rattle.model.specs.Table.{term}
use Rattle.model.specs.declared.Block.{Block}
use Rattle.model.specs.Blocks.{vertex_bit}
use Rattle.model.specs.Sets.{row_of}
use Rattle.model.specs.Ranges.{Range, fixed}
use Rattle.model.specs.Candidates.{Candidate}
use Rattle.model.specs.Commands.{Problem}
use Rattle.model.specs.Job.{run}
use Rattle.model.specs.Records.{last_record}

-- the record that a job leaves, with the room that the program gives
abbrev pub left : List ℕ → Problem
left job = last_record (run job 32768)

-- candidate i
abbrev pub candidate_at : List Candidate → ℕ → Candidate
candidate_at ks i = get_or ks i (Candidate.term (term 0 0 0))

-- its range
abbrev pub range_at : List Range → ℕ → Range
range_at rs i = get_or rs i (fixed 0)

-- block i is in the set of vertex v
abbrev pub in_set : List ℕ → ℕ → ℕ → Bool
in_set held v i = bit i (get_or held v 0)

-- byte j of the vertices of block i, "low bit first"
abbrev pub vertex_byte : List ℕ → ℕ → ℕ → ℕ
vertex_byte held i j = row_of (in_set held) (from (8 * j) 8) i

-- the first k of 32 bytes are its own
pub record Vertices (held : List ℕ) (i k : ℕ) (bytes : List ℕ) : Type 0 where
  pub size : length bytes ≡ 32
  pub each : (j : ℕ) → j < k → get_or bytes j 0 ≡ vertex_byte held i j

-- b shows candidate i of ks, which is a block: its outputs, its weight and each of its vertices
pub record ShownAs (ks : List Candidate) (i : ℕ) (b : Block) : Type 0 where
  pub block : Block
  pub there : candidate_at ks i ≡ Candidate.block block
  pub outputs : b.outputs ≡ block.outputs
  pub vertices : (v : ℕ) → v < 256 → vertex_bit b v ≡ vertex_bit block v
  pub weight : b.weight ≡ block.weight
