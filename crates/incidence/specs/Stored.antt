-- How the candidates, terms and blocks, stand in arrays: an array of terms, the set of the blocks, and for each vertex the set of the blocks that
-- have it.
use Rattle.std.specs.Prelude.{ℕ, ◌<◌, ◌≡◌, Bool, true, false, List, [], ◌∷◌, ◌++◌, map, length, get_or}
use Rattle.model.specs.declared.Term.{Term}
use Rattle.model.specs.declared.Block.{Block}
use Rattle.model.specs.Base.{without}
use Rattle.model.specs.Table.{term}
use Rattle.model.specs.Blocks.{vertex_bit}
use Rattle.model.specs.Candidates.{Candidate}
use Rattle.model.specs.Sets.{row_of}

-- a candidate in an array of terms: the term, of a block its outputs alone
abbrev pub entry_of : Candidate → Term
entry_of (Candidate.term t) = t
entry_of (Candidate.block b) = term 0 0 b.outputs

-- it is a block, whatever the number (`row_of` gives one)
abbrev pub is_block : Candidate → ℕ → Bool
is_block (Candidate.term t) v = false
is_block (Candidate.block b) v = true

-- it is a block and has vertex v
abbrev pub block_at : Candidate → ℕ → Bool
block_at (Candidate.term t) v = false
block_at (Candidate.block b) v = vertex_bit b v

-- held has at each of 256 vertices the set of the blocks that have it
pub record BlocksAt (cs : List Candidate) (held : List ℕ) : Type 0 where
  pub size : length held ≡ 256
  pub sets : (v : ℕ) → v < 256 → get_or held v 0 ≡ row_of block_at cs v

-- terms, blocks and held are those of the candidates cs
pub record Stored (cs : List Candidate) (terms : List Term) (blocks : ℕ) (held : List ℕ) : Type 0 where
  pub entries : terms ≡ map entry_of cs
  pub which : blocks ≡ row_of is_block cs 0
  pub at : BlocksAt cs held

-- block b comes as candidate k, behind the others
abbrev pub Adds : ℕ → Block → List ℕ → List ℕ → Type 0
Adds k b old new = (cs : List Candidate) → length cs ≡ k → BlocksAt cs old → BlocksAt (cs ++ (Candidate.block b ∷ [])) new

-- candidate k, a term or a block, goes: those above it move down by one
abbrev pub Removes : ℕ → List ℕ → List ℕ → Type 0
Removes k old new = (cs : List Candidate) → k < length cs → BlocksAt cs old → BlocksAt (without k cs) new

-- where these are the blocks
abbrev pub TakesOut : ℕ → ℕ → List ℕ → List ℕ → Type 0
TakesOut blocks k old new = (cs : List Candidate) → k < length cs → blocks ≡ row_of is_block cs 0 → BlocksAt cs old → BlocksAt (without k cs) new
