-- What every problem of a job keeps (laws `after_sound`, `valid`). Nothing here is from the paper: the engine's contracts cite it.
use Rattle.std.specs.Prelude.{ℕ, ◌^◌, ◌≤◌, ◌<◌, ◌≡◌, not, [], T, length}
use Rattle.model.specs.Base.{All}
use Rattle.model.specs.Table.{Term}
use Rattle.model.specs.Blocks.{Block}
use Rattle.model.specs.Ranges.{Ranged}
use Rattle.model.specs.Candidates.{Candidate, candidate_legal, Prices}
use Rattle.model.specs.Commands.{begun, among_rows, Problem, table_of, prices_of}
use Rattle.model.specs.Refusals.{size}
use Rattle.model.specs.Library.{bad_vertex}

-- each number of the term is a byte
abbrev pub Small : Term → Type 0
Small t = (t.care < 256) × (t.value < 256) × (t.outputs < 256)

-- of a block: its outputs are a byte, it has its 32 bytes, and its weight is at most 850
pub record SmallBlock (b : Block) : Type 0 where
  pub outputs : b.outputs < 256
  pub vertices : length b.vertices ≡ 32
  pub weight : b.weight ≤ 850

abbrev pub SmallCandidate : Candidate → Type 0
SmallCandidate (Candidate.term t) = Small t
SmallCandidate (Candidate.block b) = SmallBlock b

-- no price is above 50
pub record Moderate (w : Prices) : Type 0 where
  pub term : w.term ≤ 50
  pub literal : w.literal ≤ 50
  pub connection : w.connection ≤ 50

-- the sizes
pub record Sound (q : Problem) : Type 0 where
  pub inputs : q.settings.n ≤ 8
  pub outputs : q.settings.m ≤ 8
  pub prices : Moderate (prices_of q)
  pub few : length q.cands ≤ 64
  pub small : All SmallCandidate q.cands
  pub each_range : length q.ranges ≡ length q.cands
  pub ranged : Ranged q.ranges
  pub most : All (λ r. r.high ≤ 850) q.ranges

-- from I on there is a row for each vertex; rows are well formed, there is no candidate while rows may come, and candidates are legal
pub record Valid (q : Problem) : Type 0 where
  pub sound : Sound q
  pub sizes : begun ≤ q.place → T (size q.settings.n) × T (size q.settings.m)
  pub rows : begun ≤ q.place → (length q.rows.on ≡ 2 ^ q.settings.n) × (length q.rows.dc ≡ 2 ^ q.settings.n)
  pub good : (v : ℕ) → T (not (bad_vertex (table_of q) v))
  pub early : q.place ≤ among_rows → q.cands ≡ []
  pub legal : All (λ c. T (candidate_legal (table_of q) c)) q.cands
