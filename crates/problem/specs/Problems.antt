-- The engine's record of the problem so far, what a command makes of it, and which problem of the definitions it holds.
use Rattle.std.specs.Prelude.{ℕ, ◌+◌, ◌-◌, ◌^◌, ◌≤◌, ◌<◌, ◌≡◌, List, [], ◌∷◌, ◌++◌, map, ltb, eqb, get_or, length, take, drop, set, replicate}
use Rattle.std.specs.Int.Bits.{bit_or}
use Rattle.model.specs.Base.{some, without}
use Rattle.model.specs.declared.Term.{Term}
use Rattle.model.specs.declared.Block.{Block}
use Rattle.model.specs.declared.Prices.{Prices}
use Rattle.model.specs.Table.{term}
use Rattle.model.specs.Sets.{row_of}
use Rattle.model.specs.Ranges.{Range}
use Rattle.model.specs.Candidates.{Candidate, usual, term_cost, candidate_cost}
use Rattle.model.specs.Commands as model
use Rattle.model.specs.Commands.{Row}
use Rattle.model.specs.Invariants.{Valid}
use Rattle.bits.specs.Bits.{removed}
use Rattle.bits.specs.Lists.{Filled}
use Rattle.incidence.specs.Stored.{entry_of, is_block, BlocksAt, Stored}
use Rattle.primes.specs.declared.prime_list.PrimeList.{PrimeList}
use Rattle.problem.specs.declared.Settings.{Settings}
use Rattle.problem.specs.declared.TableRows.{TableRows}
use Rattle.problem.specs.declared.Candidates.{Candidates}
use Rattle.problem.specs.declared.Problem.{Problem}

-- ---- what it starts with

abbrev pub no_rows : TableRows
no_rows = record { on = replicate 256 0; dc = replicate 256 0; given = replicate 256 0 }

-- so many terms of an array, weights and ends of ranges beside them, and which of them are blocks
abbrev pub listed : List Term → List ℕ → List ℕ → List ℕ → ℕ → ℕ → Candidates
listed terms weights lows highs blocks count = record { terms = terms; weights = weights; lows = lows; highs = highs; blocks = blocks; count = count }

unfoldable pub started_with : ℕ → ℕ → ℕ → Problem
started_with n m place = record {
  place = place;
  settings = record { n = n; m = m; prices = usual };
  rows = no_rows;
  candidates = listed (replicate 64 (term 0 0 0)) (replicate 64 0) (replicate 64 0) (replicate 64 0) 0 0;
}

abbrev pub no_problem : Problem
no_problem = started_with 0 0 0

-- ---- what a command changes

abbrev pub at_place : ℕ → Problem → Problem
at_place place p = record { place = place; settings = p.settings; rows = p.rows; candidates = p.candidates }

abbrev pub with_prices : Prices → Problem → Problem
with_prices w p = record { place = p.place; settings = record { n = p.settings.n; m = p.settings.m; prices = w }; rows = p.rows; candidates = p.candidates }

abbrev pub with_rows : TableRows → Problem → Problem
with_rows rows p = record { place = p.place; settings = p.settings; rows = rows; candidates = p.candidates }

abbrev pub with_candidates : Candidates → Problem → Problem
with_candidates cs p = record { place = p.place; settings = p.settings; rows = p.rows; candidates = cs }

unfoldable pub row_put : TableRows → ℕ → ℕ → ℕ → TableRows
row_put rows v on dc = record { on = set rows.on v on; dc = set rows.dc v dc; given = set rows.given v 1 }

-- rows one by one
abbrev pub rows_put : TableRows → List Row → TableRows
rows_put rows [] = rows
rows_put rows (w ∷ ws) = rows_put (row_put rows w.vertex w.on w.dc) ws

-- one entry more, with its weight, which both ends of its range equal
unfoldable pub entry_put : Candidates → Term → ℕ → ℕ → Candidates
entry_put cs t weight blocks =
    let k = cs.count in
    listed (set cs.terms k t) (set cs.weights k weight) (set cs.lows k weight) (set cs.highs k weight) blocks (k + 1)

abbrev pub term_put : Prices → Candidates → Term → Candidates
term_put w cs t = entry_put cs t (term_cost w t) cs.blocks

-- the entry of a block has its outputs alone
abbrev pub block_put : Candidates → Block → Candidates
block_put cs b = entry_put cs (term 0 0 b.outputs) b.weight (bit_or cs.blocks (2 ^ cs.count))

-- the first count entries without entry k, which leaves one fewer; the rest of the array stays
unfoldable pub entries_without : {A : Type 0} → ℕ → ℕ → List A → List A
entries_without k count xs = without k (take count xs) ++ drop (count - 1) xs

abbrev pub candidate_taken : Candidates → ℕ → Candidates
candidate_taken cs k =
    let n = cs.count in
    listed (entries_without k n cs.terms) (entries_without k n cs.weights) (entries_without k n cs.lows) (entries_without k n cs.highs) (removed k cs.blocks) (n - 1)

-- another range for entry k
abbrev pub range_put : Candidates → ℕ → ℕ → ℕ → Candidates
range_put cs k low high = listed cs.terms cs.weights (set cs.lows k low) (set cs.highs k high) cs.blocks cs.count

-- terms alone, each range with both ends at the weight
abbrev pub alone : List Term → List ℕ → ℕ → Candidates
alone terms weights count = listed terms weights weights weights 0 count

-- r is p behind a P: the primes of the list are its candidates, and their weights stand beside them, at both ends of their ranges too
pub record WithPrimes (p : Problem) (list : PrimeList) (r : Problem) : Type 0 where
  pub is : r ≡ at_place model.queried (with_candidates (alone list.terms r.candidates.weights list.count) p)
  pub weights : Filled 64 (map (term_cost p.settings.prices) (take list.count list.terms)) r.candidates.weights list.count

-- ---- what it holds

-- what the code asks of a record
pub record Sized (p : Problem) : Type 0 where
  pub inputs : p.settings.n ≤ 8
  pub outputs : p.settings.m ≤ 8
  pub few : p.candidates.count ≤ 64

pub record HoldsSettings (s : Settings) (t : model.Settings) : Type 0 where
  pub inputs : s.n ≡ t.n
  pub outputs : s.m ≡ t.m
  pub prices : s.prices ≡ t.prices

-- the bytes of each vertex, and whether it has a row
pub record HoldsRows (r : TableRows) (t : model.TableRows) : Type 0 where
  pub on_size : length r.on ≡ 256
  pub dc_size : length r.dc ≡ 256
  pub given_size : length r.given ≡ 256
  pub on_bytes : (v : ℕ) → v < 256 → get_or r.on v 0 ≡ get_or t.on v 0
  pub dc_bytes : (v : ℕ) → v < 256 → get_or r.dc v 0 ≡ get_or t.dc v 0
  pub given : (v : ℕ) → v < 256 → ltb 0 (get_or r.given v 0) ≡ some (eqb v) t.given

-- the candidates ks, but for the vertices of blocks, and the weights and ranges beside them. K5: "each weight equals the cost rule for its term", at these
-- prices, and that of a block is its own
pub record HoldsCands (w : Prices) (cs : Candidates) (ks : List Candidate) (ws : List ℕ) (rs : List Range) : Type 0 where
  pub entries : Filled 64 (map entry_of ks) cs.terms cs.count
  pub weights : Filled 64 ws cs.weights cs.count
  pub lows : Filled 64 (map (λ r. r.low) rs) cs.lows cs.count
  pub highs : Filled 64 (map (λ r. r.high) rs) cs.highs cs.count
  pub blocks : cs.blocks ≡ row_of is_block ks 0
  pub weighed : ws ≡ map (candidate_cost w) ks

-- p holds the problem q of the definitions, but for the vertices of its blocks: those stand in sets lent beside p (`BlocksAt`)
pub record Holds (p : Problem) (q : model.Problem) : Type 0 where
  pub place : p.place ≡ q.place
  pub settings : HoldsSettings p.settings q.settings
  pub rows : HoldsRows p.rows q.rows
  pub cands : HoldsCands p.settings.prices p.candidates q.cands q.weights q.ranges

-- some candidates stand in p and in the sets lent beside it
pub record Stocked (p : Problem) (held : List ℕ) : Type 0 where
  pub cands : List Candidate
  pub stored : Stored cands (take p.candidates.count p.candidates.terms) p.candidates.blocks held

-- p holds a problem that a job can come to
pub record Reached (p : Problem) : Type 0 where
  pub problem : model.Problem
  pub holds : Holds p problem
  pub valid : Valid problem

-- and held has the vertices of its blocks
pub record ReachedWith (p : Problem) (held : List ℕ) : Type 0 where
  pub problem : model.Problem
  pub holds : Holds p problem
  pub blocks : BlocksAt problem.cands held
  pub valid : Valid problem
