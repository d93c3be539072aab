-- What the contracts of the library call cite: what its answer stands for, and the steps on the way to it.
use Rattle.std.specs.Prelude.{ℕ, ◌^◌, ◌≤◌, ◌<◌, ◌≡◌, Bool, true, false, not, ◌&&◌, List, [], ◌∷◌, map, T, ltb, eqb, get_or, length, replicate, Result, Ok, Err}
use Rattle.model.specs.Base.{below, some, join}
use Rattle.model.specs.Table.{Table}
use Rattle.model.specs.Sets.{coverable, irredundants}
use Rattle.model.specs.Ranges.{fixed}
use Rattle.model.specs.Candidates.{terms_alone, usual, candidate_cost, covering}
use Rattle.model.specs.Commands as model
use Rattle.model.specs.Commands.{table_of}
use Rattle.model.specs.Refusals.{Refusal, refuse, first_of, size, bad_row}
use Rattle.model.specs.declared.reason.Reason.{Reason}
use Rattle.model.specs.declared.reason.Reason.TheVariants.{UnheldCell}
use Rattle.model.specs.Reasons.{number_of, told}
use Rattle.model.specs.Library as model_library
use Rattle.model.specs.Library.{unpack, call_basis, bad_vertex, refusals_of_word}
use Rattle.table.specs.Cubes.{Allowed}
use Rattle.lister.specs.Lister.{Paged}
use Rattle.answers.specs.Writers.{InFront}
use Rattle.problem.specs.declared.Problem.{Problem}
use Rattle.problem.specs.Problems.{Holds}
use Rattle.lister.specs.declared.cursor.PageFill.{PageFill}

-- ---- the answer

-- how many sets were put into the row
abbrev pub filled_of : Result PageFill Reason → ℕ
filled_of (Ok f) = f.count
filled_of (Err r) = 0

-- whether one stands above those
abbrev pub above_of : Result PageFill Reason → Bool
above_of (Ok f) = f.more
above_of (Err r) = false

-- the answer is the one that the definitions give: no two reasons have one number
abbrev pub Gives : model_library.Listed → Result PageFill Reason → Type 0
Gives l (Ok f) = (l.number ≡ 0) × (f ≡ record { count = l.filled; more = l.above })
Gives l (Err r) = l.number ≡ number_of r

-- the answer r is that one, it stands for what the definitions tell, and the row after the call is theirs
pub record Answers (l : model_library.Listed) (r : Result PageFill Reason) (new : List ℕ) : Type 0 where
  pub answer : Gives l r
  pub number : told r ≡ l.number
  pub filled : filled_of r ≡ l.filled
  pub above : above_of r ≡ l.above
  pub row : new ≡ l.row

-- ---- 6, 8 and 11

-- the table of a call
abbrev pub called_table : ℕ → ℕ → List ℕ → List ℕ → Table
called_table n m on dc = record { n = n; m = m; on = on; dc = dc }

-- 6 does not apply, with rows of these lengths
abbrev pub right_sizes : ℕ → ℕ → ℕ → ℕ → Bool
right_sizes n m on dc = size n && size m && (eqb on (2 ^ n) && eqb dc (2 ^ n))

-- 8 applies: a vertex of these rows has a bad one
abbrev pub some_bad : ℕ → List ℕ → List ℕ → Bool
some_bad m on dc = some (λ v. bad_row m (get_or on v 0) (get_or dc v 0)) (below (length on))

-- with so many terms
abbrev pub table_refusals : Table → ℕ → List Refusal
table_refusals p count =
    refuse 6 (not (right_sizes p.n p.m (length p.on) (length p.dc)))
    ∷ refuse 8 (some (bad_vertex p) (below (2 ^ p.n)))
    ∷ refuse 11 (ltb 64 count)
    ∷ []

-- none of them applies
pub record Admitted (p : Table) (count : ℕ) : Type 0 where
  pub inputs : p.n ≤ 8
  pub outputs : p.m ≤ 8
  pub on_size : length p.on ≡ 2 ^ p.n
  pub dc_size : length p.dc ≡ 2 ^ p.n
  pub good : (v : ℕ) → v < 2 ^ p.n → T (not (bad_vertex p v))
  pub few : count ≤ 64

-- r is the first that applies, 0 where none does
pub record TableRefusal (p : Table) (count r : ℕ) : Type 0 where
  pub first : r ≡ first_of (table_refusals p count)
  pub admitted : r ≡ 0 → Admitted p count

-- ---- the problem of a call

-- the problem that an L would find. The call sets no prices, and no answer depends on them
abbrev pub problem_of : Table → List ℕ → model.Problem
problem_of p words = record {
  place = model.queried;
  settings = record { n = p.n; m = p.m; prices = usual };
  rows = record { on = p.on; dc = p.dc; given = [] };
  cands = terms_alone (map unpack words);
  weights = map (candidate_cost usual) (terms_alone (map unpack words));
  ranges = map fixed (map (candidate_cost usual) (terms_alone (map unpack words)));
}

-- a row in front of zeros, in an array of 256
abbrev pub Padded : List ℕ → List ℕ → Type 0
Padded row r = InFront row (length row) (replicate 256 0) r

-- ---- 9 and 10

-- r is the refusal of one term, in every table that may comes from; 0 where it meets none
abbrev pub WordRefusal : List ℕ → ℕ → ℕ → ℕ → ℕ → Type 0
WordRefusal may n m w r = (p : Table) → Allowed p n may → p.m ≡ m → r ≡ first_of (refusals_of_word p w)

-- r is the first refusal of some terms, where the rows of the table that p holds are well formed; 0 where they meet none
abbrev pub WordsRefusal : Problem → List ℕ → ℕ → Type 0
WordsRefusal p words r =
    (q : model.Problem) → Holds p q → ((v : ℕ) → v < 2 ^ q.settings.n → T (not (bad_vertex (table_of q) v))) → r ≡ first_of (join (map (refusals_of_word (table_of q)) words))

-- ---- the sets

-- of a call whose problem p holds: b tells whether each wanted cell is held
abbrev pub TellsCovered : Problem → Bool → Type 0
TellsCovered p b = (t : Table) (words : List ℕ) → Holds p (problem_of t words) → b ≡ coverable (covering (call_basis t words))

-- 12 and the row as it was, or the page of that call
abbrev pub RowFilled : Problem → ℕ → List ℕ → List ℕ → Result PageFill Reason → Type 0
RowFilled p start old new (Ok f) =
    TellsCovered p true × ((t : Table) (words : List ℕ) → Holds p (problem_of t words) → Paged (irredundants (covering (call_basis t words))) start old new f)
RowFilled p start old new (Err r) = TellsCovered p false × (r ≡ UnheldCell) × (new ≡ old)
