-- Paper 02, K3: the job with the R commands. It answers as the job with B does.
use Rattle.std.specs.Prelude.{ℕ, ◌+◌, ◌-◌, ◌≤◌, min, ◌≡◌, Bool, cond, ◌&&◌, List, [], ◌∷◌, map, leb, ltb, length, take}
use Rattle.model.specs.Base.{filter, join, Bytes}
use Rattle.model.specs.Commands.{Kind, form_of, is, width, Problem, Row, rows_of_b}
use Rattle.model.specs.Answers.{Answer}
use Rattle.model.specs.Rules.{engine}
use Rattle.model.specs.Job.{Run, run, written}
use Rattle.model.specs.Calls.{Call, Met, number_of, offset_of, written_of, replies}
use Rattle.model.specs.Exchanges.{Exchange, answers, read_in, pages_of}
use Rattle.model.specs.Standing.{Command, command_of}
use Rattle.model.specs.Pieces.{Piece, piece_kind, piece_bytes, pieces}

-- the R command of a row. No byte is "a vertex above 255": 255 stands for it. With 8 inputs vertex 255 has a row by then, of the same B, so
-- that R meets 7 too; with fewer an earlier row meets 7
abbrev pub row_command : Row → List ℕ
row_command w = (form_of Kind.R).code ∷ min w.vertex 255 ∷ w.on ∷ w.dc ∷ []

-- a B with all its operands as "eight R commands for rising vertices"; all else as it is
abbrev pub is_whole_b : Piece → Bool
is_whole_b c = is (piece_kind c) Kind.B && leb (width Kind.B) (length c.operands)

unfoldable pub as_rows : Piece → List ℕ
as_rows c = cond (is_whole_b c) (join (map row_command (rows_of_b c.operands))) (piece_bytes c)

-- "the job with the R commands"
unfoldable pub expanded : List ℕ → List ℕ
expanded job = join (map as_rows (pieces job))

-- the offset in the job of the command from which byte o of the expanded job came; from its end on, the job's length
abbrev pub origin_in : List Piece → ℕ → ℕ
origin_in [] o = 0
origin_in (c ∷ cs) o =
    let later = length (piece_bytes c) + origin_in cs (o - length (as_rows c)) in
    cond (ltb o (length (as_rows c))) 0 later

unfoldable pub origin : List ℕ → ℕ → ℕ
origin job o = origin_in (pieces job) o

-- the commands with an answer that a job reads, a refused one too: each with its operands and the problem that it finds
abbrev pub asked : Run → List (Command × Problem)
asked r = map (λ x. (command_of x, x.problem)) (filter (answers engine) r.contexts)

-- "equals eight R commands": the same number, the same bytes, the same commands asked of the same problems; "the first refusal that they
-- would meet is given at B's offset"
pub record SameRun (job : List ℕ) (room : ℕ) : Type 0 where
  pub number : (run job room).number ≡ (run (expanded job) room).number
  pub offset : (run job room).offset ≡ origin job (run (expanded job) room).offset
  pub bytes : written (run job room) ≡ written (run (expanded job) room)
  pub asked : asked (run job room) ≡ asked (run (expanded job) room)

-- of every job, damaged ones too, "where that job isn't too long under 1" (laws `same_run`, `same_unless_1`)
abbrev pub EightRows : Type 0
EightRows = (job : List ℕ) (room : ℕ) → Bytes job → length (expanded job) ≤ 32768 → SameRun job room

-- a command with its reply, as a caller reads them
abbrev pub told : Exchange → Command × Problem × Answer
told e = (command_of e.context, e.context.problem, e.reply)

-- what a caller reads from two calls, the second with the R commands: "pages and cheapest are those of the job with the R commands"
pub record SameCall (c d : Call) : Type 0 where
  pub number : number_of c ≡ number_of d
  pub offset : offset_of c ≡ origin c.job (offset_of d)
  pub written : written_of c ≡ written_of d
  pub bytes : take (written_of c) c.after ≡ take (written_of d) d.after
  pub replies : replies c ≡ replies d
  pub told : map told (read_in engine c) ≡ map told (read_in engine d)
  pub pages : pages_of Kind.L (read_in engine c) ≡ pages_of Kind.L (read_in engine d)
  -- where the buffers begin alike they end alike
  pub after : d.before ≡ c.before → c.after ≡ d.after

-- in buffers of the same length (law `same_call`)
abbrev pub EightRowsRead : Type 0
EightRowsRead = (c d : Call) → Met c → Met d → d.job ≡ expanded c.job → length d.before ≡ length c.before → Bytes c.job → length d.job ≤ 32768 → SameCall c d
