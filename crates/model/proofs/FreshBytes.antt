-- K2: a job of bytes has fresh jobs of bytes.
use Prim.Native.Nat.{ℕ, suc, ◌<◌}
use native.Mathlib.Omega.{arith}
use mathlib.Core.Path.{subst⁻¹}
use mathlib.Core.Bool.{Bool}
use mathlib.Core.List.{List, [], ◌∷◌, ◌++◌, map}
use lib.ListN.{get_or}
use Rattle.model.specs.Base.{below, filter, join, All, Bytes}
use Rattle.model.specs.Primes.{primes}
use Rattle.model.specs.Candidates.{Candidate}
use Rattle.model.specs.Commands.{low, Kind, kind_of, width, Problem, table_of, Context, operand_number, operand_term, operand_block, Row, rows_of_b, add_row, add_rows, problem_after}
use Rattle.model.specs.Rules.{engine}
use Rattle.model.specs.Job.{run}
use Rattle.model.specs.Invariants.{SmallCandidate}
use Rattle.model.specs.Standing.{Command, command_of, command_bytes, Behind, sets_up, adding_command, added_again, fresh_job}
use Rattle.model.proofs.Lists.{all_append, all_filter, all_take, all_drop, all_without, all_of, all_to, all_join, all_map}
use Rattle.model.proofs.Codes.{code_byte}
use Rattle.model.proofs.Runs.{run_ind}
use Rattle.model.proofs.Sound.{low_bytes, get_d_byte, engine_lawful}
use Rattle.model.proofs.Behind.{all_here, all_before}
use Rattle.model.proofs.Replay.{ending}
use Rattle.model.proofs.FreshRows.{rows_of}
use Rattle.model.proofs.FreshQuery.{tail_of}
use Rattle.model.proofs.Fresh.{pieces, fair}

abbrev byte : ℕ → Type 0
byte b = b < 256

-- ---- the blocks of a job of bytes

-- of a block the vertices; of a term `SmallCandidate` says it
abbrev InBytes : Candidate → Type 0
InBytes (Candidate.term t) = Unit {0}
InBytes (Candidate.block b) = Bytes b.vertices

rows_cands : (ws : List Row) (q : Problem) → All InBytes q.cands → All InBytes (add_rows q ws).cands
rows_cands [] q a = a
rows_cands (w ∷ ws) q a = rows_cands ws (add_row q w) a

cands_after : (x : Context) (k : Kind) → Bytes x.rest → All InBytes x.problem.cands → All InBytes (problem_after x k).cands
unfolding problem_after
cands_after x Kind.I y a = tt
cands_after x Kind.W y a = a
cands_after x Kind.R y a = a
cands_after x Kind.B y a = rows_cands (rows_of_b x.rest) x.problem a
cands_after x Kind.T y a = all_append InBytes x.problem.cands (Candidate.term (operand_term x) ∷ []) a (tt, tt)
cands_after x Kind.F y a =
    let vertices = all_map byte (λ i. get_or x.rest (suc i) 0) (below 32) (all_of (λ (i : ℕ). get_or x.rest (suc i) 0 < 256) (below 32) (λ i m. get_d_byte x.rest (suc i) y)) in
    all_append InBytes x.problem.cands (Candidate.block (operand_block x) ∷ []) a (vertices, tt)
cands_after x Kind.P y a = let ts = primes (table_of x.problem) in all_map InBytes Candidate.term ts (all_of (λ t. Unit {0}) ts (λ t m. tt))
cands_after x Kind.A y a = all_append InBytes x.problem.cands (Candidate.term (operand_term x) ∷ []) a (tt, tt)
cands_after x Kind.D y a = all_without InBytes (operand_number x) x.problem.cands a
cands_after x Kind.G y a = a
cands_after x Kind.L y a = a
cands_after x Kind.«V» y a = a
cands_after x Kind.C y a = a
cands_after x Kind.N y a = a
cands_after x Kind.E y a = a
cands_after x Kind.none y a = a

-- what each command of a job of bytes finds: bytes behind it, and blocks of bytes
record FindsBytes (x : Context) : Type 0 where
  rest : Bytes x.rest
  cands : All InBytes x.problem.cands

finds_bytes : (job : List ℕ) (room : ℕ) → Bytes job → All FindsBytes (run job room).contexts
finds_bytes job room = run_ind engine engine_lawful (λ q bs free at r. Bytes bs → All InBytes q.cands → All FindsBytes r.contexts)
    (λ q free at y a. tt) (λ q b bs free at n y a. (record { rest = y.1; cands = a }, tt)) (λ q b bs free at h z e y a. (record { rest = y.1; cands = a }, tt))
    (λ q b bs free at h z e r f y a. (
      record { rest = y.1; cands = a },
      f (all_drop byte (width (kind_of b)) bs y.1) (cands_after (record { problem = q; kind = kind_of b; rest = bs; free = free }) (kind_of b) y.1 a),
    ))
    (λ r. Bytes job → All FindsBytes r.contexts) job room (λ l y. tt) (λ l m r f y. f y tt)

-- ---- commands

abbrev ByteCommand : Command → Type 0
ByteCommand c = Bytes (command_bytes c)

command_bytes_lem : (x : Context) → FindsBytes x → ByteCommand (command_of x)
command_bytes_lem x y = (code_byte x.kind, all_take byte (width x.kind) x.rest y.rest)

commands_bytes : (cs : List Command) → All ByteCommand cs → Bytes (join (map command_bytes cs))
commands_bytes cs a = all_join byte (map command_bytes cs) (all_map Bytes command_bytes cs a)

adding_bytes : (c : Candidate) → SmallCandidate c → InBytes c → ByteCommand (adding_command c)
adding_bytes (Candidate.term t) s y = (omega arith, (s.0, (s.1, (s.2, tt))))
adding_bytes (Candidate.block b) s y = (omega arith, (s.outputs, all_append byte b.vertices (low 2 b.weight) y (low_bytes 2 b.weight)))

added_bytes : (cs : List Candidate) → All SmallCandidate cs → All InBytes cs → Bytes (added_again cs)
added_bytes [] s y = tt
added_bytes (c ∷ cs) s y = all_append byte (command_bytes (adding_command c)) (added_again cs) (adding_bytes c s.0 y.0) (added_bytes cs s.1 y.1)

pub fresh_bytes : (job : List ℕ) (room : ℕ) → Bytes job → (before : List Context) (x : Context) → Behind (run job room) before x → Bytes (fresh_job (map command_of before) (command_of x))
fresh_bytes job room y before x g =
    let rows : Command → Bool = λ c. sets_up c.kind in
    let cs = x.problem.cands in
    let here = all_here FindsBytes (run job room) before x g (finds_bytes job room y) in
    subst⁻¹ Bytes (pieces job room before x g)
    (all_append byte (rows_of before) (tail_of x) (commands_bytes (filter rows (map command_of before)) (all_filter ByteCommand rows (map command_of before) given))
    (all_append byte (added_again cs) (command_bytes (command_of x) ++ ending) (added_bytes cs (fair job room before x g).sound.small here.cands)
    (all_append byte (command_bytes (command_of x)) ending (command_bytes_lem x here) (omega arith, tt))))
  where
    given : All ByteCommand (map command_of before)
    given = all_map ByteCommand command_of before (all_to FindsBytes (λ z. ByteCommand (command_of z)) command_bytes_lem before (all_before FindsBytes (run job room) before x g (finds_bytes job room y)))
