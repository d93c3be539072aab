-- A command read again, with all its operands, in another problem and with other bytes behind it: what it then finds, and the run from
-- there on.
use Prim.Native.Nat.{ℕ, zero, suc, ◌+◌, ◌-◌, ◌≤◌, ◌<◌}
use native.Mathlib.Omega.{arith}
use mathlib.Core.Path.{◌≡◌, refl, sym, ap, ◌∙◌, subst⁻¹}
use mathlib.Core.Bool.{not}
use mathlib.Core.List.{List, [], ◌∷◌, ◌++◌}
use lib.Dec.{T}
use lib.Seq.{length-take-le, drop_at, get_or-take}
use lib.ListN.{get_or, length, take, length-append}
use Rattle.model.specs.Commands.{begun, queried, Kind, form_of, is, kind_of, width, Problem, Context, operand, problem_after}
use Rattle.model.specs.Answers.{Answer, bytes_of, has_bytes, answer_for, answer}
use Rattle.model.specs.Refusals.{refusals_of}
use Rattle.model.specs.Rules.{engine, refusal}
use Rattle.model.specs.Job.{answer_then, commands, written}
use Rattle.model.specs.Standing.{Command, command_of, command_bytes, GivesAlone}
use Rattle.model.proofs.Lists.{T_true, T_false}
use Rattle.model.proofs.Codes.{kind_of_code}
use Rattle.model.proofs.Runs.{not_refused}
use Rattle.model.proofs.Valid.{allowed_from}

-- ---- what it finds

abbrev pub reads : Problem → Command → List ℕ → ℕ → Context
reads q c bs free = record { problem = q; kind = c.kind; rest = c.operands ++ bs; free = free }

-- its operands are there
abbrev pub Full : Command → Type 0
Full c = length c.operands ≡ width c.kind

pub full_of : (x : Context) → width x.kind ≤ length x.rest → Full (command_of x)
full_of x l = length-take-le (width x.kind) x.rest l

-- two commands with the same operands of kind k
pub same_operand : (k : Kind) (x y : Context) → take (width k) y.rest ≡ take (width k) x.rest → (i : ℕ) → i < width k → operand y i ≡ operand x i
same_operand k x y e i l = sym (get_or-take (width k) y.rest i 0 l) ∙ ap (λ (bs : List ℕ). get_or bs i 0) e ∙ get_or-take (width k) x.rest i 0 l

-- ---- the run

-- from problem q on, bytes and room for answers give this answer alone
abbrev pub GivesFrom : Answer → ℕ → List ℕ → Problem → Type 0
GivesFrom a room bs q = (n at : ℕ) → length bs < n → GivesAlone a (commands engine n q bs room at)

step : (k : ℕ) (q : Problem) (c : Command) (bs : List ℕ) (free at : ℕ) → Full c → let y = reads q c bs free in refusal y ≡ 0 → T (not (is c.kind Kind.E))
    → commands engine (suc k) q (command_bytes c ++ bs) free at ≡ answer_then engine y (commands engine k (problem_after y c.kind) bs (free - length (bytes_of (answer y))) (at + 1 + width c.kind))
step k q c bs free at f z n = rw (kind_of_code c.kind, z, T_false {b = is c.kind Kind.E} n, drop_at c.operands bs (width c.kind) f)

-- a command without an answer
pub silent : (a : Answer) (room : ℕ) (c : Command) (bs : List ℕ) (q : Problem) → Full c → let y = reads q c bs room in refusal y ≡ 0 → T (not (is c.kind Kind.E)) → answer y ≡ Answer.nothing
    → GivesFrom a room bs (problem_after y c.kind) → GivesFrom a room (command_bytes c ++ bs) q
unfolding written
silent a room c bs q f z n e g zero at l = absurd (omega (arith, l))
silent a room c bs q f z n e g (suc k) at l =
    let all : room - length (bytes_of (answer (reads q c bs room))) ≡ room = rw e (omega arith) in
    let r = g k (at + 1 + width c.kind) (omega (arith, l, length-append c.operands bs)) in
    subst⁻¹ (GivesAlone a) (step k q c bs room at f z n) (rw (all, e) (record { accepted = r.accepted; answers = r.answers; bytes = r.bytes }))

-- E's byte
abbrev pub ending : List ℕ
ending = (form_of Kind.E).code ∷ []

-- from any place behind I
ends : (q : Problem) (room k at : ℕ) → begun ≤ q.place → q.place ≤ queried → 1 ≤ room → 1 ≤ k
    → let r = commands engine k q ending room at in (r.number ≡ 0) × (r.answers ≡ Answer.ended ∷ [])
unfolding kind_of refusals_of answer answer_for
ends q room zero at b l f h = absurd (omega arith)
ends q room (suc k) at b l f h =
    let y = reads q (record { kind = Kind.E; operands = [] }) [] room in
    rw (not_refused engine y (record { named = tt; place = allowed_from Kind.E q.place b l; operands = omega arith; own = (tt, tt); room = f })) (refl, refl)

-- a command with an answer, and E
pub last_answer : (a : Answer) (room : ℕ) (c : Command) (q : Problem) → Full c → let y = reads q c ending room in refusal y ≡ 0 → T (not (is c.kind Kind.E))
    → answer y ≡ a → T (has_bytes a) → (problem_after y c.kind).place ≡ queried → suc (length (bytes_of a)) ≤ room → GivesFrom a room (command_bytes c ++ ending) q
unfolding written
last_answer a room c q f z n e t p l zero at h = absurd (omega (arith, h))
last_answer a room c q f z n e t p l (suc k) at h =
    let after = problem_after (reads q c ending room) c.kind in
    let r = ends after (room - length (bytes_of a)) k (at + 1 + width c.kind) (omega (arith, p)) (omega (arith, p)) (omega arith) (omega (arith, h, length-append c.operands ending)) in
    subst⁻¹ (GivesAlone a) (step k q c ending room at f z n) (rw e (record { accepted = r.0; answers = rw (T_true {b = has_bytes a} t, r.1); bytes = rw r.1 }))
