-- K3: a job with B and the job with the R commands run alike, by induction over the commands of the job with B.
use Prim.Native.Nat.{ℕ, zero, suc, ◌+◌, ◌-◌, ◌≤◌, ◌<◌}
use native.Mathlib.Omega.{arith}
use native.Mathlib.Nat.{le_refl}
use native.Mathlib.Decide.{dec_lt}
use mathlib.Core.Path.{◌≡◌, refl, ap, ◌∙◌}
use mathlib.Core.Logic.{◌⊎◌, inl, inr}
use mathlib.Core.Bool.{not, ◌||◌}
use mathlib.Core.List.{List, [], ◌∷◌}
use lib.Dec.{T, ltb, eqb, ltb→lt, lt→ltb}
use lib.ListN.{length, drop}
use Rattle.model.specs.Base.{Bytes}
use Rattle.model.specs.Commands.{Kind, is, kind_of, width, problem_after}
use Rattle.model.specs.Answers.{bytes_of, answer_for, answer}
use Rattle.model.specs.Rules.{engine, refusal}
use Rattle.model.specs.Job.{Run, stop, answer_then, run}
use Rattle.model.specs.Pieces.{pieces}
use Rattle.model.specs.Expanded.{expanded, origin, SameRun, EightRows}
use Rattle.model.proofs.Lists.{or_cases, or_l, or_r}
use Rattle.model.proofs.Runs.{Passed, context, IfShort, IfRefused, IfEnds, IfGoes, run_ind, run_is, run_long}
use Rattle.model.proofs.Sound.{engine_lawful}
use Rattle.model.proofs.Valid.{valid_empty}
use Rattle.model.proofs.Pieces.{piece, later, pieces_none, pieces_step}
use Rattle.model.proofs.ExpandedJob.{expanded_none, byte_b, by_piece, rows_longer, longer}
use Rattle.model.proofs.Traced.{Result, result, stopped, result_none, Like, like_by, like_none, like_here}
use Rattle.model.proofs.ExpandedCommand.{Claim, At, claim_at, other_refused, other_ends, other_goes, block_refused, block_goes}

claim_short : IfShort engine Claim
claim_short q free at s y zero at' l = absurd (omega arith)
claim_short q free at s y (suc k) at' l = rw (expanded_none, pieces_none) (like_by (result_none 2 at) (result_none 2 at') (like_none at at' 2))

claim_refused : IfRefused engine Claim
claim_refused q b bs free at n =
    let x = context q b bs free in
    claim_at q b bs free at (stop (refusal x) at (x ∷ [])) (by_piece Refused (λ bs whole. block_refused bs whole q free at) (λ b bs other. other_refused q b bs free at other) b bs n)
  where
    Refused : ℕ → List ℕ → Type 0
    Refused b bs = let x = context q b bs free in T (not (eqb (refusal x) 0)) → At q b bs free at (stop (refusal x) at (x ∷ []))

claim_ends : IfEnds engine Claim
unfolding kind_of
claim_ends q b bs free at h z i =
    claim_at q b bs free at (answer_then engine (context q b bs free) (stop 0 (at + 1) []))
    (by_piece Ends (λ bs whole h z i. absurd i) (λ b bs other. other_ends q b bs free at other) b bs h z i)
  where
    Ends : ℕ → List ℕ → Type 0
    Ends b bs = let x = context q b bs free in Passed engine x → refusal x ≡ 0 → T (is (kind_of b) Kind.E) → At q b bs free at (answer_then engine x (stop 0 (at + 1) []))

claim_goes : IfGoes engine Claim
unfolding kind_of problem_after answer answer_for
claim_goes q b bs free at h z n r f =
    claim_at q b bs free at (answer_then engine (context q b bs free) r) (by_piece Goes block (λ b bs other h z n. other_goes q b bs free at other h z n r) b bs h z n f)
  where
    Goes : ℕ → List ℕ → Type 0
    Goes b bs = let x = context q b bs free in Passed engine x → refusal x ≡ 0 → T (not (is (kind_of b) Kind.E))
        → Claim (problem_after x (kind_of b)) (drop (width (kind_of b)) bs) (free - length (bytes_of (answer x))) (at + 1 + width (kind_of b)) r → At q b bs free at (answer_then engine x r)

    block : (bs : List ℕ) → 17 ≤ length bs → Goes byte_b bs
    block bs whole h z n f =
        let p : at + 1 + 17 ≡ at + 18 = omega arith in
        let e : free - 0 ≡ free = omega arith in
        block_goes bs whole q free at h z r (rw (← p, ← e) f)

-- nothing is read of either
like_unread : (job : List ℕ) (n : ℕ) → Like (pieces job) 0 0 (stopped n 0 []) (stopped n 0 [])
like_unread [] n = rw pieces_none (like_none 0 0 n)
like_unread (b ∷ bs) n = rw (pieces_step b bs) (like_here (piece b bs) (pieces (later b bs)) 0 0 n 0 [] (omega (arith, rows_longer b bs)))

runs_alike : (job : List ℕ) (room : ℕ) → Bytes job → length (expanded job) ≤ 32768 → Like (pieces job) 0 0 (result (run job room)) (result (run (expanded job) room))
runs_alike job room y l =
    run_ind engine engine_lawful Claim claim_short claim_refused claim_ends claim_goes (λ r. Like (pieces job) 0 0 (result r) (result (run (expanded job) room))) job room unread
    (λ m f r h. like_by refl (ap result (run_is engine (expanded job) room l f)) (h valid_empty.sound y (suc (length (expanded job))) 0 (le_refl (suc (length (expanded job))))))
  where
    unread : T (ltb 32768 (length job) || ltb 32768 room) → Like (pieces job) 0 0 (result (stop 1 0 [])) (result (run (expanded job) room))
    unread t =
        let long = go (or_cases (ltb 32768 (length job)) (ltb 32768 room) t) in
        like_by (result_none 1 0) (ap result (run_long engine (expanded job) room long) ∙ result_none 1 0) (like_unread job 1)
      where
        go : T (ltb 32768 (length job)) ⊎ T (ltb 32768 room) → T (ltb 32768 (length (expanded job)) || ltb 32768 room)
        go (inl u) = absurd (omega (arith, ltb→lt 32768 (length job) u, longer job))
        go (inr u) = or_r (ltb 32768 (length (expanded job))) (ltb 32768 room) u

pub same_run : EightRows
unfolding origin
same_run job room y l =
    let e = (runs_alike job room y l).same in
    let z : (run (expanded job) room).offset - 0 ≡ (run (expanded job) room).offset = omega arith in
    record {
      number = ap (λ (s : Result). s.number) e;
      offset = ap (λ (s : Result). s.offset) e ∙ rw z (omega arith);
      bytes = ap (λ (s : Result). s.bytes) e;
      asked = ap (λ (s : Result). s.asked) e;
    }

-- K3's own words: "where that job isn't too long under 1"
pub same_unless_1 : (job : List ℕ) (room : ℕ) → Bytes job → ((run (expanded job) room).number ≡ 1 → ⊥) → SameRun job room
same_unless_1 job room y n = same_run job room y (go (dec_lt 32768 (length (expanded job))))
  where
    go : Dec (32768 < length (expanded job)) → length (expanded job) ≤ 32768
    go (no l) = omega arith
    go (yes l) = absurd (n (ap (λ (r : Run). r.number) (run_long engine (expanded job) room (or_l (ltb 32768 (length (expanded job))) (ltb 32768 room) (lt→ltb 32768 (length (expanded job)) l)))))
