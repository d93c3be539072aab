-- K3: one command of a job with B and what stands for it in the job with the R commands: both runs go on alike, where they do behind it.
use Prim.Native.Nat.{ℕ, zero, suc, ◌+◌, ◌-◌, ◌≤◌, ◌<◌}
use native.Mathlib.Omega.{arith}
use mathlib.Core.Path.{◌≡◌, refl, sym, ap, ◌∙◌, subst, subst⁻¹}
use mathlib.Core.Logic.{◌⊎◌, inl, inr}
use mathlib.Core.Bool.{not}
use mathlib.Core.List.{List, [], ◌∷◌, ◌++◌}
use lib.Dec.{T, eqb}
use lib.Seq.{length-take-le}
use lib.ListN.{get_or, length, take, drop, length-append, length-take, drop_of_length-le}
use Rattle.model.specs.Base.{Bytes}
use Rattle.model.specs.Commands.{Kind, is, kind_of, width, allowed, Problem, Context, Row, rows_of_b, add_rows, problem_after}
use Rattle.model.specs.Answers.{Answer, bytes_of, answer_for, answer}
use Rattle.model.specs.Refusals.{first_of, rows_refusals, refusals_of}
use Rattle.model.specs.Rules.{engine, refusal}
use Rattle.model.specs.Job.{Run, stop, answer_then, commands}
use Rattle.model.specs.Invariants.{Sound}
use Rattle.model.specs.Pieces.{Piece, piece_bytes, reach, pieces}
use Rattle.model.specs.Expanded.{as_rows, is_whole_b, expanded}
use Rattle.model.proofs.Lists.{yes_or_no, all_drop}
use Rattle.model.proofs.Runs.{Passed, own_refusal, place_first, context, step_refused, step_ends, step_goes, OnRuns}
use Rattle.model.proofs.RowByRow.{rows_eight, rows_rise}
use Rattle.model.proofs.Sound.{get_d_byte, engine_lawful}
use Rattle.model.proofs.Pieces.{piece, later, pieces_none, pieces_step, Within, reach_width}
use Rattle.model.proofs.ExpandedJob.{byte_b, row_commands, rows_other, behind, expanded_other, size_b, expanded_b, length_b, rows_longer, behind_drop}
use Rattle.model.proofs.Alike.{Alike, behind_alike}
use Rattle.model.proofs.Traced.{result, stopped, result_none, silent_goes, silent_stops, asks, ahead, result_goes, result_stops}
use Rattle.model.proofs.Traced.{alike_asks, alike_ahead, Like, like_by, like_ahead, like_none, like_here, like_later}
use Rattle.model.proofs.RowsRun.{Near, RowsEnd, rows_run, row_misplaced}

-- the run of some bytes and that of the expanded bytes, for any bound and offset of the latter
abbrev pub Claim : OnRuns
Claim q bs free at r = Sound q → Bytes bs → (k at' : ℕ) → length (expanded bs) < k → Like (pieces bs) at at' (result r) (result (commands engine k q (expanded bs) free at'))

-- the claim at a command
abbrev pub LikeAt : Problem → ℕ → List ℕ → ℕ → ℕ → Run → ℕ → ℕ → Type 0
LikeAt q b bs free at r k at' = Like (piece b bs ∷ pieces (later b bs)) at at' (result r) (result (commands engine (suc k) q (expanded (b ∷ bs)) free at'))

abbrev pub At : Problem → ℕ → List ℕ → ℕ → ℕ → Run → Type 0
At q b bs free at r = Sound q → Bytes bs → (k at' : ℕ) → length (expanded (b ∷ bs)) ≤ k → LikeAt q b bs free at r k at'

pub claim_at : (q : Problem) (b : ℕ) (bs : List ℕ) (free at : ℕ) (r : Run) → At q b bs free at r → Claim q (b ∷ bs) free at r
claim_at q b bs free at r f s y zero at' l = absurd (omega arith)
claim_at q b bs free at r f s y (suc k) at' l =
    let e = result (commands engine (suc k) q (expanded (b ∷ bs)) free at') in
    subst⁻¹ (λ (cs : List Piece). Like cs at at' (result r) e) (pieces_step b bs) (f s y.1 k at' (omega arith))

-- ---- a command that is no whole B

module _ (q : Problem) (b : ℕ) (bs : List ℕ) (free at : ℕ) (other : T (not (is_whole_b (piece b bs)))) where
  abbrev pub here : Context
  here = context q b bs free

  abbrev there : Context
  there = context q b (behind b bs) free

  same : Alike here there
  same = behind_alike q b bs free

  as_it_is : (k at' : ℕ) → result (commands engine k q (expanded (b ∷ bs)) free at') ≡ result (commands engine k q (b ∷ behind b bs) free at')
  as_it_is k at' = ap (λ (cs : List ℕ). result (commands engine k q cs free at')) (expanded_other b bs other)

  pub other_refused : T (not (eqb (refusal here) 0)) → At q b bs free at (stop (refusal here) at (here ∷ []))
  other_refused n s y k at' l =
      let z : at' ≡ at' + 0 = omega arith in
      let e = as_it_is (suc k) at'
      ∙ ap result (step_refused engine k q b (behind b bs) free at' (subst⁻¹ (λ (m : ℕ). T (not (eqb m 0))) same.refusal n))
      ∙ result_stops there (refusal there) at' in
      like_by (result_stops here (refusal here) at) (e ∙ rw (same.refusal, alike_asks here (behind b bs) same [], ← z))
      (like_here (piece b bs) (pieces (later b bs)) at at' (refusal here) 0 (asks here []) (omega (arith, rows_longer b bs)))

  -- it is answered, and then the rest of each job
  other_then : (k at' : ℕ) (r e f : Run) → commands engine (suc k) q (b ∷ behind b bs) free at' ≡ answer_then engine there f → f ≡ e
      → Like (pieces (later b bs)) (at + length (piece_bytes (piece b bs))) (at' + length (as_rows (piece b bs))) (result r) (result e) → LikeAt q b bs free at (answer_then engine here r) k at'
  other_then k at' r e f p g l = like_by (result_goes here r)
      (as_it_is (suc k) at' ∙ ap result p ∙ result_goes there f ∙ alike_ahead here (behind b bs) same (result f) ∙ ap (λ (u : Run). ahead here (result u)) g)
      (like_later (piece b bs) (pieces (later b bs)) at at' (ahead here (result r)) (ahead here (result e)) (like_ahead here l))

  pub other_ends : Passed engine here → refusal here ≡ 0 → T (is (kind_of b) Kind.E) → At q b bs free at (answer_then engine here (stop 0 (at + 1) []))
  other_ends h z i s y k at' l =
      let last = engine_lawful.last here i h.own in
      let n = reach (kind_of b) bs in
      let size : length (take n bs) ≡ 0 = omega (arith, length-take n bs) in
      let rows : length (as_rows (piece b bs)) ≡ 1 = omega (arith, ap length (rows_other (piece b bs) other)) in
      let none : pieces (later b bs) ≡ [] = ap pieces (drop_of_length-le bs {i = n} (omega arith)) ∙ pieces_none in
      other_then k at' (stop 0 (at + 1) []) (stop 0 (at' + 1) []) (stop 0 (at' + 1) []) (step_ends engine k q b (behind b bs) free at' (same.refusal ∙ z) i) refl
      (rw (size, rows, none) (like_by (result_none 0 (at + 1)) (result_none 0 (at' + 1)) (like_none (at + 1) (at' + 1) 0)))

  pub other_goes : Passed engine here → refusal here ≡ 0 → T (not (is (kind_of b) Kind.E)) → (r : Run)
      → Claim (problem_after here (kind_of b)) (drop (width (kind_of b)) bs) (free - length (bytes_of (answer here))) (at + 1 + width (kind_of b)) r → At q b bs free at (answer_then engine here r)
  other_goes h z n r f s y k at' l =
      other_then k at' r on (commands engine k (problem_after there (kind_of b)) (drop w (behind b bs)) (free - length (bytes_of (answer there))) (at' + 1 + w))
      (step_goes engine k q b (behind b bs) free at' (same.refusal ∙ z) n) (rw (same.after, same.answer, behind_drop b bs within)) (rw (rows, reaches, size) ih)
    where
      w : ℕ
      w = width (kind_of b)

      on : Run
      on = commands engine k (problem_after here (kind_of b)) (expanded (drop w bs)) (free - length (bytes_of (answer here))) (at' + 1 + w)

      within : Within b bs
      within = record { named = h.named; operands = h.operands; goes = n }

      reaches : reach (kind_of b) bs ≡ w
      reaches = reach_width b bs within bs

      size : length (take w bs) ≡ w
      size = length-take-le w bs h.operands

      rows : length (as_rows (piece b bs)) ≡ suc w
      rows = ap length (rows_other (piece b bs) other) ∙ rw (reaches, size) refl

      fuel : length (expanded (drop w bs)) < k
      fuel =
          let m = reach (kind_of b) bs in
          omega (arith, ap length (expanded_other b bs other), length-append (take m bs) (expanded (drop m bs)), ap (λ (n : ℕ). length (expanded (drop n bs))) reaches)

      ih : Like (pieces (drop w bs)) (at + suc w) (at' + suc w) (result r) (result on)
      ih =
          let p : at + 1 + w ≡ at + suc w = omega arith in
          let p' : at' + 1 + w ≡ at' + suc w = omega arith in
          subst (λ (o : ℕ). Like (pieces (drop w bs)) o (at' + suc w) (result r) (result on)) p
          (subst (λ (o : ℕ). Like (pieces (drop w bs)) (at + 1 + w) o (result r) (result on)) p'
          (f (engine_lawful.sound here h.own s) (all_drop (λ (c : ℕ). c < 256) w bs y) k (at' + 1 + w) fuel))

-- ---- a whole B

module _ (bs : List ℕ) (whole : 17 ≤ length bs) (q : Problem) (free at : ℕ) where
  abbrev pub block : Context
  block = context q byte_b bs free

  block_silent : answer block ≡ Answer.nothing
  unfolding kind_of answer answer_for
  block_silent = refl

  block_refusal_lem : T (allowed Kind.R q.place) → refusal block ≡ first_of (rows_refusals q (rows_of_b bs))
  unfolding kind_of refusals_of answer answer_for
  block_refusal_lem a = own_refusal engine block tt a whole refl

  block_misplaced : T (not (allowed Kind.R q.place)) → refusal block ≡ 4
  unfolding kind_of
  block_misplaced n = place_first engine block tt n

  near : Bytes bs → Near q (get_or bs 0 0)
  near y = let h = get_d_byte bs 0 y in (omega (arith, h), λ e. absurd (omega (arith, h, e)))

  abbrev rest : List ℕ
  rest = expanded (drop 17 bs)

  with_rows : (k at' : ℕ) → result (commands engine k q (expanded (byte_b ∷ bs)) free at') ≡ result (commands engine k q (row_commands (rows_of_b bs) ++ rest) free at')
  with_rows k at' = ap (λ (cs : List ℕ). result (commands engine k q cs free at')) (expanded_b bs whole)

  block_rows : Sound q → Bytes bs → T (allowed Kind.R q.place) → (k at' : ℕ) → length (expanded (byte_b ∷ bs)) ≤ k
      → RowsEnd q (rows_of_b bs) rest free at' (result (commands engine (suc k) q (row_commands (rows_of_b bs) ++ rest) free at'))
  block_rows s y a k at' l = rows_run (rows_of_b bs) q (get_or bs 0 0) (rows_rise bs) (near y) s.inputs a rest (suc k) free at' (omega (arith, ap length (expanded_b bs whole)))

  -- a row of it is refused, or no row may stand here
  pub block_refused : T (not (eqb (refusal block) 0)) → At q byte_b bs free at (stop (refusal block) at (block ∷ []))
  block_refused n s y k at' l = go (yes_or_no (allowed Kind.R q.place))
    where
      at_row : (m o : ℕ) → refusal block ≡ m → o < 32 → result (commands engine (suc k) q (row_commands (rows_of_b bs) ++ rest) free at') ≡ stopped m (at' + o) []
          → LikeAt q byte_b bs free at (stop (refusal block) at (block ∷ [])) k at'
      at_row m o e h d = like_by (silent_stops block (refusal block) at block_silent ∙ rw e) (with_rows (suc k) at' ∙ d)
          (like_here (piece byte_b bs) (pieces (later byte_b bs)) at at' m o [] (omega (arith, length_b bs whole)))

      rows : T (allowed Kind.R q.place) → RowsEnd q (rows_of_b bs) rest free at' (result (commands engine (suc k) q (row_commands (rows_of_b bs) ++ rest) free at'))
          → LikeAt q byte_b bs free at (stop (refusal block) at (block ∷ [])) k at'
      rows a (RowsEnd.done z j h e) = absurd (rw (block_refusal_lem a ∙ z) at n)
      rows a (RowsEnd.refused z o h e) = at_row (first_of (rows_refusals q (rows_of_b bs))) o (block_refusal_lem a) (omega (arith, h, rows_eight bs)) e

      first : (ws : List Row) → length ws ≡ 8 → T (not (allowed Kind.R q.place)) → result (commands engine (suc k) q (row_commands ws ++ rest) free at') ≡ stopped 4 at' []
      first [] e a = absurd (omega (arith, e))
      first (w ∷ ws) e a = row_misplaced w q a (row_commands ws ++ rest) k free at'

      go : T (allowed Kind.R q.place) ⊎ T (not (allowed Kind.R q.place))
          → LikeAt q byte_b bs free at (stop (refusal block) at (block ∷ [])) k at'
      go (inl a) = rows a (block_rows s y a k at' l)
      go (inr a) = let z : at' ≡ at' + 0 = omega arith in at_row 4 0 (block_misplaced a) (omega arith) (first (rows_of_b bs) (rows_eight bs) a ∙ rw (← z))

  pub block_goes : Passed engine block → refusal block ≡ 0 → (r : Run) → Claim (add_rows q (rows_of_b bs)) (drop 17 bs) free (at + 18) r → At q byte_b bs free at (answer_then engine block r)
  unfolding kind_of problem_after
  block_goes h z r f s y k at' l = go (block_rows s y h.place k at' l)
    where
      go : RowsEnd q (rows_of_b bs) rest free at' (result (commands engine (suc k) q (row_commands (rows_of_b bs) ++ rest) free at'))
          → LikeAt q byte_b bs free at (answer_then engine block r) k at'
      go (RowsEnd.refused n o m e) = absurd (n (sym (block_refusal_lem h.place) ∙ z))
      go (RowsEnd.done d j m e) =
          let on = commands engine j (add_rows q (rows_of_b bs)) rest free (at' + 32) in
          like_by (silent_goes block r block_silent) (with_rows (suc k) at' ∙ e ∙ rw (rows_eight bs))
          (like_later (piece byte_b bs) (pieces (drop 17 bs)) at at' (result r) (result on)
          (rw (length_b bs whole, size_b bs whole) (f (engine_lawful.sound block h.own s) (all_drop (λ (b : ℕ). b < 256) 17 bs y) j (at' + 32) m)))
