-- K3: how R commands for rising vertices run: as B's refusals and what B makes of the problem say.
use Prim.Native.Nat.{ℕ, zero, suc, ◌+◌, ◌-◌, ◌*◌, ◌^◌, ◌≤◌, ◌<◌, min}
use native.Mathlib.Omega.{arith}
use native.Mathlib.Decide.{dec_lt, ℕ_discrete}
use mathlib.Core.Path.{◌≡◌, refl, sym, ap, ◌∙◌, subst⁻¹}
use mathlib.Core.Bool.{Bool, true, false, not, ◌||◌}
use mathlib.Core.List.{List, [], ◌∷◌, ◌++◌}
use lib.Dec.{T, leb, eqb, eqb→eq, le→leb, nleb→lt, not_T}
use lib.Pow.{pow_mono}
use lib.ListN.{length}
use Rattle.model.specs.Base.{some}
use Rattle.model.specs.Commands.{Kind, form_of, kind_of, allowed, Problem, Context, Row, add_row, add_rows, problem_after}
use Rattle.model.specs.Answers.{Answer, answer_for, answer}
use Rattle.model.specs.Refusals.{refuse, first_of, bad_row, row_refusals, rows_refusals, refusals_of}
use Rattle.model.specs.Rules.{engine, refusal}
use Rattle.model.specs.Job.{commands}
use Rattle.model.specs.Expanded.{row_command}
use Rattle.model.proofs.Lists.{or_l, or_r, T_true}
use Rattle.model.proofs.Runs.{place_first, own_refusal, context, step_refused, step_goes}
use Rattle.model.proofs.RowByRow.{rows_first, rows_next, Rises}
use Rattle.model.proofs.ExpandedJob.{row_commands}
use Rattle.model.proofs.Traced.{Result, result, stopped, silent_goes, silent_stops}

-- ---- one row

-- its vertex is a byte, or it is 256 and 255 has a row
abbrev pub Near : Problem → ℕ → Type 0
Near q v = (v ≤ 256) × (v ≡ 256 → T (some (eqb 255) q.rows.given))

abbrev clipped : Row → Row
clipped w = record { vertex = min w.vertex 255; on = w.on; dc = w.dc }

clip_byte : (w : Row) → w.vertex < 256 → clipped w ≡ w
clip_byte w h = let e : min w.vertex 255 ≡ w.vertex = omega arith in rw e

-- what its R finds
abbrev reads_row : Problem → Row → List ℕ → ℕ → Context
reads_row q w more free = context q (form_of Kind.R).code (min w.vertex 255 ∷ w.on ∷ w.dc ∷ more) free

row_silent : (q : Problem) (w : Row) (more : List ℕ) (free : ℕ) → answer (reads_row q w more free) ≡ Answer.nothing
unfolding kind_of answer answer_for
row_silent q w more free = refl

module _ (q : Problem) (w : Row) (size : q.settings.n ≤ 8) (near : Near q w.vertex) where
  most : 2 ^ q.settings.n ≤ 256
  most = pow_mono size

  -- 7 and 8 apply to its R as to the row
  clip_refusals : first_of (row_refusals q (clipped w)) ≡ first_of (row_refusals q w)
  clip_refusals = go (dec_lt w.vertex 256)
    where
      k : ℕ
      k = 2 ^ q.settings.n

      given : ℕ → Bool
      given v = some (eqb v) q.rows.given

      go : Dec (w.vertex < 256) → first_of (row_refusals q (clipped w)) ≡ first_of (row_refusals q w)
      go (yes h) = ap (λ (x : Row). first_of (row_refusals q x)) (clip_byte w h)
      go (no h) =
          let e : w.vertex ≡ 256 = omega (arith, near.0) in
          let m : min 256 255 ≡ 255 = omega arith in
          rw (e, m, T_true {b = leb k 255 || given 255} (or_r (leb k 255) (given 255) (near.1 e)), T_true {b = leb k 256} (le→leb k 256 most))

  -- and where neither applies the vertex is a byte
  passed_byte : first_of (row_refusals q w) ≡ 0 → w.vertex < 256
  passed_byte z = go (leb (2 ^ q.settings.n) w.vertex) refl z
    where
      go : (b : Bool) → leb (2 ^ q.settings.n) w.vertex ≡ b
          → first_of (refuse 7 (b || some (eqb w.vertex) q.rows.given) ∷ refuse 8 (bad_row q.settings.m w.on w.dc) ∷ []) ≡ 0 → w.vertex < 256
      go true e f = absurd (omega (arith, f))
      go false e f = omega (arith, most, nleb→lt (2 ^ q.settings.n) w.vertex (rw e tt))

  module _ (place : T (allowed Kind.R q.place)) (more : List ℕ) (k free at : ℕ) where
    row_refusal_lem : refusal (reads_row q w more free) ≡ first_of (row_refusals q w)
    unfolding kind_of refusals_of answer answer_for
    row_refusal_lem = own_refusal engine (reads_row q w more free) tt place (omega arith) refl ∙ clip_refusals

    row_goes : first_of (row_refusals q w) ≡ 0 → result (commands engine (suc k) q (row_command w ++ more) free at) ≡ result (commands engine k (add_row q w) more free (at + 4))
    unfolding kind_of problem_after answer answer_for
    row_goes z =
        let x = reads_row q w more free in
        let f : free - 0 ≡ free = omega arith in
        let g : at + 1 + 3 ≡ at + 4 = omega arith in
        ap result (step_goes engine k q (form_of Kind.R).code x.rest free at (row_refusal_lem ∙ z) tt)
        ∙ silent_goes x (commands engine k (add_row q (clipped w)) more (free - 0) (at + 1 + 3)) refl ∙ rw (f, g, ap (add_row q) (clip_byte w (passed_byte z)))

    row_stops : (first_of (row_refusals q w) ≡ 0 → ⊥) → result (commands engine (suc k) q (row_command w ++ more) free at) ≡ stopped (first_of (row_refusals q w)) at []
    row_stops n =
        let x = reads_row q w more free in
        ap result (step_refused engine k q (form_of Kind.R).code x.rest free at (not_T (eqb (refusal x) 0) (λ t. n (sym row_refusal_lem ∙ eqb→eq (refusal x) 0 t))))
        ∙ silent_stops x (refusal x) at (row_silent q w more free) ∙ ap (λ (m : ℕ). stopped m at []) row_refusal_lem

-- where no R may stand
pub row_misplaced : (w : Row) (q : Problem) → T (not (allowed Kind.R q.place)) → (more : List ℕ) (k free at : ℕ)
    → result (commands engine (suc k) q (row_command w ++ more) free at) ≡ stopped 4 at []
unfolding kind_of
row_misplaced w q n more k free at =
    let x = reads_row q w more free in
    let e = place_first engine x tt n in
    ap result (step_refused engine k q (form_of Kind.R).code x.rest free at (rw e tt)) ∙ silent_stops x (refusal x) at (row_silent q w more free) ∙ ap (λ (m : ℕ). stopped m at []) e

-- "a vertex above 255 counts as one of 2^n or more and does not wrap"
pub above_255 : (q : Problem) (w : Row) → q.settings.n ≤ 8 → 255 < w.vertex → first_of (row_refusals q w) ≡ 7
above_255 q w size l =
    let most : 2 ^ q.settings.n ≤ 256 = pow_mono size in
    rw (T_true {b = leb (2 ^ q.settings.n) w.vertex} (le→leb (2 ^ q.settings.n) w.vertex (omega (arith, most, l))))

-- ---- rows for rising vertices

near_next : (q : Problem) (w : Row) (v : ℕ) → w.vertex ≡ v → w.vertex < 256 → Near (add_row q w) (suc v)
near_next q w v e h = (omega arith, λ f. or_l (eqb 255 w.vertex) (some (eqb 255) q.rows.given) (let g : w.vertex ≡ 255 = omega arith in rw g tt))

-- all are done, with bytes behind them, or one is refused somewhere in their bytes
pub data RowsEnd (q : Problem) (ws : List Row) (more : List ℕ) (free at : ℕ) (s : Result) : Type 0 where
  done : first_of (rows_refusals q ws) ≡ 0 → (j : ℕ) → length more < j → s ≡ result (commands engine j (add_rows q ws) more free (at + 4 * length ws)) → RowsEnd q ws more free at s
  refused : (first_of (rows_refusals q ws) ≡ 0 → ⊥) → (o : ℕ) → o < 4 * length ws → s ≡ stopped (first_of (rows_refusals q ws)) (at + o) [] → RowsEnd q ws more free at s

pub rows_run : (ws : List Row) (q : Problem) (v : ℕ) → Rises v ws → Near q v → q.settings.n ≤ 8 → T (allowed Kind.R q.place)
    → (more : List ℕ) (k free at : ℕ) → length (row_commands ws ++ more) < k
    → RowsEnd q ws more free at (result (commands engine k q (row_commands ws ++ more) free at))
rows_run [] q v r n s a more k free at l = let e : at ≡ at + 0 = omega arith in RowsEnd.done refl k l (ap (λ (o : ℕ). result (commands engine k q more free o)) e)
rows_run (w ∷ ws) q v r n s a more zero free at l = absurd (omega arith)
rows_run (w ∷ ws) q v r n s a more (suc k) free at l =
    go (ℕ_discrete (first_of (row_refusals q w)) 0) (λ next. rows_run ws (add_row q w) (suc v) r.1 next s tt more k free (at + 4) (omega arith))
  where
    rest : List ℕ
    rest = row_commands ws ++ more

    near : Near q w.vertex
    near = subst⁻¹ (Near q) r.0 n

    go : Dec (first_of (row_refusals q w) ≡ 0) → (Near (add_row q w) (suc v) → RowsEnd (add_row q w) ws more free (at + 4) (result (commands engine k (add_row q w) rest free (at + 4))))
        → RowsEnd q (w ∷ ws) more free at (result (commands engine (suc k) q (row_command w ++ rest) free at))
    go (no y) f =
        let first = rows_first q w ws y in
        let e : at ≡ at + 0 = omega arith in
        RowsEnd.refused (λ z. y (sym first ∙ z)) 0 (omega arith) (row_stops q w s near a rest k free at y ∙ rw (first, ← e))
    go (yes y) f = on (f (near_next q w v r.0 (passed_byte q w s near y)))
      where
        one : result (commands engine (suc k) q (row_command w ++ rest) free at) ≡ result (commands engine k (add_row q w) rest free (at + 4))
        one = row_goes q w s near a rest k free at y

        first : first_of (rows_refusals q (w ∷ ws)) ≡ first_of (rows_refusals (add_row q w) ws)
        first = rows_next q w ws y

        on : RowsEnd (add_row q w) ws more free (at + 4) (result (commands engine k (add_row q w) rest free (at + 4)))
            → RowsEnd q (w ∷ ws) more free at (result (commands engine (suc k) q (row_command w ++ rest) free at))
        on (RowsEnd.done z j h e) = let d : at + 4 + 4 * length ws ≡ at + 4 * suc (length ws) = omega arith in RowsEnd.done (first ∙ z) j h (one ∙ e ∙ rw d)
        on (RowsEnd.refused z o h e) = let d : at + 4 + o ≡ at + (4 + o) = omega arith in RowsEnd.refused (λ y. z (sym first ∙ y)) (4 + o) (omega arith) (one ∙ e ∙ rw (d, first))
