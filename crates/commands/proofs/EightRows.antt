-- The laws behind a B: rows that are added one by one, each as an R adds it.
use Prim.Native.Nat.{ℕ, suc, ◌+◌, ◌*◌, ◌≤◌, ◌<◌}
use native.Mathlib.Omega.{arith}
use mathlib.Core.Path.{◌≡◌, refl, sym, ap, ◌∙◌, subst, subst⁻¹}
use mathlib.Core.List.{List, [], ◌∷◌}
use lib.Seq.{get_or-drop}
use lib.ListN.{get_or, length, drop, drop_of_length-le}
use Rattle.model.specs.Base.{All}
use Rattle.model.specs.Commands as model
use Rattle.model.specs.Commands.{Context, Row, row_of_b, rows_of_b, add_row, add_rows, problem_after}
use Rattle.model.specs.Answers.{answer_for}
use Rattle.model.specs.Refusals.{first_of, row_refusals, rows_refusals, refusals_of}
use Rattle.model.specs.Invariants.{Valid}
use Rattle.model.proofs.Lists.{all_to}
use Rattle.model.proofs.Runs.{first_none, none_first, first_before, first_behind}
use Rattle.model.proofs.RowByRow.{rows_eight, rows_drop, rows_rise, rows_place, EachPasses, all_pass}
use Rattle.model.proofs.Sound.{refusals_of_no}
use Rattle.model.proofs.Valid.{valid_row}
use Rattle.problem.specs.declared.Problem.{Problem}
use Rattle.problem.specs.Problems.{Holds, Reached, Sized}
use Rattle.problem.specs.Refusing as record·refusals
use Rattle.problem.proofs.Refusing.{row_refusal_lem}
use Rattle.problem.proofs.Keeping.{reached_sized, all_rows, after_rows}
use Rattle.commands.specs.Effects.{Outcome, refused_as, Handled, HandlesR, HandlesB}
use Rattle.commands.proofs.Handling.{late_own, late_silent, handled_refused, handled_silent}

-- ---- one row

-- an R with this row, in problem q
abbrev row_context : model.Problem → Row → Context
row_context q w = record { problem = q; kind = model.Kind.R; rest = w.vertex ∷ w.on ∷ w.dc ∷ []; free = 0 }

module _ {p : Problem} {q : model.Problem} (w : Row) {e : Outcome} (h : Holds p q) (v : Valid q) (o : model.begun ≤ q.place) (r : HandlesR p w.vertex w.on w.dc e) where
  handled : Handled (row_context q w) model.Kind.R [] [] e
  handled = r (row_context q w) [] (record { holds = h; valid = v; begun = o }) refl refl refl

  row_number : e.number ≡ first_of (row_refusals q w)
  unfolding refusals_of answer_for
  row_number = handled.number ∙ late_silent (row_context q w) model.Kind.R refl

  row_problem : e.number ≡ 0 → Holds e.problem (add_row q w)
  unfolding problem_after
  row_problem z = (handled.answered z).problem

  row_valid : q.place ≤ model.among_rows → e.number ≡ 0 → Valid (add_row q w)
  unfolding refusals_of
  row_valid m z = valid_row q w o m (first_none (row_refusals q w) (refusals_of_no (row_context q w) model.Kind.R) (sym row_number ∙ z)) v

-- ---- rows one by one

-- i rows are added to q: `now` holds the problem behind them, and what is left is the same for all rows and for the others
pub record AddedIn (q : model.Problem) (ws : List Row) (i : ℕ) (now : Problem) : Type 0 where
  pub behind : model.Problem
  pub holds : Holds now behind
  pub valid : Valid behind
  pub begun : model.begun ≤ behind.place
  pub in_rows : behind.place ≤ model.among_rows
  pub refusals : first_of (rows_refusals q ws) ≡ first_of (rows_refusals behind (drop i ws))
  pub after : add_rows q ws ≡ add_rows behind (drop i ws)

-- in every problem that p holds while rows may come
pub record Added (p : Problem) (ws : List Row) (i : ℕ) (now : Problem) : Type 0 where
  pub in_problem : (q : model.Problem) → Holds p q → Valid q → model.begun ≤ q.place → q.place ≤ model.among_rows → AddedIn q ws i now

pub added_none : {p : Problem} (ws : List Row) → Added p ws 0 p
added_none ws = record { in_problem = λ q h v o m. record { behind = q; holds = h; valid = v; begun = o; in_rows = m; refusals = refl; after = refl } }

pub added_sized : {p now : Problem} {ws : List Row} {i : ℕ} → Reached p → model.begun ≤ p.place → p.place ≤ model.among_rows → Added p ws i now → Sized now
added_sized r o m a =
    let b = a.in_problem r.problem r.holds r.valid (omega (arith, r.holds.place)) (omega (arith, r.holds.place)) in
    reached_sized _ (record { problem = b.behind; holds = b.holds; valid = b.valid })

module _ {p now : Problem} {ws : List Row} {i : ℕ} {w : Row} {e : Outcome} (a : Added p ws i now) (next : drop i ws ≡ w ∷ drop (suc i) ws)
    (r : HandlesR now w.vertex w.on w.dc e) where
  pub added_next : e.number ≡ 0 → Added p ws (suc i) e.problem
  added_next z = record { in_problem = λ q h v o m. go q (a.in_problem q h v o m) }
    where
      go : (q : model.Problem) → AddedIn q ws i now → AddedIn q ws (suc i) e.problem
      go q b =
          let number = row_number w b.holds b.valid b.begun r in
          let own = row_refusals b.behind w in
          let later = rows_refusals (add_row b.behind w) (drop (suc i) ws) in
          record {
            behind = add_row b.behind w;
            holds = row_problem w b.holds b.valid b.begun r z;
            valid = row_valid w b.holds b.valid b.begun r b.in_rows z;
            begun = omega arith;
            in_rows = omega arith;
            refusals = b.refusals ∙ ap (λ (vs : List Row). first_of (rows_refusals b.behind vs)) next ∙ first_behind own later (omega arith, (omega arith, tt)) (sym number ∙ z);
            after = b.after ∙ ap (add_rows b.behind) next;
          }

  pub added_refused : {f : Outcome} → (e.number ≡ 0 → ⊥) → f ≡ refused_as p e.number → HandlesB p ws f
  unfolding refusals_of
  added_refused {f} n s x free d m g = handled_refused x model.Kind.B free p e.number f d.holds s (late_own x model.Kind.B e.number own n) n
    where
      b : AddedIn x.problem ws i now
      b = a.in_problem x.problem d.holds d.valid d.begun m

      number : e.number ≡ first_of (row_refusals b.behind w)
      number = row_number w b.holds b.valid b.begun r

      own : e.number ≡ first_of (refusals_of x model.Kind.B)
      own = number ∙ sym (ap (λ (vs : List Row). first_of (rows_refusals x.problem vs)) g ∙ b.refusals ∙ ap (λ (vs : List Row). first_of (rows_refusals b.behind vs)) next
          ∙ first_before (row_refusals b.behind w) (rows_refusals (add_row b.behind w) (drop (suc i) ws)) (λ z. n (number ∙ z)))

-- all of them
pub added_all : {p now : Problem} {ws : List Row} {i : ℕ} → Added p ws i now → drop i ws ≡ [] → HandlesB p ws (record { number = 0; written = 0; problem = now })
unfolding refusals_of answer_for problem_after
added_all {p} {now} {ws} {i} a none x free d m g = handled_silent x model.Kind.B free now refl (sym own) (subst⁻¹ (Holds now) after b.holds)
  where
    b : AddedIn x.problem ws i now
    b = a.in_problem x.problem d.holds d.valid d.begun m

    own : first_of (refusals_of x model.Kind.B) ≡ 0
    own = ap (λ (vs : List Row). first_of (rows_refusals x.problem vs)) g ∙ b.refusals ∙ ap (λ (vs : List Row). first_of (rows_refusals b.behind vs)) none

    after : problem_after x model.Kind.B ≡ b.behind
    after = ap (add_rows x.problem) g ∙ b.after ∙ ap (add_rows b.behind) none

-- ---- the rows of a B, as they are read

module _ {p now : Problem} (job : List ℕ) (at : ℕ) {first i : ℕ} {e : Outcome} (a : Added p (rows_of_b (drop at job)) i now) (l : i < 8) (f : first ≡ get_or job at 0)
    (r : HandlesR now (first + i) (get_or job (at + 1 + 2 * i) 0) (get_or job (at + 2 + 2 * i) 0) e) where
  read_row : let w = row_of_b (drop at job) i in HandlesR now w.vertex w.on w.dc e
  read_row =
      let first_is : get_or (drop at job) 0 0 ≡ first = get_or-drop at job 0 0 ∙ ap (λ (j : ℕ). get_or job j 0) (omega arith) ∙ sym f in
      let on_is : get_or (drop at job) (1 + 2 * i) 0 ≡ get_or job (at + 1 + 2 * i) 0 = get_or-drop at job (1 + 2 * i) 0 ∙ ap (λ (j : ℕ). get_or job j 0) (omega arith) in
      let dc_is : get_or (drop at job) (2 + 2 * i) 0 ≡ get_or job (at + 2 + 2 * i) 0 = get_or-drop at job (2 + 2 * i) 0 ∙ ap (λ (j : ℕ). get_or job j 0) (omega arith) in
      rw (first_is, on_is, dc_is) r

  pub row_next : e.number ≡ 0 → Added p (rows_of_b (drop at job)) (i + 1) e.problem
  row_next z = let s : suc i ≡ i + 1 = omega arith in subst (λ (k : ℕ). Added p (rows_of_b (drop at job)) k e.problem) s (added_next a (rows_drop (drop at job) i l) read_row z)

  pub row_stops : {g : Outcome} → (e.number ≡ 0 → ⊥) → g ≡ refused_as p e.number → HandlesB p (rows_of_b (drop at job)) g
  row_stops n s = added_refused a (rows_drop (drop at job) i l) read_row n s

pub rows_done : {p now : Problem} (bs : List ℕ) {i : ℕ} → Added p (rows_of_b bs) i now → 8 ≤ i → HandlesB p (rows_of_b bs) (record { number = 0; written = 0; problem = now })
rows_done bs {i} a l = let all : length (rows_of_b bs) ≤ i = omega (arith, rows_eight bs) in added_all a (drop_of_length-le (rows_of_b bs) all)

-- ---- all at once

module _ (p : Problem) (sizes : Sized p) (bs : List ℕ)
    (accepted : All (λ w. 0 ≡ first_of (record·refusals.row_refusals p.settings.n p.settings.m p.rows.given w.vertex w.on w.dc)) (rows_of_b bs)) where
  each_passes : (q : model.Problem) → Holds p q → EachPasses q (rows_of_b bs)
  unfolding refusals_of
  each_passes q h = all_to _ _
      (λ w e. first_none (row_refusals q w) (refusals_of_no (row_context q w) model.Kind.R) (sym (e ∙ row_refusal_lem p q w sizes h))) (rows_of_b bs) accepted

  -- a B each of whose rows is accepted by itself
  pub eight_kept : HandlesB p (rows_of_b bs) (record { number = 0; written = 0; problem = all_rows model.among_rows (rows_of_b bs) p })
  unfolding refusals_of answer_for problem_after
  eight_kept x free d m g =
      let q = x.problem in
      let ws = rows_of_b bs in
      let passes = all_pass ws q (get_or bs 0 0) (rows_rise bs) (each_passes q d.holds) in
      let after = after_rows ws p q d.holds d.valid d.begun m passes in
      let own = none_first (rows_refusals q ws) passes in
      handled_silent x model.Kind.B free (all_rows model.among_rows ws p) refl (sym (ap (λ (vs : List Row). first_of (rows_refusals q vs)) g ∙ own))
      (subst⁻¹ (λ (r : model.Problem). Holds (all_rows model.among_rows ws p) r) (ap (add_rows q) g) (subst (λ (place : ℕ). Holds (all_rows place ws p) (add_rows q ws)) (rows_place bs q) after))
