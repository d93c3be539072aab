-- The laws behind an R or B that is accepted: what a step would do with it, and the run behind it.
use Prim.Native.Nat.{ℕ, suc, ◌+◌, ◌-◌, ◌≤◌, ◌<◌}
use native.Mathlib.Omega.{arith}
use mathlib.Core.Path.{◌≡◌, refl, sym, ap, ◌∙◌, subst, subst⁻¹}
use mathlib.Core.Bool.{false, not}
use mathlib.Core.List.{List, []}
use borrow.Author.Tests.{le-leb, le-ltb}
use lib.Dec.{T, T_not}
use lib.ListN.{get_or, length, drop, replicate, length-replicate}
use lib.Seq.{drop-drop}
use Rattle.model.specs.Commands as model
use Rattle.model.specs.Commands.{Context, kind_of, is, is_query_kind, width, rows_of_b, problem_after}
use Rattle.model.specs.Answers.{Answer, bytes_of, answer, answer_for}
use Rattle.std.specs.Prelude.{Result, Ok, Err, is_ok}
use Rattle.model.specs.declared.reason.Reason.{Reason}
use Rattle.model.specs.Reasons.{told}
use Rattle.model.specs.Refusals.{first_of}
use Rattle.model.specs.Rules.{engine}
use Rattle.model.specs.Job.{Run, answer_then, written}
use Rattle.model.specs.Records.{last_left}
use Rattle.model.specs.Invariants.{Valid}
use Rattle.model.proofs.Runs.{Passed, passed}
use Rattle.model.proofs.Sound.{engine_lawful}
use Rattle.model.proofs.Valid.{after_valid}
use Rattle.model.proofs.Records.{left_by}
use Rattle.codec.specs.declared.kinds.Kind.{Kind}
use Rattle.problem.specs.declared.Settings.{Settings}
use Rattle.problem.specs.declared.Problem.{Problem}
use Rattle.problem.specs.Problems.{Holds, Reached}
use Rattle.problem.specs.Refusing.{row_refusals}
use Rattle.problem.proofs.Keeping.{reached_sized, with_row, all_rows}
use Rattle.commands.specs.Effects.{Outcome, HandlesR}
use Rattle.commands.proofs.Handling.{row_kept}
use Rattle.commands.proofs.EightRows.{eight_kept}
use Rattle.model.specs.Candidates.{Candidate, Basis}
use Rattle.model.proofs.RowByRow.{rows_set_lem}
use Rattle.incidence.specs.Stored.{BlocksAt}
use Rattle.incidence.proofs.Uses.{blocks_alone}
use Rattle.engine.specs.Steps.{Stepped, Steps, context_at}
use Rattle.eight_rows.specs.Rows.{EightAt}
use Rattle.engine.specs.RowBlocks.{RowAt, rest_of, GoesOn}
use Rattle.engine.proofs.Dispatching.{Read, step_r, step_b}
use Rattle.engine.proofs.Running.{one_left, x, rest, run_next}

-- ---- an R or B that is accepted

told_none : {A : Type 0} (r : Result A Reason) → T (is_ok r) → 0 ≡ told r
told_none (Ok a) t = refl
told_none (Err y) t = absurd t

pub row_at : {A : Type 0} {s : Settings} {given job : List ℕ} {at v : ℕ} (r : Result A Reason) → 4 ≤ length job - at → get_or job at 0 ≡ 0x52 → v ≡ get_or job (at + 1) 0
    → told r ≡ first_of (row_refusals s.n s.m given v (get_or job (at + 2) 0) (get_or job (at + 3) 0)) → T (is_ok r) → RowAt s given job at
unfolding kind_of
row_at {s = s} {given} {job} {at} r l b f e t = record {
  room = omega (arith, l);
  kind = ap kind_of b;
  accepted = told_none r t ∙ e ∙ ap (λ (u : ℕ). first_of (row_refusals s.n s.m given u (get_or job (at + 2) 0) (get_or job (at + 3) 0))) f;
}

-- ---- what a step would do with it

-- there is no candidate yet, so the sets of the blocks are empty
abbrev no_blocks : List ℕ
no_blocks = replicate 256 0

-- the command at `at` is accepted, answers nothing, leaves the candidates and takes so many bytes; `next` is the record behind it
pub record Sets (p : Problem) (job : List ℕ) (at : ℕ) (next : Problem) (bytes : ℕ) : Type 0 where
  pub kind : model.Kind
  pub here : kind_of (get_or job at 0) ≡ kind
  pub wide : 1 + width kind ≡ bytes
  pub room : at + bytes ≤ length job
  pub goes : is kind model.Kind.E ≡ false
  pub silent : (x : Context) → answer_for x kind ≡ Answer.nothing
  pub cands : (x : Context) → (problem_after x kind).cands ≡ x.problem.cands
  pub steps : (q : model.Problem) → Holds p q → Valid q → (free : ℕ)
      → Stepped (context_at q job at free) no_blocks no_blocks (replicate free 0) (replicate free 0) (record { number = 0; written = 0; problem = next })

module _ {p : Problem} {job : List ℕ} {at : ℕ} {e : Outcome} (in_rows : p.place ≤ model.among_rows) (steps : (old : List ℕ) → Steps p no_blocks no_blocks [] false job at old old e)
    (asks_not : T (not (is_query_kind (kind_of (get_or job at 0))))) where
  none_yet : (q : model.Problem) → Holds p q → Valid q → BlocksAt q.cands no_blocks
  none_yet q h v = subst⁻¹ (λ (cs : List Candidate). BlocksAt cs no_blocks) (v.early (omega (arith, h.place))) (blocks_alone [])

  stepped : (q : model.Problem) → Holds p q → Valid q → (free : ℕ) → Stepped (context_at q job at free) no_blocks no_blocks (replicate free 0) (replicate free 0) e
  stepped q h v free =
      subst (λ (n : ℕ). Stepped (context_at q job at n) no_blocks no_blocks (replicate free 0) (replicate free 0) e) (length-replicate free 0)
      ((steps (replicate free 0)).in_problem q h (none_yet q h v) v (λ t. absurd (T_not (is_query_kind (kind_of (get_or job at 0))) asks_not t)))

-- the record behind the R at `at`, of vertex v
abbrev pub behind_row : Problem → List ℕ → ℕ → ℕ → Problem
behind_row p job at v = with_row (record { vertex = v; on = get_or job (at + 2) 0; dc = get_or job (at + 3) 0 }) p

-- and behind the B
abbrev pub behind_eight : Problem → List ℕ → ℕ → Problem
behind_eight p job at = all_rows model.among_rows (rows_of_b (drop (at + 1) job)) p

module _ (p : Problem) {job : List ℕ} {at : ℕ} (reached : Reached p) (behind_i : model.begun ≤ p.place) (in_rows : p.place ≤ model.among_rows) where
  pub row_sets : {v : ℕ} → v ≡ get_or job (at + 1) 0 → RowAt p.settings p.rows.given job at → Sets p job at (behind_row p job at v) 4
  unfolding answer_for problem_after
  row_sets {v} e a = record {
    kind = model.Kind.R;
    here = a.kind;
    wide = refl;
    room = a.room;
    goes = refl;
    silent = λ x. refl;
    cands = λ x. refl;
    steps = stepped in_rows (λ old. step_r read refl refl kept) (subst⁻¹ (λ (k : model.Kind). T (not (is_query_kind k))) a.kind tt);
  }
    where
      read : Read p job at Kind.R
      read = record {
        here = omega (arith, a.room);
        kind = sym a.kind;
        passes = rw (a.kind, le-leb 1 p.place behind_i, le-leb p.place model.among_rows in_rows, le-ltb (length job - at - 1) 3 (omega (arith, a.room)));
      }

      kept : HandlesR p (get_or job (at + 1) 0) (get_or job (at + 2) 0) (get_or job (at + 3) 0) (record { number = 0; written = 0; problem = behind_row p job at v })
      kept = row_kept p (reached_sized p reached) (get_or job (at + 1) 0) (get_or job (at + 2) 0) (get_or job (at + 3) 0) 0 a.accepted (behind_row p job at v) refl (ap (behind_row p job at) e)

  pub eight_sets : EightAt p.settings p.rows.given job at → Sets p job at (behind_eight p job at) 18
  unfolding answer_for problem_after
  eight_sets a = record {
    kind = model.Kind.B;
    here = a.kind;
    wide = refl;
    room = a.room;
    goes = refl;
    silent = λ x. refl;
    cands = λ x. ap (λ (b : Basis). b.cands) (rows_set_lem (rows_of_b x.rest) x.problem);
    steps = stepped in_rows (λ old. step_b read refl (eight_kept p (reached_sized p reached) (drop (at + 1) job) a.accepted))
        (subst⁻¹ (λ (k : model.Kind). T (not (is_query_kind k))) a.kind tt);
  }
    where
      read : Read p job at Kind.B
      read = record {
        here = omega (arith, a.room);
        kind = sym a.kind;
        passes = rw (a.kind, le-leb 1 p.place behind_i, le-leb p.place model.among_rows in_rows, le-ltb (length job - at - 1) 17 (omega (arith, a.room)));
      }

-- ---- the run behind it

module _ {p next : Problem} {job : List ℕ} {at bytes : ℕ} (a : Sets p job at next bytes) {q : model.Problem} {r : Run} {free : ℕ} (w : GoesOn job q r free p at) where
  abbrev c : Context
  c = context_at w.problem job at free

  s : Stepped c no_blocks no_blocks (replicate free 0) (replicate free 0) (record { number = 0; written = 0; problem = next })
  s = a.steps w.problem w.holds w.valid free

  passes : Passed engine c
  passes = passed engine engine_lawful c (sym s.number)

  here : at < length job
  here = omega (arith, a.room, a.wide)

  one_less : (f : ℕ) × (w.most ≡ suc f)
  one_less = one_left w.most here w.enough

  nothing_said : bytes_of (answer c) ≡ []
  unfolding answer
  nothing_said = ap (λ (k : model.Kind). bytes_of (answer_for c k)) a.here ∙ ap bytes_of (a.silent c)

  far : at + 1 + width (kind_of (get_or job at 0)) ≡ at + bytes
  far = omega (arith, ap width a.here, a.wide)

  abbrev after : model.Problem
  after = problem_after (context_at w.problem job at free) (kind_of (get_or job at 0))

  moved : rest_of job w.most w.problem free at ≡ answer_then engine c (rest_of job one_less.0 after free (at + bytes))
  unfolding x rest
  moved =
      let all_free : free - length (bytes_of (answer c)) ≡ free = omega (arith, ap length nothing_said) in
      let rest_is : drop (width (kind_of (get_or job at 0))) (drop (at + 1) job) ≡ drop (at + bytes) job = drop-drop (width (kind_of (get_or job at 0))) (at + 1) job ∙ ap (λ (i : ℕ). drop i job) far in
      ap (λ (n : ℕ). rest_of job n w.problem free at) one_less.1
      ∙ run_next one_less.0 w.problem job at free here (sym s.number) (ap (λ (k : model.Kind). is k model.Kind.E) a.here ∙ a.goes)
      ∙ rw (rest_is, all_free, far)

  pub rows_go : GoesOn job q r free next (at + bytes)
  unfolding written
  rows_go = record {
    problem = after;
    most = one_less.0;
    enough = omega (arith, w.enough, one_less.1, a.wide);
    holds = (s.answered refl).0.problem;
    valid = after_valid c (kind_of (get_or job at 0)) passes.place passes.own w.valid;
    cands = ap (λ (k : model.Kind). (problem_after c k).cands) a.here ∙ a.cands c ∙ w.cands;
    number = w.number ∙ ap (λ (y : Run). y.number) moved;
    offset = w.offset ∙ ap (λ (y : Run). y.offset) moved;
    written = w.written ∙ ap written moved ∙ rw nothing_said;
    left = w.left ∙ ap (λ (y : Run). last_left engine w.problem y.contexts) moved
        ∙ ap (λ (o : model.Problem). last_left engine o (rest_of job one_less.0 after free (at + bytes)).contexts) ((left_by c).answered (sym s.number));
  }
