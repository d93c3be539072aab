-- The laws behind the loop over a job's commands: what is left of the run, and the buffer.
use Prim.Native.Nat.{ℕ, zero, suc, ◌+◌, ◌-◌, ◌*◌, ◌^◌, ◌≤◌, ◌<◌}
use native.Mathlib.Omega.{arith}
use native.Mathlib.Numerals.{add-one}
use mathlib.Core.Path.{◌≡◌, refl, sym, ap, ap₂, ◌∙◌, subst, subst⁻¹}
use mathlib.Core.Bool.{Bool, true, false}
use mathlib.Core.List.{List, [], ◌∷◌, ◌++◌, append_assoc, append-nil, map}
use borrow.Author.Tests.{lt-ltb, le-ltb, ne_eqb}
use borrow.Author.Rules.{part_to_end}
use borrow.Rule.Slice.PartMut.{put_mid, post_of, Post-is}
use lib.Dec.{T}
use Rattle.std.specs.Prelude.{Option, Some, None, IfSome, is_some}
use Rattle.std.specs.Option.{unwrap_or}
use lib.ListN.{get_or, length, take, drop, length-append, length-drop, take-append-drop}
use lib.Seq.{take-append_seam, drop-append_seam, drop-length, drop-drop, drop-cons}
use Rattle.model.specs.Base.{join}
use Rattle.model.specs.Commands as model
use Rattle.model.specs.Candidates.{Basis}
use Rattle.model.specs.Commands.{Kind, Context, kind_of, is, is_query_kind, width, problem_after}
use Rattle.model.proofs.Codes.{query_keeps}
use Rattle.model.specs.Answers.{bytes_of, answer}
use Rattle.model.specs.Rules.{engine, refusal}
use Rattle.model.specs.Job.{Run, stop, answer_then, commands, run, run_by, written, packed, buffer_after}
use Rattle.model.specs.Calls.{Met}
use Rattle.model.specs.Records.{leaves, last_left, last_record}
use Rattle.model.specs.Invariants.{Valid}
use Rattle.model.proofs.Runs.{Passed, passed, ends}
use Rattle.model.proofs.Sound.{engine_lawful}
use Rattle.model.proofs.Valid.{after_valid, valid_empty}
use Rattle.model.proofs.Records.{left_by}
use Rattle.problem.specs.declared.Problem.{Problem}
use Rattle.incidence.specs.Stored.{BlocksAt}
use Rattle.problem.specs.Problems.{no_problem, Holds, ReachedWith}
use Rattle.problem.specs.declared.matrix.Matrix.{Matrix}
use Rattle.problem.specs.Matrix.{MatrixOf, Prepares}
use Rattle.problem.proofs.Keeping.{holds_empty}
use Rattle.commands.specs.Effects.{Outcome, Answered}
use Rattle.engine.specs.Steps.{Stepped, Steps, context_at}
use Rattle.engine.specs.declared.job.Ended.{Ended}
use Rattle.engine.specs.Jobs.{called, EndsAs, too_long, IsMatrix, Refreshed}

-- ---- one command of the definitions' run

-- before the job's end there is one more
pub one_left : {at end : ℕ} (n : ℕ) → at < end → end < at + n → (f : ℕ) × (n ≡ suc f)
one_left zero l e = absurd (omega (arith, l, e))
one_left (suc n) l e = (n, refl)

module _ (f : ℕ) (q : model.Problem) (job : List ℕ) (at free : ℕ) (here : at < length job) where
  unfoldable pub x : Context
  x = context_at q job at free

  head : drop at job ≡ get_or job at 0 ∷ drop (at + 1) job
  head = rw (add-one at) (drop-cons job at 0 here)

  unfoldable pub rest : Run
  rest = commands engine f (problem_after (context_at q job at free) (kind_of (get_or job at 0)))
      (drop (width (kind_of (get_or job at 0))) (drop (at + 1) job)) (free - length (bytes_of (answer (context_at q job at free))))
      (at + 1 + width (kind_of (get_or job at 0)))

  run_refused : (refusal x ≡ 0 → ⊥) → commands engine (suc f) q (drop at job) free at ≡ stop (refusal x) at (x ∷ [])
  unfolding x rest
  run_refused n = rw (head, ne_eqb (refusal (context_at q job at free)) 0 n)

  run_ended : refusal x ≡ 0 → is (kind_of (get_or job at 0)) Kind.E ≡ true → commands engine (suc f) q (drop at job) free at ≡ answer_then engine x (stop 0 (at + 1) [])
  unfolding x rest
  run_ended z e = rw (head, z, e)

  pub run_next : refusal x ≡ 0 → is (kind_of (get_or job at 0)) Kind.E ≡ false → commands engine (suc f) q (drop at job) free at ≡ answer_then engine x rest
  unfolding x rest
  run_next z e = rw (head, z, e)

nothing_left : (out : List ℕ) (n offset : ℕ) (xs : List Context) → out ++ written (stop n offset xs) ≡ out
unfolding written
nothing_left out n offset xs = append-nil out

-- ---- the covering matrix: one that stands, one made anew, and a command that looks at none

module _ {p : Problem} {held : List ℕ} {k : Kind} {kept : Option Matrix} {b : Bool} (is_query : b ≡ is_query_kind k) where
  pub refreshed_none : {rows : List ℕ} → length rows ≡ 2048 → b ≡ false → Refreshed p held k kept rows rows None
  refreshed_none s z = record { size = s; within = tt; asked = sym z ∙ is_query; matrix = λ q h b f. tt }

  pub refreshed_same : {rows : List ℕ} {m : Matrix} → length rows ≡ 2048 → IfSome kept (λ m. m.count ≤ 2048) → b ≡ true → kept ≡ Some m → Refreshed p held k kept rows rows (Some m)
  refreshed_same {rows} {m} s l z e = record {
    size = s;
    within = subst (λ (o : Option Matrix). IfSome o (λ m. m.count ≤ 2048)) e l;
    asked = sym z ∙ is_query;
    matrix = λ q h b f. subst (λ (o : Option Matrix). IfSome o (IsMatrix q rows)) e f;
  }

  pub refreshed_anew : {old new : List ℕ} {r : Matrix} → b ≡ true → Prepares p held new r → Refreshed p held k kept old new (Some r)
  refreshed_anew z d = record { size = d.size; within = d.within; asked = sym z ∙ is_query; matrix = λ q h b f. d.matrix q h b }

-- what a matrix that may be none is read as

some_to : {P Q : Matrix → Type 0} (o : Option Matrix) → ((m : Matrix) → is_some o ≡ true → P m → Q m) → IfSome o P → IfSome o Q
some_to None f h = tt
some_to (Some m) f h = f m refl h

pub read_count : (o : Option Matrix) (d : Matrix) {m : Matrix} → m ≡ unwrap_or o d → d.count ≤ 2048 → IfSome o (λ m. m.count ≤ 2048) → m.count ≤ 2048
read_count None d e l h = subst⁻¹ (λ (m : Matrix). m.count ≤ 2048) e l
read_count (Some n) d e l h = subst⁻¹ (λ (m : Matrix). m.count ≤ 2048) e h

read_matrix : (P : Matrix → Type 0) (o : Option Matrix) (d : Matrix) {m : Matrix} → m ≡ unwrap_or o d → T (is_some o) → IfSome o P → P m
read_matrix P None d e t h = absurd t
read_matrix P (Some n) d e t h = subst⁻¹ P e h

-- ---- the buffer

-- the free part from n on, and the buffer with another list in its place
abbrev pub tail : ℕ → List ℕ → List ℕ
tail n bs = take (length bs - n) (drop n bs)

abbrev pub with_tail : ℕ → List ℕ → List ℕ → List ℕ
with_tail n bs new = put_mid n (length bs - n) bs new

with_tail_lem : (n : ℕ) (bs new : List ℕ) → n ≤ length bs → with_tail n bs new ≡ take n bs ++ new
with_tail_lem n bs new l =
    let post : post_of n (length bs - n) bs ≡ [] = Post-is n (length bs) bs l ∙ drop-length bs in
    ap (λ (r : List ℕ). take n bs ++ (new ++ r)) post ∙ ap (λ (r : List ℕ). take n bs ++ r) (append-nil new)

tail_is : (n : ℕ) (bs : List ℕ) → tail n bs ≡ drop n bs
tail_is n bs = part_to_end bs n

-- ---- the loop's invariant: the run is what is written, and then the rest of the job

pub record Going (job old answers held : List ℕ) (p : Problem) (rows : List ℕ) (kept : Option Matrix) (at done : ℕ) : Type 0 where
  pub fuel : ℕ
  pub problem : model.Problem
  pub out : List ℕ
  pub enough : length job < at + fuel
  pub within : at ≤ length job
  pub holds : Holds p problem
  pub blocks : BlocksAt problem.cands held
  pub valid : Valid problem
  pub counted : done ≡ length out
  pub bytes : answers ≡ out ++ drop (length out) old
  pub fits : length out ≤ length old
  pub size : length rows ≡ 2048
  pub few : IfSome kept (λ m. m.count ≤ 2048)
  pub matrix : IfSome kept (IsMatrix problem rows)
  pub number : (run job (length old)).number ≡ (commands engine fuel problem (drop at job) (length old - length out) at).number
  pub offset : (run job (length old)).offset ≡ (commands engine fuel problem (drop at job) (length old - length out) at).offset
  pub written : written (run job (length old)) ≡ out ++ written (commands engine fuel problem (drop at job) (length old - length out) at)
  pub left : last_record (run job (length old)) ≡ last_left engine problem (commands engine fuel problem (drop at job) (length old - length out) at).contexts

pub going_first : {job old held rows : List ℕ} {p : Problem} → length job ≤ 32768 → length old ≤ 32768 → p ≡ no_problem
    → BlocksAt [] held → length rows ≡ 2048 → Going job old old held p rows None 0 0
unfolding run_by
going_first {job} {old} {held} {rows} {p} h g e b s = record {
  fuel = suc (length job);
  problem = model.empty;
  out = [];
  enough = omega arith;
  within = omega arith;
  holds = subst⁻¹ (λ (y : Problem). Holds y model.empty) e holds_empty;
  blocks = b;
  valid = valid_empty;
  counted = refl;
  bytes = refl;
  fits = omega arith;
  size = s;
  few = tt;
  matrix = tt;
  number = rw (le-ltb 32768 (length job) h, le-ltb 32768 (length old) g, all_free);
  offset = rw (le-ltb 32768 (length job) h, le-ltb 32768 (length old) g, all_free);
  written = rw (le-ltb 32768 (length job) h, le-ltb 32768 (length old) g, all_free);
  left = rw (le-ltb 32768 (length job) h, le-ltb 32768 (length old) g, all_free);
}
  where
    all_free : length old - 0 ≡ length old
    all_free = omega arith

module _ {job old answers held : List ℕ} {p : Problem} {rows : List ℕ} {kept : Option Matrix} {at done : ℕ} (w : Going job old answers held p rows kept at done) where
  pub long : length answers ≡ length old
  long = ap length w.bytes ∙ omega (arith, length-append w.out (drop (length w.out) old), length-drop (length w.out) old, w.fits)

  pub done_le : done ≤ length answers
  done_le = omega (arith, long, w.counted, w.fits)

  pub reached : ReachedWith p held
  reached = record { problem = w.problem; holds = w.holds; blocks = w.blocks; valid = w.valid }

  free_is : length (tail done answers) ≡ length old - length w.out
  free_is = ap length (tail_is done answers) ∙ length-drop done answers ∙ omega (arith, long, w.counted)

  tail_of : tail done answers ≡ drop (length w.out) old
  tail_of = tail_is done answers ∙ ap₂ drop w.counted w.bytes ∙ drop-append_seam w.out (drop (length w.out) old)

  front_of : take done answers ≡ w.out
  front_of = ap₂ take w.counted w.bytes ∙ take-append_seam w.out (drop (length w.out) old)

  put : (ans last : List ℕ) → last ≡ ans ++ drop (length ans) (tail done answers) → with_tail done answers last ≡ (w.out ++ ans) ++ drop (length (w.out ++ ans)) old
  put ans last e =
      with_tail_lem done answers last done_le
      ∙ ap₂ (λ (a b : List ℕ). a ++ b) front_of (e ∙ ap (λ (l : List ℕ). ans ++ drop (length ans) l) tail_of
      ∙ ap (λ (l : List ℕ). ans ++ l) (drop-drop (length ans) (length w.out) old ∙ ap (λ (k : ℕ). drop k old) (sym (length-append w.out ans))))
      ∙ sym (append_assoc w.out ans (drop (length (w.out ++ ans)) old))

  put_same : (last : List ℕ) → last ≡ tail done answers → with_tail done answers last ≡ answers
  put_same last e = with_tail_lem done answers last done_le ∙ ap (λ (l : List ℕ). take done answers ++ l) (e ∙ tail_is done answers) ∙ take-append-drop done answers

  fuel_suc : at < length job → (f : ℕ) × (w.fuel ≡ suc f)
  fuel_suc l = one_left w.fuel l w.enough

  -- the job ends with this number and offset, and nothing more is written
  ended : (n offset : ℕ) (xs : List Context) (after : List ℕ) {q : Problem} {sets : List ℕ}
      → commands engine w.fuel w.problem (drop at job) (length old - length w.out) at ≡ stop n offset xs → after ≡ answers
      → Holds q (last_left engine w.problem xs) → BlocksAt (last_left engine w.problem xs).cands sets
      → EndsAs job old after sets (record { number = n; offset = offset; written = done; problem = q })
  unfolding buffer_after written
  ended n offset xs after {q} {sets} e a h b =
      let l : written (run job (length old)) ≡ w.out = w.written ∙ ap (λ (y : Run). w.out ++ written y) e ∙ nothing_left w.out n offset xs in
      let left : last_record (run job (length old)) ≡ last_left engine w.problem xs = w.left ∙ ap (λ (y : Run). last_left engine w.problem y.contexts) e in
      record {
        number = sym (w.number ∙ ap (λ (y : Run). y.number) e);
        offset = sym (w.offset ∙ ap (λ (y : Run). y.offset) e);
        written = w.counted ∙ rw l;
        after = a ∙ w.bytes ∙ rw l;
        problem = subst⁻¹ (Holds q) left h;
        blocks = subst⁻¹ (λ (o : model.Problem). BlocksAt o.cands sets) left b;
      }

  -- ---- the job's bytes end

  pub going_cut : {n : ℕ} → n ≡ 2 → length job ≤ at → EndsAs job old answers held (record { number = n; offset = at; written = done; problem = p })
  going_cut e l = subst⁻¹ (λ (n : ℕ). EndsAs job old answers held (record { number = n; offset = at; written = done; problem = p })) e (ended 2 at [] answers (go w.fuel) refl w.holds w.blocks)
    where
      none : drop at job ≡ []
      none = ap (λ (k : ℕ). drop k job) (let e : at ≡ length job = omega (arith, w.within) in e) ∙ drop-length job

      go : (n : ℕ) → commands engine n w.problem (drop at job) (length old - length w.out) at ≡ stop 2 at []
      go zero = refl
      go (suc n) = rw none

  -- ---- a command

  -- with the covering matrix that it finds
  pub this_step : {rows' sets last : List ℕ} {kept' : Option Matrix} (d : Matrix) {m : Matrix} {e : Outcome} → Refreshed p held (kind_of (get_or job at 0)) kept rows rows' kept' → m ≡ unwrap_or kept' d
      → Steps p held sets (take m.count rows') m.covered job at (tail done answers) last e → Stepped (context_at w.problem job at (length (tail done answers))) held sets (tail done answers) last e
  this_step {rows'} {kept' = kept'} d r u s = s.in_problem w.problem w.holds w.blocks w.valid
      (λ t. read_matrix (IsMatrix w.problem rows') kept' d u (subst⁻¹ (λ (b : Bool). T b) r.asked t) (r.matrix w.problem w.holds w.blocks w.matrix))

  module _ (here : at < length job) {last sets : List ℕ} {e : Outcome} (s : Stepped (context_at w.problem job at (length (tail done answers))) held sets (tail done answers) last e) where
    abbrev ctx : Context
    ctx = context_at w.problem job at (length old - length w.out)

    s' : Stepped ctx held sets (tail done answers) last e
    s' = subst (λ (n : ℕ). Stepped (context_at w.problem job at n) held sets (tail done answers) last e) free_is s

    pub going_refused : {n : ℕ} {q : Problem} → n ≡ e.number → (e.number ≡ 0 → ⊥) → q ≡ e.problem
        → EndsAs job old (with_tail done answers last) sets (record { number = n; offset = at; written = done; problem = q })
    unfolding x
    going_refused {q = q} ne d qe =
        let n : refusal ctx ≡ 0 → ⊥ = λ z. d (s'.number ∙ z) in
        let step = ap (λ (n : ℕ). commands engine n w.problem (drop at job) (length old - length w.out) at) (fuel_suc here).1
        ∙ run_refused (fuel_suc here).0 w.problem job at (length old - length w.out) here n in
        let h : Holds q (leaves engine ctx) = subst⁻¹ (λ (y : Problem). Holds y (leaves engine ctx)) qe (subst⁻¹ (Holds e.problem) ((left_by ctx).refused n) (s'.refused d).0.problem) in
        let b : BlocksAt (leaves engine ctx).cands sets = subst⁻¹ (λ (o : model.Problem). BlocksAt o.cands sets) ((left_by ctx).refused n)
        (subst⁻¹ (BlocksAt w.problem.cands) (s'.refused d).1 w.blocks) in
        subst⁻¹ (λ (n : ℕ). EndsAs job old (with_tail done answers last) sets (record { number = n; offset = at; written = done; problem = q })) (ne ∙ s'.number)
        (ended (refusal ctx) at (ctx ∷ []) (with_tail done answers last) step (put_same last (s'.refused d).0.bytes) h b)

    module _ (z : e.number ≡ 0) where
      ans : List ℕ
      ans = bytes_of (answer (context_at w.problem job at (length old - length w.out)))

      a : Answered ctx (kind_of (get_or job at 0)) (tail done answers) last e
      a = (s'.answered z).0

      passes : Passed engine ctx
      passes = passed engine engine_lawful ctx (sym s'.number ∙ z)

      put_back : with_tail done answers last ≡ (w.out ++ ans) ++ drop (length (w.out ++ ans)) old
      unfolding ans answer
      put_back = put (bytes_of (answer ctx)) last a.bytes

      count_is : done + e.written ≡ length (w.out ++ ans)
      unfolding ans answer
      count_is = omega (arith, w.counted, a.written, length-append w.out (bytes_of (answer ctx)))

      pub room_left : done + e.written ≤ length old
      unfolding ans
      room_left = omega (arith, count_is, passes.room, w.fits, length-append w.out (bytes_of (answer ctx)))

      one_more : (y : Run) → written (run job (length old)) ≡ w.out ++ written (answer_then engine ctx y) → written (run job (length old)) ≡ (w.out ++ ans) ++ written y
      unfolding written ans
      one_more y h = h ∙ sym (append_assoc w.out (bytes_of (answer ctx)) (join (map bytes_of y.answers)))

      -- the record that the command leaves
      left_here : leaves engine ctx ≡ problem_after ctx (kind_of (get_or job at 0))
      left_here = (left_by ctx).answered (sym s'.number ∙ z)

      pub going_ended : {q : Problem} → is (kind_of (get_or job at 0)) Kind.E ≡ true → q ≡ e.problem
          → EndsAs job old (with_tail done answers last) sets (record { number = 0; offset = at + 1; written = done + e.written; problem = q })
      unfolding buffer_after written x
      going_ended {q} k qe =
          let step = ap (λ (n : ℕ). commands engine n w.problem (drop at job) (length old - length w.out) at) (fuel_suc here).1
          ∙ run_ended (fuel_suc here).0 w.problem job at (length old - length w.out) here (sym s'.number ∙ z) k in
          let l : written (run job (length old)) ≡ w.out ++ ans =
          one_more (stop 0 (at + 1) []) (w.written ∙ ap (λ (y : Run). w.out ++ written y) step) ∙ nothing_left (w.out ++ ans) 0 (at + 1) [] in
          let left : last_record (run job (length old)) ≡ problem_after ctx (kind_of (get_or job at 0)) = w.left ∙ ap (λ (y : Run). last_left engine w.problem y.contexts) step ∙ left_here in
          record {
            number = sym (w.number ∙ ap (λ (y : Run). y.number) step);
            offset = sym (w.offset ∙ ap (λ (y : Run). y.offset) step);
            written = count_is ∙ rw l;
            after = put_back ∙ rw l;
            problem = subst⁻¹ (Holds q) left (subst⁻¹ (λ (y : Problem). Holds y (problem_after ctx (kind_of (get_or job at 0)))) qe a.problem);
            blocks = subst⁻¹ (λ (o : model.Problem). BlocksAt o.cands sets) left (s'.answered z).1;
          }

      pub width_fits : at + 1 + width (kind_of (get_or job at 0)) ≤ length job
      width_fits = omega (arith, passes.operands, length-drop (at + 1) job)

      free_left : length old - length w.out - length (bytes_of (answer ctx)) ≡ length old - length (w.out ++ ans)
      unfolding ans
      free_left = omega (arith, length-append w.out (bytes_of (answer ctx)))

      pub going_next : {q : Problem} {rows' : List ℕ} {kept' : Option Matrix} {at' : ℕ} → q ≡ e.problem → Refreshed p held (kind_of (get_or job at 0)) kept rows rows' kept'
          → is (kind_of (get_or job at 0)) Kind.E ≡ false → at' ≡ at + 1 + width (kind_of (get_or job at 0)) → Going job old (with_tail done answers last) sets q rows' kept' at' (done + e.written)
      unfolding x rest
      going_next {q} {rows'} {kept'} {at'} qe r k ae =
          let step = ap (λ (n : ℕ). commands engine n w.problem (drop at job) (length old - length w.out) at) (fuel_suc here).1
          ∙ run_next (fuel_suc here).0 w.problem job at (length old - length w.out) here (sym s'.number ∙ z) k in
          record {
            fuel = (fuel_suc here).0;
            problem = problem_after ctx (kind_of (get_or job at 0));
            out = w.out ++ ans;
            enough = omega (arith, w.enough, (fuel_suc here).1, ae);
            within = omega (arith, ae, width_fits);
            holds = subst⁻¹ (λ (y : Problem). Holds y (problem_after ctx (kind_of (get_or job at 0)))) qe a.problem;
            blocks = (s'.answered z).1;
            valid = after_valid ctx (kind_of (get_or job at 0)) passes.place passes.own w.valid;
            counted = count_is;
            bytes = put_back;
            fits = omega (arith, count_is, room_left);
            size = r.size;
            few = r.within;
            matrix = some_to kept'
                (λ m t. subst⁻¹ (λ (b : Basis). MatrixOf b (take m.count rows') m.covered) (query_keeps ctx (kind_of (get_or job at 0)) (subst (λ (b : Bool). T b) (sym t ∙ r.asked) tt)))
                (r.matrix w.problem w.holds w.blocks w.matrix);
            number = w.number ∙ ap (λ (y : Run). y.number) step ∙ ap (λ (y : Run). y.number) moved;
            offset = w.offset ∙ ap (λ (y : Run). y.offset) step ∙ ap (λ (y : Run). y.offset) moved;
            written = one_more _ (w.written ∙ ap (λ (y : Run). w.out ++ written y) step) ∙ ap (λ (y : Run). (w.out ++ ans) ++ written y) moved;
            left = w.left ∙ ap (λ (y : Run). last_left engine w.problem y.contexts) step
                ∙ ap (λ (o : model.Problem). last_left engine o later.contexts) left_here
                ∙ ap (λ (y : Run). last_left engine (problem_after ctx (kind_of (get_or job at 0))) y.contexts) moved;
          }
        where
          rest_is : drop (width (kind_of (get_or job at 0))) (drop (at + 1) job) ≡ drop at' job
          rest_is = drop-drop (width (kind_of (get_or job at 0))) (at + 1) job ∙ ap (λ (i : ℕ). drop i job) (sym ae)

          later : Run
          later = commands engine (fuel_suc here).0 (problem_after ctx (kind_of (get_or job at 0)))
              (drop (width (kind_of (get_or job at 0))) (drop (at + 1) job)) (length old - length w.out - length (bytes_of (answer ctx)))
              (at + 1 + width (kind_of (get_or job at 0)))

          moved : later ≡ commands engine (fuel_suc here).0 (problem_after ctx (kind_of (get_or job at 0))) (drop at' job) (length old - length (w.out ++ ans)) at'
          moved = rw (rest_is, free_left, ← ae)

-- ---- a job or a buffer that is too long

module _ (job old : List ℕ) {held : List ℕ} (none : BlocksAt [] held) {e : Ended} (t : e ≡ too_long) where
  refused_long : run job (length old) ≡ stop 1 0 [] → EndsAs job old old held e
  unfolding buffer_after written
  refused_long r = rw t record { number = rw r; offset = rw r; written = rw r; after = rw r; problem = rw r holds_empty; blocks = rw r none }

  pub job_long : 32768 < length job → EndsAs job old old held e
  unfolding run_by
  job_long l = refused_long (rw (lt-ltb 32768 (length job) l))

  pub buffer_long : length job ≤ 32768 → 32768 < length old → EndsAs job old old held e
  unfolding run_by
  buffer_long h l = refused_long (rw (le-ltb 32768 (length job) h, lt-ltb 32768 (length old) l))

-- ---- what the call tells

module _ {job old new held : List ℕ} {e : Ended} (h : EndsAs job old new held e) where
  pub tells_small : (e.offset ≤ 32768) × (e.written ≤ 32768)
  tells_small = let s = ends engine engine_lawful job (length old) in (omega (arith, h.offset, s.offset_small), omega (arith, h.written, s.written_small))

  pub tells_packed : {r : ℕ} → r ≡ e.number * 2 ^ 32 + e.offset * 2 ^ 16 + e.written → Met (called job old r new)
  unfolding packed
  tells_packed q = record { returned = q ∙ rw (h.number, h.offset, h.written); after = h.after }
