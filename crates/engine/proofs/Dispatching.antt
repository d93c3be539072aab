-- The laws behind a step: the context of the command at a place of the job, its early refusals, and each kind's own.
use Prim.Native.Nat.{ℕ, ◌+◌, ◌-◌, ◌≤◌, ◌<◌}
use native.Mathlib.Omega.{arith}
use mathlib.Core.Path.{◌≡◌, refl, sym, ap, ap₂, ◌∙◌, subst, subst⁻¹}
use mathlib.Core.Bool.{Bool, true, false, not}
use mathlib.Core.Logic.{◌⊎◌, inl, inr, ⊎_elim}
use mathlib.Core.List.{List, [], ◌∷◌, ◌++◌}
use borrow.Author.Tests.{ltb-false}
use denote.Enum.Declared.{tag_of}
use types.Run.{OneOf, miss}
use lib.Dec.{T, ltb}
use lib.ListN.{get_or, length, take, drop, length-drop}
use lib.Seq.{get_or-drop}
use Rattle.model.specs.Base.{All}
use Rattle.model.specs.declared.Term.{Term}
use Rattle.model.specs.declared.Block.{Block}
use Rattle.model.specs.declared.Prices.{Prices}
use Rattle.model.specs.Table.{term}
use Rattle.model.specs.Ranges.{between}
use Rattle.model.specs.Candidates.{prices}
use Rattle.model.specs.Commands as model
use Rattle.model.specs.Commands.{Context, basis_of, kind_of, is, is_query_kind, width, allowed, operand, rows_of_b, block_of_f, range_of_g, operand_term, operand_prices, number, problem_after}
use Rattle.model.specs.Answers.{bytes_of, answer}
use Rattle.model.specs.Refusals.{Refusal, refuse, first_of, refusals_of}
use Rattle.model.specs.Rules.{refusals_by, refusal_by, refusal}
use Rattle.model.specs.Invariants.{Valid}
use Rattle.model.proofs.Runs.{Numbered, first_before, first_behind}
use Rattle.model.proofs.Valid.{place_one, place_last}
use Rattle.codec.specs.declared.kinds.Kind.{Kind}
use Rattle.codec.specs.declared.kinds.Kind.TheVariants as variant
use Rattle.codec.specs.contracts.kinds.Kind.{the_type}
use Rattle.codec.specs.Kinds.{kind_is, early_refusal}
use Rattle.problem.specs.declared.Problem.{Problem}
use Rattle.problem.specs.Problems.{Holds}
use Rattle.problem.specs.Matrix.{MatrixOf}
use Rattle.commands.specs.Effects.{Outcome, refused_as, late_refusal, Handled, HandledWith, Found, HandlesI, HandlesW, HandlesR, HandlesB, HandlesTerm, HandlesF, HandlesP, HandlesD, HandlesG, HandlesL, HandlesV, HandlesC}
use Rattle.commands.specs.Effects.{HandlesN, HandlesE}
use Rattle.incidence.specs.Stored.{BlocksAt}
use Rattle.engine.specs.Steps.{Stepped, Steps, context_at}
use Rattle.engine.proofs.KeptBlocks.{blocks_kept}

-- ---- what passing 3, 4 and 5 says

early_e : (k : model.Kind) (place rest : ℕ) → 0 ≡ early_refusal k place rest → T (not (is k model.Kind.none)) × T (allowed k place) × (width k ≤ rest)
early_e k place rest e = go (is k model.Kind.none) (allowed k place) (ltb rest (width k)) refl e
  where
    go : (a b c : Bool) → ltb rest (width k) ≡ c → 0 ≡ first_of (refuse 3 a ∷ refuse 4 (not b) ∷ refuse 5 c ∷ []) → T (not a) × T b × (width k ≤ rest)
    go true b c q z = absurd (omega arith)
    go false true true q z = absurd (omega arith)
    go false true false q z = (tt, tt, ltb-false rest (width k) q)
    go false false c q z = absurd (omega arith)

-- ---- the commands of one arm

-- a T or an A, by what the match knows of it: the places of the two among the kinds
abbrev pub AddsTerm : Kind → Type 0
AddsTerm k = OneOf (4 ∷ 7 ∷ []) (tag_of the_type k)

adds_term : (k : Kind) → AddsTerm k → (kind_is k ≡ model.Kind.T) ⊎ (kind_is k ≡ model.Kind.A)
adds_term variant.T h = inl refl
adds_term variant.A h = inr refl
adds_term variant.I h = absurd (miss (4 ∷ 7 ∷ []) 0 tt h)
adds_term variant.W h = absurd (miss (4 ∷ 7 ∷ []) 1 tt h)
adds_term variant.R h = absurd (miss (4 ∷ 7 ∷ []) 2 tt h)
adds_term variant.B h = absurd (miss (4 ∷ 7 ∷ []) 3 tt h)
adds_term variant.F h = absurd (miss (4 ∷ 7 ∷ []) 5 tt h)
adds_term variant.P h = absurd (miss (4 ∷ 7 ∷ []) 6 tt h)
adds_term variant.D h = absurd (miss (4 ∷ 7 ∷ []) 8 tt h)
adds_term variant.G h = absurd (miss (4 ∷ 7 ∷ []) 9 tt h)
adds_term variant.L h = absurd (miss (4 ∷ 7 ∷ []) 10 tt h)
adds_term variant.«V» h = absurd (miss (4 ∷ 7 ∷ []) 11 tt h)
adds_term variant.C h = absurd (miss (4 ∷ 7 ∷ []) 12 tt h)
adds_term variant.N h = absurd (miss (4 ∷ 7 ∷ []) 13 tt h)
adds_term variant.E h = absurd (miss (4 ∷ 7 ∷ []) 14 tt h)

-- ---- the context

-- what is read of the command at `at`, which has no early refusal
pub record Read (p : Problem) (job : List ℕ) (at : ℕ) (k : Kind) : Type 0 where
  pub here : at < length job
  pub kind : kind_is k ≡ kind_of (get_or job at 0)
  pub passes : 0 ≡ early_refusal (kind_of (get_or job at 0)) p.place (length job - at - 1)

pub read : {k : Kind} (p : Problem) (job : List ℕ) (at : ℕ) → at < length job → kind_is k ≡ kind_of (get_or job at 0)
    → 0 ≡ early_refusal (kind_of (get_or job at 0)) p.place (length job - at - 1) → Read p job at k
read p job at h k e = record { here = h; kind = k; passes = e }

early_list : Context → List Refusal
early_list x = refuse 3 (is x.kind model.Kind.none) ∷ refuse 4 (not (allowed x.kind x.problem.place)) ∷ refuse 5 (ltb (length x.rest) (width x.kind)) ∷ []

late_list : Context → List Refusal
late_list x = refusals_of x x.kind ++ (refuse 14 (ltb x.free (length (bytes_of (answer x)))) ∷ [])

early_numbered : (x : Context) → All Numbered (early_list x)
unfolding early_list
early_numbered x = (omega arith, (omega arith, (omega arith, tt)))

early_here : {p : Problem} (job : List ℕ) (at : ℕ) {n : ℕ} → n ≡ early_refusal (kind_of (get_or job at 0)) p.place (length job - at - 1)
    → (q : model.Problem) (free : ℕ) → Holds p q → n ≡ first_of (early_list (context_at q job at free))
unfolding early_list
early_here {p} job at {n} d q free h =
    let r : length job - at - 1 ≡ length (drop (at + 1) job) = omega (arith, length-drop (at + 1) job) in
    d ∙ rw (h.place, r)

pub step_early : {p : Problem} {job held rows old : List ℕ} {at n : ℕ} {covered : Bool} {e : Outcome} → n ≡ early_refusal (kind_of (get_or job at 0)) p.place (length job - at - 1)
    → (n ≡ 0 → ⊥) → e ≡ refused_as p n → Steps p held held rows covered job at old old e
unfolding refusal_by refusals_by early_list late_list
step_early {p} {job} {held} {rows} {old} {at} {n} {covered} {e} d z q = record {
  in_problem = λ s h b v f.
      let x = context_at s job at (length old) in
      let o : n ≡ refusal x = early_here job at d s (length old) h ∙ sym (first_before (early_list x) (late_list x) (λ y. z (early_here job at d s (length old) h ∙ y))) in
      rw q record { number = o; refused = λ y. (record { bytes = refl; problem = h }, refl); answered = λ y. absurd (z y) };
}

-- behind the early refusals
module _ {p : Problem} {job : List ℕ} {at : ℕ} {k : Kind} (d : Read p job at k) where
  late_here : (q : model.Problem) (free : ℕ) → Holds p q → refusal (context_at q job at free) ≡ late_refusal (context_at q job at free) (kind_of (get_or job at 0))
  unfolding refusal_by refusals_by early_list late_list answer
  late_here q free h = let x = context_at q job at free in first_behind (early_list x) (late_list x) (early_numbered x) (sym (early_here job at d.passes q free h))

  passed : T (not (is (kind_is k) model.Kind.none)) × T (allowed (kind_is k) p.place) × (width (kind_is k) ≤ length job - at - 1)
  passed = early_e (kind_is k) p.place (length job - at - 1) (subst⁻¹ (λ (c : model.Kind). 0 ≡ early_refusal c p.place (length job - at - 1)) d.kind d.passes)

  pub operands_there : at + 1 + width (kind_is k) ≤ length job
  operands_there = omega (arith, passed.2, d.here)

  pub term_there : AddsTerm k → at + 1 + 3 ≤ length job
  term_there g = ⊎_elim (λ h. omega (arith, operands_there, ap width h)) (λ h. omega (arith, operands_there, ap width h)) (adds_term k g)

  -- a B stands while rows may come
  pub rows_may_come : kind_is k ≡ model.Kind.B → (model.begun ≤ p.place) × (p.place ≤ model.among_rows)
  rows_may_come g = let a = subst (λ (c : model.Kind). T (allowed c p.place)) g passed.1 in (place_one model.Kind.B p.place tt a, place_last model.Kind.B p.place a)

  at_op : (i j : ℕ) → at + 1 + i ≡ j → get_or (drop (at + 1) job) i 0 ≡ get_or job j 0
  at_op i j e = get_or-drop (at + 1) job i 0 ∙ ap (λ (x : ℕ). get_or job x 0) e

  module _ (c : model.Kind) (g : kind_is k ≡ c) {old new : List ℕ} {e : Outcome} where
    as_kind : (q : model.Problem) (held sets : List ℕ) → Holds p q → let x = context_at q job at (length old) in
        Handled x c old new e → ((e.number ≡ 0 → ⊥) → sets ≡ held) → (e.number ≡ 0 → BlocksAt (problem_after x c).cands sets) → Stepped x held sets old new e
    as_kind q held sets h w left blocks =
        let x = context_at q job at (length old) in
        let u : Handled x (kind_of (get_or job at 0)) old new e = subst (λ (c : model.Kind). Handled x c old new e) (sym g ∙ d.kind) w in
        record {
          number = u.number ∙ sym (late_here q (length old) h);
          refused = λ z. (u.refused z, left z);
          answered = λ z. (u.answered z, subst (λ (c : model.Kind). BlocksAt (problem_after x c).cands sets) (sym g ∙ d.kind) (blocks z));
        }

    -- a command that is no F and no D leaves the sets
    as_other : T (not (is c model.Kind.F)) → T (not (is c model.Kind.D)) → (q : model.Problem) {held : List ℕ} → Holds p q → BlocksAt q.cands held → Valid q
        → Handled (context_at q job at (length old)) c old new e → Stepped (context_at q job at (length old)) held held old new e
    as_other nf nd q {held} h b v w =
        let allowed_here = subst (λ (n : ℕ). T (allowed c n)) h.place (subst (λ (y : model.Kind). T (allowed y p.place)) g passed.1) in
        as_kind q held held h w (λ z. refl) (λ z. blocks_kept (context_at q job at (length old)) c nf nd allowed_here v b)

  -- a command behind I, in every problem that p holds
  module _ (c : model.Kind) (g : kind_is k ≡ c) (i : T (not (is c model.Kind.I))) where
    found : (q : model.Problem) (free : ℕ) → Holds p q → Valid q → Found p (context_at q job at free)
    found q free h v = record {
      holds = h;
      valid = v;
      begun = subst (λ (x : ℕ). model.begun ≤ x) h.place (place_one (kind_is k) p.place (subst⁻¹ (λ (x : model.Kind). T (not (is x model.Kind.I))) g i) passed.1);
    }

    behind_i : {held rows old new : List ℕ} {covered : Bool} {e : Outcome} → T (not (is c model.Kind.F)) → T (not (is c model.Kind.D))
        → ((x : Context) → Found p x → BlocksAt x.problem.cands held → (T (is_query_kind c) → MatrixOf (basis_of x.problem) rows covered) → x.rest ≡ drop (at + 1) job → x.free ≡ length old
        → Handled x c old new e)
        → Steps p held held rows covered job at old new e
    behind_i {held} {rows} {old} {new} {covered} {e} nf nd w = record {
      in_problem = λ q h b v f. as_other c g nf nd q h b v
          (w (context_at q job at (length old)) (found q (length old) h v) b (λ t. f (subst (λ (x : model.Kind). T (is_query_kind x)) (sym g ∙ d.kind) t)) refl refl);
    }

    -- an F or a D changes them
    with_blocks : {held sets rows old : List ℕ} {covered : Bool} {e : Outcome}
        → ((x : Context) → Found p x → BlocksAt x.problem.cands held → x.rest ≡ drop (at + 1) job → HandledWith x c old held sets e)
        → Steps p held sets rows covered job at old old e
    with_blocks {held} {sets} {rows} {old} w = record {
      in_problem = λ q h b v f.
          let o = w (context_at q job at (length old)) (found q (length old) h v) b refl in
          as_kind c g q held sets h o.handled o.left o.blocks;
    }

  op : (x : Context) → x.rest ≡ drop (at + 1) job → (i j : ℕ) → at + 1 + i ≡ j → operand x i ≡ get_or job j 0
  op x r i j e = ap (λ (bs : List ℕ). get_or bs i 0) r ∙ at_op i j e

  op_term : {t : Term} → t ≡ term (get_or job (at + 1) 0) (get_or job (at + 1 + 1) 0) (get_or job (at + 1 + 2) 0) → (x : Context) → x.rest ≡ drop (at + 1) job → operand_term x ≡ t
  op_term s x r = rw (op x r 0 (at + 1) (omega arith), op x r 1 (at + 1 + 1) refl, op x r 2 (at + 1 + 2) refl) (sym s)

  op_prices : {w : Prices} → w ≡ prices (get_or job (at + 1) 0) (get_or job (at + 1 + 1) 0) (get_or job (at + 1 + 2) 0) → (x : Context) → x.rest ≡ drop (at + 1) job → operand_prices x ≡ w
  op_prices s x r = rw (op x r 0 (at + 1) (omega arith), op x r 1 (at + 1 + 1) refl, op x r 2 (at + 1 + 2) refl) (sym s)

  op_range : {low high : ℕ} → low ≡ number (get_or job (at + 2) 0 ∷ get_or job (at + 2 + 1) 0 ∷ []) → high ≡ number (get_or job (at + 4) 0 ∷ get_or job (at + 4 + 1) 0 ∷ [])
      → (x : Context) → x.rest ≡ drop (at + 1) job → range_of_g x.rest ≡ between low high
  op_range i j x r =
      rw (op x r 1 (at + 2) (omega arith), op x r 2 (at + 2 + 1) (omega arith), op x r 3 (at + 4) (omega arith), op x r 4 (at + 4 + 1) (omega arith)) (ap₂ between (sym i) (sym j))

  -- ---- each kind

  module _ {held rows old : List ℕ} {covered : Bool} {e : Outcome} where
    pub step_i : kind_is k ≡ model.Kind.I → HandlesI p (get_or job (at + 1) 0) (get_or job (at + 2) 0) e → Steps p held held rows covered job at old old e
    step_i g w = record {
      in_problem = λ q h b v f. as_other model.Kind.I g tt tt q h b v (w (context_at q job at (length old)) old h (at_op 0 (at + 1) (omega arith)) (at_op 1 (at + 2) (omega arith)));
    }

    pub step_w : {w : Prices} → kind_is k ≡ model.Kind.W → w ≡ prices (get_or job (at + 1) 0) (get_or job (at + 1 + 1) 0) (get_or job (at + 1 + 2) 0)
        → HandlesW p w e → Steps p held held rows covered job at old old e
    step_w g s w =
        let last = place_last model.Kind.W p.place (subst (λ (c : model.Kind). T (allowed c p.place)) g passed.1) in
        behind_i model.Kind.W g tt tt tt (λ x f b m r a. w x old f (omega (arith, last, f.holds.place)) (op_prices s x r))

    pub step_r : {v : ℕ} → kind_is k ≡ model.Kind.R → v ≡ get_or job (at + 1) 0 → HandlesR p v (get_or job (at + 2) 0) (get_or job (at + 3) 0) e → Steps p held held rows covered job at old old e
    step_r g i w = behind_i model.Kind.R g tt tt tt (λ x f b m r a. w x old f (op x r 0 (at + 1) (omega arith) ∙ sym i) (op x r 1 (at + 2) (omega arith)) (op x r 2 (at + 3) (omega arith)))

    pub step_b : kind_is k ≡ model.Kind.B → HandlesB p (rows_of_b (drop (at + 1) job)) e → Steps p held held rows covered job at old old e
    step_b g w = behind_i model.Kind.B g tt tt tt (λ x f b m r a. w x old f (omega (arith, rows_may_come g, f.holds.place)) (ap rows_of_b r))

    pub step_term : {t : Term} → AddsTerm k → t ≡ term (get_or job (at + 1) 0) (get_or job (at + 1 + 1) 0) (get_or job (at + 1 + 2) 0) → HandlesTerm p t e → Steps p held held rows covered job at old old e
    step_term g s w = ⊎_elim
        (λ h. behind_i model.Kind.T h tt tt tt (λ x f b m r a. (w x old f (op_term s x r)).0))
        (λ h. behind_i model.Kind.A h tt tt tt (λ x f b m r a. (w x old f (op_term s x r)).1))
        (adds_term k g)

    pub step_g : {low high : ℕ} → kind_is k ≡ model.Kind.G → low ≡ number (get_or job (at + 2) 0 ∷ get_or job (at + 2 + 1) 0 ∷ [])
        → high ≡ number (get_or job (at + 4) 0 ∷ get_or job (at + 4 + 1) 0 ∷ []) → HandlesG p (get_or job (at + 1) 0) low high e → Steps p held held rows covered job at old old e
    step_g g i j w = behind_i model.Kind.G g tt tt tt (λ x f b m r a. w x old f (op x r 0 (at + 1) (omega arith)) (op_range i j x r))

  module _ {held sets rows old : List ℕ} {covered : Bool} {e : Outcome} where
    pub step_f : {b : Block} → kind_is k ≡ model.Kind.F → b ≡ block_of_f (drop (at + 1) job) → HandlesF p b held sets e → Steps p held sets rows covered job at old old e
    step_f g s w = with_blocks model.Kind.F g tt (λ x f b r. w x old f b (ap block_of_f r ∙ sym s))

    pub step_d : kind_is k ≡ model.Kind.D → HandlesD p (get_or job (at + 1) 0) held sets e → Steps p held sets rows covered job at old old e
    step_d g w = with_blocks model.Kind.D g tt (λ x f b r. w x old f b (op x r 0 (at + 1) (omega arith)))

  module _ {held rows old new : List ℕ} {covered : Bool} {e : Outcome} where
    pub step_p : kind_is k ≡ model.Kind.P → HandlesP p old new e → Steps p held held rows covered job at old new e
    step_p g w = behind_i model.Kind.P g tt tt tt (λ x f b m r a. w x f a)

    pub step_l : {s c : ℕ} → kind_is k ≡ model.Kind.L → s ≡ number (take 8 (drop (at + 1) job)) → c ≡ get_or job (at + 9) 0
        → HandlesL p rows covered s c old new e → Steps p held held rows covered job at old new e
    step_l {s} {c} g i j w = behind_i model.Kind.L g tt tt tt (λ x f b m r a. w x f (m tt) (ap (λ (bs : List ℕ). number (take 8 bs)) r ∙ sym i) (op x r 8 (at + 9) (omega arith) ∙ sym j) a)

    pub step_v : {s c : ℕ} → kind_is k ≡ model.Kind.«V» → s ≡ number (take 8 (drop (at + 1) job)) → c ≡ get_or job (at + 9) 0
        → HandlesV p rows covered s c old new e → Steps p held held rows covered job at old new e
    step_v {s} {c} g i j w = behind_i model.Kind.«V» g tt tt tt (λ x f b m r a. w x f (m tt) (ap (λ (bs : List ℕ). number (take 8 bs)) r ∙ sym i) (op x r 8 (at + 9) (omega arith) ∙ sym j) a)

    pub step_c : kind_is k ≡ model.Kind.C → HandlesC p rows covered old new e → Steps p held held rows covered job at old new e
    step_c g w = behind_i model.Kind.C g tt tt tt (λ x f b m r a. w x f (m tt) a)

    pub step_n : kind_is k ≡ model.Kind.N → HandlesN p held covered old new e → Steps p held held rows covered job at old new e
    step_n g w = behind_i model.Kind.N g tt tt tt (λ x f b m r a. w x f b (m tt).told a)

    pub step_e : {rest : ℕ} → rest ≡ length job - at - 1 → kind_is k ≡ model.Kind.E → HandlesE p rest old new e → Steps p held held rows covered job at old new e
    step_e i g w = behind_i model.Kind.E g tt tt tt (λ x f b m r a. w x f.holds (ap length r ∙ length-drop (at + 1) job ∙ omega (arith, i)) a)
