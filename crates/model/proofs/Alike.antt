-- K3: a command that finds the same problem and the same operands, with other bytes behind them, does the same.
use Prim.Native.Nat.{ℕ, ◌≤◌, ◌<◌}
use native.Mathlib.Omega.{arith}
use mathlib.Core.Path.{◌≡◌, refl, sym, ap, ◌∙◌}
use mathlib.Core.Logic.{◌⊎◌, inl, inr}
use mathlib.Core.List.{List}
use lib.Dec.{T, T_not, ltb}
use lib.Arith.{le→nltb}
use lib.ListN.{length, take, length-take}
use Rattle.model.specs.Commands.{Kind, is, kind_of, width, Problem, Context, operand, add_rows, add_block, problem_after}
use Rattle.model.specs.Answers.{answer_for, answer}
use Rattle.model.specs.Refusals.{rows_refusals, block_refusals, refusals_of}
use Rattle.model.specs.Rules.{refusals_by, refusal_by, refusal}
use Rattle.model.specs.Standing.{command_of}
use Rattle.model.specs.Pieces.{reach}
use Rattle.model.proofs.Lists.{T_false}
use Rattle.model.proofs.Runs.{context}
use Rattle.model.proofs.RowByRow.{same_rows}
use Rattle.model.proofs.BlockBytes.{same_block}
use Rattle.model.proofs.Replay.{same_operand}
use Rattle.model.proofs.FreshQuery.{same_answer}
use Rattle.model.proofs.Pieces.{Within, all_or_within}
use Rattle.model.proofs.ExpandedJob.{behind, behind_all, behind_take}

abbrev pub with_rest : Context → List ℕ → Context
with_rest x bs = record { problem = x.problem; kind = x.kind; rest = bs; free = x.free }

-- ---- by kind

record Does (k : Kind) (x y : Context) : Type 0 where
  refusals : refusals_of y k ≡ refusals_of x k
  answer : answer_for y k ≡ answer_for x k
  after : problem_after y k ≡ problem_after x k

-- where its operands are the same, and for E whether bytes follow
does_by : (x : Context) (bs : List ℕ) (k : Kind) → let y = with_rest x bs in take (width k) bs ≡ take (width k) x.rest → ((i : ℕ) → i < width k → operand y i ≡ operand x i)
    → (T (is k Kind.E) → ltb 0 (length bs) ≡ ltb 0 (length x.rest)) → Does k x y
unfolding refusals_of answer_for problem_after
does_by x bs Kind.I e g f =
    let a = g 0 (omega arith) in
    let b = g 1 (omega arith) in
    record { refusals = rw (a, b); answer = refl; after = rw (a, b) }
does_by x bs Kind.W e g f =
    let a = g 0 (omega arith) in
    let b = g 1 (omega arith) in
    let c = g 2 (omega arith) in
    record { refusals = rw (a, b, c); answer = refl; after = rw (a, b, c) }
does_by x bs Kind.R e g f =
    let a = g 0 (omega arith) in
    let b = g 1 (omega arith) in
    let c = g 2 (omega arith) in
    record { refusals = rw (a, b, c); answer = refl; after = rw (a, b, c) }
does_by x bs Kind.B e g f =
    let a = same_rows bs x.rest g in
    record { refusals = ap (rows_refusals x.problem) a; answer = refl; after = ap (add_rows x.problem) a }
does_by x bs Kind.T e g f =
    let a = g 0 (omega arith) in
    let b = g 1 (omega arith) in
    let c = g 2 (omega arith) in
    record { refusals = rw (a, b, c); answer = refl; after = rw (a, b, c) }
does_by x bs Kind.F e g f =
    let a = same_block bs x.rest g in
    record { refusals = ap (block_refusals x.problem) a; answer = refl; after = ap (add_block x.problem) a }
does_by x bs Kind.P e g f = record { refusals = refl; answer = refl; after = refl }
does_by x bs Kind.A e g f =
    let a = g 0 (omega arith) in
    let b = g 1 (omega arith) in
    let c = g 2 (omega arith) in
    record { refusals = rw (a, b, c); answer = refl; after = rw (a, b, c) }
does_by x bs Kind.D e g f = let a = g 0 (omega arith) in record { refusals = rw a; answer = refl; after = rw a }
does_by x bs Kind.L e g f = record { refusals = refl; answer = same_answer x (with_rest x bs) refl Kind.L tt (λ t. refl) e; after = refl }
does_by x bs Kind.«V» e g f = record { refusals = refl; answer = same_answer x (with_rest x bs) refl Kind.«V» tt (λ t. refl) e; after = refl }
does_by x bs Kind.G e g f =
    let number = g 0 (omega arith) in
    let a = g 1 (omega arith) in
    let b = g 2 (omega arith) in
    let c = g 3 (omega arith) in
    let d = g 4 (omega arith) in
    record { refusals = rw (number, a, b, c, d); answer = refl; after = rw (number, a, b, c, d) }
does_by x bs Kind.C e g f = record { refusals = refl; answer = refl; after = refl }
does_by x bs Kind.N e g f = record { refusals = refl; answer = refl; after = refl }
does_by x bs Kind.E e g f = record { refusals = rw (f tt); answer = refl; after = refl }
does_by x bs Kind.none e g f = record { refusals = refl; answer = refl; after = refl }

-- ---- any command

pub record Alike (x y : Context) : Type 0 where
  pub refusal : refusal y ≡ refusal x
  pub answer : answer y ≡ answer x
  pub after : problem_after y y.kind ≡ problem_after x x.kind
  pub command : command_of y ≡ command_of x

pub alike : (x : Context) (bs : List ℕ) → let w = width x.kind in take w bs ≡ take w x.rest → ltb (length bs) w ≡ ltb (length x.rest) w
    → (T (is x.kind Kind.E) → ltb 0 (length bs) ≡ ltb 0 (length x.rest)) → Alike x (with_rest x bs)
unfolding refusal_by refusals_by answer
alike x bs e m f =
    let d = does_by x bs x.kind e (same_operand x.kind x (with_rest x bs) e) f in
    record {
      refusal = rw (m, d.refusals, d.answer);
      answer = d.answer;
      after = d.after;
      command = rw e;
    }

-- of the expanded job, where it is no whole B
pub behind_alike : (q : Problem) (b : ℕ) (bs : List ℕ) (free : ℕ) → Alike (context q b bs free) (context q b (behind b bs) free)
behind_alike q b bs free = go (all_or_within b bs)
  where
    w : ℕ
    w = width (kind_of b)

    go : (length bs ≤ reach (kind_of b) bs) ⊎ Within b bs → Alike (context q b bs free) (context q b (behind b bs) free)
    go (inl h) =
        let e = behind_all b bs h in
        alike (context q b bs free) (behind b bs) (ap (take w) e) (ap (λ (cs : List ℕ). ltb (length cs) w) e) (λ i. ap (λ (cs : List ℕ). ltb 0 (length cs)) e)
    go (inr i) =
        let e = behind_take b bs i in
        let l : w ≤ length (behind b bs) = omega (arith, i.operands, ap length e, length-take w bs, length-take w (behind b bs)) in
        let there = T_false {b = ltb (length bs) w} (le→nltb (length bs) w i.operands) in
        alike (context q b bs free) (behind b bs) e (T_false {b = ltb (length (behind b bs)) w} (le→nltb (length (behind b bs)) w l) ∙ sym there)
        (λ t. absurd (T_not (is (kind_of b) Kind.E) i.goes t))
