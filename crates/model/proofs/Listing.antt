-- K6: two jobs that differ in W's operands alone give the same answers but at C.
use Prim.Native.Nat.{ℕ, zero, suc, ◌+◌, ◌-◌, ◌≤◌, ◌<◌}
use native.Mathlib.Omega.{arith}
use mathlib.Core.Path.{◌≡◌, refl, sym, ap, ap₂, ◌∙◌, subst, subst⁻¹}
use mathlib.Core.Logic.{◌⊎◌, inl, inr}
use mathlib.Core.Bool.{Bool, true, false, not, cond, ◌||◌}
use mathlib.Core.List.{List, [], ◌∷◌, map}
use lib.Dec.{T, ltb, eqb, eqb→eq, nltb→le}
use lib.Seq.{length-take-le}
use lib.ListN.{length, drop, length-drop}
use Rattle.model.specs.Base.{filter}
use Rattle.model.specs.Table.{Table}
use Rattle.model.specs.Candidates.{Candidate}
use Rattle.model.specs.Commands.{Kind, is, kind_of, width, allowed, Problem, empty, Context, problem_after}
use Rattle.model.specs.Commands.{in_prices, at_place, operand_prices, table_of}
use Rattle.model.specs.Answers.{Answer, bytes_of, answer_for, answer}
use Rattle.model.specs.Refusals.{refuse, first_of, dear, refusals_of}
use Rattle.model.specs.Rules.{engine, refusals_by, refusal_by, refusal}
use Rattle.model.specs.Job.{Run, stop, answer_then, commands, run, run_by}
use Rattle.model.specs.Exchanges.{answers}
use Rattle.model.specs.Standing.{Command}
use Rattle.model.specs.Pricing.{unpriced, uncosted, asked_of, listing, SameListing, no_v, Untouched}
use Rattle.model.proofs.Lists.{yes_or_no, and_l, and_r}
use Rattle.model.proofs.Codes.{is_kind}
use Rattle.model.proofs.Runs.{context, Passed, passed, step_refused, step_ends, step_goes}
use Rattle.model.proofs.Sound.{engine_lawful}
use Rattle.model.proofs.Alike.{with_rest, Alike, alike}
use Rattle.model.proofs.Unpriced.{unpriced_none, behind, unpriced_step, unpriced_length, behind_length, behind_drop, behind_own, erased, plain, unpriced_by, same_length, same_bytes}

-- ---- one command of both jobs

-- what is the same of two commands
record Alongside (x y : Context) : Type 0 where
  refusal : refusal y ≡ refusal x
  answer : uncosted (answer y) ≡ uncosted (answer x)
  after : erased (problem_after y y.kind) ≡ erased (problem_after x x.kind)
  asked : T (answers engine x) → asked_of y ≡ asked_of x

plain_refusal : (x : Context) → T (not (is x.kind Kind.«V»)) → refusal (plain x) ≡ refusal x
unfolding refusal_by refusals_by answer
plain_refusal x v =
    let u = unpriced_by x x.kind v in
    rw (u.refusals, same_length (answer_for (plain x) x.kind) (answer_for x x.kind) u.answer)

plain_answer : (x : Context) → T (not (is x.kind Kind.«V»)) → uncosted (answer (plain x)) ≡ uncosted (answer x)
unfolding answer
plain_answer x v = (unpriced_by x x.kind v).answer

-- with the same operands
other_command : (q r : Problem) (b : ℕ) (bs : List ℕ) (free : ℕ) → erased q ≡ erased r → T (not (is (kind_of b) Kind.W)) → T (not (is (kind_of b) Kind.«V»)) → Alongside (context q b bs free) (context r b (behind b bs) free)
other_command q r b bs free e n v =
    let x = context q b bs free in
    let y = context r b (behind b bs) free in
    let l = behind_length b bs in
    let a : Alike (plain x) (with_rest (plain x) (behind b bs)) =
    alike (plain x) (behind b bs) (behind_own b bs n) (ap (λ (k : ℕ). ltb k (width (kind_of b))) l) (λ t. ap (λ (k : ℕ). ltb 0 k) l) in
    let same : plain y ≡ with_rest (plain x) (behind b bs) = ap (λ (z : Problem). context z b (behind b bs) free) (sym e) in
    record {
      refusal = sym (plain_refusal y v) ∙ ap refusal same ∙ a.refusal ∙ plain_refusal x v;
      answer = sym (plain_answer y v) ∙ ap (λ (z : Context). uncosted (answer z)) same ∙ ap uncosted a.answer ∙ plain_answer x v;
      after =
          sym (unpriced_by y (kind_of b) v).after ∙ ap (λ (z : Context). erased (problem_after z z.kind)) same ∙ ap erased a.after
          ∙ (unpriced_by x (kind_of b) v).after;
      asked = λ t. ap asked_of same ∙ ap (λ (c : Command). (c, table_of q, q.cands)) a.command;
    }

-- a W: its refusals behind 3, and that 16 apart its prices do not matter
abbrev refusal_w : Bool → Bool → Bool → Bool → ℕ
refusal_w place short dear long = first_of (refuse 4 (not place) ∷ refuse 5 short ∷ refuse 16 dear ∷ refuse 14 long ∷ [])

moderate_alike : (a s d e : Bool) → (refusal_w a s d e ≡ 16 → ⊥) → refusal_w a s false e ≡ refusal_w a s d e
moderate_alike false s d e n = refl
moderate_alike true true d e n = refl
moderate_alike true false true e n = absurd (n refl)
moderate_alike true false false e n = refl

w_refusal : (x : Context) → x.kind ≡ Kind.W → refusal x ≡ refusal_w (allowed Kind.W x.problem.place) (ltb (length x.rest) 3) (dear (operand_prices x)) (ltb x.free 0)
unfolding refusal_by refusals_by refusals_of answer answer_for
w_refusal x e = rw e refl

-- zeros are not dear
zero_prices : (b : ℕ) (bs : List ℕ) (q : Problem) (free : ℕ) → kind_of b ≡ Kind.W → 3 ≤ length bs → dear (operand_prices (context q b (behind b bs) free)) ≡ false
zero_prices b bs q free e l =
    rw (e, length-take-le 3 bs l) refl

w_command : (q r : Problem) (b : ℕ) (bs : List ℕ) (free : ℕ) → erased q ≡ erased r → kind_of b ≡ Kind.W → (refusal (context q b bs free) ≡ 16 → ⊥)
    → Alongside (context q b bs free) (context r b (behind b bs) free)
unfolding answer answer_for problem_after
w_command q r b bs free e k n = record { refusal = same; answer = rw k refl; after = rw k (ap (at_place in_prices) (sym e)); asked = rw k (λ t. absurd t) }
  where
    x : Context
    x = context q b bs free

    y : Context
    y = context r b (behind b bs) free

    place : r.place ≡ q.place
    place = ap (λ (p : Problem). p.place) (sym e)

    short : ltb (length (behind b bs)) 3 ≡ ltb (length bs) 3
    short = ap (λ (i : ℕ). ltb i 3) (behind_length b bs)

    first : (c : Bool) → ltb (length bs) 3 ≡ c → refusal_w (allowed Kind.W q.place) c (dear (operand_prices y)) (ltb free 0) ≡ refusal_w
        (allowed Kind.W q.place) c (dear (operand_prices x)) (ltb free 0)
    first true z = early (allowed Kind.W q.place)
      where
        early : (a : Bool) → refusal_w a true (dear (operand_prices y)) (ltb free 0) ≡ refusal_w a true (dear (operand_prices x)) (ltb free 0)
        early true = refl
        early false = refl
    first false z =
        ap (λ (d : Bool). refusal_w (allowed Kind.W q.place) false d (ltb free 0)) (zero_prices b bs r free k (nltb→le (length bs) 3 (rw z tt)))
        ∙ moderate_alike (allowed Kind.W q.place) false (dear (operand_prices x)) (ltb free 0) (λ s. n (w_refusal x k ∙ rw z s))

    same : refusal y ≡ refusal x
    same = w_refusal y k ∙ rw (place, short) (first (ltb (length bs) 3) refl) ∙ sym (w_refusal x k)

alongside : (q r : Problem) (b : ℕ) (bs : List ℕ) (free : ℕ) → erased q ≡ erased r → T (not (is (kind_of b) Kind.«V»)) → (refusal (context q b bs free) ≡ 16 → ⊥) → Alongside (context q b bs free) (context r b (behind b bs) free)
alongside q r b bs free e v n = go (yes_or_no (is (kind_of b) Kind.W))
  where
    go : T (is (kind_of b) Kind.W) ⊎ T (not (is (kind_of b) Kind.W)) → Alongside (context q b bs free) (context r b (behind b bs) free)
    go (inl t) = w_command q r b bs free e (is_kind (kind_of b) Kind.W t) n
    go (inr t) = other_command q r b bs free e t v

-- ---- the commands of both jobs

asked_first : (x y : Context) → Alongside x y → (xs ys : List Context) → map asked_of (filter (answers engine) xs) ≡ map asked_of (filter (answers engine) ys)
    → map asked_of (filter (answers engine) (x ∷ xs)) ≡ map asked_of (filter (answers engine) (y ∷ ys))
asked_first x y h xs ys e = rw (same_bytes (answer y) (answer x) h.answer) (go (answers engine x) h.asked)
  where
    go : (b : Bool) → (T b → asked_of y ≡ asked_of x) → map asked_of
        (cond b (x ∷ filter (answers engine) xs) (filter (answers engine) xs)) ≡ map asked_of
        (cond b (y ∷ filter (answers engine) ys) (filter (answers engine) ys))
    go true a = ap₂ (λ (c : Command × Table × List Candidate) (cs : List (Command × Table × List Candidate)). c ∷ cs) (sym (a tt)) e
    go false a = e

-- a refused command, and an answered one with what both jobs give behind it
both_stop : (x y : Context) → Alongside x y → (at : ℕ) → SameListing (stop (refusal x) at (x ∷ [])) (stop (refusal y) at (y ∷ []))
both_stop x y h at = record { number = sym h.refusal; offset = refl; answers = refl; asked = asked_first x y h [] [] refl }

both_go : (x y : Context) → Alongside x y → (r s : Run) → SameListing r s → SameListing (answer_then engine x r) (answer_then engine y s)
both_go x y h r s e = record {
  number = e.number;
  offset = e.offset;
  answers = ap₂ (λ (a : Answer) (later : List Answer). a ∷ later) (sym h.answer) e.answers;
  asked = asked_first x y h r.contexts s.contexts e.asked;
}

same_commands : (k : ℕ) (q r : Problem) (bs : List ℕ) (free at : ℕ) → erased q ≡ erased r → length bs < k → T (no_v (commands engine k q bs free at)) → ((commands engine k q bs free at).number ≡ 16 → ⊥)
    → SameListing (commands engine k q bs free at) (commands engine k r (unpriced bs) free at)
same_commands zero q r bs free at e l v n = absurd (omega arith)
same_commands (suc k) q r [] free at e l v n = rw unpriced_none record { number = refl; offset = refl; answers = refl; asked = refl }
same_commands (suc k) q r (b ∷ bs) free at e l v n =
    rw (unpriced_step b bs)
    (go (λ f. same_commands k (problem_after x (kind_of b)) (problem_after y (kind_of b)) (drop w bs) (free - length (bytes_of (answer x))) (at + 1 + w) f (omega (arith, length-drop w bs)))
    (yes_or_no (eqb (refusal x) 0)))
  where
    x : Context
    x = context q b bs free

    y : Context
    y = context r b (behind b bs) free

    w : ℕ
    w = width (kind_of b)

    here : Run
    here = commands engine k (problem_after x (kind_of b)) (drop w bs) (free - length (bytes_of (answer x))) (at + 1 + w)

    there : Run
    there = commands engine k (problem_after y (kind_of b)) (unpriced (drop w bs)) (free - length (bytes_of (answer x))) (at + 1 + w)

    other : Bool
    other = not (is (kind_of b) Kind.«V»)

    Rest : Type 0
    Rest = erased (problem_after x (kind_of b)) ≡ erased (problem_after y (kind_of b)) → T (no_v here) → (here.number ≡ 16 → ⊥) → SameListing here there

    go : Rest → T (eqb (refusal x) 0) ⊎ T (not (eqb (refusal x) 0)) → SameListing (commands engine (suc k) q (b ∷ bs) free at) (commands engine (suc k) r (b ∷ behind b bs) free at)
    go rest (inr t) =
        let first = step_refused engine k q b bs free at t in
        let h = alongside q r b bs free e (and_l other true (subst (λ (u : Run). T (no_v u)) first v)) (λ s. n (ap (λ (u : Run). u.number) first ∙ s)) in
        let second = step_refused engine k r b (behind b bs) free at (subst⁻¹ (λ (i : ℕ). T (not (eqb i 0))) h.refusal t) in
        rw (first, second) (both_stop x y h at)
    go rest (inl t) = ended (yes_or_no (is (kind_of b) Kind.E))
      where
        z : refusal x ≡ 0
        z = eqb→eq (refusal x) 0 t

        read_first : T (is (kind_of b) Kind.E) ⊎ T (not (is (kind_of b) Kind.E)) → T other
        read_first (inl d) = and_l other true (subst (λ (u : Run). T (no_v u)) (step_ends engine k q b bs free at z d) v)
        read_first (inr d) = and_l other (no_v here) (subst (λ (u : Run). T (no_v u)) (step_goes engine k q b bs free at z d) v)

        h : Alongside x y
        h = alongside q r b bs free e (read_first (yes_or_no (is (kind_of b) Kind.E))) (λ s. absurd (omega (arith, s, z)))

        i : Passed engine x
        i = passed engine engine_lawful x z

        ended : T (is (kind_of b) Kind.E) ⊎ T (not (is (kind_of b) Kind.E)) → SameListing (commands engine (suc k) q (b ∷ bs) free at) (commands engine (suc k) r (b ∷ behind b bs) free at)
        ended (inl d) =
            rw (step_ends engine k q b bs free at z d, step_ends engine k r b (behind b bs) free at (h.refusal ∙ z) d)
            (both_go x y h (stop 0 (at + 1) []) (stop 0 (at + 1) []) record { number = refl; offset = refl; answers = refl; asked = refl })
        ended (inr d) =
            let first = step_goes engine k q b bs free at z d in
            let behind_it : drop w (behind b bs) ≡ unpriced (drop w bs) = behind_drop b bs (record { named = i.named; operands = i.operands; goes = d }) in
            let left : length (bytes_of (answer y)) ≡ length (bytes_of (answer x)) = same_length (answer y) (answer x) h.answer in
            rw (first, step_goes engine k r b (behind b bs) free at (h.refusal ∙ z) d, behind_it, left)
            (both_go x y h here there (rest (sym h.after) (and_r other (no_v here) (subst (λ (u : Run). T (no_v u)) first v)) (λ s. n (ap (λ (u : Run). u.number) first ∙ s))))

with_zeros_lem : (job : List ℕ) (room : ℕ) → T (no_v (run job room)) → ((run job room).number ≡ 16 → ⊥) → SameListing (run job room) (run (unpriced job) room)
unfolding run_by
with_zeros_lem job room v n = rw (unpriced_length job) (go (ltb 32768 (length job) || ltb 32768 room) v n)
  where
    go : (c : Bool) → T (no_v (cond c (stop 1 0 []) (commands engine (suc (length job)) empty job room 0)))
        → ((cond c (stop 1 0 []) (commands engine (suc (length job)) empty job room 0)).number ≡ 16 → ⊥)
        → SameListing (cond c (stop 1 0 []) (commands engine (suc (length job)) empty job room 0)) (cond c (stop 1 0 []) (commands engine (suc (length job)) empty (unpriced job) room 0))
    go true v m = record { number = refl; offset = refl; answers = refl; asked = refl }
    go false v m = same_commands (suc (length job)) empty empty job room 0 refl (omega arith) v m

pub untouched : Untouched
untouched j k room e vj vk m n =
    let a = with_zeros_lem j room vj m in
    let b = with_zeros_lem k room vk n in
    let s : run (unpriced j) room ≡ run (unpriced k) room = ap (λ (job : List ℕ). run job room) e in
    record {
      number = a.number ∙ ap (λ (r : Run). r.number) s ∙ sym b.number;
      offset = a.offset ∙ ap (λ (r : Run). r.offset) s ∙ sym b.offset;
      answers = a.answers ∙ ap (λ (r : Run). map uncosted r.answers) s ∙ sym b.answers;
      asked = a.asked ∙ ap listing s ∙ sym b.asked;
    }
