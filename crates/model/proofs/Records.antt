-- K5: the weights in every record of a job are the cost rule's, and without them the bytes are the same.
use Prim.Native.Nat.{ℕ, zero, suc, ◌+◌, ◌-◌}
use native.Mathlib.Omega.{arith}
use mathlib.Core.Path.{◌≡◌, refl, sym, ap, ◌∙◌}
use mathlib.Core.Bool.{Bool, true, false, not, cond, ◌||◌}
use mathlib.Core.List.{List, [], ◌∷◌, ◌++◌, map, map-append}
use borrow.Author.Tests.{ne_eqb}
use lib.Dec.{T, eqb, ltb}
use lib.ListN.{length, drop}
use Rattle.model.specs.Base.{without, All}
use Rattle.model.specs.Candidates.{Candidate, Prices, candidate_cost}
use Rattle.model.specs.Commands.{Kind, is, kind_of, width, allowed, Problem, prices_of, Context, empty, Row, rows_of_b, with_prices, add_row, add_rows, add_candidate, take_out, problem_after}
use Rattle.model.specs.Answers.{Answer, bytes_of, answer_for, answer}
use Rattle.model.specs.Refusals.{rows_refusals, refusals_of}
use Rattle.model.specs.Rules.{engine, refusals_by, refusal_by}
use Rattle.model.specs.Job.{Run, stop, answer_then, commands, run_by, written, packed, buffer_after}
use Rattle.model.specs.Invariants.{Valid}
use Rattle.model.specs.Records.{Weighed, leaves, last_left, Leaves, FindsLeft, WeighedAt, EachWeighed, LastWeighed}
use Rattle.model.specs.Records.{unweighted, without_weights, NoWeightAt, NoneWeighed, SameWithout}
use Rattle.model.proofs.Lists.{T_false, map_without}
use Rattle.model.proofs.Runs.{context, Passed, not_refused, Lawful, OnRuns, IfGoes, run_ind}
use Rattle.model.proofs.RowByRow.{rows_refused_bare}
use Rattle.model.proofs.Sound.{engine_lawful}
use Rattle.model.proofs.Valid.{place_last, after_valid, valid_empty}
use Rattle.model.proofs.Behind.{behind_ind}

-- ---- one command

pub weighed_added : (q : Problem) (c : Candidate) → Weighed q → Weighed (add_candidate q c)
weighed_added q c w = ap (λ (ws : List ℕ). ws ++ (candidate_cost (prices_of q) c ∷ [])) w ∙ sym (map-append (candidate_cost (prices_of q)) q.cands (c ∷ []))

pub weighed_without : (q : Problem) (k : ℕ) → Weighed q → Weighed (take_out q k)
weighed_without q k w = ap (without k) w ∙ sym (map_without (candidate_cost (prices_of q)) k q.cands)

weighed_rows : (ws : List Row) (q : Problem) → Weighed q → Weighed (add_rows q ws)
weighed_rows [] q w = w
weighed_rows (r ∷ ws) q w = weighed_rows ws (add_row q r) w

-- W finds no candidate
weighed_prices : (q : Problem) (p : Prices) → q.cands ≡ [] → Weighed q → Weighed (with_prices p q)
weighed_prices q p none w = w ∙ ap (map (candidate_cost (prices_of q))) none ∙ sym (ap (map (candidate_cost p)) none)

pub weighed_after : (x : Context) (k : Kind) → T (allowed k x.problem.place) → Valid x.problem → Weighed x.problem → Weighed (problem_after x k)
unfolding problem_after
weighed_after x Kind.I a v w = refl
weighed_after x Kind.W a v w = weighed_prices x.problem _ (v.early (omega (arith, place_last Kind.W x.problem.place a))) w
weighed_after x Kind.R a v w = w
weighed_after x Kind.B a v w = weighed_rows (rows_of_b x.rest) x.problem w
weighed_after x Kind.T a v w = weighed_added x.problem _ w
weighed_after x Kind.F a v w = weighed_added x.problem _ w
weighed_after x Kind.P a v w = refl
weighed_after x Kind.A a v w = weighed_added x.problem _ w
weighed_after x Kind.D a v w = weighed_without x.problem _ w
weighed_after x Kind.G a v w = w
weighed_after x Kind.L a v w = w
weighed_after x Kind.«V» a v w = w
weighed_after x Kind.C a v w = w
weighed_after x Kind.N a v w = w
weighed_after x Kind.E a v w = w
weighed_after x Kind.none a v w = w

weighed_answered : (x : Context) → Passed engine x → refusal_by engine x ≡ 0 → Valid x.problem → Weighed x.problem → WeighedAt x
weighed_answered x h z v w = record { found = w; left = rw z (weighed_after x x.kind h.place v w) }

weighed_refused : (x : Context) → T (not (eqb (refusal_by engine x) 0)) → Weighed x.problem → WeighedAt x
weighed_refused x n w = record { found = w; left = rw (T_false {b = eqb (refusal_by engine x) 0} n) w }

-- ---- every job

abbrev Keeps : OnRuns
Keeps q bs free at r = Valid q → Weighed q → All WeighedAt r.contexts

pub each_weighed : EachWeighed
each_weighed job room =
    run_ind engine engine_lawful Keeps (λ q free at v w. tt) (λ q b bs free at n v w. (weighed_refused (context q b bs free) n w, tt))
    (λ q b bs free at h z e v w. (weighed_answered (context q b bs free) h z v w, tt)) goes (λ r. All WeighedAt r.contexts) job room (λ l. tt) (λ l m r f. f valid_empty refl)
  where
    goes : IfGoes engine Keeps
    goes q b bs free at h z e r f v w =
        let x = context q b bs free in
        (weighed_answered x h z v w, f (after_valid x (kind_of b) h.place h.own v) (weighed_after x (kind_of b) h.place v w))

pub last_weighed : LastWeighed
last_weighed job room = go empty (run_by engine job room).contexts refl (each_weighed job room)
  where
    go : (q : Problem) (xs : List Context) → Weighed q → All WeighedAt xs → Weighed (last_left engine q xs)
    go q [] w a = w
    go q (x ∷ xs) w a = go (leaves engine x) xs a.0.left a.1

-- ---- each command finds what those before it leave

pub left_by : Leaves
left_by x = record { answered = λ z. rw z; refused = λ n. rw (ne_eqb (refusal_by engine x) 0 n) }

abbrev Found : Problem → List Context → Context → Type 0
Found q before x = x.problem ≡ last_left engine q before

pub found_left : FindsLeft
found_left = behind_ind engine engine_lawful Found (λ x. refl)
    (λ y h ys x e. e ∙ ap (λ (q : Problem). last_left engine q ys) (sym ((left_by y).answered (not_refused engine y h))))

-- ---- without weights

without_lawful : Lawful without_weights
without_lawful = record {
  numbered = engine_lawful.numbered;
  last = engine_lawful.last;
  sound = λ x a s. let r = engine_lawful.sound x a s in record { inputs = r.inputs; outputs = r.outputs; prices = r.prices; few = r.few; small = r.small; each_range = r.each_range; ranged = r.ranged; most = r.most };
  fits = engine_lawful.fits;
}

no_weight_at : (x : Context) → x.problem.weights ≡ [] → NoWeightAt x
no_weight_at x w = record { found = w; left = go (eqb (refusal_by without_weights x) 0) }
  where
    go : (b : Bool) → (cond b (unweighted (problem_after x x.kind)) x.problem).weights ≡ []
    go true = refl
    go false = w

abbrev KeepsNone : OnRuns
KeepsNone q bs free at r = q.weights ≡ [] → All NoWeightAt r.contexts

pub none_weighed : NoneWeighed
none_weighed job room =
    run_ind without_weights without_lawful KeepsNone (λ q free at w. tt) (λ q b bs free at n w. (no_weight_at (context q b bs free) w, tt))
    (λ q b bs free at h z e w. (no_weight_at (context q b bs free) w, tt))
    (λ q b bs free at h z e r f w. (no_weight_at (context q b bs free) w, f refl))
    (λ r. All NoWeightAt r.contexts) job room (λ l. tt) (λ l m r f. f refl)

-- ---- the same bytes: by what a command reads, and then by a whole run

rows_refused : (ws : List Row) (q : Problem) → rows_refusals (unweighted q) ws ≡ rows_refusals q ws
rows_refused ws q = sym (rows_refused_bare ws 0 (unweighted q)) ∙ rows_refused_bare ws 0 q

rows_same : (ws : List Row) (q : Problem) → unweighted (add_rows (unweighted q) ws) ≡ unweighted (add_rows q ws)
rows_same [] q = refl
rows_same (w ∷ ws) q = rows_same ws (add_row q w)

-- the same command, where no weight stands
abbrev plain : Context → Context
plain x = record { problem = unweighted x.problem; kind = x.kind; rest = x.rest; free = x.free }

-- a command of kind k does not read them
record Unread (x : Context) (k : Kind) : Type 0 where
  refusals : refusals_of (plain x) k ≡ refusals_of x k
  answer : answer_for (plain x) k ≡ answer_for x k
  after : unweighted (problem_after (plain x) k) ≡ unweighted (problem_after x k)

unread : (x : Context) (k : Kind) → Unread x k
unfolding refusals_of answer_for problem_after
unread x Kind.I = record { refusals = refl; answer = refl; after = refl }
unread x Kind.W = record { refusals = refl; answer = refl; after = refl }
unread x Kind.R = record { refusals = refl; answer = refl; after = refl }
unread x Kind.B = record { refusals = rows_refused (rows_of_b x.rest) x.problem; answer = refl; after = rows_same (rows_of_b x.rest) x.problem }
unread x Kind.T = record { refusals = refl; answer = refl; after = refl }
unread x Kind.F = record { refusals = refl; answer = refl; after = refl }
unread x Kind.P = record { refusals = refl; answer = refl; after = refl }
unread x Kind.A = record { refusals = refl; answer = refl; after = refl }
unread x Kind.D = record { refusals = refl; answer = refl; after = refl }
unread x Kind.G = record { refusals = refl; answer = refl; after = refl }
unread x Kind.«V» = record { refusals = refl; answer = refl; after = refl }
unread x Kind.L = record { refusals = refl; answer = refl; after = refl }
unread x Kind.C = record { refusals = refl; answer = refl; after = refl }
unread x Kind.N = record { refusals = refl; answer = refl; after = refl }
unread x Kind.E = record { refusals = refl; answer = refl; after = refl }
unread x Kind.none = record { refusals = refl; answer = refl; after = refl }

answer_unread : (x : Context) → answer (plain x) ≡ answer x
unfolding answer
answer_unread x = (unread x x.kind).answer

refusal_unread : (x : Context) → refusal_by without_weights (plain x) ≡ refusal_by engine x
unfolding refusal_by refusals_by
refusal_unread x = rw ((unread x x.kind).refusals, answer_unread x)

-- what a call shows of a run
record Shows (r s : Run) : Type 0 where
  number : s.number ≡ r.number
  offset : s.offset ≡ r.offset
  answers : s.answers ≡ r.answers

-- a command with this answer, and then the rest
abbrev answered_by : Answer → Context → Run → Run
answered_by a x r = record { number = r.number; offset = r.offset; answers = a ∷ r.answers; contexts = x ∷ r.contexts }

shows_commands : (k : ℕ) (q : Problem) (bs : List ℕ) (free at : ℕ) → Shows (commands engine k q bs free at) (commands without_weights k (unweighted q) bs free at)
shows_commands zero q bs free at = record { number = refl; offset = refl; answers = refl }
shows_commands (suc k) q [] free at = record { number = refl; offset = refl; answers = refl }
shows_commands (suc k) q (b ∷ bs) free at =
    rw (refusal_unread x, (unread x x.kind).after, answer_unread x)
    (go (eqb (refusal_by engine x) 0) (is x.kind Kind.E) (shows_commands k (problem_after x x.kind) (drop w bs) (free - length (bytes_of (answer x))) (at + 1 + w)))
  where
    x : Context
    x = context q b bs free

    w : ℕ
    w = width x.kind

    on : Run
    on = commands engine k (problem_after x x.kind) (drop w bs) (free - length (bytes_of (answer x))) (at + 1 + w)

    next : Run
    next = commands without_weights k (unweighted (problem_after x x.kind)) (drop w bs) (free - length (bytes_of (answer x))) (at + 1 + w)

    -- the command by both rules, from what they show behind it
    go : (c e : Bool) → Shows on next → Shows
        (cond c (answer_then engine x (cond e (stop 0 (at + 1) []) on)) (stop (refusal_by engine x) at (x ∷ [])))
        (cond c (answered_by (answer x) (plain x) (cond e (stop 0 (at + 1) []) next)) (stop (refusal_by engine x) at (plain x ∷ [])))
    go true true s = record { number = refl; offset = refl; answers = refl }
    go true false s = record { number = s.number; offset = s.offset; answers = ap (λ (later : List Answer). answer x ∷ later) s.answers }
    go false e s = record { number = refl; offset = refl; answers = refl }

shows_run : (job : List ℕ) (room : ℕ) → Shows (run_by engine job room) (run_by without_weights job room)
unfolding run_by
shows_run job room = go (ltb 32768 (length job) || ltb 32768 room)
  where
    go : (c : Bool) → Shows (cond c (stop 1 0 []) (commands engine (suc (length job)) empty job room 0)) (cond c (stop 1 0 []) (commands without_weights (suc (length job)) empty job room 0))
    go true = record { number = refl; offset = refl; answers = refl }
    go false = shows_commands (suc (length job)) empty job room 0

pub same_without : SameWithout
unfolding packed buffer_after written
same_without c =
    let s = shows_run c.job (length c.before) in (
      λ m. record { returned = rw (s.number, s.offset, s.answers) m.returned; after = rw s.answers m.after },
      λ m. record { returned = m.returned ∙ rw (s.number, s.offset, s.answers); after = m.after ∙ rw s.answers },
    )
