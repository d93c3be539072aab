-- By any rules: the replies in order are what the commands are answered, in the answers of a job and in the bytes of a call; and the
-- pages among them give any rising list that each of them is a page of.
use Prim.Native.Nat.{ℕ, ◌+◌}
use mathlib.Core.Path.{◌≡◌, refl, sym, ap, ap₂, ◌∙◌, subst, subst⁻¹}
use mathlib.Core.Bool.{Bool, true, false, not, cond}
use mathlib.Core.List.Memᴰ
use mathlib.Core.List.{List, [], ◌∷◌, ◌++◌, map, Memᴰ}
use lib.Dec.{T, eqb, eqb→eq}
use lib.ListN.{length}
use Rattle.model.specs.Base.{filter, All}
use Rattle.model.specs.Pages.{Rising, PageOf}
use Rattle.model.specs.Commands.{Kind, is, Context}
use Rattle.model.specs.Answers.{Answer, has_bytes}
use Rattle.model.specs.Rules.{Rules, refusal_by}
use Rattle.model.specs.Job.{Run, stop, answer_then, run_by}
use Rattle.model.specs.Calls.{Call, ran_by, MetBy}
use Rattle.model.specs.Exchanges.{answers, Exchange, exchange, pair, answered_in, read_in, NoneOver, Answered, JudgedCall, all_answered, all_read, Claim, page_in, pages_of, Gives}
use Rattle.model.proofs.Lists.{T_false, filter_i, all_append, all_of, all_kept, all_to, all_sublist}
use Rattle.model.proofs.Joined.{joined_list}
use Rattle.model.proofs.Runs.{Lawful, context, run_ind, judged}
use Rattle.model.proofs.Caller.{caller}

-- ---- one command

module _ (rules : Rules) where
  -- what a command is answered: nothing where it is refused
  pub reply_to : Context → Answer
  reply_to x = cond (eqb (refusal_by rules x) 0) (rules.answer x) Answer.nothing

  pub reply_refused : (x : Context) → T (not (eqb (refusal_by rules x) 0)) → reply_to x ≡ Answer.nothing
  unfolding reply_to
  reply_refused x n = rw (T_false {b = eqb (refusal_by rules x) 0} n)

  pub reply_answered : (x : Context) → refusal_by rules x ≡ 0 → reply_to x ≡ rules.answer x
  unfolding reply_to
  reply_answered x z = rw z

  abbrev pub with_reply : Context → Exchange
  with_reply x = exchange x (reply_to x)

  -- a command with what it is answered
  abbrev pub Replied : Exchange → Type 0
  Replied e = e.reply ≡ reply_to e.context

  -- and the command is one that answers, of which is known what is known of each command of a job
  abbrev pub RepliedIn : (Context → Type 0) → Exchange → Type 0
  RepliedIn Known e = Replied e × T (answers rules e.context) × Known e.context

  has_reply : (Known : Context → Type 0) (e : Exchange) → RepliedIn Known e → Answered rules e
  has_reply Known e r = go (eqb (refusal_by rules x) 0) refl
    where
      x : Context
      x = e.context

      go : (c : Bool) → eqb (refusal_by rules x) 0 ≡ c → Answered rules e
      go true c =
          let z = eqb→eq (refusal_by rules x) 0 (rw c tt) in
          (λ h. z, λ h. subst⁻¹ (λ (a : Answer). T (has_bytes a)) (r.0 ∙ reply_answered x z) r.1)
      go false c =
          let n : T (not (eqb (refusal_by rules x) 0)) = rw c tt in
          (λ h. absurd (subst (λ (a : Answer). T (has_bytes a)) (r.0 ∙ reply_refused x n) h), λ z. absurd (rw z at n))

  all_replied : (Known : Context → Type 0) (xs : List Context) → All (λ x. T (answers rules x) × Known x) xs → All (RepliedIn Known) (map with_reply xs)
  all_replied Known [] a = tt
  all_replied Known (x ∷ xs) a = ((refl, a.0.0, a.0.1), all_replied Known xs a.1)

  map_replies : (xs : List Context) → map (λ e. e.reply) (map with_reply xs) ≡ map reply_to xs
  map_replies [] = refl
  map_replies (x ∷ xs) = ap (λ (l : List Answer). reply_to x ∷ l) (map_replies xs)

  -- ---- the commands of a job that answer, with the answers in order

  abbrev Paired : Run → Type 0
  Paired r = pair (filter (answers rules) r.contexts) (filter has_bytes r.answers) ≡ map with_reply (filter (answers rules) r.contexts)

  paired_refused : (x : Context) → T (not (eqb (refusal_by rules x) 0)) → pair (filter (answers rules) (x ∷ [])) [] ≡ map with_reply (filter (answers rules) (x ∷ []))
  paired_refused x n = go (answers rules x)
    where
      go : (b : Bool) → pair (cond b (x ∷ []) []) [] ≡ map with_reply (cond b (x ∷ []) [])
      go true = rw (reply_refused x n)
      go false = refl

  paired_then : (x : Context) → refusal_by rules x ≡ 0 → (r : Run) → Paired r → Paired (answer_then rules x r)
  paired_then x z r e = go (answers rules x)
    where
      xs : List Context
      xs = filter (answers rules) r.contexts

      rs : List Answer
      rs = filter has_bytes r.answers

      go : (b : Bool) → pair (cond b (x ∷ xs) xs) (cond b (rules.answer x ∷ rs) rs) ≡ map with_reply (cond b (x ∷ xs) xs)
      go true = rw (reply_answered x z) (ap (λ (l : List Exchange). exchange x (rules.answer x) ∷ l) e)
      go false = e

  -- and none of the answers is left over
  abbrev Used : Run → Type 0
  Used r = filter has_bytes (map reply_to (filter (answers rules) r.contexts)) ≡ filter has_bytes r.answers

  used_refused : (x : Context) → T (not (eqb (refusal_by rules x) 0)) → filter has_bytes (map reply_to (filter (answers rules) (x ∷ []))) ≡ []
  used_refused x n = go (answers rules x)
    where
      go : (b : Bool) → filter has_bytes (map reply_to (cond b (x ∷ []) [])) ≡ []
      go true = rw (reply_refused x n)
      go false = refl

  used_then : (x : Context) → refusal_by rules x ≡ 0 → (r : Run) → Used r → Used (answer_then rules x r)
  used_then x z r e = go (answers rules x) refl
    where
      xs : List Context
      xs = filter (answers rules) r.contexts

      rs : List Answer
      rs = filter has_bytes r.answers

      go : (b : Bool) → answers rules x ≡ b → filter has_bytes (map reply_to (cond b (x ∷ xs) xs)) ≡ cond b (rules.answer x ∷ rs) rs
      go true a = rw (reply_answered x z, a) (ap (λ (l : List Answer). rules.answer x ∷ l) e)
      go false a = e

-- ---- whole jobs and calls

module _ (rules : Rules) (law : Lawful rules) where
  answered_in_lem : (job : List ℕ) (room : ℕ) → answered_in rules (run_by rules job room) ≡ map (with_reply rules) (filter (answers rules) (run_by rules job room).contexts)
  unfolding answered_in
  answered_in_lem job room = run_ind rules law (λ q bs free at r. Paired rules r) (λ q free at. refl) (λ q b bs free at n. paired_refused rules (context q b bs free) n)
      (λ q b bs free at h z e. paired_then rules (context q b bs free) z (stop 0 (at + 1) []) refl) (λ q b bs free at h z e r. paired_then rules (context q b bs free) z r)
      (Paired rules) job room (λ l. refl) (λ l m r p. p)

  used : (job : List ℕ) (room : ℕ) → Used rules (run_by rules job room)
  used job room = run_ind rules law (λ q bs free at r. Used rules r) (λ q free at. refl) (λ q b bs free at n. used_refused rules (context q b bs free) n)
      (λ q b bs free at h z e. used_then rules (context q b bs free) z (stop 0 (at + 1) []) refl) (λ q b bs free at h z e r. used_then rules (context q b bs free) z r)
      (Used rules) job room (λ l. refl) (λ l m r p. p)

  read_in_lem : (c : Call) → MetBy rules c → read_in rules c ≡ answered_in rules (ran_by rules c)
  unfolding read_in answered_in
  read_in_lem c m = ap (λ (rs : List Answer). pair (filter (answers rules) (ran_by rules c).contexts) rs) (caller rules law c m).answers

  -- each command that answers, with what it is answered
  pub read_replied : (c : Call) → MetBy rules c → read_in rules c ≡ map (with_reply rules) (filter (answers rules) (ran_by rules c).contexts)
  read_replied c m = read_in_lem c m ∙ answered_in_lem c.job (length c.before)

  none_over : (c : Call) → MetBy rules c → NoneOver rules c
  none_over c m =
      ap (λ (es : List Exchange). filter has_bytes (map (λ e. e.reply) es)) (read_replied c m)
      ∙ ap (filter has_bytes) (map_replies rules (filter (answers rules) (ran_by rules c).contexts))
      ∙ used c.job (length c.before)
      ∙ sym (caller rules law c m).answers

  judged_call : (c : Call) → MetBy rules c → JudgedCall rules c
  judged_call c m =
      let r = caller rules law c m in
      rw (r.number, r.offset) (judged rules law c.job (length c.before))

  -- a command of a call that is answered has its reply in the bytes
  pub reply_read : (c : Call) → MetBy rules c → (x : Context) → Memᴰ x (ran_by rules c).contexts → T (answers rules x) → refusal_by rules x ≡ 0
      → Memᴰ (exchange x (rules.answer x)) (read_in rules c)
  reply_read c m x i t z =
      rw (read_replied c m, ← reply_answered rules x z)
      (Memᴰ.map (with_reply rules) (filter_i (answers rules) i t))

  -- all of some calls are so
  pub every_replied : (Known : Context → Type 0) (calls : List Call) → All (λ c. All Known (ran_by rules c).contexts) calls → All (RepliedIn rules Known) (all_answered rules calls)
  every_replied Known [] f = tt
  every_replied Known (c ∷ calls) f =
      let xs = (ran_by rules c).contexts in
      let kept = all_kept Known (answers rules) xs (all_to Known (λ x. T (answers rules x) → Known x) (λ x k t. k) xs f.0) in
      all_append (RepliedIn rules Known) (answered_in rules (ran_by rules c)) (all_answered rules calls)
      (subst⁻¹ (All (RepliedIn rules Known)) (answered_in_lem c.job (length c.before)) (all_replied rules Known (filter (answers rules) xs) kept))
      (every_replied Known calls f.1)

  -- what the bytes hold is what the jobs answered
  pub every_read : (calls : List Call) → All (MetBy rules) calls → all_read rules calls ≡ all_answered rules calls
  every_read [] m = refl
  every_read (c ∷ calls) m = ap₂ (λ (es fs : List Exchange). es ++ fs) (read_in_lem c m.0) (every_read calls m.1)

  -- so a demand is met by calls where it is met by commands with what they are answered, of each of which `Known` holds
  pub claim : (Known : Context → Type 0) → ((job : List ℕ) (room : ℕ) → All Known (run_by rules job room).contexts)
      → (Stands : Exchange → Type 0) (Demand : List Exchange → Type 0) → ((es : List Exchange) → All (RepliedIn rules Known) es → All Stands es → Demand es)
      → (calls : List Call) → All (MetBy rules) calls → Claim rules Stands Demand calls
  claim Known known Stands Demand d calls m = record {
    answers = λ es c. d es (all_sublist (RepliedIn rules Known) c replied);
    bytes = λ es c. d es (all_sublist (RepliedIn rules Known) c read);
    none_over = all_to (MetBy rules) (NoneOver rules) none_over calls m;
    answered = all_to (RepliedIn rules Known) (Answered rules) (has_reply rules Known) (all_read rules calls) read;
    judged = all_to (MetBy rules) (JudgedCall rules) judged_call calls m;
  }
    where
      replied : All (RepliedIn rules Known) (all_answered rules calls)
      replied = every_replied Known calls (all_of (λ (c : Call). All Known (ran_by rules c).contexts) calls (λ c i. known c.job (length c.before)))

      read : All (RepliedIn rules Known) (all_read rules calls)
      read = subst⁻¹ (All (RepliedIn rules Known)) (every_read calls m) replied

-- of commands that stand so, and more
pub claim_where : {rules : Rules} {Stands : Exchange → Type 0} {Demand : List Exchange → Type 0} {calls : List Call} (More : Exchange → Type 0) → ((e : Exchange) → More e → Stands e)
    → Claim rules Stands Demand calls → Claim rules More Demand calls
claim_where {Stands = Stands} More f c = record {
  answers = λ es s a. c.answers es s (all_to More Stands f es a);
  bytes = λ es s a. c.bytes es s (all_to More Stands f es a);
  none_over = c.none_over;
  answered = c.answered;
  judged = c.judged;
}

-- and what a demand gives, of the same commands
pub claim_gives : {rules : Rules} {Stands : Exchange → Type 0} {Demand : List Exchange → Type 0} {calls : List Call} (Less : List Exchange → Type 0)
    → ((es : List Exchange) → All Stands es → Demand es → Less es) → Claim rules Stands Demand calls → Claim rules Stands Less calls
claim_gives Less f c = record {
  answers = λ es s a. f es a (c.answers es s a);
  bytes = λ es s a. f es a (c.bytes es s a);
  none_over = c.none_over;
  answered = c.answered;
  judged = c.judged;
}

-- ---- the pages of any command, of any rising list

module _ (rules : Rules) (k : Kind) (list : List ℕ) where
  -- where a command of kind k is answered, its page is that of the list
  abbrev pub Lists : Context → Type 0
  Lists x = T (is x.kind k) → refusal_by rules x ≡ 0 → All (PageOf list) (page_in x (rules.answer x))

  page_given : (e : Exchange) → Replied rules e → Lists e.context → (d : Bool) → is e.context.kind k ≡ d → All (PageOf list) (cond d (page_in e.context e.reply) [])
  page_given e r f false i = tt
  page_given e r f true i = subst⁻¹ (λ (a : Answer). All (PageOf list) (page_in x a)) r (go (eqb (refusal_by rules x) 0) refl)
    where
      x : Context
      x = e.context

      go : (c : Bool) → eqb (refusal_by rules x) 0 ≡ c → All (PageOf list) (page_in x (reply_to rules x))
      go true c = let z = eqb→eq (refusal_by rules x) 0 (rw c tt) in subst⁻¹ (λ (a : Answer). All (PageOf list) (page_in x a)) (reply_answered rules x z) (f (rw i tt) z)
      go false c = subst⁻¹ (λ (a : Answer). All (PageOf list) (page_in x a)) (reply_refused rules x (rw c tt)) tt

  pages_given : (es : List Exchange) → All (Replied rules) es → All (λ e. Lists e.context) es → All (PageOf list) (pages_of k es)
  pages_given [] r f = tt
  pages_given (e ∷ es) r f =
      let one = page_given e r.0 f.0 (is e.context.kind k) refl in
      all_append (PageOf list) (cond (is e.context.kind k) (page_in e.context e.reply) []) (pages_of k es) one (pages_given es r.1 f.1)

  pub gives : (Stands : Exchange → Type 0) → ((e : Exchange) → Stands e → Lists e.context) → Rising 0 list → (es : List Exchange) → All (Replied rules) es → All Stands es → Gives k list es
  gives Stands f up es r s =
      let a = pages_given es r (all_to Stands (λ e. Lists e.context) f es s) in
      record { rising = up; each = a; joined = joined_list list up (pages_of k es) a }
