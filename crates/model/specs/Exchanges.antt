-- Demand 3 of paper 01, by any rules: the commands that answer, each with its reply, and the pages among them.
use Rattle.std.specs.Prelude.{ℕ, ◌≡◌, ◌↔◌, Bool, cond, T}
use mathlib.Core.List.{List, [], ◌∷◌, ◌++◌, map, Sublistᴰ}
use Rattle.model.specs.Base.{some, filter, join, All}
use Rattle.model.specs.Pages.{Rising, Page, PageOf, is_last, joined_sets, InOrder, Joined}
use Rattle.model.specs.Commands.{Kind, is, Context, start, count}
use Rattle.model.specs.Answers.{Answer, has_bytes}
use Rattle.model.specs.Rules.{Rules, refusal_by}
use Rattle.model.specs.Job.{Run, Judged}
use Rattle.model.specs.Calls.{Call, ran_by, number_of, offset_of, replies}

-- a command and its reply, `nothing` where none came: "a refused command .. gives no page and no cheapest"
pub record Exchange : Type 0 where
  pub context : Context
  pub reply : Answer

abbrev pub exchange : Context → Answer → Exchange
exchange x a = record { context = x; reply = a }

-- the first command with the first reply, and so on
abbrev pub pair : List Context → List Answer → List Exchange
pair [] rs = []
pair (x ∷ xs) [] = exchange x Answer.nothing ∷ pair xs []
pair (x ∷ xs) (r ∷ rs) = exchange x r ∷ pair xs rs

module _ (rules : Rules) where
  -- a command whose answer has bytes
  abbrev pub answers : Context → Bool
  answers x = has_bytes (rules.answer x)

  -- those of a job, a refused one too: with the answers that the rules give, and with the replies that the bytes of a call hold
  unfoldable pub answered_in : Run → List Exchange
  answered_in r = pair (filter answers r.contexts) (filter has_bytes r.answers)

  unfoldable pub read_in : Call → List Exchange
  read_in c = pair (filter answers (ran_by rules c).contexts) (replies c)

  -- no reply is left over: each that the bytes hold has its command
  abbrev pub NoneOver : Call → Type 0
  NoneOver c = filter has_bytes (map (λ e. e.reply) (read_in c)) ≡ replies c

  abbrev pub all_answered : List Call → List Exchange
  all_answered calls = join (map (λ c. answered_in (ran_by rules c)) calls)

  abbrev pub all_read : List Call → List Exchange
  all_read calls = join (map read_in calls)

  -- a command has a reply exactly where no refusal applies to it
  abbrev pub Answered : Exchange → Type 0
  Answered e = T (has_bytes e.reply) ↔ (refusal_by rules e.context ≡ 0)

  -- and where one applies, the call tells: "a refused command .. ends its job", with its number and its offset
  abbrev pub JudgedCall : Call → Type 0
  JudgedCall c = Judged rules c.job (ran_by rules c).contexts (number_of c) (offset_of c)

  -- a demand on the commands of some calls: any of those that stand so, in the order of the jobs. "The list may end early", and "may go
  -- on in a further job". Of the answers of the jobs, and of the replies in the bytes, where none is left over; a command without a reply
  -- is a refused one, and what its call returned names it
  pub record Claim (Stands : Exchange → Type 0) (Demand : List Exchange → Type 0) (calls : List Call) : Type 0 where
    pub answers : (es : List Exchange) → Sublistᴰ es (all_answered calls) → All Stands es → Demand es
    pub bytes : (es : List Exchange) → Sublistᴰ es (all_read calls) → All Stands es → Demand es
    pub none_over : All NoneOver calls
    pub answered : All Answered (all_read calls)
    pub judged : All JudgedCall calls

-- ---- pages

-- "a page is an L that is answered", or a V: the page in a reply, if it is one
abbrev pub page_in : Context → Answer → List Page
page_in x Answer.nothing = []
page_in x (Answer.primes_are ts) = []
page_in x (Answer.paged ss m) = record { start = start x; count = count x; sets = ss; above = m } ∷ []
page_in x (Answer.possible_paged ss m) = record { start = start x; count = count x; sets = ss; above = m } ∷ []
page_in x (Answer.cheapest_is c s) = []
page_in x (Answer.products_are ss) = []
page_in x Answer.ended = []

-- the pages that commands of kind k got
abbrev pub pages_of : Kind → List Exchange → List Page
pages_of k [] = []
pages_of k (e ∷ es) = cond (is e.context.kind k) (page_in e.context e.reply) [] ++ pages_of k es

-- the pages of kind k give this list: each by itself, wherever it starts, and in order all of them joined
pub record Gives (k : Kind) (list : List ℕ) (es : List Exchange) : Type 0 where
  pub rising : Rising 0 list
  pub each : All (PageOf list) (pages_of k es)
  pub joined : InOrder [] (pages_of k es) → Joined list (pages_of k es)

-- K8, "It equals L's pages joined until no more is reported": with these pages, in order and the last with more 0, an N that is answered has
-- their sets
abbrev pub EqualsPages : List Page → Exchange → Type 0
EqualsPages ps e =
    T (is e.context.kind Kind.N) → T (has_bytes e.reply) → InOrder [] ps → T (some is_last ps) → e.reply ≡ Answer.products_are (joined_sets ps)
