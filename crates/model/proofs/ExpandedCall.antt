-- K3: what a caller reads from two calls that meet their contract, the second with the R commands.
use Prim.Native.Nat.{ℕ, ◌≤◌}
use native.Mathlib.Omega.{arith}
use mathlib.Core.Path.{◌≡◌, refl, sym, ap, ap₂, ◌∙◌, subst, subst⁻¹}
use mathlib.Core.Logic.{◌⊎◌, inl, inr}
use mathlib.Core.Bool.{not, cond}
use mathlib.Core.List.{List, [], ◌∷◌, ◌++◌, map}
use lib.Dec.{T}
use lib.Seq.{get_or-take, take-take}
use lib.ListN.{get_or, length, take}
use Rattle.model.specs.Base.{filter, Bytes}
use Rattle.model.specs.Pages.{Page}
use Rattle.model.specs.Commands.{Kind, is, number, Problem, Context}
use Rattle.model.specs.Answers.{Answer}
use Rattle.model.specs.Rules.{engine}
use Rattle.model.specs.Job.{Run, run, written, buffer_after}
use Rattle.model.specs.Calls.{Call, ran, Met, read, replies, written_of, Reads}
use Rattle.model.specs.Exchanges.{Exchange, answers, pair, read_in, page_in, pages_of}
use Rattle.model.specs.Standing.{Command, command_of}
use Rattle.model.specs.Expanded.{expanded, origin, asked, told, SameRun, SameCall, EightRowsRead}
use Rattle.model.proofs.Lists.{yes_or_no, T_false}
use Rattle.model.proofs.Codes.{is_kind}
use Rattle.model.proofs.Sound.{engine_lawful}
use Rattle.model.proofs.Caller.{written_is, caller}
use Rattle.model.proofs.Expanded.{same_run}

-- commands with their replies are told by what is asked, and the replies
abbrev tell : List (Command × Problem) → List Answer → List (Command × Problem × Answer)
tell [] rs = []
tell (a ∷ cs) [] = (a.0, a.1, Answer.nothing) ∷ tell cs []
tell (a ∷ cs) (r ∷ rs) = (a.0, a.1, r) ∷ tell cs rs

told_pair : (xs : List Context) (rs : List Answer) → map told (pair xs rs) ≡ tell (map (λ x. (command_of x, x.problem)) xs) rs
told_pair [] rs = refl
told_pair (x ∷ xs) [] = ap (λ (es : List (Command × Problem × Answer)). (command_of x, x.problem, Answer.nothing) ∷ es) (told_pair xs [])
told_pair (x ∷ xs) (r ∷ rs) = ap (λ (es : List (Command × Problem × Answer)). (command_of x, x.problem, r) ∷ es) (told_pair xs rs)

told_read : (c : Call) → map told (read_in engine c) ≡ tell (asked (ran c)) (replies c)
unfolding read_in
told_read c = told_pair (filter (answers engine) (ran c).contexts) (replies c)

-- the page of a command, by its operands
abbrev pub page_told : Command → Answer → List Page
page_told c Answer.nothing = []
page_told c (Answer.primes_are ts) = []
page_told c (Answer.paged ss m) = record { start = number (take 8 c.operands); count = get_or c.operands 8 0; sets = ss; above = m } ∷ []
page_told c (Answer.possible_paged ss m) = record { start = number (take 8 c.operands); count = get_or c.operands 8 0; sets = ss; above = m } ∷ []
page_told c (Answer.cheapest_is k s) = []
page_told c (Answer.products_are ss) = []
page_told c Answer.ended = []

page_of_l : (q : Problem) (bs : List ℕ) (free : ℕ) (a : Answer) → let x : Context = record { problem = q; kind = Kind.L; rest = bs; free = free } in page_in x a ≡ page_told (command_of x) a
page_of_l q bs free Answer.nothing = refl
page_of_l q bs free (Answer.primes_are ts) = refl
page_of_l q bs free (Answer.paged ss m) = rw (take-take 8 9 bs (omega arith), get_or-take 9 bs 8 0 (omega arith))
page_of_l q bs free (Answer.possible_paged ss m) = rw (take-take 8 9 bs (omega arith), get_or-take 9 bs 8 0 (omega arith))
page_of_l q bs free (Answer.cheapest_is k s) = refl
page_of_l q bs free (Answer.products_are ss) = refl
page_of_l q bs free Answer.ended = refl

pub page_told_lem : (x : Context) (a : Answer) → cond (is x.kind Kind.L) (page_in x a) [] ≡ cond (is x.kind Kind.L) (page_told (command_of x) a) []
page_told_lem x a = go (yes_or_no (is x.kind Kind.L))
  where
    at : Kind → Context
    at k = record { problem = x.problem; kind = k; rest = x.rest; free = x.free }

    go : T (is x.kind Kind.L) ⊎ T (not (is x.kind Kind.L)) → cond (is x.kind Kind.L) (page_in x a) [] ≡ cond (is x.kind Kind.L) (page_told (command_of x) a) []
    go (inl t) = subst⁻¹ (λ (k : Kind). cond (is k Kind.L) (page_in (at k) a) [] ≡ cond (is k Kind.L) (page_told (command_of (at k)) a) []) (is_kind x.kind Kind.L t)
        (page_of_l x.problem x.rest x.free a)
    go (inr n) = rw (T_false {b = is x.kind Kind.L} n)

abbrev pages_told : List (Command × Problem × Answer) → List Page
pages_told [] = []
pages_told (t ∷ ts) = cond (is t.0.kind Kind.L) (page_told t.0 t.2) [] ++ pages_told ts

pages_told_lem : (es : List Exchange) → pages_of Kind.L es ≡ pages_told (map told es)
pages_told_lem [] = refl
pages_told_lem (e ∷ es) = let x = e.context in ap₂ (λ (a b : List Page). a ++ b) (page_told_lem x e.reply) (pages_told_lem es)

module _ (c d : Call) (mc : Met c) (md : Met d) (job : d.job ≡ expanded c.job) (room : length d.before ≡ length c.before) (y : Bytes c.job) (l : length d.job ≤ 32768) where
  with_rows : run (expanded c.job) (length c.before) ≡ ran d
  with_rows = ap₂ run (sym job) (sym room)

  runs : SameRun c.job (length c.before)
  runs = same_run c.job (length c.before) y (subst (λ (bs : List ℕ). length bs ≤ 32768) job l)

  first : Reads c
  first = caller engine engine_lawful c mc

  second : Reads d
  second = caller engine engine_lawful d md

  same_written : written (ran c) ≡ written (ran d)
  same_written = runs.bytes ∙ ap written with_rows

  same_bytes : take (written_of c) c.after ≡ take (written_of d) d.after
  same_bytes = first.bytes ∙ same_written ∙ sym second.bytes

  same_told : map told (read_in engine c) ≡ map told (read_in engine d)
  same_told = told_read c ∙ ap₂ tell (runs.asked ∙ ap asked with_rows) (ap read same_bytes) ∙ sym (told_read d)

  calls_alike : SameCall c d
  unfolding buffer_after
  calls_alike = record {
    number = first.number ∙ runs.number ∙ ap (λ (r : Run). r.number) with_rows ∙ sym second.number;
    offset = first.offset ∙ runs.offset ∙ ap (origin c.job) (ap (λ (r : Run). r.offset) with_rows ∙ sym second.offset);
    written = written_is engine engine_lawful c mc ∙ ap length same_written ∙ sym (written_is engine engine_lawful d md);
    bytes = same_bytes;
    replies = ap read same_bytes;
    told = same_told;
    pages = pages_told_lem (read_in engine c) ∙ ap pages_told same_told ∙ sym (pages_told_lem (read_in engine d));
    after = λ e. mc.after ∙ (rw (same_written, e)) ∙ sym md.after;
  }

pub same_call : EightRowsRead
same_call c d mc md job room y l = calls_alike c d mc md job room y l
