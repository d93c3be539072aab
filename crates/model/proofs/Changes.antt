-- K2 is not vacuous: in an accepted job candidate 2 of the example is taken out behind a C and put in again at the end. What the L behind
-- that finds, its fresh job, two pages behind the same commands; and candidates that are the primes by an A.
use Prim.Native.Nat.{ℕ, zero, suc, ◌<◌}
use native.Mathlib.Omega.{arith}
use mathlib.Core.Path.{◌≡◌, refl, ap, subst, subst⁻¹}
use mathlib.Core.Bool.{not}
use mathlib.Core.List.{List, [], ◌∷◌, ◌++◌, map, Memᴰ}
use lib.Dec.{T, ltb, ltb→lt}
use lib.Count.{ones, ones_in}
use lib.ListN.{get_or, length, take, drop}
use Rattle.model.specs.Base.{filter}
use Rattle.model.specs.Table.{term, is_on, on_cells, is_dc, is_off, cells, holds, formed, holds_no_off, legal}
use Rattle.model.specs.Primes.{contains, same_term, contained_in, terms, prime, primes}
use Rattle.model.specs.Sets.{irredundants, irredundant, redundant, covers, cover, coverable, cost, cheapest}
use Rattle.model.specs.Pages.{page, more, at_or_above}
use Rattle.model.specs.Candidates.{Candidate, terms_alone, literals_charged, term_cost, basis}
use Rattle.model.specs.Commands.{Kind, is_query_kind, kind_of, empty, Context, problem_after}
use Rattle.model.specs.Answers.{answer, answer_for}
use Rattle.model.specs.Refusals.{refusals_of}
use Rattle.model.specs.Rules.{refusal_by, refusals_by}
use Rattle.model.specs.Job.{run, run_by}
use Rattle.model.specs.Demand3.{ArePrimes}
use Rattle.model.specs.Cases.{example, example_head, both_on}
use Rattle.model.specs.Standing.{Command, command_of, Behind, sets_to, standing, SetBy, fresh_job, GivesAlone}
use Rattle.model.proofs.Pricing.{only_primes}
use Rattle.model.proofs.Fresh.{fresh}

-- ---- the job, and its first L behind C, D and A

abbrev job : List ℕ
job = example_head ++ (0x43 ∷ 0x44 ∷ 2 ∷ 0x41 ∷ 1 ∷ 1 ∷ 2 ∷ 0x4c ∷ 0 ∷ 0 ∷ 0 ∷ 0 ∷ 0 ∷ 0 ∷ 0 ∷ 0 ∷ 2 ∷ 0x4c ∷ 12 ∷ 0 ∷ 0 ∷ 0 ∷ 0 ∷ 0 ∷ 0 ∷ 0 ∷ 255 ∷ 0x45 ∷ [])

abbrev read : List Context
read = (run job 199).contexts

abbrev nth : ℕ → Context
nth n = get_or read n (record { problem = empty; kind = Kind.none; rest = []; free = 0 })

split : (n : ℕ) (xs : List Context) (d : Context) → n < length xs → xs ≡ take n xs ++ (get_or xs n d ∷ drop (suc n) xs)
split n [] d l = absurd (omega arith)
split zero (y ∷ ys) d l = refl
split (suc n) (y ∷ ys) d l = ap (λ (r : List Context). y ∷ r) (split n ys d (omega arith))

long : T (ltb 15 (length read))
unfolding irredundants irredundant redundant covers cover coverable cost cheapest page more at_or_above is_on on_cells is_dc is_off cells holds formed holds_no_off legal literals_charged term_cost ones ones_in run_by kind_of refusal_by refusals_by refusals_of answer answer_for problem_after
long = tt

behind : (n : ℕ) → n < 16 → Behind (run job 199) (take n read) (nth n)
behind n l = (drop (suc n) read, split n read _ (omega (arith, ltb→lt 15 (length read) long)))

abbrev before : List Context
before = take 14 read

-- ---- what stands, and the fresh job

pub changed_stands : standing (map command_of before) ≡ basis example (terms_alone (term 1 0 1 ∷ term 3 1 3 ∷ term 2 2 2 ∷ term 3 2 3 ∷ term 2 0 1 ∷ term 1 1 2 ∷ []))
unfolding irredundants irredundant redundant covers cover coverable cost cheapest page more at_or_above is_on on_cells is_dc is_off cells holds formed holds_no_off legal literals_charged term_cost ones ones_in run_by kind_of refusal_by refusals_by refusals_of answer answer_for problem_after sets_to
changed_stands = refl

accepted : (run job 199).number ≡ 0
unfolding irredundants irredundant redundant covers cover coverable cost cheapest page more at_or_above is_on on_cells is_dc is_off cells holds formed holds_no_off legal literals_charged term_cost ones ones_in run_by kind_of refusal_by refusals_by refusals_of answer answer_for problem_after
accepted = refl

pub changed_fresh : GivesAlone (answer (nth 14)) (run (fresh_job (map command_of before) (command_of (nth 14))) 199)
unfolding irredundants irredundant redundant covers cover coverable cost cheapest page more at_or_above is_on on_cells is_dc is_off cells holds formed holds_no_off legal literals_charged term_cost ones ones_in run_by kind_of refusal_by refusals_by refusals_of answer answer_for problem_after
changed_fresh = fresh job 199 accepted before (nth 14) (behind 14 (omega arith)) tt 199 (omega arith) (omega arith)

pub changed_bytes : fresh_job (map command_of before) (command_of (nth 14)) ≡ 0x49 ∷ 2 ∷ 2 ∷ 0x52 ∷ 0 ∷ 0 ∷ 1 ∷ 0x52 ∷ 1 ∷ 1 ∷ 2 ∷ 0x52 ∷ 2 ∷ 3 ∷ 0 ∷ 0x52 ∷ 3 ∷ 2 ∷ 0
    ∷ 0x54 ∷ 1 ∷ 0 ∷ 1 ∷ 0x54 ∷ 3 ∷ 1 ∷ 3 ∷ 0x54 ∷ 2 ∷ 2 ∷ 2 ∷ 0x54 ∷ 3 ∷ 2 ∷ 3 ∷ 0x54 ∷ 2 ∷ 0 ∷ 1 ∷ 0x54 ∷ 1 ∷ 1 ∷ 2
    ∷ 0x4c ∷ 0 ∷ 0 ∷ 0 ∷ 0 ∷ 0 ∷ 0 ∷ 0 ∷ 0 ∷ 2 ∷ 0x45 ∷ []
unfolding irredundants irredundant redundant covers cover coverable cost cheapest page more at_or_above is_on on_cells is_dc is_off cells holds formed holds_no_off legal literals_charged term_cost ones ones_in run_by kind_of refusal_by refusals_by refusals_of answer answer_for problem_after sets_to
changed_bytes = refl

-- ---- two pages behind the same commands

abbrev changes : List Command
changes = filter (λ c. not (is_query_kind c.kind)) (map command_of before)

pub first_page : SetBy changes (nth 14)
first_page = record { job = job; room = 199; before = before; behind = behind 14 (omega arith); same = refl }

same : filter (λ c. not (is_query_kind c.kind)) (map command_of (take 15 read)) ≡ changes
unfolding irredundants irredundant redundant covers cover coverable cost cheapest page more at_or_above is_on on_cells is_dc is_off cells holds formed holds_no_off legal literals_charged term_cost ones ones_in run_by kind_of refusal_by refusals_by refusals_of answer answer_for problem_after
same = refl

pub second_page : SetBy changes (nth 15)
second_page = record { job = job; room = 199; before = take 15 read; behind = behind 15 (omega arith); same = same }

-- ---- the primes, whichever command put them there

-- the one prime of a table, by a P, and a second copy by an A
one : primes both_on ≡ term 0 0 1 ∷ []
unfolding is_on cells holds primes prime legal formed holds_no_off is_off is_dc contains same_term contained_in terms
one = refl

once : (c d : Candidate) → Memᴰ c (d ∷ d ∷ []) → Memᴰ c (d ∷ [])
once c d (Memᴰ.head e) = Memᴰ.head e
once c d (Memᴰ.tail m) = m

pub primes_by_others : ArePrimes (basis both_on (terms_alone (term 0 0 1 ∷ term 0 0 1 ∷ [])))
primes_by_others c =
    let here : terms_alone (primes both_on) ≡ Candidate.term (term 0 0 1) ∷ [] = ap terms_alone one in (
      (λ p. Memᴰ.tail (subst (λ (cs : List Candidate). Memᴰ c cs) here ((only_primes both_on c).0 p))),
      (λ m. (only_primes both_on c).1 (subst⁻¹ (λ (cs : List Candidate). Memᴰ c cs) here (once c (Candidate.term (term 0 0 1)) m))),
    )
