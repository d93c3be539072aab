-- The marked cases of paper 01, its primes and its job, the presence function point by point, the costs by literals, the tables of
-- refusals, the jobs with A and D, the weights in records, prices, and products, by computation.
use Prim.Native.Nat.{ℕ, ◌+◌, ◌-◌, ◌*◌, ◌^◌, ◌<◌}
use native.Mathlib.Omega.{arith}
use mathlib.Core.Path.{◌≡◌, refl}
use mathlib.Core.Bool.{not}
use mathlib.Core.List.{List, [], map}
use lib.Dec.{T, ltb, lt→ltb}
use lib.Arith.{le→nltb}
use lib.Count.{ones, ones_in}
use lib.ListN.{length}
use Rattle.model.specs.Base.{below}
use Rattle.model.specs.Table.{term, is_on, is_dc, is_off, cells, on_cells, holds, formed, holds_no_off, legal, represents}
use Rattle.model.specs.Primes.{contains, same_term, contained_in, terms, prime, primes}
use Rattle.model.specs.Sets.{covers, cover, coverable, redundant, irredundant, irredundants, cost, cheapest}
use Rattle.model.specs.Presence.{sum_up_to, sum_at, product_up_to, product_with_delta}
use Rattle.model.specs.Products.{contains_no_other, holders, joined, kept, products_up_to, products, has_too_many}
use Rattle.model.specs.Pages.{at_or_above, page, more}
use Rattle.model.specs.Candidates.{Candidate, usual, literals_charged, term_cost, list_cost, priced, basis, covering}
use Rattle.model.specs.Commands.{Kind, kind_of, width, allowed, Problem, Context, covering_of, rows_of_b, problem_after, table_of, prices_of}
use Rattle.model.specs.Answers.{answer, answer_for}
use Rattle.model.specs.Refusals.{refusals_of}
use Rattle.model.specs.Rules.{refusal, refusal_by, refusals_by}
use Rattle.model.specs.Job.{run, run_by, packed, written}
use Rattle.model.specs.Records.{last_record}
use Rattle.model.specs.Pieces.{pieces}
use Rattle.model.specs.Pricing.{unpriced}
use Rattle.model.specs.Library.{call_refusals, list_covers, multiply_refusals, multiply_covers, turn}
use Rattle.model.specs.Cases.{outcome, cases, walks, costs_by_literals, example, example_primes, example_job, example_answers, count_zero_job}
use Rattle.model.specs.Cases.{count_zero_answers, stops, come_and_go, weighings, halves_basis, cheaper_list, refused_calls}
use Rattle.model.specs.Cases.{charges, priced_cases, priced_jobs, priced_weighings, priced_records, zeroed_jobs, multiplyings, multiplied_jobs, multiply_calls, turns}
use Rattle.model.proofs.Lists.{T_true, T_false}

-- a to h
pub marked : map (λ c. outcome (basis c.of c.by)) cases ≡ map (λ c. c.gives) cases
unfolding outcome irredundants irredundant redundant cover covers coverable is_on on_cells cells holds literals_charged term_cost cost cheapest ones ones_in primes prime legal formed holds_no_off is_off is_dc contains same_term contained_in terms
marked = refl

-- the presence function point by point, and where document 000's delta drops them
pub marked_walks : map (λ c. map (product_up_to (covering (basis c.of c.by)) c.set) (below (1 + length (on_cells c.of)))) walks ≡ map (λ c. c.product) walks
unfolding product_up_to sum_at sum_up_to is_on on_cells cells holds
marked_walks = refl

pub marked_delta : map (λ c. map (product_with_delta (covering (basis c.of c.by)) c.set) (below (1 + length (on_cells c.of)))) walks ≡ map (λ c. c.with_delta) walks
unfolding product_with_delta sum_at sum_up_to is_on on_cells cells holds
marked_delta = refl

-- the cost rule
pub marked_costs : map (λ k. term_cost usual (term (2 ^ k - 1) 0 1)) (below 9) ≡ costs_by_literals
unfolding literals_charged term_cost ones ones_in
marked_costs = refl

-- the primes of c
pub marked_primes : primes example ≡ example_primes
unfolding is_on cells holds primes prime legal formed holds_no_off is_off is_dc contains same_term contained_in terms
marked_primes = refl

-- the job: "0 55 63", and its answer bytes
pub marked_result : packed (run example_job 32768) ≡ 55 * 2 ^ 16 + 63
unfolding irredundants irredundant redundant cover covers coverable is_on on_cells cells holds literals_charged term_cost cost cheapest ones ones_in primes prime legal formed holds_no_off is_off is_dc contains same_term contained_in terms run_by kind_of packed written refusal_by refusals_by refusals_of answer answer_for problem_after page more at_or_above
marked_result = refl

pub marked_bytes : written (run example_job 32768) ≡ example_answers
unfolding irredundants irredundant redundant cover covers coverable is_on on_cells cells holds literals_charged term_cost cost cheapest ones ones_in primes prime legal formed holds_no_off is_off is_dc contains same_term contained_in terms run_by kind_of written refusal_by refusals_by refusals_of answer answer_for problem_after page more at_or_above
marked_bytes = refl

-- an L of count 0
pub count_zero_bytes : written (run count_zero_job 4) ≡ count_zero_answers
unfolding irredundants irredundant redundant cover covers coverable is_on on_cells cells holds literals_charged term_cost cost cheapest ones ones_in primes prime legal formed holds_no_off is_off is_dc contains same_term contained_in terms run_by kind_of written refusal_by refusals_by refusals_of answer answer_for problem_after page more at_or_above
count_zero_bytes = refl

-- K2: jobs with A and D are accepted, and write these bytes
pub come_and_go_lem : map (λ c. packed (run c.job 32768)) come_and_go ≡ map (λ c. length c.job * 2 ^ 16 + length c.bytes) come_and_go
unfolding irredundants irredundant redundant cover covers coverable is_on on_cells cells holds literals_charged term_cost cost cheapest ones ones_in primes prime legal formed holds_no_off is_off is_dc contains same_term contained_in terms run_by kind_of packed written refusal_by refusals_by refusals_of answer answer_for problem_after page more at_or_above
come_and_go_lem = refl

pub come_and_go_bytes : map (λ c. written (run c.job 32768)) come_and_go ≡ map (λ c. c.bytes) come_and_go
unfolding irredundants irredundant redundant cover covers coverable is_on on_cells cells holds literals_charged term_cost cost cheapest ones ones_in primes prime legal formed holds_no_off is_off is_dc contains same_term contained_in terms run_by kind_of written refusal_by refusals_by refusals_of answer answer_for problem_after page more at_or_above
come_and_go_bytes = refl

-- K5: the candidates in the records that jobs leave, and the weights beside them
abbrev beside : Problem → List Candidate × List ℕ
beside q = (q.cands, q.weights)

pub marked_weights : map (λ c. beside (last_record (run c.job c.room))) weighings ≡ map (λ c. (c.cands, c.weights)) weighings
unfolding irredundants irredundant redundant cover covers coverable is_on on_cells cells holds literals_charged term_cost cost cheapest ones ones_in primes prime legal formed holds_no_off is_off is_dc contains same_term contained_in terms run_by kind_of refusal_by refusals_by refusals_of answer answer_for problem_after page more at_or_above
marked_weights = refl

-- K6: what terms cost, what cases come to at other prices, jobs with W, and the weights and prices in the records that jobs leave
pub marked_charges : map (λ c. term_cost c.at c.for) charges ≡ map (λ c. c.cost) charges
unfolding literals_charged term_cost ones ones_in
marked_charges = refl

pub marked_priced : map (λ c. outcome (priced c.at c.of c.by)) priced_cases ≡ map (λ c. c.gives) priced_cases
unfolding outcome irredundants irredundant redundant cover covers coverable is_on on_cells cells holds literals_charged term_cost cost cheapest ones ones_in primes prime legal formed holds_no_off is_off is_dc contains same_term contained_in terms
marked_priced = refl

pub priced_jobs_lem : map (λ c. packed (run c.job 32768)) priced_jobs ≡ map (λ c. length c.job * 2 ^ 16 + length c.bytes) priced_jobs
unfolding irredundants irredundant redundant cover covers coverable is_on on_cells cells holds literals_charged term_cost cost cheapest ones ones_in primes prime legal formed holds_no_off is_off is_dc contains same_term contained_in terms run_by kind_of packed written refusal_by refusals_by refusals_of answer answer_for problem_after page more at_or_above
priced_jobs_lem = refl

pub priced_bytes : map (λ c. written (run c.job 32768)) priced_jobs ≡ map (λ c. c.bytes) priced_jobs
unfolding irredundants irredundant redundant cover covers coverable is_on on_cells cells holds literals_charged term_cost cost cheapest ones ones_in primes prime legal formed holds_no_off is_off is_dc contains same_term contained_in terms run_by kind_of written refusal_by refusals_by refusals_of answer answer_for problem_after page more at_or_above
priced_bytes = refl

pub priced_weights : map (λ c. beside (last_record (run c.job c.room))) priced_weighings ≡ map (λ c. (c.cands, c.weights)) priced_weighings
unfolding irredundants irredundant redundant cover covers coverable is_on on_cells cells holds literals_charged term_cost cost cheapest ones ones_in primes prime legal formed holds_no_off is_off is_dc contains same_term contained_in terms run_by kind_of refusal_by refusals_by refusals_of answer answer_for problem_after page more at_or_above
priced_weights = refl

pub priced_records_lem : map (λ c. prices_of (last_record (run c.job 32768))) priced_records ≡ map (λ c. c.prices) priced_records
unfolding irredundants irredundant redundant cover covers coverable is_on on_cells cells holds literals_charged term_cost cost cheapest ones ones_in primes prime legal formed holds_no_off is_off is_dc contains same_term contained_in terms run_by kind_of refusal_by refusals_by refusals_of answer answer_for problem_after page more at_or_above
priced_records_lem = refl

-- jobs with zeros for W's operands: so two that differ in them alone are the same but for prices
pub zeroed_jobs_lem : map (λ c. unpriced c.job) zeroed_jobs ≡ map (λ c. c.zeros) zeroed_jobs
unfolding unpriced pieces kind_of
zeroed_jobs_lem = refl

-- a list that represents the table is cheaper than the cheapest set of candidates that are not the primes
pub rival_cheaper : T (represents halves_basis.table cheaper_list) × (list_cost halves_basis cheaper_list < cost (covering halves_basis) (cheapest (covering halves_basis)))
unfolding irredundants irredundant redundant cover covers is_on on_cells cells holds literals_charged term_cost cost cheapest ones ones_in legal formed holds_no_off is_off is_dc represents list_cost
rival_cheaper = (tt, omega arith)

-- jobs with their number, offset and written
pub stopped_jobs : map (λ c. packed (run c.job c.room)) stops ≡ map (λ c. c.number * 2 ^ 32 + c.offset * 2 ^ 16 + c.written) stops
unfolding irredundants irredundant redundant cover covers coverable is_on on_cells cells holds literals_charged term_cost cost cheapest ones ones_in primes prime legal formed holds_no_off is_off is_dc contains same_term contained_in terms run_by kind_of rows_of_b packed written refusal_by refusals_by refusals_of answer answer_for problem_after page more at_or_above products has_too_many products_up_to kept joined holders contains_no_other
stopped_jobs = refl

-- 11 is before 14 at P: with more than 64 primes it is 11, whatever the free part. No job of the table above shows it, for so many primes
-- are more than the definition can be computed on
pub primes_before_room : (x : Context) → x.kind ≡ Kind.P → T (allowed Kind.P x.problem.place) → 64 < length (primes (table_of x.problem)) → refusal x ≡ 11
unfolding refusal_by refusals_by refusals_of
primes_before_room x e a h =
    let many = ltb 64 (length (primes (table_of x.problem))) in
    let short = ltb (length x.rest) (width Kind.P) in
    rw (e, T_true {b = allowed Kind.P x.problem.place} a, T_false {b = short} (le→nltb (length x.rest) 0 (omega arith)), T_true {b = many} (lt→ltb 64 _ h))

-- so is 17 before 14 at N, and 12 before 17
pub products_before_room : (x : Context) → x.kind ≡ Kind.N → T (allowed Kind.N x.problem.place) → T (coverable (covering_of x)) → T (has_too_many (covering_of x)) → refusal x ≡ 17
unfolding refusal_by refusals_by refusals_of
products_before_room x e a c h =
    let short = ltb (length x.rest) (width Kind.N) in
    rw (
      e,
      T_true {b = allowed Kind.N x.problem.place} a,
      T_false {b = short} (le→nltb (length x.rest) 0 (omega arith)),
      T_true {b = coverable (covering_of x)} c,
      T_true {b = has_too_many (covering_of x)} h,
    )

pub unheld_before_products : (x : Context) → x.kind ≡ Kind.N → T (allowed Kind.N x.problem.place) → T (not (coverable (covering_of x))) → refusal x ≡ 12
unfolding refusal_by refusals_by refusals_of
unheld_before_products x e a c =
    let short = ltb (length x.rest) (width Kind.N) in
    rw (e, T_true {b = allowed Kind.N x.problem.place} a, T_false {b = short} (le→nltb (length x.rest) 0 (omega arith)), T_false {b = coverable (covering_of x)} c)

-- K8: the products after each cell, and jobs with N
pub marked_products : map (λ c. map (products_up_to (covering (basis c.of c.by))) (below (1 + length (on_cells c.of)))) multiplyings ≡ map (λ c. c.products) multiplyings
unfolding products_up_to kept joined holders contains_no_other is_on on_cells cells holds
marked_products = refl

pub multiplied_jobs_lem : map (λ c. packed (run c.job 32768)) multiplied_jobs ≡ map (λ c. length c.job * 2 ^ 16 + length c.bytes) multiplied_jobs
unfolding irredundants irredundant redundant cover covers coverable is_on on_cells cells holds literals_charged term_cost cost cheapest ones ones_in legal formed holds_no_off is_off is_dc run_by kind_of packed written refusal_by refusals_by refusals_of answer answer_for problem_after page more at_or_above products has_too_many products_up_to kept joined holders contains_no_other
multiplied_jobs_lem = refl

pub multiplied_bytes : map (λ c. written (run c.job 32768)) multiplied_jobs ≡ map (λ c. c.bytes) multiplied_jobs
unfolding irredundants irredundant redundant cover covers coverable is_on on_cells cells holds literals_charged term_cost cost cheapest ones ones_in legal formed holds_no_off is_off is_dc run_by kind_of written refusal_by refusals_by refusals_of answer answer_for problem_after page more at_or_above products has_too_many products_up_to kept joined holders contains_no_other
multiplied_bytes = refl

-- library calls that are refused
pub refused_calls_lem : map (λ c. (list_covers c.of c.words 0 []).number) refused_calls ≡ map (λ c. c.number) refused_calls
unfolding list_covers call_refusals irredundants irredundant redundant cover covers coverable is_on on_cells cells holds formed holds_no_off is_off is_dc page more at_or_above
refused_calls_lem = refl

-- calls of the multiplication, and whose turn it is
pub multiply_calls_lem : map
    (λ c.
    let t = multiply_covers c.of c.words c.first c.second in
    (t.number, t.sets, t.turns))
    multiply_calls ≡ map (λ c. c.gives) multiply_calls
unfolding multiply_covers multiply_refusals call_refusals products has_too_many products_up_to kept joined holders contains_no_other covers coverable is_on on_cells cells holds formed holds_no_off is_off is_dc
multiply_calls_lem = refl

pub marked_turns : map (λ c. turn c.0 1 2) turns ≡ map (λ c. c.1) turns
marked_turns = refl
