-- K10 by computation: cases, jobs, refusals and records with blocks.
use Prim.Native.Nat.{ℕ, ◌+◌, ◌*◌, ◌^◌}
use mathlib.Core.Path.{◌≡◌, refl}
use mathlib.Core.List.{List, map}
use lib.Count.{ones, ones_in}
use lib.ListN.{length}
use Rattle.model.specs.Base.{below}
use Rattle.model.specs.Table.{is_on, is_dc, is_off, cells, on_cells, holds, formed, holds_no_off, legal}
use Rattle.model.specs.Primes.{contains, same_term, contained_in, terms, prime, primes}
use Rattle.model.specs.Blocks.{vertex_bit, block_holds, vertices_below, block_formed, block_holds_no_off}
use Rattle.model.specs.Sets.{covers, cover, coverable, redundant, irredundant, irredundants, cost, cheapest}
use Rattle.model.specs.Presence.{sum_up_to, sum_at, product_up_to}
use Rattle.model.specs.Products.{contains_no_other, holders, joined, kept, products_up_to, products, has_too_many}
use Rattle.model.specs.Pages.{at_or_above, page, more}
use Rattle.model.specs.Candidates.{Candidate, terms_alone, literals_charged, term_cost, priced, basis, covering}
use Rattle.model.specs.Commands.{kind_of, Problem, rows_of_b, problem_after}
use Rattle.model.specs.Answers.{answer, answer_for}
use Rattle.model.specs.Refusals.{refusals_of}
use Rattle.model.specs.Rules.{refusal_by, refusals_by}
use Rattle.model.specs.Job.{run, run_by, packed, written}
use Rattle.model.specs.Records.{last_record}
use Rattle.model.specs.Cases.{outcome, example, six_terms}
use Rattle.model.specs.BlockCases.{block_cases, six_blocks, block_priced, block_walks, block_products, block_stops, block_jobs, block_weighings}

pub marked_blocks : map (λ c. outcome (basis c.of c.by)) block_cases ≡ map (λ c. c.gives) block_cases
unfolding outcome irredundants irredundant redundant cover covers coverable is_on on_cells cells holds vertex_bit block_holds literals_charged term_cost cost cheapest ones ones_in
marked_blocks = refl

-- blocks that are cubes come to what the terms come to
pub cubes_as_blocks : outcome (basis example six_blocks) ≡ outcome (basis example (terms_alone six_terms))
unfolding outcome irredundants irredundant redundant cover covers coverable is_on on_cells cells holds vertex_bit block_holds literals_charged term_cost cost cheapest ones ones_in
cubes_as_blocks = refl

pub priced_blocks : map (λ c. outcome (priced c.at c.of c.by)) block_priced ≡ map (λ c. c.gives) block_priced
unfolding outcome irredundants irredundant redundant cover covers coverable is_on on_cells cells holds vertex_bit block_holds literals_charged term_cost cost cheapest ones ones_in
priced_blocks = refl

pub block_walks_lem : map (λ c. map (product_up_to (covering (basis c.of c.by)) c.set) (below (1 + length (on_cells c.of)))) block_walks ≡ map (λ c. c.product) block_walks
unfolding product_up_to sum_at sum_up_to is_on on_cells cells holds vertex_bit block_holds
block_walks_lem = refl

pub block_products_lem : map (λ c. map (products_up_to (covering (basis c.of c.by))) (below (1 + length (on_cells c.of)))) block_products ≡ map (λ c. c.products) block_products
unfolding products_up_to kept joined holders contains_no_other is_on on_cells cells holds vertex_bit block_holds
block_products_lem = refl

-- jobs with their number, offset and written
pub stopped_blocks : map (λ c. packed (run c.job c.room)) block_stops ≡ map (λ c. c.number * 2 ^ 32 + c.offset * 2 ^ 16 + c.written) block_stops
unfolding irredundants irredundant redundant cover covers coverable is_on on_cells cells holds vertex_bit block_holds vertices_below block_formed block_holds_no_off literals_charged term_cost cost cheapest ones ones_in primes prime legal formed holds_no_off is_off is_dc contains same_term contained_in terms run_by kind_of rows_of_b packed written refusal_by refusals_by refusals_of answer answer_for problem_after page more at_or_above products has_too_many products_up_to kept joined holders contains_no_other
stopped_blocks = refl

-- jobs that are accepted, with the bytes that they write
pub jobs_with_blocks : map (λ c. packed (run c.job 32768)) block_jobs ≡ map (λ c. length c.job * 2 ^ 16 + length c.bytes) block_jobs
unfolding irredundants irredundant redundant cover covers coverable is_on on_cells cells holds vertex_bit block_holds vertices_below block_formed block_holds_no_off literals_charged term_cost cost cheapest ones ones_in legal formed holds_no_off is_off is_dc run_by kind_of packed written refusal_by refusals_by refusals_of answer answer_for problem_after page more at_or_above products has_too_many products_up_to kept joined holders contains_no_other
jobs_with_blocks = refl

pub bytes_with_blocks : map (λ c. written (run c.job 32768)) block_jobs ≡ map (λ c. c.bytes) block_jobs
unfolding irredundants irredundant redundant cover covers coverable is_on on_cells cells holds vertex_bit block_holds vertices_below block_formed block_holds_no_off literals_charged term_cost cost cheapest ones ones_in legal formed holds_no_off is_off is_dc run_by kind_of written refusal_by refusals_by refusals_of answer answer_for problem_after page more at_or_above products has_too_many products_up_to kept joined holders contains_no_other
bytes_with_blocks = refl

-- records with blocks
abbrev beside : Problem → List Candidate × List ℕ
beside q = (q.cands, q.weights)

pub weights_with_blocks : map (λ c. beside (last_record (run c.job c.room))) block_weighings ≡ map (λ c. (c.cands, c.weights)) block_weighings
unfolding is_on is_dc is_off cells holds vertex_bit block_holds vertices_below block_formed block_holds_no_off literals_charged term_cost ones ones_in legal formed holds_no_off run_by kind_of refusal_by refusals_by refusals_of answer answer_for problem_after
weights_with_blocks = refl
