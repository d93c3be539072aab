-- K11 by computation: cases, jobs, refusals and records with ranges.
use Prim.Native.Nat.{◌+◌, ◌*◌, ◌^◌}
use mathlib.Core.Path.{◌≡◌, refl}
use mathlib.Core.Bool.{true}
use mathlib.Core.List.{map}
use lib.Count.{ones, ones_in}
use lib.Dec.{eqb}
use lib.ListN.{length}
use Rattle.model.specs.Base.{some}
use Rattle.model.specs.Table.{is_on, is_dc, is_off, cells, on_cells, holds, formed, holds_no_off, legal}
use Rattle.model.specs.Primes.{contains, same_term, contained_in, terms, prime, primes}
use Rattle.model.specs.Blocks.{vertex_bit, block_holds, vertices_below, block_formed, block_holds_no_off}
use Rattle.model.specs.Sets.{covers, cover, coverable, redundant, irredundant, irredundants, cost, cheapest}
use Rattle.model.specs.Products.{contains_no_other, holders, joined, kept, products_up_to, products, has_too_many}
use Rattle.model.specs.Pages.{at_or_above, page, more}
use Rattle.model.specs.Ranges.{cost_at, possible, possibles}
use Rattle.model.specs.Candidates.{literals_charged, term_cost, basis, covering}
use Rattle.model.specs.Commands.{kind_of, rows_of_b, problem_after}
use Rattle.model.specs.Answers.{answer, answer_for}
use Rattle.model.specs.Refusals.{largest_number, refusals_of}
use Rattle.model.specs.Rules.{refusal_by, refusals_by}
use Rattle.model.specs.Job.{run, run_by, packed, written}
use Rattle.model.specs.Records.{last_record}
use Rattle.model.specs.RangeCases.{range_cases, range_stops, range_jobs, ranges_left}

pub marked_ranges : map (λ c. possibles (covering (basis c.of c.by)) c.within) range_cases ≡ map (λ c. c.gives) range_cases
unfolding possibles possible cost_at irredundants irredundant redundant cover covers is_on on_cells cells holds
marked_ranges = refl

-- jobs with their number, offset and written
pub stopped_ranges : map (λ c. packed (run c.job c.room)) range_stops ≡ map (λ c. c.number * 2 ^ 32 + c.offset * 2 ^ 16 + c.written) range_stops
unfolding possibles possible cost_at irredundants irredundant redundant cover covers coverable is_on on_cells cells holds vertex_bit block_holds vertices_below block_formed block_holds_no_off literals_charged term_cost cost cheapest ones ones_in primes prime legal formed holds_no_off is_off is_dc contains same_term contained_in terms run_by kind_of rows_of_b packed written refusal_by refusals_by refusals_of answer answer_for problem_after page more at_or_above products has_too_many products_up_to kept joined holders contains_no_other
stopped_ranges = refl

-- no smaller bound would do
pub largest_met : some (λ c. eqb c.number largest_number) range_stops ≡ true
largest_met = refl

-- jobs that are accepted, with the bytes that they write
pub jobs_with_ranges : map (λ c. packed (run c.job 32768)) range_jobs ≡ map (λ c. length c.job * 2 ^ 16 + length c.bytes) range_jobs
unfolding possibles possible cost_at irredundants irredundant redundant cover covers coverable is_on on_cells cells holds vertex_bit block_holds vertices_below block_formed block_holds_no_off literals_charged term_cost cost cheapest ones ones_in legal formed holds_no_off is_off is_dc run_by kind_of packed written refusal_by refusals_by refusals_of answer answer_for problem_after page more at_or_above
jobs_with_ranges = refl

pub bytes_with_ranges : map (λ c. written (run c.job 32768)) range_jobs ≡ map (λ c. c.bytes) range_jobs
unfolding possibles possible cost_at irredundants irredundant redundant cover covers coverable is_on on_cells cells holds vertex_bit block_holds vertices_below block_formed block_holds_no_off literals_charged term_cost cost cheapest ones ones_in legal formed holds_no_off is_off is_dc run_by kind_of written refusal_by refusals_by refusals_of answer answer_for problem_after page more at_or_above
bytes_with_ranges = refl

-- records with ranges
pub ranges_left_lem : map (λ c. (last_record (run c.job 32768)).ranges) ranges_left ≡ map (λ c. c.ranges) ranges_left
unfolding literals_charged term_cost ones ones_in primes prime legal formed holds_no_off is_off is_on is_dc cells holds contains same_term contained_in terms vertex_bit block_holds vertices_below block_formed block_holds_no_off run_by kind_of refusal_by refusals_by refusals_of answer answer_for problem_after
ranges_left_lem = refl
