-- K9 at work, by computation: two jobs that differ in the order of three T commands, with an A among them that stays and two T that are
-- equal. Their costs agree and their cheapest sets are different terms.
use Prim.Native.Nat.{ℕ, zero, suc, ◌+◌, ◌*◌, ◌^◌}
use mathlib.Core.Path.{◌≡◌, refl, subst}
use mathlib.Core.List.{List, [], ◌∷◌, map}
use lib.Dec.{T}
use lib.Count.{ones, ones_in}
use lib.ListN.{get_or, length, replicate}
use Rattle.model.specs.Base.{below, filter}
use Rattle.model.specs.Table.{is_on, is_dc, is_off, cells, on_cells, holds, formed, holds_no_off, legal}
use Rattle.model.specs.Sets.{covers, cover, coverable, redundant, irredundant, irredundants, cost, cheapest}
use Rattle.model.specs.Products.{contains_no_other, holders, joined, kept, products_up_to, products, has_too_many}
use Rattle.model.specs.Pages.{at_or_above, page, more}
use Rattle.model.specs.Candidates.{literals_charged, term_cost}
use Rattle.model.specs.Commands.{kind_of, Context, covering_of, problem_after}
use Rattle.model.specs.Answers.{answer, answer_for}
use Rattle.model.specs.Refusals.{refusals_of}
use Rattle.model.specs.Rules.{refusal_by, refusals_by}
use Rattle.model.specs.Job.{run, run_by, packed, written, buffer_after}
use Rattle.model.specs.Calls.{Call, Met}
use Rattle.model.specs.Demand3.{is_query}
use Rattle.model.specs.Pieces.{pieces}
use Rattle.model.specs.Renumbered.{Renumbering, renumbered}
use Rattle.model.specs.Reordered.{holds_no_d, outline, adding, DifferInOrder, Reordered, SameInBoth}
use Rattle.model.specs.Cases.{AnsweredJob, as_written, sorted, new_positions, sets_renumbered, costs_as_written}
use Rattle.model.proofs.OrdersBack.{every_order}
use Rattle.model.proofs.ReorderedCall.{in_any_order}

-- ---- the order, twice: the equal T commands may be told apart in two ways

-- position i goes to entry i of the list, and stays where there is none
abbrev pub through : List ℕ → ℕ → ℕ
through ps i = get_or ps i i

-- what holds of the first four and of all behind them
pub one_by_one_lem : (P : ℕ → Type 0) → P 0 → P 1 → P 2 → P 3 → ((i : ℕ) → P (suc (suc (suc (suc i))))) → (i : ℕ) → P i
one_by_one_lem P a b c d f zero = a
one_by_one_lem P a b c d f (suc zero) = b
one_by_one_lem P a b c d f (suc (suc zero)) = c
one_by_one_lem P a b c d f (suc (suc (suc zero))) = d
one_by_one_lem P a b c d f (suc (suc (suc (suc i)))) = f i

-- they keep their order
pub sorting : Renumbering
sorting = record {
  to = through (3 ∷ 1 ∷ 0 ∷ 2 ∷ []);
  back = through (2 ∷ 1 ∷ 3 ∷ 0 ∷ []);
  back_to = one_by_one_lem _ refl refl refl refl (λ i. refl);
  to_back = one_by_one_lem _ refl refl refl refl (λ i. refl);
}

-- the first and the last T change places, so they do not
pub exchanging : Renumbering
exchanging = record {
  to = through (3 ∷ 1 ∷ 2 ∷ 0 ∷ []);
  back = through (3 ∷ 1 ∷ 2 ∷ 0 ∷ []);
  back_to = one_by_one_lem _ refl refl refl refl (λ i. refl);
  to_back = one_by_one_lem _ refl refl refl refl (λ i. refl);
}

abbrev orders : List Renumbering
orders = sorting ∷ exchanging ∷ []

pub new_positions_lem : map (λ r. map r.to (below 4)) orders ≡ new_positions
unfolding sorting exchanging
new_positions_lem = refl

pub sets_renumbered_lem : map (λ r. map (renumbered r 4) (1 ∷ 2 ∷ 4 ∷ 8 ∷ [])) orders ≡ sets_renumbered
unfolding renumbered sorting exchanging
sets_renumbered_lem = refl

pub sorted_order : Reordered sorting as_written.job sorted.job
unfolding outline adding pieces kind_of sorting
sorted_order = record {
  same = refl;
  moved = one_by_one_lem _ refl refl refl refl (λ i. refl);
  stays = one_by_one_lem _ (λ e. absurd (subst T e tt)) (λ e. refl) (λ e. absurd (subst T e tt)) (λ e. absurd (subst T e tt)) (λ i e. refl);
}

pub exchanged_order : Reordered exchanging as_written.job sorted.job
unfolding outline adding pieces kind_of exchanging
exchanged_order = record {
  same = refl;
  moved = one_by_one_lem _ refl refl refl refl (λ i. refl);
  stays = one_by_one_lem _ (λ e. absurd (subst T e tt)) (λ e. refl) (λ e. refl) (λ e. absurd (subst T e tt)) (λ i e. refl);
}

-- so they differ only in the order
sorted_differs : DifferInOrder as_written.job sorted.job
sorted_differs = (every_order as_written.job sorted.job).1 (sorting, sorted_order)

-- ---- what they answer

abbrev both : List AnsweredJob
both = as_written ∷ sorted ∷ []

pub sorted_bytes : map (λ c. written (run c.job 32768)) both ≡ map (λ c. c.bytes) both
unfolding irredundants irredundant redundant cover covers coverable is_on on_cells cells holds literals_charged term_cost cost cheapest ones ones_in legal formed holds_no_off is_off is_dc run_by kind_of written refusal_by refusals_by refusals_of answer answer_for problem_after page more at_or_above products has_too_many products_up_to kept joined holders contains_no_other
sorted_bytes = refl

-- what the sets cost at each query, in both jobs
abbrev queried : AnsweredJob → List Context
queried c = filter is_query (run c.job 32768).contexts

pub sorted_costs : (map (λ x. map (cost (covering_of x)) (1 ∷ 2 ∷ 4 ∷ 8 ∷ [])) (queried as_written) ≡ replicate 3 costs_as_written)
    × (map (λ x. map (map (cost (covering_of x))) sets_renumbered) (queried sorted) ≡ replicate 3 (costs_as_written ∷ costs_as_written ∷ []))
unfolding irredundants irredundant redundant cover covers coverable is_on on_cells cells holds literals_charged term_cost cost cheapest ones ones_in legal formed holds_no_off is_off is_dc run_by kind_of refusal_by refusals_by refusals_of answer answer_for problem_after page more at_or_above products has_too_many products_up_to kept joined holders contains_no_other
sorted_costs = (refl, refl)

-- "The cheapest set may differ among equals": 2, renumbered 2, is the term of A; 1 is that of a T
pub cheapest_differ : (map (λ x. cheapest (covering_of x)) (queried as_written) ≡ 2 ∷ 2 ∷ 2 ∷ []) × (renumbered sorting 4 2 ≡ 2) × (map (λ x. cheapest (covering_of x)) (queried sorted) ≡ 1 ∷ 1 ∷ 1 ∷ [])
unfolding renumbered sorting irredundants irredundant redundant cover covers coverable is_on on_cells cells holds literals_charged term_cost cost cheapest ones ones_in legal formed holds_no_off is_off is_dc run_by kind_of refusal_by refusals_by refusals_of answer answer_for problem_after page more at_or_above products has_too_many products_up_to kept joined holders contains_no_other
cheapest_differ = (refl, refl, refl)

-- ---- two calls with these jobs, in buffers just long enough: `in_any_order` says of them what it says

abbrev pub call_of : AnsweredJob → Call
call_of a = record { job = a.job; before = replicate (length a.bytes) 0xff; returned = length a.job * 2 ^ 16 + length a.bytes; after = a.bytes }

both_met : Met (call_of as_written) × Met (call_of sorted)
unfolding irredundants irredundant redundant cover covers coverable is_on on_cells cells holds literals_charged term_cost cost cheapest ones ones_in legal formed holds_no_off is_off is_dc run_by kind_of packed written buffer_after refusal_by refusals_by refusals_of answer answer_for problem_after page more at_or_above products has_too_many products_up_to kept joined holders contains_no_other
both_met = (record { returned = refl; after = refl }, record { returned = refl; after = refl })

no_d : T (holds_no_d as_written.job)
unfolding holds_no_d pieces kind_of
no_d = tt

pub sorted_alike : SameInBoth (call_of as_written) (call_of sorted)
sorted_alike = in_any_order (call_of as_written) (call_of sorted) both_met.0 both_met.1 refl refl no_d sorted_differs
