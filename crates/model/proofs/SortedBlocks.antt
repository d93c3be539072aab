-- K2 and K9 with blocks at work, by computation: the fresh job of a query has an F for a standing block, and T commands change places around an F.
use mathlib.Core.Path.{◌≡◌, refl, subst}
use mathlib.Core.List.{[], ◌∷◌, map}
use lib.Dec.{T}
use lib.Count.{ones, ones_in}
use lib.ListN.{take}
use Rattle.model.specs.Table.{is_on, is_dc, is_off, cells, on_cells, holds, formed, holds_no_off, legal}
use Rattle.model.specs.Blocks.{vertex_bit, block_holds, vertices_below, block_formed, block_holds_no_off}
use Rattle.model.specs.Sets.{covers, cover, coverable, redundant, irredundant, irredundants, cost, cheapest}
use Rattle.model.specs.Products.{contains_no_other, holders, joined, kept, products_up_to, products, has_too_many}
use Rattle.model.specs.Pages.{at_or_above, page, more}
use Rattle.model.specs.Candidates.{literals_charged, term_cost}
use Rattle.model.specs.Commands.{Kind, kind_of, problem_after}
use Rattle.model.specs.Answers.{answer, answer_for}
use Rattle.model.specs.Refusals.{refusals_of}
use Rattle.model.specs.Rules.{refusal_by, refusals_by}
use Rattle.model.specs.Job.{run, run_by, packed, written, buffer_after}
use Rattle.model.specs.Calls.{Met}
use Rattle.model.specs.Standing.{command_of, sets_to, fresh_job}
use Rattle.model.specs.Pieces.{pieces}
use Rattle.model.specs.Renumbered.{Renumbering}
use Rattle.model.specs.Reordered.{holds_no_d, outline, adding, Reordered, SameInBoth}
use Rattle.model.specs.BlockCases.{changed_job, fresh_of_c, around_block, exchanged_around}
use Rattle.model.proofs.OrdersBack.{every_order}
use Rattle.model.proofs.ReorderedCall.{in_any_order}
use Rattle.model.proofs.Sorted.{through, one_by_one_lem, call_of}

-- K2: the C stands behind seven commands
pub fresh_with_block : fresh_job (map command_of (take 7 (run changed_job 32768).contexts)) (record { kind = Kind.C; operands = [] }) ≡ fresh_of_c
unfolding irredundants irredundant redundant cover covers coverable is_on on_cells cells holds vertex_bit block_holds vertices_below block_formed block_holds_no_off literals_charged term_cost cost cheapest ones ones_in legal formed holds_no_off is_off is_dc run_by kind_of refusal_by refusals_by refusals_of answer answer_for problem_after sets_to
fresh_with_block = refl

-- K9: the two T change places
pub around : Renumbering
around = record {
  to = through (2 ∷ 1 ∷ 0 ∷ []);
  back = through (2 ∷ 1 ∷ 0 ∷ []);
  back_to = one_by_one_lem _ refl refl refl refl (λ i. refl);
  to_back = one_by_one_lem _ refl refl refl refl (λ i. refl);
}

pub around_order : Reordered around around_block.job exchanged_around.job
unfolding outline adding pieces kind_of around
around_order = record {
  same = refl;
  moved = one_by_one_lem _ refl refl refl refl (λ i. refl);
  stays = one_by_one_lem _ (λ e. absurd (subst T e tt)) (λ e. refl) (λ e. absurd (subst T e tt)) (λ e. refl) (λ i e. refl);
}

both_met : Met (call_of around_block) × Met (call_of exchanged_around)
unfolding irredundants irredundant redundant cover covers coverable is_on on_cells cells holds vertex_bit block_holds vertices_below block_formed block_holds_no_off literals_charged term_cost cost cheapest ones ones_in legal formed holds_no_off is_off is_dc run_by kind_of packed written buffer_after refusal_by refusals_by refusals_of answer answer_for problem_after page more at_or_above products has_too_many products_up_to kept joined holders contains_no_other
both_met = (record { returned = refl; after = refl }, record { returned = refl; after = refl })

no_d : T (holds_no_d around_block.job)
unfolding holds_no_d pieces kind_of
no_d = tt

-- two calls with these jobs: `in_any_order` says of them what it says
pub around_alike : SameInBoth (call_of around_block) (call_of exchanged_around)
around_alike = in_any_order (call_of around_block) (call_of exchanged_around) both_met.0 both_met.1 refl refl no_d ((every_order around_block.job exchanged_around.job).1 (around, around_order))
