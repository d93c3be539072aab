-- K3 at work, by computation: jobs with B beside the same with R commands, both written out, what they answer, and where they are refused.
use Prim.Native.Nat.{ℕ, ◌+◌, ◌*◌, ◌^◌, ◌≤◌, ◌<◌}
use native.Mathlib.Omega.{arith}
use mathlib.Core.Path.{◌≡◌, refl, sym, ap, ◌∙◌, subst⁻¹}
use mathlib.Core.List.{List, [], ◌∷◌, map}
use lib.Dec.{T, ltb, ltb→lt}
use lib.Count.{ones, ones_in}
use lib.ListN.{length, take}
use Rattle.model.specs.Base.{every, Bytes}
use Rattle.model.specs.Table.{is_on, is_dc, is_off, cells, on_cells, holds, formed, holds_no_off, legal}
use Rattle.model.specs.Sets.{covers, cover, coverable, redundant, irredundant, irredundants, cost, cheapest}
use Rattle.model.specs.Pages.{at_or_above, page, more}
use Rattle.model.specs.Candidates.{literals_charged, term_cost}
use Rattle.model.specs.Commands.{Kind, kind_of, Problem, rows_of_b, problem_after}
use Rattle.model.specs.Answers.{Answer, answer, answer_for}
use Rattle.model.specs.Refusals.{refusals_of}
use Rattle.model.specs.Rules.{engine, refusal_by, refusals_by}
use Rattle.model.specs.Job.{run, run_by, packed, written}
use Rattle.model.specs.Calls.{Call, Met, number_of, offset_of, written_of, replies}
use Rattle.model.specs.Exchanges.{Exchange, read_in, pages_of}
use Rattle.model.specs.Standing.{Command, command_of, command_bytes}
use Rattle.model.specs.Pieces.{pieces}
use Rattle.model.specs.Expanded.{as_rows, expanded, origin, asked, SameRun, SameCall}
use Rattle.model.specs.Cases.{written_out, in_one, one_by_one, eight_rows_answers, vertex_five_twice, offsets_with_rows, origins}
use Rattle.model.proofs.Lists.{every_e, all_of}
use Rattle.model.proofs.Expanded.{same_run}
use Rattle.model.proofs.ExpandedCall.{same_call}

-- B as eight R commands, and bytes that look like a B and are none
pub written_out_lem : map (λ c. expanded c.job) written_out ≡ map (λ c. c.rows) written_out
unfolding expanded as_rows pieces kind_of rows_of_b
written_out_lem = refl

-- offsets traced back
pub traced : map (origin vertex_five_twice) offsets_with_rows ≡ origins
unfolding origin as_rows pieces kind_of rows_of_b
traced = refl

-- both are accepted and write the same
pub both_accepted : (packed (run in_one 32768) ≡ length in_one * 2 ^ 16 + length eight_rows_answers) × (packed (run one_by_one 32768) ≡ length one_by_one * 2 ^ 16 + length eight_rows_answers)
unfolding irredundants irredundant redundant cover covers coverable is_on on_cells cells holds literals_charged term_cost cost cheapest ones ones_in legal formed holds_no_off is_off is_dc run_by kind_of rows_of_b packed written refusal_by refusals_by refusals_of answer answer_for problem_after page more at_or_above
both_accepted = (refl, refl)

pub both_write : (written (run in_one 32768) ≡ eight_rows_answers) × (written (run one_by_one 32768) ≡ eight_rows_answers)
unfolding irredundants irredundant redundant cover covers coverable is_on on_cells cells holds literals_charged term_cost cost cheapest ones ones_in legal formed holds_no_off is_off is_dc run_by kind_of rows_of_b written refusal_by refusals_by refusals_of answer answer_for problem_after page more at_or_above
both_write = (refl, refl)

-- what a command finds, by its bytes and the table
abbrev found : Command × Problem → List ℕ × List ℕ × List ℕ
found a = (command_bytes a.0, a.1.rows.on, a.1.rows.dc)

abbrev asked_of_both : List (List ℕ × List ℕ × List ℕ)
asked_of_both =
    let on : List ℕ = 1 ∷ 3 ∷ 0 ∷ 0 ∷ 2 ∷ 0 ∷ 1 ∷ 2 ∷ [] in
    let dc : List ℕ = 2 ∷ 0 ∷ 1 ∷ 2 ∷ 1 ∷ 3 ∷ 0 ∷ 0 ∷ [] in
    (0x4c ∷ 0 ∷ 0 ∷ 0 ∷ 0 ∷ 0 ∷ 0 ∷ 0 ∷ 0 ∷ 255 ∷ [], on, dc) ∷ (0x43 ∷ [], on, dc) ∷ (0x45 ∷ [], on, dc) ∷ []

-- what `same_run` compares of them: these commands, each with its operands and its problem
pub both_ask : (map found (asked (run in_one 32768)) ≡ asked_of_both) × (map found (asked (run one_by_one 32768)) ≡ asked_of_both)
unfolding irredundants irredundant redundant cover covers coverable is_on on_cells cells holds literals_charged term_cost cost cheapest ones ones_in legal formed holds_no_off is_off is_dc run_by kind_of rows_of_b refusal_by refusals_by refusals_of answer answer_for problem_after page more at_or_above
both_ask = (refl, refl)

-- 7 at B's offset, and at that of the sixth R in its place
pub refused_alike : (packed (run vertex_five_twice 20) ≡ 7 * 2 ^ 32 + 7 * 2 ^ 16) × (packed (run (expanded vertex_five_twice) 20) ≡ 7 * 2 ^ 32 + 27 * 2 ^ 16)
unfolding expanded as_rows pieces run_by kind_of rows_of_b packed written refusal_by refusals_by refusals_of answer answer_for problem_after
refused_alike = (refl, refl)

-- `same_run` at work: its hypotheses can be met
are_bytes : (bs : List ℕ) → T (every (λ b. ltb b 256) bs) → Bytes bs
are_bytes bs t = all_of (λ (b : ℕ). b < 256) bs (λ b m. ltb→lt b 256 (every_e (λ b. ltb b 256) m t))

pub same_in_one : SameRun in_one 32768
unfolding expanded as_rows pieces kind_of rows_of_b
same_in_one = same_run in_one 32768 (are_bytes in_one tt) (omega arith)

pub same_refused : SameRun vertex_five_twice 20
unfolding expanded as_rows pieces kind_of rows_of_b
same_refused = same_run vertex_five_twice 20 (are_bytes vertex_five_twice tt) (omega arith)

-- and so does `same_call`, field by field: two calls with these jobs, in buffers of the same length
in_one_is : expanded in_one ≡ one_by_one
unfolding expanded as_rows pieces kind_of rows_of_b
in_one_is = refl

module _ (c d : Call) (m : Met c) (n : Met d) (in_one_lem : c.job ≡ in_one) (one_by_one_lem : d.job ≡ one_by_one) (room : length d.before ≡ length c.before) where
  same : SameCall c d
  same =
      let e : d.job ≡ expanded c.job = one_by_one_lem ∙ sym in_one_is ∙ ap expanded (sym in_one_lem) in
      let short : length d.job ≤ 32768 = subst⁻¹ (λ (bs : List ℕ). length bs ≤ 32768) one_by_one_lem (omega arith) in
      same_call c d m n e room (subst⁻¹ Bytes in_one_lem (are_bytes in_one tt)) short

  pub both_return : (number_of c ≡ number_of d) × (offset_of c ≡ origin in_one (offset_of d)) × (written_of c ≡ written_of d)
  both_return = (same.number, same.offset ∙ ap (λ (bs : List ℕ). origin bs (offset_of d)) in_one_lem, same.written)

  pub both_hold : (take (written_of c) c.after ≡ take (written_of d) d.after) × (replies c ≡ replies d) × (d.before ≡ c.before → c.after ≡ d.after)
  both_hold = (same.bytes, same.replies, same.after)

  abbrev each : Exchange → Command × Problem × Answer
  each e = (command_of e.context, e.context.problem, e.reply)

  pub both_tell : (map each (read_in engine c) ≡ map each (read_in engine d)) × (pages_of Kind.L (read_in engine c) ≡ pages_of Kind.L (read_in engine d))
  both_tell = (same.told, same.pages)
