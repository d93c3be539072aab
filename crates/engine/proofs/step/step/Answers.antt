-- `engine::step::step` meets its contract.
use Rattle.std.proofs.Common.{ℕ, refl, ap, ◌∙◌, arith}
use Rattle.std.proofs.Math.ListN.{get_or}
use Rattle.model.specs.Commands.{width}
use Rattle.codec.specs.Kinds.{kind_is}
use Rattle.problem.proofs.Keeping.{reached_sized, reached_alone}
use Rattle.model.proofs.Reasons.{has_number}
use Rattle.commands.proofs.Handling.{passed_on}
use Rattle.engine.proofs.Dispatching.{read, operands_there, term_there, rows_may_come, step_early, step_i, step_w, step_r, step_b, step_term}
use Rattle.engine.proofs.Dispatching.{step_f, step_p, step_d, step_g, step_l, step_v, step_c, step_n, step_e}
use Rattle.engine.proofs.step.step.Goals as goal

pub returns-in_err-k : goal.returns-in_err-k
returns-in_err-k c = step_early c.in_err-k.ensures.told (has_number _) (passed_on _ _ _ c.from_residual.ensures.1)

pub bounds-job-at-in-I : goal.bounds-job-at-in-I
bounds-job-at-in-I c =
    let d = read c.args.p _ _ c.requires.at_in_bounds c.in_ok-k.ensures.kind c.in_ok-k.ensures.told in
    omega (arith, operands_there d, ap width (ap kind_is c.in-I.is))

pub bounds-job-at-in-I-2 : goal.bounds-job-at-in-I-2
bounds-job-at-in-I-2 c =
    let d = read c.args.p _ _ c.requires.at_in_bounds c.in_ok-k.ensures.kind c.in_ok-k.ensures.told in
    omega (arith, operands_there d, ap width (ap kind_is c.in-I.is))

pub prices_at-requires : goal.prices_at-requires
prices_at-requires c =
    let d = read c.args.p _ _ c.requires.at_in_bounds c.in_ok-k.ensures.kind c.in_ok-k.ensures.told in
    omega (arith, operands_there d, ap width (ap kind_is c.in-W.is))

pub bounds-job-at-in-R : goal.bounds-job-at-in-R
bounds-job-at-in-R c =
    let d = read c.args.p _ _ c.requires.at_in_bounds c.in_ok-k.ensures.kind c.in_ok-k.ensures.told in
    omega (arith, operands_there d, ap width (ap kind_is c.in-R.is))

pub bounds-job-at-in-R-2 : goal.bounds-job-at-in-R-2
bounds-job-at-in-R-2 c =
    let d = read c.args.p _ _ c.requires.at_in_bounds c.in_ok-k.ensures.kind c.in_ok-k.ensures.told in
    omega (arith, operands_there d, ap width (ap kind_is c.in-R.is))

pub bounds-job-at-in-R-3 : goal.bounds-job-at-in-R-3
bounds-job-at-in-R-3 c =
    let d = read c.args.p _ _ c.requires.at_in_bounds c.in_ok-k.ensures.kind c.in_ok-k.ensures.told in
    omega (arith, operands_there d, ap width (ap kind_is c.in-R.is))

pub row-requires : goal.row-requires
row-requires c =
    reached_sized _ (reached_alone c.requires.reached_with)

pub term-requires : goal.term-requires
term-requires c =
    reached_sized _ (reached_alone c.requires.reached_with)

pub block-requires : goal.block-requires
block-requires c =
    reached_sized _ (reached_alone c.requires.reached_with)

pub remove-requires : goal.remove-requires
remove-requires c =
    reached_sized _ (reached_alone c.requires.reached_with)

pub range-requires : goal.range-requires
range-requires c =
    reached_sized _ (reached_alone c.requires.reached_with)

pub eight_rows-requires : goal.eight_rows-requires
eight_rows-requires c =
    let d = read c.args.p _ _ c.requires.at_in_bounds c.in_ok-k.ensures.kind c.in_ok-k.ensures.told in
    let b = ap kind_is c.in-B.is in
    record { reached = reached_alone c.requires.reached_with; begun_le_place = rows_may_come d b; at_in_bounds = omega (arith, operands_there d, ap width b) }

pub term_at-requires : goal.term_at-requires
term_at-requires c =
    let d = read c.args.p _ _ c.requires.at_in_bounds c.in_ok-k.ensures.kind c.in_ok-k.ensures.told in
    term_there d c.in-T.in-T-own.keys5

pub block_at-requires : goal.block_at-requires
block_at-requires c =
    let d = read c.args.p _ _ c.requires.at_in_bounds c.in_ok-k.ensures.kind c.in_ok-k.ensures.told in
    omega (arith, operands_there d, ap width (ap kind_is c.in-F.is))

pub bounds-job-at-in-D : goal.bounds-job-at-in-D
bounds-job-at-in-D c =
    let d = read c.args.p _ _ c.requires.at_in_bounds c.in_ok-k.ensures.kind c.in_ok-k.ensures.told in
    omega (arith, operands_there d, ap width (ap kind_is c.in-D.is))

pub bounds-job-at-in-G : goal.bounds-job-at-in-G
bounds-job-at-in-G c =
    let d = read c.args.p _ _ c.requires.at_in_bounds c.in_ok-k.ensures.kind c.in_ok-k.ensures.told in
    omega (arith, operands_there d, ap width (ap kind_is c.in-G.is))

pub short_at-requires : goal.short_at-requires
short_at-requires c =
    let d = read c.args.p _ _ c.requires.at_in_bounds c.in_ok-k.ensures.kind c.in_ok-k.ensures.told in
    omega (arith, operands_there d, ap width (ap kind_is c.in-G.is))

pub short_at-requires-in-G : goal.short_at-requires-in-G
short_at-requires-in-G c =
    let d = read c.args.p _ _ c.requires.at_in_bounds c.in_ok-k.ensures.kind c.in_ok-k.ensures.told in
    omega (arith, operands_there d, ap width (ap kind_is c.in-G.is))

pub page_at-start-requires : goal.page_at-start-requires
page_at-start-requires c =
    let d = read c.args.p _ _ c.requires.at_in_bounds c.in_ok-k.ensures.kind c.in_ok-k.ensures.told in
    omega (arith, operands_there d, ap width (ap kind_is c.in-L.is))

pub page_at-start-requires-in-V : goal.page_at-start-requires-in-V
page_at-start-requires-in-V c =
    let d = read c.args.p _ _ c.requires.at_in_bounds c.in_ok-k.ensures.kind c.in_ok-k.ensures.told in
    omega (arith, operands_there d, ap width (ap kind_is c.in-V.is))

pub list-requires : goal.list-requires
list-requires c =
    reached_alone c.requires.reached_with

pub possible-requires : goal.possible-requires
possible-requires c = record { reached = reached_alone c.requires.reached_with; rows_len_bound = c.requires.rows_len_bound }

pub returns-in-I : goal.returns-in-I
returns-in-I c =
    let d = read c.args.p _ _ c.requires.at_in_bounds c.in_ok-k.ensures.kind c.in_ok-k.ensures.told in
    step_i d (ap kind_is c.in-I.is) (c.init.ensures c.args.p)

pub returns-in-W : goal.returns-in-W
returns-in-W c =
    let d = read c.args.p _ _ c.requires.at_in_bounds c.in_ok-k.ensures.kind c.in_ok-k.ensures.told in
    step_w d (ap kind_is c.in-W.is) c.prices_at.ensures c.prices.ensures

pub returns-in-R : goal.returns-in-R
returns-in-R c =
    let d = read c.args.p _ _ c.requires.at_in_bounds c.in_ok-k.ensures.kind c.in_ok-k.ensures.told in
    step_r d (ap kind_is c.in-R.is) c.from.ensures c.row.ensures

pub returns-in-B : goal.returns-in-B
returns-in-B c =
    let d = read c.args.p _ _ c.requires.at_in_bounds c.in_ok-k.ensures.kind c.in_ok-k.ensures.told in
    step_b d (ap kind_is c.in-B.is) c.eight_rows.ensures

pub returns-in-T : goal.returns-in-T
returns-in-T c =
    let d = read c.args.p _ _ c.requires.at_in_bounds c.in_ok-k.ensures.kind c.in_ok-k.ensures.told in
    step_term d c.in-T.in-T-own.keys5 c.term_at.ensures c.term.ensures

pub returns-in-F : goal.returns-in-F
returns-in-F c =
    let d = read c.args.p _ _ c.requires.at_in_bounds c.in_ok-k.ensures.kind c.in_ok-k.ensures.told in
    step_f d (ap kind_is c.in-F.is) c.block_at.ensures c.block.ensures

pub returns-in-P : goal.returns-in-P
returns-in-P c =
    let d = read c.args.p _ _ c.requires.at_in_bounds c.in_ok-k.ensures.kind c.in_ok-k.ensures.told in
    step_p d (ap kind_is c.in-P.is) c.primes.ensures

pub returns-in-D : goal.returns-in-D
returns-in-D c =
    let d = read c.args.p _ _ c.requires.at_in_bounds c.in_ok-k.ensures.kind c.in_ok-k.ensures.told in
    step_d d (ap kind_is c.in-D.is) c.remove.ensures

pub returns-in-G : goal.returns-in-G
returns-in-G c =
    let d = read c.args.p _ _ c.requires.at_in_bounds c.in_ok-k.ensures.kind c.in_ok-k.ensures.told in
    step_g d (ap kind_is c.in-G.is) c.short_at.ensures c.short_at-in-G.ensures c.range.ensures

pub returns-in-L : goal.returns-in-L
returns-in-L c =
    let d = read c.args.p _ _ c.requires.at_in_bounds c.in_ok-k.ensures.kind c.in_ok-k.ensures.told in
    step_l d (ap kind_is c.in-L.is) (ap (λ r. r.0) c.page_at-start.ensures) (ap (λ r. r.1) c.page_at-start.ensures ∙ ap (λ (i : ℕ). get_or c.args.job.now i 0) (omega arith)) c.list.ensures

pub returns-in-V : goal.returns-in-V
returns-in-V c =
    let d = read c.args.p _ _ c.requires.at_in_bounds c.in_ok-k.ensures.kind c.in_ok-k.ensures.told in
    step_v d (ap kind_is c.in-V.is) (ap (λ r. r.0) c.page_at-start-in-V.ensures) (ap (λ r. r.1) c.page_at-start-in-V.ensures ∙ ap (λ (i : ℕ). get_or c.args.job.now i 0) (omega arith)) c.possible.ensures

pub returns-in-C : goal.returns-in-C
returns-in-C c =
    let d = read c.args.p _ _ c.requires.at_in_bounds c.in_ok-k.ensures.kind c.in_ok-k.ensures.told in
    step_c d (ap kind_is c.in-C.is) c.least_cost.ensures

pub returns-in-N : goal.returns-in-N
returns-in-N c =
    let d = read c.args.p _ _ c.requires.at_in_bounds c.in_ok-k.ensures.kind c.in_ok-k.ensures.told in
    step_n d (ap kind_is c.in-N.is) c.multiply.ensures

pub returns-in-E : goal.returns-in-E
returns-in-E c =
    let d = read c.args.p _ _ c.requires.at_in_bounds c.in_ok-k.ensures.kind c.in_ok-k.ensures.told in
    step_e d refl (ap kind_is c.in-E.is) c.end.ensures
