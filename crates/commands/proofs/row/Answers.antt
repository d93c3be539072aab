-- `commands::row` meets its contract.
use Rattle.std.proofs.Common.{refl}
use Rattle.problem.specs.Problems.{row_put}
use Rattle.problem.proofs.Refusing.{row_vertex}
use Rattle.model.proofs.Reasons.{has_number}
use Rattle.commands.proofs.Handling.{passed_on, row_refused, row_kept}
use Rattle.commands.proofs.row.Goals as goal

pub returns-in_err-row_refusal : goal.returns-in_err-row_refusal
returns-in_err-row_refusal c = row_refused _ c.requires _ _ _ _ c.in_err-row_refusal.ensures _ (has_number _) (passed_on _ _ _ c.from_residual.ensures.1)

pub bounds-rows-v : goal.bounds-rows-v
bounds-rows-v c = let a = c.args in row_vertex _ a.p.settings.m _ _ a.on a.dc c.requires.inputs c.in_ok-row_refusal.ensures

pub bounds-rows-v-2 : goal.bounds-rows-v-2
bounds-rows-v-2 c = let a = c.args in row_vertex _ a.p.settings.m _ _ a.on a.dc c.requires.inputs c.in_ok-row_refusal.ensures

pub bounds-rows-v-3 : goal.bounds-rows-v-3
bounds-rows-v-3 c = let a = c.args in row_vertex _ a.p.settings.m _ _ a.on a.dc c.requires.inputs c.in_ok-row_refusal.ensures

pub returns : goal.returns
unfolding row_put
returns c = row_kept _ c.requires _ _ _ _ c.in_ok-row_refusal.ensures _ refl c.with_rows.ensures
