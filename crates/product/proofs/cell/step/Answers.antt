-- `product::cell::step` meets its contract: what is put so far, and what the products left leave, is the whole.
use Rattle.std.proofs.Common.{rules, arith, ◌≡◌, Err}
use Rattle.product.proofs.Putting.{step_none, step_on, step_full, step_end}
use Rattle.product.proofs.cell.step.Goals as goal

pub loop-p-init : goal.loop-p-init
loop-p-init c = step_none _ _ _ _ c.keep-kept.ensures

pub returns-in_err-count : goal.returns-in_err-count
returns-in_err-count c =
    let told : c.from_residual.result ≡ Err c.in_err-count.field-0.0 = search rules in
    rw told (step_full c.loop-p.invariant c.loop-p-test.true _ _ _ c.in_err-count.ensures)

pub loop-p-preserved : goal.loop-p-preserved
loop-p-preserved c = step_on c.loop-p.invariant c.loop-p-test.true _ _ c.in_ok-count.ensures

pub returns : goal.returns
returns c = step_end c.loop-p.invariant (omega arith)
