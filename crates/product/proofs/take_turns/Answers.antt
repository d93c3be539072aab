-- `product::take_turns` meets its contract: the row whose turn it is holds the products.
use Rattle.std.proofs.Common.{rules, arith, ◌≡◌, Err}
use Rattle.product.proofs.Turns.{turn_none, to_first, to_second, first_full, second_full, turned}
use Rattle.product.proofs.take_turns.Goals.{then-i-eq0+in_ok-held, else-i-eq0+in_ok-held-2}
use Rattle.product.proofs.take_turns.Goals as goal

pub loop-i-init : goal.loop-i-init
loop-i-init c = turn_none _ _ c.args.first.now _ c.requires.n_bound.1 c.requires.n_bound.2

pub returns-in_err-held : goal.returns-in_err-held
returns-in_err-held c =
    let told : c.from_residual.result ≡ Err c.in_err-held.field-0.0 = search rules in
    rw told (second_full c.requires.n_bound.0 c.requires.rows_below c.loop-i.invariant c.loop-i-test.true _ _ _ c.if-i-eq0.true c.in_err-held.ensures)

pub returns-in_err-held-2 : goal.returns-in_err-held-2
returns-in_err-held-2 c =
    let told : c.from_residual-in_err-held-2.result ≡ Err c.in_err-held-2.field-0.0 = search rules in
    rw told (first_full c.requires.n_bound.0 c.requires.rows_below c.loop-i.invariant c.loop-i-test.true _ _ _ c.if-i-eq0.false c.in_err-held-2.ensures)

pub loop-i-preserved : goal.loop-i-preserved
loop-i-preserved c =
    elim c.if-i-eq0.branch [ then-i-eq0+in_ok-held w ↦ rw (w.first-is, w.second-is, w.held-is) (to_second c.requires.n_bound.0 c.requires.rows_below c.loop-i.invariant c.loop-i-test.true _ _ w.if-i-eq0.true w.in_ok-held.ensures) | else-i-eq0+in_ok-held-2 w ↦ rw (w.first-is, w.second-is, w.held-is) (to_first c.requires.n_bound.0 c.requires.rows_below c.loop-i.invariant c.loop-i-test.true _ _ w.if-i-eq0.false w.in_ok-held-2.ensures) ]

pub returns : goal.returns
returns c = turned c.loop-i.invariant (omega arith)
