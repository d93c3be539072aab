-- The proof of the cycle of calls {least}: the measure is i.
use Rattle.std.proofs.Common.{arith, rules, ◌-◌, pow_pos}
use Rattle.rows.proofs.Nodes.{halves, low_node, high_node}
use Rattle.lister_narrowing.proofs.Tightening.{nothing_left}
use Rattle.lister.proofs.Tree.{not_zero_pos, at_leaf, low_range, high_range, with_bit, without_bit, low_open, low_none, high_open, high_none}
use Rattle.lister.proofs.Tree.{from_low, from_high, found_none}
use Rattle.lister.proofs.cursor.+least.Goals.{in_default-via-in-None-1, in_default-via-in-Some+in-None-1}
use Rattle.lister.proofs.cursor.+least.Goals as goal

pub returns-then-i-eq0 : goal.returns-then-i-eq0
returns-then-i-eq0 t c = rw c.then_some.ensures (at_leaf _ _ _ c.if-i-eq0.true _ c.irredundant.ensures)

pub overflow_add-s : goal.overflow_add-s
overflow_add-s t c =
    let pos = not_zero_pos c.if-i-eq0.false in
    omega (arith, c.power-m.ensures, halves c.args.i pos, c.requires.node.room, pow_pos (c.args.i - 1))

pub least-requires : goal.least-requires
least-requires t c =
    let power = c.power-m.ensures in
    let pos = not_zero_pos c.if-i-eq0.false in
    let node = c.requires.node in
    (omega (arith, c.decreases, pos), (high_node _ _ _ power node pos, high_range _ _ _ _ c.requires.range_kept _ power node pos))

pub returns-then-t-m-ne0 : goal.returns-then-t-m-ne0
returns-then-t-m-ne0 t c =
    let power = c.power-m.ensures in
    let pos = not_zero_pos c.if-i-eq0.false in
    with_bit _ _ _ _ c.requires.range_kept _ power c.requires.node pos _ c.if-t-m-ne0.true c.least.ensures

pub least-requires-then-t-m-eq0 : goal.least-requires-then-t-m-eq0
least-requires-then-t-m-eq0 t c =
    let power = c.power-m.ensures in
    let pos = not_zero_pos c.if-i-eq0.false in
    let node = c.requires.node in
    (omega (arith, c.decreases, pos), (low_node _ _ node pos, low_range _ _ _ _ c.requires.range_kept _ power node pos))

pub returns-then-t-m-eq0 : goal.returns-then-t-m-eq0
returns-then-t-m-eq0 t c =
    let power = c.power-m.ensures in
    let pos = not_zero_pos c.if-i-eq0.false in
    without_bit _ _ _ _ c.requires.range_kept _ power c.requires.node pos _ c.if-t-m-ne0.false c.if-t-m-eq0.true c.least-then-t-m-eq0.ensures

pub least-requires-2 : goal.least-requires-2
least-requires-2 t c =
    let power = c.power-m.ensures in
    let pos = not_zero_pos c.if-i-eq0.false in
    let node = c.requires.node in
    let range = low_open _ _ _ _ c.requires.range_kept _ power node pos _ c.minus-rest.ensures _ c.in-Some.ensures in
    (omega (arith, c.decreases, pos), (low_node _ _ node pos, range))

pub returns : goal.returns
returns t c =
    let power = c.power-m.ensures in
    let pos = not_zero_pos c.if-i-eq0.false in
    from_low _ _ _ _ c.requires.range_kept _ power c.requires.node pos _ c.in-Some-least.ensures

pub returns-in_err-high : goal.returns-in_err-high
returns-in_err-high t c =
    let power = c.power-m.ensures in
    let pos = not_zero_pos c.if-i-eq0.false in
    let node = c.requires.node in
    let kept = c.requires.range_kept in
    let rest = c.minus-rest.ensures in
    rw c.from_residual.ensures
    (from_high _ _ _ _ kept _ power node pos _
    (elim c.in_default.branch [
      | in_default-via-in-None-1 w ↦ low_none _ _ _ _ kept _ power node pos _ rest (search (rules, nothing_left))
      | in_default-via-in-Some+in-None-1 w ↦ search (rules, found_none)
    ])
    (high_none _ _ _ _ kept _ power node pos _ rest c.in_err-high.ensures))

pub overflow_add-s-2 : goal.overflow_add-s-2
overflow_add-s-2 t c =
    let pos = not_zero_pos c.if-i-eq0.false in
    omega (arith, c.power-m.ensures, halves c.args.i pos, c.requires.node.room, pow_pos (c.args.i - 1))

pub least-requires-3 : goal.least-requires-3
least-requires-3 t c =
    let power = c.power-m.ensures in
    let pos = not_zero_pos c.if-i-eq0.false in
    let node = c.requires.node in
    let range = high_open _ _ _ _ c.requires.range_kept _ power node pos _ c.minus-rest.ensures _ c.in_ok-high.ensures in
    (omega (arith, c.decreases, pos), (high_node _ _ _ power node pos, range))

pub returns-2 : goal.returns-2
returns-2 t c =
    let power = c.power-m.ensures in
    let pos = not_zero_pos c.if-i-eq0.false in
    let node = c.requires.node in
    let kept = c.requires.range_kept in
    from_high _ _ _ _ kept _ power node pos _
    (elim c.in_default.branch [
      | in_default-via-in-None-1 w ↦ low_none _ _ _ _ kept _ power node pos _ c.minus-rest.ensures (search (rules, nothing_left))
      | in_default-via-in-Some+in-None-1 w ↦ search (rules, found_none)
    ])
    c.least-3.ensures
