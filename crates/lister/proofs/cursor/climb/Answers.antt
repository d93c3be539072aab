-- `lister::cursor::climb` meets its contract. The invariant: nothing is found from at up to the first multiple of 2^i above it.
use Rattle.std.proofs.Common.{ℕ, ◌-◌, refl, ap, arith, rules}
use Rattle.bits.proofs.Decide.{decides_true, decides_false}
use Rattle.lister_narrowing.proofs.Tightening.{nothing_left}
use Rattle.lister.proofs.Tree.{found_none, range_node, no_node}
use Rattle.lister.proofs.Climbing.{out_of_range, at_once, climbed_none, climbed_one, climbed_zero, climbed_found, climbed_all, climb_node, impossible_level}
use Rattle.lister.proofs.cursor.climb.Goals.{then-at-m-eq0+in_default, in_default-via-in-None-1, in_default-via-in-Some+in-None-1, else-at-m-eq0}
use Rattle.lister.proofs.cursor.climb.Goals as goal

pub returns-then-low_mask-at : goal.returns-then-low_mask-at
returns-then-low_mask-at c = out_of_range _ _ _ _ c.low_mask.ensures c.if-low_mask-at.true

pub returns-then-irredundant : goal.returns-then-irredundant
returns-then-irredundant c = at_once _ _ _ _ c.low_mask.ensures c.if-low_mask-at.false (decides_true _ _ c.irredundant.ensures c.if-irredundant.true)

pub loop-i-init : goal.loop-i-init
loop-i-init c =
    let not-here = decides_false _ _ c.irredundant.ensures c.if-irredundant.false in
    climbed_none _ _ _ _ c.low_mask.ensures c.if-low_mask-at.false not-here

pub overflow_add-s : goal.overflow_add-s
overflow_add-s c =
    let inv = c.loop-i.invariant in
    let below = c.loop-i-test.true in
    let power = c.power-m.ensures in
    omega (arith, (climb_node _ _ _ _ inv below _ power c.if-at-m-eq0.true _ c.requires refl).room)

pub narrow_level-requires : goal.narrow_level-requires
narrow_level-requires c =
    let inv = c.loop-i.invariant in
    let below = c.loop-i-test.true in
    let power = c.power-m.ensures in
    impossible_level _ _ _ _ inv below _ power c.if-at-m-eq0.true _ _ c.possible_levels-possible.ensures refl

pub least-requires : goal.least-requires
least-requires c =
    let inv = c.loop-i.invariant in
    let below = c.loop-i-test.true in
    let power = c.power-m.ensures in
    let node = climb_node _ _ _ _ inv below _ power c.if-at-m-eq0.true _ c.requires refl in
    record { node = node; range_kept = range_node _ _ _ _ (ap (λ (k : ℕ). k - 1) power) node _ c.in-Some.ensures }

pub returns-then-at-m-eq0 : goal.returns-then-at-m-eq0
returns-then-at-m-eq0 c =
    let inv = c.loop-i.invariant in
    let below = c.loop-i-test.true in
    let power = c.power-m.ensures in
    climbed_found _ _ _ _ inv below _ power c.if-at-m-eq0.true _ refl _ c.in-Some-least.ensures

pub loop-i-preserved : goal.loop-i-preserved
loop-i-preserved c =
    let inv = c.loop-i.invariant in
    let below = c.loop-i-test.true in
    let power = c.power-m.ensures in
    elim c.if-at-m-eq0.branch [
      | then-at-m-eq0+in_default w ↦
          let zero = w.if-at-m-eq0.true in
          let node = climb_node _ _ _ _ inv below _ power zero _ c.requires refl in
          climbed_zero _ _ _ _ inv below _ power zero _ refl (elim w.in_default.branch [
            | in_default-via-in-None-1 w' ↦ no_node _ _ _ _ (ap (λ (k : ℕ). k - 1) power) node (search (rules, nothing_left))
            | in_default-via-in-Some+in-None-1 w' ↦ search (rules, found_none)
          ])
      | else-at-m-eq0 w ↦ climbed_one _ _ _ _ inv below _ power w.if-at-m-eq0.false
    ]

pub returns : goal.returns
returns c = climbed_all _ _ _ _ c.loop-i.invariant (omega arith)
