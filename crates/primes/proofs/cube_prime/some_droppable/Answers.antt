-- `primes::cube_prime::some_droppable` meets its contract. The invariant: no input passed is droppable. Assumes nothing.
use native.Mathlib.Omega.{arith}
use lib.Pow.{pow_pos}
use Rattle.primes.proofs.Literals.{none_single, none_yet, none_next, one_droppable, none_droppable}
use Rattle.primes.proofs.cube_prime.some_droppable.Goals as goal

pub loop-bit-init : goal.loop-bit-init
loop-bit-init c = none_yet _ _ _ _

pub droppable-requires : goal.droppable-requires
droppable-requires c = record { cube = c.requires; single = (none_single _ _ _ _ _ c.loop-bit.invariant, c.loop-bit-test.true) }

pub returns-then-droppable : goal.returns-then-droppable
returns-then-droppable c = one_droppable _ _ _ _ _ _ c.loop-bit.invariant c.droppable.ensures c.if-droppable.true

pub overflow_add-bit : goal.overflow_add-bit
overflow_add-bit c = record { fits = omega (arith, c.loop-bit-test.true, c.requires.care_lt) }

pub loop-bit-smaller : goal.loop-bit-smaller
loop-bit-smaller c = let h = c.loop-bit.invariant in omega (arith, c.loop-bit-test.true, h.weight, pow_pos h.input)

pub loop-bit-preserved : goal.loop-bit-preserved
loop-bit-preserved c = none_next _ _ _ _ _ _ c.loop-bit.invariant c.droppable.ensures c.if-droppable.false

pub returns : goal.returns
returns c = none_droppable _ _ _ _ _ c.loop-bit-test.false c.loop-bit.invariant
