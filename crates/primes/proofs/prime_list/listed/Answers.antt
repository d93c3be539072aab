-- `primes::prime_list::listed` meets its contract. The invariant: the list has the primes of the cubes passed. Assumes nothing.
use Rattle.std.proofs.Common.{arith}
use Rattle.bits.proofs.Shifts.{power_le}
use Rattle.primes.proofs.Walk.{walked_first, walked_all, walked_care, walked_full, walked_next, found_lt, found_not_last, less_care, less_next}
use Rattle.primes.proofs.prime_list.listed.Goals as goal

pub loop-care-init : goal.loop-care-init
loop-care-init c = walked_first _ _ _ _ c.empty-list.ensures

pub loop-care-smaller-in-None : goal.loop-care-smaller-in-None
loop-care-smaller-in-None c = less_care _ _ _ _ _ _ c.bound-size.ensures c.loop-care.invariant c.loop-care-test.true

pub loop-care-preserved-in-None : goal.loop-care-preserved-in-None
loop-care-preserved-in-None c = walked_care _ _ _ _ _ _ c.bound-size.ensures c.loop-care.invariant c.loop-care-test.true c.in-None.ensures

pub returns-then-list-eq64 : goal.returns-then-list-eq64
returns-then-list-eq64 c = walked_full _ _ _ _ _ _ c.bound-size.ensures c.loop-care.invariant c.loop-care-test.true _ c.in-Some.ensures c.if-list-eq64.true

pub overflow_cast-list-in-Some : goal.overflow_cast-list-in-Some
overflow_cast-list-in-Some c =
    let lt = found_lt _ _ _ _ _ _ c.bound-size.ensures c.loop-care.invariant c.loop-care-test.true _ c.in-Some.ensures in
    record { fits = omega (arith, lt, power_le _ _ c.requires c.bound-size.ensures) }

pub next_part-value-requires : goal.next_part-value-requires
next_part-value-requires c = (
  omega (arith, c.loop-care-test.true, power_le _ _ c.requires c.bound-size.ensures),
  found_not_last _ _ _ _ _ _ c.bound-size.ensures c.loop-care.invariant c.loop-care-test.true _ c.in-Some.ensures,
)

pub loop-care-smaller : goal.loop-care-smaller
loop-care-smaller c = less_next _ _ _ _ _ _ c.bound-size.ensures c.loop-care.invariant c.loop-care-test.true _ c.in-Some.ensures _ c.next_part-value.ensures

pub loop-care-preserved : goal.loop-care-preserved
loop-care-preserved c = walked_next _ _ _ _ _ _ c.bound-size.ensures c.loop-care.invariant c.loop-care-test.true _ c.in-Some.ensures _ c.next_part-value.ensures
    c.if-list-eq64.false

pub returns : goal.returns
returns c = walked_all _ _ _ _ _ _ c.bound-size.ensures c.loop-care.invariant c.loop-care-test.false
