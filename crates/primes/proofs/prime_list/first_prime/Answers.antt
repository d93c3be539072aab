-- `primes::prime_list::first_prime` meets its contract. The invariant: the values passed have no prime. Assumes nothing.
use Rattle.std.proofs.Common.{arith, refl}
use Rattle.bits.proofs.Shifts.{power_le}
use Rattle.primes.proofs.Walk.{not_last, passed_first, passed_eight, passed_found, passed_next, passed_all}
use Rattle.primes.proofs.prime_list.first_prime.Goals as goal

pub loop-next-init : goal.loop-next-init
loop-next-init c = passed_first _ _ _ _ c.requires.part_or_end

pub prime_outputs-requires : goal.prime_outputs-requires
prime_outputs-requires c = passed_eight _ _ _ _ _ _ c.bound-size.ensures c.requires.n_bound.1 c.loop-next.invariant c.requires.n_bound.0 c.loop-next-test.true

pub returns-in-Some : goal.returns-in-Some
returns-in-Some c = passed_found _ _ _ _ _ _ c.bound-size.ensures c.requires.n_bound.1 c.loop-next.invariant c.requires.n_bound.0 c.loop-next-test.true _ c.in-Some.ensures

pub next_part-next-requires : goal.next_part-next-requires
next_part-next-requires c = let e = c.bound-size.ensures in (
  omega (arith, c.requires.n_bound.1, power_le _ _ c.requires.n_bound.0 e, e),
  not_last _ _ _ e c.requires.n_bound.1 _ _ refl c.loop-next-test.true (c.loop-next.invariant.place.part (omega (arith, c.loop-next-test.true, e))),
)

pub loop-next-preserved : goal.loop-next-preserved
loop-next-preserved c = passed_next _ _ _ _ _ _ c.bound-size.ensures c.requires.n_bound.1 c.loop-next.invariant c.requires.n_bound.0
    c.loop-next-test.true c.in_default.ensures _ c.next_part-next.ensures

pub returns : goal.returns
returns c = passed_all _ _ _ _ _ _ c.bound-size.ensures c.requires.n_bound.1 c.loop-next.invariant c.loop-next-test.false
