-- `primes::prime_list::first_prime` meets its contract. The invariant: the values passed have no prime. Assumes nothing.
use Prim.Native.Nat.{◌-◌}
use Rattle.primes.proofs.Walk.{Passed}
use Rattle.primes.proofs.prime_list.first_prime.Given as goal

abbrev pub invariant-loop-next : goal.invariant-loop-next
invariant-loop-next l = Passed l.table.outputs l.n l.care l.value l.next

abbrev pub decreases-loop-next : goal.decreases-loop-next
decreases-loop-next l = l.size - l.next
