-- `primes::prime_list::listed` meets its contract. The invariant: the list has the primes of the cubes passed. Assumes nothing.
use Prim.Native.Nat.{◌+◌, ◌-◌, ◌*◌}
use Rattle.primes.proofs.Walk.{Walked}
use Rattle.primes.proofs.prime_list.listed.Given as goal

abbrev pub invariant-loop-care : goal.invariant-loop-care
invariant-loop-care l = Walked l.table.outputs l.n l.size l.care l.value l.list

abbrev pub decreases-loop-care : goal.decreases-loop-care
decreases-loop-care l = (l.size - l.care) * (l.size + 1) - l.value
