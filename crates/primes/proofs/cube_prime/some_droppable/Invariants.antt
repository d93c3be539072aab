-- `primes::cube_prime::some_droppable` meets its contract. The invariant: no input passed is droppable. Assumes nothing.
use Prim.Native.Nat.{◌+◌, ◌-◌}
use Rattle.primes.proofs.Literals.{NoneBelow}
use Rattle.primes.proofs.cube_prime.some_droppable.Given as goal

abbrev pub invariant-loop-bit : goal.invariant-loop-bit
invariant-loop-bit l = NoneBelow l.table.outputs l.care l.value l.outputs l.bit

abbrev pub decreases-loop-bit : goal.decreases-loop-bit
decreases-loop-bit l = l.care + 1 - l.bit
