-- `primes::cube_prime::prime_outputs` meets its contract. Assumes nothing.
use Rattle.primes.proofs.Literals.{prime_nothing, prime_droppable, prime_all}
use Rattle.primes.proofs.cube_prime.prime_outputs.Goals as goal
use Rattle.primes.proofs.cube_prime.prime_outputs.Goals.{then-outputs-eq0-via-then-outputs-eq0, then-outputs-eq0-via-else-outputs-eq0+then-some_droppable}

pub returns-then-outputs-eq0 : goal.returns-then-outputs-eq0
returns-then-outputs-eq0 c n q =
    elim c.then-outputs-eq0.branch [
      | then-outputs-eq0-via-then-outputs-eq0 w ↦ prime_nothing _ _ _ _ _ q c.entry-outputs.ensures w.if-outputs-eq0.true
      | then-outputs-eq0-via-else-outputs-eq0+then-some_droppable w ↦ prime_droppable _ _ _ _ _ q c.entry-outputs.ensures _ w.some_droppable.ensures w.if-some_droppable.true
    ]

pub returns : goal.returns
returns c n q = prime_all _ _ _ _ _ q c.entry-outputs.ensures _ c.if-outputs-eq0.false c.some_droppable.ensures c.if-some_droppable.false
