-- `primes::cube_prime::droppable` meets its contract. Assumes nothing.
use Rattle.primes.proofs.Literals.{without_cube, droppable_literal, droppable_free}
use Rattle.primes.proofs.cube_prime.droppable.Goals as goal

pub returns-then-care-bit-eq0 : goal.returns-then-care-bit-eq0
returns-then-care-bit-eq0 c = droppable_free _ _ _ _ _ c.if-care-bit-eq0.true

pub overflow_sub-rest : goal.overflow_sub-rest
overflow_sub-rest c = c.requires.single.1

pub entry-requires : goal.entry-requires
entry-requires c = without_cube _ _ _ _ c.requires.cube

pub returns : goal.returns
returns c = droppable_literal _ _ _ _ _ _ _ c.if-care-bit-eq0.false c.entry.ensures c.within.ensures
