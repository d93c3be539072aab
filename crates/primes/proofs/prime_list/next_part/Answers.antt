-- `primes::prime_list::next_part` meets its contract. Assumes nothing.
use Rattle.primes.proofs.Parts.{next_part_lem}
use Rattle.primes.proofs.prime_list.next_part.Goals as goal

pub returns : goal.returns
returns c = next_part_lem _ _ _ c.requires.1
