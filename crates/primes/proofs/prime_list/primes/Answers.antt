-- `primes::prime_list::primes` meets its contract. Assumes nothing.
use Rattle.primes.proofs.prime_list.primes.Goals as goal

pub returns : goal.returns
returns c p a = c.listed.ensures p (c.all_cubes-outputs.ensures.right p a)
