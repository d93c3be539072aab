-- `answers::writers::put_primes` meets its contract.
use Rattle.std.proofs.Common.{refl, arith}
use Rattle.answers.proofs.Bytes.{terms_long}
use Rattle.answers.proofs.writers.put_primes.Goals as goal

pub returns-then-free-len : goal.returns-then-free-len
returns-then-free-len c = (refl, omega (arith, terms_long c.args.terms.now), refl)
