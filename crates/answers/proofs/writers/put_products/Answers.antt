-- `answers::writers::put_products` meets its contract.
use Rattle.std.proofs.Common.{refl, arith}
use Rattle.answers.proofs.Bytes.{sets_long}
use Rattle.answers.proofs.writers.put_products.Goals as goal

pub returns-then-free-len : goal.returns-then-free-len
returns-then-free-len c = (refl, omega (arith, sets_long c.args.sets.now), refl)
