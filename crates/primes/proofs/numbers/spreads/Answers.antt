-- `primes::numbers::spreads` meets its contract: the rule is tested over the whole constant, and holds at each entry. Assumes nothing.
use Rattle.model.specs.Numbers.{spread_to, spread}
use Rattle.primes.proofs.Constant.{is_spread, spreads_tested, spreads_right}
use Rattle.primes.proofs.numbers.spreads.Goals as goal

pub invariant_of-result : goal.invariant_of-result
unfolding spreads_tested is_spread spread spread_to
invariant_of-result c = record { right = spreads_right _ tt }
