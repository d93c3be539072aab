-- `primes::numbers::number` meets its contract. Assumes nothing.
use Rattle.std.proofs.Common.{◌+◌, arith, sym, ap₂, ◌∙◌}
use Rattle.model.proofs.Bits.{within_le}
use Rattle.primes.proofs.BaseThree.{spread_lt, number_spread}
use Rattle.primes.proofs.numbers.number.Goals as goal

pub spread-requires-2 : goal.spread-requires-2
spread-requires-2 c = omega (arith, within_le _ _ c.requires.value_in, c.requires.care_lt)

pub overflow_add-result : goal.overflow_add-result
overflow_add-result c = record { fits = omega (arith, c.spread.ensures, c.spread-2.ensures, spread_lt c.args.care, spread_lt c.args.value) }

pub returns : goal.returns
returns c = ap₂ ◌+◌ c.spread.ensures c.spread-2.ensures ∙ sym (number_spread _ _ c.requires.value_in)
