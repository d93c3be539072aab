-- `ranges::weights::mixed` meets its contract.
use Rattle.std.proofs.Common.{arith}
use Rattle.ranges.proofs.Mixing.{mixing_none, mixing_all}
use Rattle.ranges.proofs.weights.mixed.Goals as goal

pub loop-i-init : goal.loop-i-init
loop-i-init c = mixing_none _ _ _ _

pub returns : goal.returns
returns c = mixing_all _ _ _ _ _ _ c.requires.first_len_bound c.requires.second_len (omega arith) c.loop-i.invariant
