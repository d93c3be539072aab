-- `bits::set::highest` meets its contract.
use Rattle.std.proofs.Common.{◌^◌, ap, ◌∙◌, arith}
use Rattle.bits.proofs.Tops.{highest_power}
use Rattle.bits.proofs.set.highest.Goals as goal

pub returns : goal.returns
returns c = highest_power _ _ c.requires (omega arith) (c.power.ensures ∙ ap (λ k. 2 ^ k) c.from.ensures)
