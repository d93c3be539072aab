-- `lister_narrowing::only` meets its contract.
use Rattle.std.proofs.Common.{refl, inl, inr}
use Rattle.lister_narrowing.specs.Narrowing.{Only}
use Rattle.bits.proofs.Decide.{decides_true, decides_false}
use Rattle.lister_narrowing.proofs.only.Goals as goal

pub returns-then-is_single : goal.returns-then-is_single
unfolding Only
returns-then-is_single c = inr (refl, decides_true _ _ c.is_single.ensures c.if-is_single.true)

pub returns : goal.returns
unfolding Only
returns c = inl (refl, decides_false _ _ c.is_single.ensures c.if-is_single.false)
