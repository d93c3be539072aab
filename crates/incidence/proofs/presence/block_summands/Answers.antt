-- `incidence::presence::block_summands` meets its contract.
use Rattle.std.proofs.Common.{ℕ, arith, refl, ap}
use Rattle.std.specs.Int.Bits.{bit_and}
use Rattle.incidence.proofs.Candidates.{outputs_none, outputs_next, outputs_end}
use Rattle.incidence.proofs.BlockSums.{no_summands}
use Rattle.incidence.proofs.presence.block_summands.Goals as goal

pub returns-then-set-eq0 : goal.returns-then-set-eq0
returns-then-set-eq0 c = no_summands _ _ _ _ c.if-set-eq0.true refl

pub loop-j-init : goal.loop-j-init
loop-j-init c = outputs_none _ _ refl

pub loop-j-preserved : goal.loop-j-preserved
loop-j-preserved c =
    outputs_next _ _ _ _ _ (omega (arith, c.requires.1)) c.from.ensures (ap (λ (x : ℕ). bit_and x c.args.set) c.driving.ensures) c.loop-j.invariant

pub returns : goal.returns
returns c = outputs_end _ _ _ _ c.loop-j-test.false c.loop-j.invariant
