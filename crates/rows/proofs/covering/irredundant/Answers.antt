-- `rows::covering::irredundant` meets its contract.
use Rattle.rows.specs.Covers.{IrredundantCover}
use Rattle.bits.proofs.Decide.{decides_true, decides_false, says_false, says_eqb}
use Rattle.rows.proofs.Sets.{privates_all, all_privates, own_rows, own_irredundant}
use Rattle.rows.proofs.covering.irredundant.Goals as goal

pub returns-then-covers : goal.returns-then-covers
returns-then-covers c =
    says_eqb _ _ _
    (λ e. own_irredundant _ _ (decides_true _ _ c.covers.ensures c.if-covers.true) (privates_all _ _ _ c.privates.ensures e))
    (λ h. all_privates _ _ _ c.privates.ensures (own_rows _ _ h))

pub returns-else-covers : goal.returns-else-covers
unfolding IrredundantCover
returns-else-covers c = rw c.if-covers.false (says_false _ (λ h. decides_false _ _ c.covers.ensures c.if-covers.false h.0))
