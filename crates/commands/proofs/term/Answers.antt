-- `commands::term` meets its contract.
use Rattle.std.proofs.Common.{refl, arith}
use Rattle.model.proofs.Reasons.{has_number}
use Rattle.commands.proofs.Handling.{passed_on, refuses_term, term_refused, term_many, term_kept}
use Rattle.commands.proofs.term.Goals as goal

pub returns-in_err-term_refusal : goal.returns-in_err-term_refusal
returns-in_err-term_refusal c = term_refused _ _ _ (refuses_term _ _ _ _ c.requires c.allowed-may.ensures c.in_err-term_refusal.ensures) _ (has_number _) (passed_on _ _ _ c.from_residual.ensures.1)

pub returns-then-p-ge64 : goal.returns-then-p-ge64
returns-then-p-ge64 c = term_many _ _ _ (refuses_term _ _ _ _ c.requires c.allowed-may.ensures c.in_ok-term_refusal.ensures) _ refl (omega arith) refl

pub returns : goal.returns
returns c = term_kept _ _ _ (refuses_term _ _ _ _ c.requires c.allowed-may.ensures c.in_ok-term_refusal.ensures) _ refl c.if-p-ge64.false c.with_term.ensures
