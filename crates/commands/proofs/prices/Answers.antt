-- `commands::prices` meets its contract.
use Rattle.std.proofs.Common.{refl}
use Rattle.model.proofs.Reasons.{has_number}
use Rattle.commands.proofs.Handling.{passed_on, prices_refused, prices_kept}
use Rattle.commands.proofs.prices.Goals as goal

pub returns-in_err-prices_refusal : goal.returns-in_err-prices_refusal
returns-in_err-prices_refusal c = prices_refused _ _ _ c.in_err-prices_refusal.ensures _ (has_number _) (passed_on _ _ _ c.from_residual.ensures.1)

pub returns : goal.returns
returns c = prices_kept _ _ _ c.in_ok-prices_refusal.ensures _ refl c.with_prices.ensures
