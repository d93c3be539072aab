-- `problem::weights::charged` meets its contract.
use native.Mathlib.Omega.{arith}
use Rattle.model.proofs.Costs.{charged_few, charged_many}
use Rattle.problem.proofs.weights.charged.Goals as goal

pub returns-then-k-lt2 : goal.returns-then-k-lt2
returns-then-k-lt2 c =
    let h = c.ones_in-k.ensures.0 in
    (omega (arith, charged_few c.args.t (omega (arith, h)), h), omega arith)

pub returns : goal.returns
returns c =
    let h = c.ones_in-k.ensures.0 in
    (omega (arith, charged_many c.args.t (omega (arith, h)), h), c.ones_in-k.ensures.1)
