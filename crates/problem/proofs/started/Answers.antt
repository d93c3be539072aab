-- `problem::started` meets its contract.
use Rattle.std.proofs.Common.{◌≡◌}
use Rattle.model.specs.Table.{term}
use Rattle.problem.specs.Problems.{started_with}
use Rattle.problem.proofs.started.Goals as goal

pub returns : goal.returns
unfolding started_with
returns c =
    let empty : c.default.result ≡ term 0 0 0 = rw (c.default.ensures.0, c.default.ensures.1.0, c.default.ensures.1.1) in
    rw (c.usual_prices.ensures, empty)
