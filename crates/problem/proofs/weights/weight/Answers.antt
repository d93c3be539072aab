-- `problem::weights::weight` meets its contract.
use Rattle.model.specs.Candidates.{term_cost}
use Rattle.problem.proofs.weights.weight.Goals as goal

pub returns : goal.returns
unfolding term_cost
returns c = rw (c.from.ensures, c.from-2.ensures, c.charged.ensures.0, c.from-3.ensures, c.ones_in.ensures.0)
