-- `problem::with_block` meets its contract.
use Rattle.problem.specs.Problems.{entry_put}
use Rattle.problem.proofs.with_block.Goals as goal

pub returns : goal.returns
unfolding entry_put
returns c = rw (c.candidate_place.ensures, c.put.ensures, c.power.ensures, c.default.ensures.0, c.default.ensures.1.0)
