-- `ranges::rivals::met` meets its contract.
use Rattle.std.proofs.Common.{rules}
use Rattle.ranges.proofs.Meeting.{met_kept}
use Rattle.ranges.proofs.rivals.met.Goals as goal

pub returns : goal.returns
returns c = met_kept _ _ _ _ _ _ (λ x o m. search rules) c.put.ensures
