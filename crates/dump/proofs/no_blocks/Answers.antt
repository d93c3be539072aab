-- `dump::no_blocks` meets its contract.
use Rattle.std.proofs.Common.{[]}
use Rattle.incidence.proofs.Uses.{blocks_alone}
use Rattle.dump.proofs.no_blocks.Goals as goal

pub returns : goal.returns
returns c = blocks_alone []
