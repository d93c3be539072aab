-- `engine::cover_job` meets its contract.
use mathlib.Core.List.{[]}
use Rattle.incidence.proofs.Uses.{blocks_alone}
use Rattle.engine.proofs.Running.{tells_small, tells_packed}
use Rattle.engine.proofs.cover_job.Goals as goal

pub run_job-e-requires : goal.run_job-e-requires
run_job-e-requires c = blocks_alone []

pub pack-requires : goal.pack-requires
pack-requires c = tells_small c.run_job-e.ensures

pub returns : goal.returns
returns c = tells_packed c.run_job-e.ensures c.pack.ensures
