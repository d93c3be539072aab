-- `engine::run_job` meets its contract.
use native.Mathlib.Omega.{arith}
use Rattle.engine.proofs.Running.{job_long, buffer_long}
use Rattle.engine.proofs.run_job.Goals as goal

pub returns-then-job-gt32768 : goal.returns-then-job-gt32768
returns-then-job-gt32768 c = job_long c.args.job.now c.args.answers.now c.requires c.too_long.ensures (omega (arith, c.if-job-gt32768.true))

pub returns-then-answers-gt32768 : goal.returns-then-answers-gt32768
returns-then-answers-gt32768 c = buffer_long c.args.job.now c.args.answers.now c.requires c.too_long-then-answers-gt32768.ensures (omega (arith, c.if-job-gt32768.false)) c.if-answers-gt32768.true

pub returns : goal.returns
returns c = c.run.ensures
