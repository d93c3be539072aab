-- `cases::run` is safe and ends: the answer buffer keeps its 32,768 bytes.
use Rattle.std.proofs.Common.{arith, sym}
use Rattle.std.proofs.lemmas.List.{length-take-le}
use Rattle.cases.proofs.run.Goals as goal

pub slice_bounds-print-end : goal.slice_bounds-print-end
slice_bounds-print-end g c = sym (length-take-le 1000 c.cover_job-result.new.answers (omega (arith, c.cover_job-result.auto.answers)))
