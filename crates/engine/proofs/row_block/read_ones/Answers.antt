-- `engine::row_block::read_ones` meets its contract.
use Rattle.std.proofs.Common.{arith}
use mathlib.Core.Path.{subst⁻¹}
use mathlib.Core.Bool.{Bool}
use lib.Dec.{T}
use Rattle.problem.specs.Problems.{row_put}
use Rattle.engine.proofs.RowBlocks.{reads_none, reads_one}
use Rattle.engine.proofs.row_block.read_ones.Goals as goal

pub loop-s-init : goal.loop-s-init
loop-s-init c = reads_none c.requires.at_in_bounds

pub is_accepted-requires : goal.is_accepted-requires
is_accepted-requires c = record { n_bound = c.requires.n_bound; at_in_bounds = c.loop-s.invariant.within }

pub bounds-job-i : goal.bounds-job-i
bounds-job-i c = let row = c.is_accepted.ensures (subst⁻¹ (λ (b : Bool). T b) c.loop-s-test.true tt) in omega (arith, row.room)

pub bounds-job-i-in-loop-s : goal.bounds-job-i-in-loop-s
bounds-job-i-in-loop-s c = let row = c.is_accepted.ensures (subst⁻¹ (λ (b : Bool). T b) c.loop-s-test.true tt) in omega (arith, row.room)

pub bounds-job-i-in-loop-s-2 : goal.bounds-job-i-in-loop-s-2
bounds-job-i-in-loop-s-2 c = let row = c.is_accepted.ensures (subst⁻¹ (λ (b : Bool). T b) c.loop-s-test.true tt) in omega (arith, row.room)

pub loop-s-smaller : goal.loop-s-smaller
loop-s-smaller c = let row = c.is_accepted.ensures (subst⁻¹ (λ (b : Bool). T b) c.loop-s-test.true tt) in omega (arith, row.room)

pub loop-s-preserved : goal.loop-s-preserved
unfolding row_put
loop-s-preserved c = reads_one c.loop-s.invariant (c.is_accepted.ensures (subst⁻¹ (λ (b : Bool). T b) c.loop-s-test.true tt)) c.from-v.ensures

pub returns : goal.returns
returns c = c.loop-s.invariant
