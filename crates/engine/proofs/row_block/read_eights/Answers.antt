-- `engine::row_block::read_eights` meets its contract.
use Rattle.std.proofs.Common.{arith}
use mathlib.Core.Path.{subst⁻¹}
use mathlib.Core.Bool.{Bool}
use lib.Dec.{T}
use Rattle.engine.proofs.RowBlocks.{reads_none, reads_eight}
use Rattle.engine.proofs.row_block.read_eights.Goals as goal

pub loop-s-init : goal.loop-s-init
loop-s-init c = reads_none c.requires.at_in_bounds

pub is_accepted-requires : goal.is_accepted-requires
is_accepted-requires c = record { n_bound = c.requires.n_bound; at_in_bounds = c.loop-s.invariant.within }

pub put-requires : goal.put-requires
put-requires c = let eight = c.is_accepted.ensures (subst⁻¹ (λ (b : Bool). T b) c.loop-s-test.true tt) in record { at_in_bounds = omega (arith, eight.room); at_bound = eight.bytes }

pub loop-s-smaller : goal.loop-s-smaller
loop-s-smaller c = let eight = c.is_accepted.ensures (subst⁻¹ (λ (b : Bool). T b) c.loop-s-test.true tt) in omega (arith, eight.room)

pub loop-s-preserved : goal.loop-s-preserved
loop-s-preserved c = reads_eight c.loop-s.invariant (c.is_accepted.ensures (subst⁻¹ (λ (b : Bool). T b) c.loop-s-test.true tt)) c.put.ensures

pub returns : goal.returns
returns c = c.loop-s.invariant
