-- `engine::row_block::read_rows` meets its contract.
use native.Mathlib.Omega.{arith}
use Rattle.problem.proofs.Keeping.{reached_sized}
use Rattle.engine.proofs.RowBlocks.{reads_none, reads_then, reads_record}
use Rattle.engine.proofs.row_block.read_rows.Goals as goal

pub read_ones-i-requires : goal.read_ones-i-requires
read_ones-i-requires c = let z = reached_sized _ c.requires.reached in record { n_bound = (z.inputs, z.outputs); at_in_bounds = c.requires.begun_le_place.2 }

pub read_eights-end-requires : goal.read_eights-end-requires
read_eights-end-requires c = let z = reached_sized _ c.requires.reached in record { n_bound = (z.inputs, z.outputs); at_in_bounds = c.read_ones-i.ensures.within }

pub loop-i-init : goal.loop-i-init
loop-i-init c = (c.read_eights-end.ensures.forward, reads_none c.read_eights-end.ensures.within)

pub read_ones-i-requires-in-loop-i : goal.read_ones-i-requires-in-loop-i
read_ones-i-requires-in-loop-i c = let z = reached_sized _ c.requires.reached in record { n_bound = (z.inputs, z.outputs); at_in_bounds = c.loop-i.invariant.1.within }

pub read_eights-end-requires-in-loop-i : goal.read_eights-end-requires-in-loop-i
read_eights-end-requires-in-loop-i c = let z = reached_sized _ c.requires.reached in record { n_bound = (z.inputs, z.outputs); at_in_bounds = c.read_ones-i-in-loop-i.ensures.within }

pub loop-i-smaller : goal.loop-i-smaller
loop-i-smaller c = omega (arith, c.loop-i-test.true, c.read_ones-i-in-loop-i.ensures.forward, c.loop-i.invariant.1.within)

pub loop-i-preserved : goal.loop-i-preserved
loop-i-preserved c = (c.read_eights-end-in-loop-i.ensures.forward, reads_then c.loop-i.invariant.1 (reads_then c.read_ones-i-in-loop-i.ensures c.read_eights-end-in-loop-i.ensures))

pub returns : goal.returns
returns c = reads_record c.requires.reached c.requires.begun_le_place.0 c.requires.begun_le_place.1
    (reads_then (reads_then c.read_ones-i.ensures c.read_eights-end.ensures) c.loop-i.invariant.1) c.place_behind-place.ensures
