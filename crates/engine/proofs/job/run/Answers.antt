-- `engine::job::run` meets its contract: each turn of the loop is one law of `Running`, and of `RowBlocks` where rows are read.
use Rattle.std.proofs.Common.{ℕ, ◌+◌, Bool, refl, sym, ap, ◌∙◌, arith}
use mathlib.Core.Path.{subst⁻¹}
use Rattle.std.proofs.Math.Seq.{length-take-le}
use lib.Dec.{T}
use Rattle.problem.proofs.Keeping.{reached_sized, reached_alone}
use Rattle.model.proofs.Reasons.{has_number}
use Rattle.engine.proofs.Running.{going_first, done_le, reached, read_count, this_step, going_cut, going_refused, going_ended, going_next, room_left, width_fits}
use Rattle.engine.proofs.RowBlocks.{going_behind}
use Rattle.engine.proofs.job.run.Goals as goal

pub loop-at-init : goal.loop-at-init
loop-at-init c = going_first c.requires.job_len_bound.0 c.requires.job_len_bound.1 c.empty-p.ensures c.requires.blocks_at refl

pub slice_bounds-refresh-end : goal.slice_bounds-refresh-end
slice_bounds-refresh-end c = sym c.loop-at.invariant.size

pub refresh-kept-requires : goal.refresh-kept-requires
refresh-kept-requires c =
    let i = c.loop-at.invariant in
    record { sized = reached_sized _ (reached_alone (reached i)); rows_len = (i.size, i.few) }

pub slice_bounds-rows-end : goal.slice_bounds-rows-end
slice_bounds-rows-end c = let few = read_count _ _ c.unwrap_or-m.ensures (omega arith) c.refresh-kept.ensures.within in omega (arith, few, c.refresh-kept.ensures.size)

pub slice_bounds-found-end : goal.slice_bounds-found-end
slice_bounds-found-end c = let few = read_count _ _ c.unwrap_or-m.ensures (omega arith) c.refresh-kept.ensures.within in sym (length-take-le _ _ (omega (arith, few, c.refresh-kept.ensures.size)))

pub step-requires : goal.step-requires
step-requires c =
    let few = read_count _ _ c.unwrap_or-m.ensures (omega arith) c.refresh-kept.ensures.within in
    let long = length-take-le c.unwrap_or-m.result.count c.refresh-kept.new.rows (omega (arith, few, c.refresh-kept.ensures.size)) in
    record { reached_with = reached c.loop-at.invariant; at_in_bounds = c.loop-at-test.true; rows_len_bound = omega (arith, long, few) }

pub slice_bounds-free-count : goal.slice_bounds-free-count
slice_bounds-free-count c = done_le c.loop-at.invariant

pub returns-in-Err : goal.returns-in-Err
returns-in-Err c =
    let i = c.loop-at.invariant in
    let s = this_step i _ c.refresh-kept.ensures c.unwrap_or-m.ensures c.in-Err.ensures in
    rw c.new.ensures (going_refused i c.loop-at-test.true s c.number.ensures (has_number _) refl)

pub overflow_add-written : goal.overflow_add-written
overflow_add-written c =
    let i = c.loop-at.invariant in
    let s = this_step i _ c.refresh-kept.ensures c.unwrap_or-m.ensures c.in-Ok.ensures in
    omega (arith, room_left i c.loop-at-test.true s refl, c.requires.job_len_bound.1)

pub returns-then-is_end : goal.returns-then-is_end
returns-then-is_end c =
    let i = c.loop-at.invariant in
    let s = this_step i _ c.refresh-kept.ensures c.unwrap_or-m.ensures c.in-Ok.ensures in
    rw c.new-then-is_end.ensures (going_ended i c.loop-at-test.true s refl (sym c.is_end.ensures ∙ c.if-is_end.true) refl)

pub overflow_add-at-in-loop-at-2 : goal.overflow_add-at-in-loop-at-2
overflow_add-at-in-loop-at-2 c =
    let i = c.loop-at.invariant in
    let s = this_step i _ c.refresh-kept.ensures c.unwrap_or-m.ensures c.in-Ok.ensures in
    omega (arith, width_fits i c.loop-at-test.true s refl, c.requires.job_len_bound.0, c.width_of.ensures)

pub read_rows-block-requires : goal.read_rows-block-requires
read_rows-block-requires c =
    let i = c.loop-at.invariant in
    let s = this_step i _ c.refresh-kept.ensures c.unwrap_or-m.ensures c.in-Ok.ensures in
    let next = going_next i c.loop-at-test.true s refl refl c.refresh-kept.ensures (sym c.is_end.ensures ∙ c.if-is_end.false) (ap (λ (w : ℕ). c.loop-at.at + 1 + w) c.width_of.ensures) in
    let place = c.starts.ensures (subst⁻¹ (λ (b : Bool). T b) c.if-starts.true tt) in
    record { reached = reached_alone (reached next); begun_le_place = (place.0, place.1, next.within) }

pub loop-at-smaller-then-starts : goal.loop-at-smaller-then-starts
loop-at-smaller-then-starts c = omega (arith, c.loop-at-test.true, c.read_rows-block.ensures.forward)

pub loop-at-preserved-then-starts : goal.loop-at-preserved-then-starts
loop-at-preserved-then-starts c =
    let i = c.loop-at.invariant in
    let s = this_step i _ c.refresh-kept.ensures c.unwrap_or-m.ensures c.in-Ok.ensures in
    let next = going_next i c.loop-at-test.true s refl refl c.refresh-kept.ensures (sym c.is_end.ensures ∙ c.if-is_end.false) (ap (λ (w : ℕ). c.loop-at.at + 1 + w) c.width_of.ensures) in
    going_behind next c.read_rows-block.ensures

pub loop-at-preserved : goal.loop-at-preserved
loop-at-preserved c =
    let i = c.loop-at.invariant in
    let s = this_step i _ c.refresh-kept.ensures c.unwrap_or-m.ensures c.in-Ok.ensures in
    let next = going_next i c.loop-at-test.true s refl refl c.refresh-kept.ensures (sym c.is_end.ensures ∙ c.if-is_end.false) (ap (λ (w : ℕ). c.loop-at.at + 1 + w) c.width_of.ensures) in
    next

pub returns : goal.returns
returns c = rw c.new-2.ensures (going_cut c.loop-at.invariant c.number-2.ensures c.loop-at-test.false)
