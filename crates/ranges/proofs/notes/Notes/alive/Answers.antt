-- `ranges::notes::Notes::alive` is safe.
use Rattle.std.proofs.Common.{arith, pow_pos}
use Rattle.bits.specs.Bits.{Single}
use Rattle.ranges.proofs.notes.Notes.alive.Goals as goal

pub overflow_sub-h : goal.overflow_sub-h
unfolding Single
overflow_sub-h c = omega (arith, c.highest-h.ensures.member.single.1, pow_pos c.highest-h.ensures.member.single.0)
