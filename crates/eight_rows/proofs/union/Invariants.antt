-- `eight_rows::union` meets its contract. The invariant: `all` holds the bits of each byte passed.
use Rattle.std.proofs.Common.{get_or}
use Rattle.eight_rows.proofs.EightRows.{Union}
use Rattle.eight_rows.proofs.union.Given as goal

abbrev pub invariant-loop-b : goal.invariant-loop-b
invariant-loop-b l = Union (λ i. get_or l.bytes i 0) l.b-index l.all
