-- `eight_rows::shared` meets its contract. The invariant: `all` holds the bits that the pairs passed share.
use Rattle.std.proofs.Common.{◌+◌, ◌*◌, get_or, bit_and}
use Rattle.eight_rows.proofs.EightRows.{Union}
use Rattle.eight_rows.proofs.shared.Given as goal

abbrev pub invariant-loop-i : goal.invariant-loop-i
invariant-loop-i l = Union (λ j. bit_and (get_or l.job (l.at + 2 * j) 0) (get_or l.job (l.at + 2 * j + 1) 0)) l.i l.all
