-- `cheapest_bounds::ascent::raise` meets its contract. The invariant: the rows passed have taken sum, of entries that fit 16 bits.
use Rattle.std.proofs.Common.{ℕ, ◌<◌, get_or}
use Rattle.cheapest_bounds.proofs.Ascending.{Raising}
use Rattle.cheapest_bounds.proofs.ascent.raise.Given as goal

abbrev pub invariant-loop-row : goal.invariant-loop-row
invariant-loop-row l = record {
  raising : Raising l.rows l.row-index l.initial.left l.left l.sum;
  fits : (k : ℕ) → get_or l.initial.left k 0 < 65536;
}
