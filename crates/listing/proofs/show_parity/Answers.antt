-- `listing::show_parity` is safe and ends: the bytes of odd parity are 256.
use Rattle.std.proofs.Common.{arith, sym}
use Rattle.std.proofs.lemmas.List.{length-take-le}
use Rattle.listing.proofs.show_parity.Goals as goal

pub slice_bounds-show-end-then-count-le64 : goal.slice_bounds-show-end-then-count-le64
slice_bounds-show-end-then-count-le64 g c = sym (length-take-le 128 c.odd_parity-on.result (omega arith))
