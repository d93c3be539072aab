-- `listing::products::show_pairs` is safe and ends.
use Rattle.std.proofs.Common.{◌≡◌, length}
use Rattle.listing.proofs.products.show_pairs.Given as goal

abbrev pub invariant-loop-v : goal.invariant-loop-v
invariant-loop-v g l = (length l.on ≡ 16) × (length l.terms ≡ 22)
