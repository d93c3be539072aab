-- The places in a job by name, as the code tells them, with their numbers.
use Rattle.std.specs.Prelude.{ℕ}
use Rattle.model.specs.Commands.{at_start, begun, in_prices, among_rows, in_candidates, queried}
use Rattle.model.specs.declared.place.Place.{Place}
use Rattle.model.specs.declared.place.Place.TheVariants.{Start, Begun, InPrices, AmongRows, InCandidates, Queried}

abbrev pub place_of : Place → ℕ
place_of Start = at_start
place_of Begun = begun
place_of InPrices = in_prices
place_of AmongRows = among_rows
place_of InCandidates = in_candidates
place_of Queried = queried
