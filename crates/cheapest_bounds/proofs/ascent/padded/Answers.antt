-- `cheapest_bounds::ascent::padded` meets its contract.
use Rattle.std.proofs.lemmas.List.{drop-replicate}
use Rattle.cheapest_bounds.proofs.Ascending.{padded_costs}
use Rattle.cheapest_bounds.proofs.ascent.padded.Goals as goal

pub returns : goal.returns
returns c = padded_costs _ _ _ c.requires c.copy_from_slice.ensures.after (drop-replicate _ 64 _)
