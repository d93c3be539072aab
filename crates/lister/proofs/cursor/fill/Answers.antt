-- `lister::cursor::fill` meets its contract.
use Rattle.lister.proofs.Listing.{row_covers_rising, row_covers_small}
use Rattle.lister.proofs.cursor.fill.Goals as goal

pub page-requires : goal.page-requires
page-requires c = record { rises = row_covers_rising _ _; small = row_covers_small _ _ c.requires }
