-- `ranges::cursor::fill` meets its contract.
use Rattle.std.proofs.Common.{refl}
use Rattle.ranges.proofs.Contesting.{known_none}
use Rattle.ranges.proofs.Walking.{list_rising, list_small}
use Rattle.ranges.proofs.Banning.{own_first, own_page}
use Rattle.ranges.proofs.cursor.fill.Goals as goal

pub invariant_of-listing : goal.invariant_of-listing
invariant_of-listing c = record { known_listed = known_none _ _ _ }

pub page-requires : goal.page-requires
page-requires c =
    let q = c.over.result.quoted in record { rises = list_rising _ _ _ _ q; small = list_small _ _ _ _ q }

pub returns : goal.returns
returns c =
    let here = c.over.ensures in
    own_page _ _ _ (own_first c.cleared.ensures c.requires.rows_len_bound) _ _
    (record { lows = refl; highs = c.requires.high_len; ordered = c.requires.by_index }) c.banned-banned.ensures _ _ _ _
    (rw (here.rows_are, here.low_is, here.high_is) at c.page.ensures)
