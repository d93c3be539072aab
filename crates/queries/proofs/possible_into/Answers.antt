-- `queries::possible_into` meets its contract.
use Rattle.std.proofs.Common.{ℕ, length, arith}
use Rattle.std.proofs.Math.ListN.{length-take}
use Rattle.ranges.specs.Listed.{row_possibles}
use Rattle.queries.proofs.Querying.{page_within, possible_answer}
use Rattle.queries.proofs.possible_into.Goals as goal

pub fill-page-requires : goal.fill-page-requires
fill-page-requires c = record { rows_len_bound = c.requires.rows_len_bound.0; low_len_bound = c.requires.lows_len_bound.0; high_len = c.requires.lows_len_bound.1; by_index = c.requires.by_index }

pub put_possible_page-requires : goal.put_possible_page-requires
put_possible_page-requires c = let w = page_within (row_possibles (length c.args.lows.now) c.args.rows.now c.args.lows.now c.args.highs.now) c.args.start c.args.row.now _ _ c.fill-page.ensures in omega (arith, w.0, c.requires.rows_len_bound.1, length-take {A = ℕ})

pub returns : goal.returns
returns c = possible_answer (row_possibles (length c.args.lows.now) c.args.rows.now c.args.lows.now c.args.highs.now) c.args.start c.args.row.now _ _
    c.fill-page.ensures c.args.free.now c.put_possible_page.new.free c.put_possible_page.result
    c.put_possible_page.ensures
