-- `queries::page_into` meets its contract.
use Rattle.std.proofs.Common.{ℕ, arith}
use Rattle.std.proofs.Math.ListN.{length-take}
use Rattle.rows.specs.Covers.{row_covers}
use Rattle.queries.proofs.Querying.{page_within, page_answer}
use Rattle.queries.proofs.page_into.Goals as goal

pub put_page-requires : goal.put_page-requires
put_page-requires c = let w = page_within (row_covers c.args.n c.args.rows.now) c.args.start c.args.row.now _ _ c.fill-page.ensures in omega (arith, w.0, c.requires.1, length-take {A = ℕ})

pub returns : goal.returns
returns c = page_answer (row_covers c.args.n c.args.rows.now) c.args.start c.args.row.now _ _
    c.fill-page.ensures c.args.free.now c.put_page.new.free c.put_page.result
    c.put_page.ensures
