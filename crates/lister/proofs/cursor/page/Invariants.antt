-- `lister::cursor::page` meets its contract. The invariant: the first i of out are the sets that the cursor is past, the rest is as it was.
use Rattle.std.proofs.Common.{◌≡◌}
use Rattle.lister.proofs.Listing.{Filling}
use Rattle.lister.proofs.cursor.page.Given as goal

abbrev pub invariant-loop-i : goal.invariant-loop-i
invariant-loop-i g l = record {
  same : g.W.Walk.listed l.walk ≡ g.W.Walk.listed l.fn.walk;
  filling : Filling (g.W.Walk.listed l.fn.walk) l.start l.fn.out l.out l.c l.i;
}
