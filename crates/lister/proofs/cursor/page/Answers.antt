-- `lister::cursor::page` meets its contract. The invariant: the first i of out are the sets that the cursor is past, the rest is as it was.
use Rattle.std.proofs.Common.{◌∙◌, arith}
use Rattle.std.proofs.lemmas.List.{set-get_or}
use Rattle.lister.proofs.Listing.{filling_none, filling_more, filled_over, filled_full}
use Rattle.lister.proofs.cursor.page.Goals as goal

pub loop-i-init : goal.loop-i-init
loop-i-init g c = record {
  same = c.seek-c.ensures.same;
  filling = filling_none _ c.requires.rises c.requires.small _ _ _ _ c.new.ensures c.seek-c.ensures.found;
}

pub returns-then-c : goal.returns-then-c
returns-then-c g c =
    rw (set-get_or c.loop-i.out c.loop-i.i 0)
    (filled_over _ c.requires.rises c.requires.small _ _ _ _ _ c.loop-i.invariant.filling (omega arith) c.loop-i.auto.out c.if-c.true)

pub loop-i-preserved : goal.loop-i-preserved
loop-i-preserved g c =
    let inv = c.loop-i.invariant in
    let found = rw inv.same at c.seek-c-in-loop-i.ensures.found in
    record {
      same = c.seek-c-in-loop-i.ensures.same ∙ inv.same;
      filling = filling_more _ c.requires.rises c.requires.small _ _ _ _ _ inv.filling _ _ (omega arith) c.if-c.false c.past.ensures found;
    }

pub returns : goal.returns
returns g c = filled_full _ c.requires.rises c.requires.small _ _ _ _ _ c.loop-i.invariant.filling (omega arith) c.loop-i.auto.out
