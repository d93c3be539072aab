-- The proof of the cycle of calls {extends, tries}: `tries` at q calls `extends` at q or less, and `extends` at q calls both at less than q, so the
-- measure is 2q for `extends` and 2q + 1 for `tries`.
use Rattle.std.proofs.Common.{rules, get_or}
use Rattle.bits.proofs.Parts.{part_and_left}
use Rattle.lister_narrowing.proofs.Tightening.{narrowed_none, nothing_left}
use Rattle.lister_extension.proofs.Extending.{Barred, barred_shared, barred_kept, barred_start, barred_more, barred_all}
use Rattle.lister_extension.proofs.Extending.{asked_member, group_less, rest_part, rest_less, fewer_less}
use Rattle.lister_extension.proofs.+extends_tries.Goals.{tries-else-row-t-via-else-row-t, tries-else-row-t-via-then-row-t+in-None-1}
use Rattle.lister_extension.proofs.+extends_tries.Goals.{tries-else-row-t-via-then-row-t+in-Some+else-extends}
use Rattle.lister_extension.proofs.+extends_tries.Goals as goal

pub extends-tries-requires : goal.extends-tries-requires
extends-tries-requires t c =
    let scarcest = c.scarcest-b.ensures in
    let others = c.minus-others.ensures in
    (group_less _ _ _ _ _ c.requires scarcest others _ _ c.decreases, asked_member _ _ _ _ _ c.requires scarcest others)

pub extends-extends-requires : goal.extends-extends-requires
extends-extends-requires t c =
    let scarcest = c.scarcest-b.ensures in
    let others = c.minus-others.ensures in
    let rest = c.minus-then-tries.ensures in
    (rest_less _ _ _ _ _ c.requires scarcest others _ _ rest _ c.decreases, rest_part _ _ _ _ _ c.requires scarcest others _ _ rest)

pub tries-loop-row-init : goal.tries-loop-row-init
tries-loop-row-init t c = barred_start _ _ _ _

pub tries-extends-requires : goal.tries-extends-requires
tries-extends-requires t c =
    let grown = c.in-Some.kept.s in
    (fewer_less c.args.q grown _ c.decreases, part_and_left c.args.q grown)

pub tries-loop-row-preserved : goal.tries-loop-row-preserved
tries-loop-row-preserved t c =
    let member = c.requires in
    let row : Barred c.args.rows.now c.args.t.s c.args.t.free c.args.b (get_or c.args.rows.now c.loop-row.row-index 0) =
    elim c.else-row-t.branch [
      | tries-else-row-t-via-else-row-t w ↦ barred_shared _ _ _ _ _ member w.if-row-t.false
      | tries-else-row-t-via-then-row-t+in-None-1 w ↦ barred_kept _ _ _ _ _ member _ w.minus.ensures (search (rules, nothing_left))
      | tries-else-row-t-via-then-row-t+in-Some+else-extends w ↦ barred_kept _ _ _ _ _ member _ w.minus.ensures
          (narrowed_none w.in-Some.ensures (w.extends.ensures w.if-extends.false))
    ]
    in
    barred_more _ _ _ _ _ c.loop-row.invariant row

pub tries-returns : goal.tries-returns
tries-returns t c = λ e. barred_all _ _ _ _ _ c.requires c.loop-row-test.false c.loop-row.invariant
