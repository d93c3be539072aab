-- `ranges::cursor::find` meets its contract.
use Rattle.ranges.specs.Rivals.{Decided}
use Rattle.ranges.proofs.Walking.{walked_none, walked_found, walked_on, walked_less}
use Rattle.ranges.proofs.cursor.find.Goals as goal

pub returns-then-d : goal.returns-then-d
returns-then-d c =
    walked_none _ _ _ _ c.args.market.now.quoted _ _ _ c.loop-known.invariant c.seek-d.ensures c.if-d.true

pub returns-in_default : goal.returns-in_default
returns-in_default c =
    walked_found _ _ _ _ c.args.market.now.quoted _ _ _ c.loop-known.invariant c.seek-d.ensures c.if-d.false c.in_default.ensures

pub beyond-c-requires : goal.beyond-c-requires
unfolding Decided
beyond-c-requires c = c.in-Some.ensures

pub loop-known-smaller : goal.loop-known-smaller
loop-known-smaller c =
    walked_less _ _ _ _ c.args.market.now.quoted _ _ _ c.loop-known.invariant c.seek-d.ensures c.if-d.false _ c.beyond-c.ensures

pub loop-known-preserved : goal.loop-known-preserved
loop-known-preserved c =
    walked_on _ _ _ _ c.args.market.now.quoted _ _ _ c.loop-known.invariant c.seek-d.ensures c.if-d.false _ c.beyond-c.ensures
