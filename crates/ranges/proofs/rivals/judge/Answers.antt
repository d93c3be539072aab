-- `ranges::rivals::judge` meets its contract.
use Rattle.ranges.proofs.Contesting.{judged_known, judged_recalled, judged_rival}
use Rattle.ranges.proofs.rivals.judge.Goals as goal

pub returns-then-no_dearer : goal.returns-then-no_dearer
returns-then-no_dearer c =
    judged_known _ _ _ _ _ _ c.args.market.now.quoted c.requires (c.no_dearer.ensures c.if-no_dearer.true)

pub returns-in-Some : goal.returns-in-Some
returns-in-Some c = judged_recalled _ _ _ _ _ c.in-Some.ensures

pub returns-in-None : goal.returns-in-None
returns-in-None c = judged_rival _ _ _ _ _ c.rival.ensures
