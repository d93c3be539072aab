-- `lister::levels::own_levels` meets its contract.
use Rattle.std.proofs.Common.{arith}
use Rattle.lister.proofs.Leveling.{member_pos, own_first, own_second}
use Rattle.lister.proofs.levels.own_levels.Goals as goal

pub overflow_sub-b : goal.overflow_sub-b
overflow_sub-b c = omega (arith, member_pos _ _ c.requires.member)

pub returns-then-rest-eq0 : goal.returns-then-rest-eq0
returns-then-rest-eq0 c = own_first _ _ _ c.requires _ c.minus-levels.ensures

pub overflow_sub-highest : goal.overflow_sub-highest
overflow_sub-highest c = omega (arith, member_pos _ _ c.highest.ensures.member)

pub returns : goal.returns
returns c =
    let first = c.minus-levels.ensures in
    let rest = c.minus-rest.ensures in
    own_second _ _ _ c.requires _ first _ _ _ rest c.highest.ensures c.minus.ensures
