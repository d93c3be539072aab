-- `cheapest::greedy::greedy` meets its contract. The invariant: what is taken and what is left are parts of free.
use Rattle.std.proofs.Common.{arith}
use Rattle.bits.proofs.Parts.{minus_member_less}
use Rattle.cheapest.proofs.FirstCover.{parts_none, parts_more}
use Rattle.cheapest.proofs.greedy.greedy.Goals as goal

pub loop-rest-init : goal.loop-rest-init
loop-rest-init c = parts_none _

pub returns-then-covers : goal.returns-then-covers
returns-then-covers c = c.loop-rest.invariant.taken

pub most_effective-m-requires : goal.most_effective-m-requires
most_effective-m-requires c = omega (arith, c.loop-rest-test.true)

pub loop-rest-smaller : goal.loop-rest-smaller
loop-rest-smaller c = minus_member_less _ _ _ c.most_effective-m.ensures c.minus-rest.ensures

pub loop-rest-preserved : goal.loop-rest-preserved
loop-rest-preserved c = parts_more _ _ _ _ _ c.loop-rest.invariant c.most_effective-m.ensures c.minus-rest.ensures

pub returns : goal.returns
returns c = c.loop-rest.invariant.taken
