-- `cheapest_nodes::branching::most_effective` meets its contract. The invariant: pick is a member of x, most is a count,
-- and what is still to come is a part of x.
use Rattle.std.proofs.Common.{◌<◌}
use Rattle.bits.specs.Bits.{Part, Member}
use Rattle.cheapest_nodes.proofs.branching.most_effective.Given as goal

abbrev pub invariant-loop-m : goal.invariant-loop-m
invariant-loop-m l = Member l.x l.pick × Part l.m-iterator.rest l.x × (l.most < 65536)
