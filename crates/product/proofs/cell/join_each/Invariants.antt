-- `product::cell::join_each` meets its contract: what is put so far, and p with the members left, is the whole.
use Rattle.std.proofs.Common.{◌<◌, ◌^◌, ◌++◌, take}
use Rattle.product.specs.Steps.{with}
use Rattle.product.proofs.Putting.{Going}
use Rattle.product.proofs.cell.join_each.Given as goal

abbrev pub invariant-loop-m : goal.invariant-loop-m
invariant-loop-m l = (l.m-iterator.rest < 2 ^ 64) × Going (take l.held l.initial.to ++ with l.p l.x) l.to l.count (with l.p l.m-iterator.rest)
