-- `lister_narrowing::united` meets its contract. The invariant: the members to come are a part of s, and acc is in what the other members have in common.
use Rattle.bits.specs.Bits.{Part}
use Rattle.lister_narrowing.specs.Narrowing.{United}
use Rattle.lister_narrowing.proofs.united.Given as goal

abbrev pub invariant-loop-m : goal.invariant-loop-m
invariant-loop-m l = record { within : Part l.m-iterator.rest l.s; in_common : United l.common l.s l.acc }
