-- `commands::primes` meets its contract.
use Rattle.std.proofs.Common.{refl, arith}
use Rattle.std.proofs.Math.ListN.{length-take}
use Rattle.model.specs.declared.Term.{Term}
use Rattle.problem.proofs.Keeping.{reached_sized}
use Rattle.commands.proofs.Handling.{passed_on, primes_many, few_primes, primes_long, primes_kept}
use Rattle.commands.proofs.primes.Goals as goal

pub primes-list-requires : goal.primes-list-requires
primes-list-requires c = (reached_sized _ c.requires).inputs

pub returns-then-list : goal.returns-then-list
returns-then-list c = primes_many _ (reached_sized _ c.requires) _ c.allowed-may.ensures _ c.primes-list.ensures _ _ c.if-list.true refl

pub shared_ref_as_front-put_primes : goal.shared_ref_as_front-put_primes
shared_ref_as_front-put_primes c = few_primes _ (reached_sized _ c.requires) _ c.allowed-may.ensures _ c.primes-list.ensures c.requires

pub put_primes-requires : goal.put_primes-requires
put_primes-requires c = let few = few_primes _ (reached_sized _ c.requires) _ c.allowed-may.ensures _ c.primes-list.ensures c.requires in omega (arith, length-take {A = Term})

pub with_primes-requires : goal.with_primes-requires
with_primes-requires c = few_primes _ (reached_sized _ c.requires) _ c.allowed-may.ensures _ c.primes-list.ensures c.requires

pub returns-in_err-written : goal.returns-in_err-written
returns-in_err-written c = primes_long _ (reached_sized _ c.requires) _ c.allowed-may.ensures _ c.primes-list.ensures _ _ _ c.if-list.false
    c.put_primes.ensures _ _ c.in_err-written.was (passed_on _ _ _ c.from_residual.ensures.1)

pub returns : goal.returns
returns c = primes_kept _ (reached_sized _ c.requires) _ c.allowed-may.ensures _ c.primes-list.ensures _ _ _ c.if-list.false
    c.put_primes.ensures _ _ c.in_ok-written.was c.with_primes.ensures
