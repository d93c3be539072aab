-- `queries::multiply` meets its contract.
use Rattle.std.proofs.Common.{ℕ, refl, arith}
use Rattle.std.proofs.Math.ListN.{length-take}
use Rattle.problem.proofs.Keeping.{reached_sized, reached_alone}
use Rattle.problem.proofs.Preparing.{stocked}
use Rattle.queries.proofs.Querying.{products_uncovered, products_refused, products_answered}
use Rattle.queries.proofs.multiply.Goals as goal

pub returns-then-not-covered : goal.returns-then-not-covered
returns-then-not-covered c = let a = c.args in products_uncovered a.p _ _ a.free.now _ c.if-not-covered.true refl

pub multiply-row-requires : goal.multiply-row-requires
multiply-row-requires c = record { sized = reached_sized _ (reached_alone c.requires); stocked = stocked _ _ c.requires.problem c.requires.holds c.requires.blocks; first_len = (refl, refl) }

pub put_products-requires : goal.put_products-requires
put_products-requires c =
    let o = (rw c.in-Ok.is at c.multiply-row.ensures) c.requires.problem c.requires.holds c.requires.blocks in
    omega (arith, o.within, length-take {A = ℕ})

pub returns-in-Ok : goal.returns-in-Ok
returns-in-Ok c = let a = c.args in
    products_answered (rw c.in-Ok.is at c.multiply-row.ensures) a.covered c.if-not-covered.false a.free.now _ c.put_products.result _ c.put_products.ensures c.replied.ensures

pub returns-in-Err : goal.returns-in-Err
returns-in-Err c = let a = c.args in
    products_refused (rw c.in-Err.is at c.multiply-row.ensures) a.covered c.if-not-covered.false a.free.now _ refl
