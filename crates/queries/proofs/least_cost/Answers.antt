-- `queries::least_cost` meets its contract.
use Rattle.std.proofs.Common.{refl, sym, arith, length-take-le}
use Rattle.problem.proofs.Keeping.{reached_sized}
use Rattle.queries.proofs.Querying.{cheapest_uncovered, cheapest_none, cheapest_answered}
use Rattle.queries.proofs.least_cost.Goals as goal

pub returns-then-not-covered : goal.returns-then-not-covered
returns-then-not-covered c = let a = c.args in cheapest_uncovered a.p a.rows.now _ a.free.now _ (c.if-not-covered.true) refl

pub slice_bounds-cheapest-end : goal.slice_bounds-cheapest-end
slice_bounds-cheapest-end c = omega (arith, (reached_sized _ c.requires.reached).few)

pub cheapest-requires : goal.cheapest-requires
cheapest-requires c = record { rows_len_bound = c.requires.rows_len_bound; costs_len_bound = omega (arith, length-take-le c.args.p.candidates.count c.args.p.candidates.weights (omega (arith, (reached_sized _ c.requires.reached).few)), (reached_sized _ c.requires.reached).few) }

pub returns-in-None : goal.returns-in-None
returns-in-None c = let a = c.args in cheapest_none a.p a.rows.now _ _ refl a.free.now _
    (c.if-not-covered.false) c.in-None.ensures

pub returns-in-Some : goal.returns-in-Some
returns-in-Some c = let a = c.args in cheapest_answered a.p a.rows.now _ _ refl _
    c.in-Some.ensures a.free.now _ c.put_cheapest.result _
    (c.if-not-covered.false) c.put_cheapest.ensures c.replied.ensures
