-- `cheapest::search::cheapest` meets its contract.
use Rattle.cheapest_bounds.proofs.Costing.{small_entries}
use Rattle.cheapest.proofs.FirstCover.{priced_start, none_below, least_cost}
use Rattle.cheapest.proofs.Optimality.{optimal_none, optimal_cover}
use Rattle.cheapest.proofs.search.cheapest.Goals as goal

pub value-best-requires : goal.value-best-requires
value-best-requires c =
    record { rows_len_bound = c.requires.rows_len_bound; common_unit = c.unit-unit.ensures.unit; priced = priced_start _ _ _ _ c.requires.costs_len_bound (small_entries c.args.costs.now c.type_inv.costs) c.start.ensures }

pub returns-then-best-eq-NO_COST : goal.returns-then-best-eq-NO_COST
returns-then-best-eq-NO_COST c =
    optimal_none _ _
    (none_below _ _ _ _ _ _ c.low_mask-free.ensures c.start.ensures c.value-best.ensures
    (small_entries c.args.costs.now c.type_inv.costs) c.requires.costs_len_bound c.if-best-eq-NO_COST.true)

pub first-set-requires : goal.first-set-requires
first-set-requires c = record {
  rows_len_bound = c.requires.rows_len_bound;
  common_unit = c.unit-unit.ensures.unit;
  n_bound = c.requires.costs_len_bound;
  costs_len_bound = c.requires.costs_len_bound;
  least_cost = least_cost _ _ _ _ _ _ c.low_mask-free.ensures c.start.ensures c.value-best.ensures c.if-best-eq-NO_COST.false;
}

pub returns : goal.returns
returns c =
    optimal_cover _ _ _ _ c.requires.costs_len_bound (small_entries c.args.costs.now c.type_inv.costs) c.first-set.ensures
