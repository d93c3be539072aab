-- `queries::possible` meets its contract.
use Rattle.std.proofs.Common.{ℕ, refl, ◌∙◌, arith}
use Rattle.std.proofs.Math.ListN.{replicate}
use Rattle.std.proofs.Math.Seq.{length-take-le}
use Rattle.problem.proofs.Keeping.{reached_sized}
use Rattle.queries.proofs.Querying.{ends_sized, ends_rise, possible_uncovered, possible_answered}
use Rattle.queries.proofs.possible.Goals as goal

pub returns-then-not-covered : goal.returns-then-not-covered
returns-then-not-covered c = let a = c.args in possible_uncovered a.p a.rows.now _ a.start a.count a.free.now _ c.if-not-covered.true refl

pub slice_bounds-lows-end : goal.slice_bounds-lows-end
slice_bounds-lows-end c = omega (arith, (reached_sized _ c.requires.reached).few)

pub slice_bounds-highs-end : goal.slice_bounds-highs-end
slice_bounds-highs-end c = omega (arith, (reached_sized _ c.requires.reached).few)

pub possible_into-reply-requires : goal.possible_into-reply-requires
possible_into-reply-requires c = record {
  rows_len_bound = (c.requires.rows_len_bound, omega (arith, length-take-le {A = ℕ} c.from.result (replicate 255 0) (omega (arith, c.from.ensures)), c.from.ensures));
  lows_len_bound = ends_sized c.args.p _ _ refl refl c.requires.reached;
  by_index = ends_rise c.args.p _ _ refl refl c.requires.reached;
}

pub returns : goal.returns
returns c = let a = c.args in possible_answered a.p _ _ refl refl a.rows.now _ a.start a.count _ a.free.now _
    c.possible_into-reply.result _ c.if-not-covered.false (length-take-le {A = ℕ} c.from.result (replicate 255 0) (omega (arith, c.from.ensures)) ∙ c.from.ensures) c.possible_into-reply.ensures
    c.replied.ensures
