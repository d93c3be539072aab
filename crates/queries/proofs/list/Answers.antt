-- `queries::list` meets its contract.
use Rattle.std.proofs.Common.{ℕ, refl, ◌∙◌, arith}
use Rattle.std.proofs.Math.ListN.{replicate}
use Rattle.std.proofs.Math.Seq.{length-take-le}
use Rattle.problem.proofs.Keeping.{reached_sized}
use Rattle.queries.proofs.Querying.{list_uncovered, list_answered}
use Rattle.queries.proofs.list.Goals as goal

pub returns-then-not-covered : goal.returns-then-not-covered
returns-then-not-covered c = let a = c.args in list_uncovered a.p a.rows.now _ a.start a.count a.free.now _ c.if-not-covered.true refl

pub page_into-reply-requires : goal.page_into-reply-requires
page_into-reply-requires c = ((reached_sized _ c.requires).few, omega (arith, length-take-le {A = ℕ} c.from.result (replicate 255 0) (omega (arith, c.from.ensures)), c.from.ensures))

pub returns : goal.returns
returns c = let a = c.args in list_answered a.p a.rows.now _ a.start a.count _ _ a.free.now _
    c.page_into-reply.result _ c.if-not-covered.false refl (length-take-le {A = ℕ} c.from.result (replicate 255 0) (omega (arith, c.from.ensures)) ∙ c.from.ensures) c.page_into-reply.ensures
    c.replied.ensures
