-- `incidence::rows::candidates_for` meets its contract.
use Rattle.std.proofs.Common.{inl, inr, rules}
use Rattle.incidence.proofs.Candidates.{vertex_row}
use Rattle.incidence.proofs.rows.candidates_for.Goals as goal

pub returns-then-on-eq0 : goal.returns-then-on-eq0
returns-then-on-eq0 c = inl c.if-on-eq0.true

pub returns : goal.returns
returns c = inr (λ cs q. vertex_row q _ _ _ _ (search rules) c.from.ensures c.cubes_at.ensures c.minus.ensures)
