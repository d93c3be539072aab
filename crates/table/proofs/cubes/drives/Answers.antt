-- `table::cubes::drives` meets its contract. Assumes nothing.
use Rattle.std.proofs.Common.{sym, ap, ◌∙◌, get_or}
use Rattle.table.proofs.Halves.{drives_none, drives_one}
use Rattle.table.proofs.cubes.drives.Goals as goal

pub returns-then-first-eq0 : goal.returns-then-first-eq0
returns-then-first-eq0 c = drives_none _ _ _ _ c.requires (ap (λ v. get_or c.args.may.now v 0) (sym c.from.ensures) ∙ c.if-first-eq0.true)

pub free_inputs-free-requires : goal.free_inputs-free-requires
free_inputs-free-requires c = (c.requires.inputs, c.requires.care_lt)

pub returns-then-free-eq0 : goal.returns-then-free-eq0
returns-then-free-eq0 c = rw c.from.ensures (drives_one _ _ _ _ _ c.requires c.free_inputs-free.ensures c.if-free-eq0.true)

pub returns : goal.returns
returns c = c.halves.ensures _ _ c.requires c.free_inputs-free.ensures
