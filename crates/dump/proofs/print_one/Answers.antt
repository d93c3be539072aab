-- `dump::print_one` is safe, and prints a term or a block as the job put it there, and what a term costs.
use Rattle.std.proofs.Common.{sym, ◌∙◌}
use Rattle.problem.proofs.Keeping.{weight_at}
use Rattle.dump.proofs.Showing.{term_shown, block_shown}
use Rattle.dump.proofs.print_one.Goals as goal

pub print_block-requires : goal.print_block-requires
print_block-requires g c = block_shown c.requires.holds_cands c.requires.blocks_at c.requires.i_lt_count (sym c.has.ensures ∙ c.if-has.true) _ c.vertices-vertices.ensures

pub print_term-requires-clause-i_value : goal.print_term-requires-clause-i_value
print_term-requires-clause-i_value g c = term_shown c.requires.holds_cands _ _ c.requires.i_lt_count (sym c.has.ensures ∙ c.if-has.false)

pub print_term-requires-clause-weight_value : goal.print_term-requires-clause-weight_value
print_term-requires-clause-weight_value g c = weight_at _ _ _ _ _ c.requires.holds_cands _ _ c.requires.i_lt_count (sym c.has.ensures ∙ c.if-has.false)
