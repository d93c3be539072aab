-- `library::list_covers` meets its contract.
use Rattle.std.proofs.Common.{refl}
use Rattle.model.proofs.Reasons.{err_is}
use Rattle.library.proofs.Calling.{call_table, call_words, call_row}
use Rattle.library.proofs.list_covers.Goals as goal

pub returns-in_err-table_refusal : goal.returns-in_err-table_refusal
returns-in_err-table_refusal c = rw (err_is c.from_residual.result _ c.from_residual.ensures.1) (call_table _ c.args.terms.now _ _ _ c.in_err-table_refusal.ensures)

pub returns-in_err-words_refusal : goal.returns-in_err-words_refusal
returns-in_err-words_refusal c = rw (err_is c.from_residual-in_err-words_refusal.result _ c.from_residual-in_err-words_refusal.ensures.1)
    (call_words _ c.args.terms.now _ _ c.in_ok-table_refusal.ensures c.problem_of-p.ensures c.in_err-words_refusal.ensures _ refl)

pub returns : goal.returns
returns c = call_row _ c.args.terms.now _ _ c.in_ok-table_refusal.ensures c.problem_of-p.ensures c.in_ok-words_refusal.ensures refl _ c.fill_row.ensures
