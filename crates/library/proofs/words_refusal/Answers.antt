-- `library::words_refusal` meets its contract.
use Rattle.model.proofs.Reasons.{has_number, err_is}
use Rattle.library.proofs.Calling.{word_refused, passed_words, words_here}
use Rattle.library.proofs.words_refusal.Goals as goal

pub returns-in_err-word_refusal : goal.returns-in_err-word_refusal
returns-in_err-word_refusal c =
    rw (err_is c.from_residual.result _ c.from_residual.ensures.1) (words_here c.args.words.now c.requires c.allowed-may.ensures
    (word_refused c.loop-w-test.true c.in_err-word_refusal.ensures c.loop-w.invariant (has_number _)))

pub returns : goal.returns
returns c = words_here c.args.words.now c.requires c.allowed-may.ensures (passed_words c.loop-w-test.false c.loop-w.invariant)
