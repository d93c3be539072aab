-- `library::problem_of` meets its contract.
use Rattle.std.proofs.Common.{ℕ, map, length, take, subst, arith}
use lib.Seq.{length-take-le}
use Rattle.bits.specs.Lists.{Filled}
use Rattle.model.specs.Candidates.{term_cost}
use Rattle.library.proofs.Calling.{call_holds}
use Rattle.library.proofs.problem_of.Goals as goal

pub returns : goal.returns
returns c =
    let words = c.args.words.now in
    let terms = c.terms_of-terms.result in
    let n = length-take-le (length words) terms (omega (arith, c.terms_of-terms.ensures.size, c.requires.2)) in
    let weights = subst (λ (k : ℕ). Filled 64 (map (term_cost c.usual_prices-prices.result) (take (length words) terms)) c.weights-weights.result k) n c.weights-weights.ensures in
    rw c.number.ensures
    (call_holds words c.usual_prices-prices.ensures c.requires.0 c.requires.1 c.padded.ensures c.padded-2.ensures c.terms_of-terms.ensures weights)
