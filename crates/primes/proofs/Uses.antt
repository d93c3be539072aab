-- What a caller has of the contracts.
--
--     whole_list   a list that is not full has all the terms
use mathlib.Core.Path.{◌≡◌, sym, ◌∙◌, subst}
use mathlib.Core.Bool.{false}
use mathlib.Core.List.{List}
use borrow.Author.Tests.{ltb-false}
use lib.ListN.{length}
use lib.Seq.{take_all}
use Rattle.model.specs.declared.Term.{Term}
use Rattle.bits.specs.Lists.{Filled}
use Rattle.primes.specs.declared.prime_list.PrimeList.{PrimeList}
use Rattle.primes.specs.Primes.{FirstTerms}

pub whole_list : (ts : List Term) (r : PrimeList) → FirstTerms ts r → r.full ≡ false → Filled 64 ts r.terms r.count
whole_list ts r l e = subst (λ (xs : List Term). Filled 64 xs r.terms r.count) (take_all 64 ts (ltb-false 64 (length ts) (sym l.more ∙ e))) l.stored
