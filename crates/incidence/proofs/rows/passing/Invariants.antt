-- `incidence::rows::passing` meets its contract. The invariant: the candidates from k on that pass the test are found. Assumes nothing.
use Rattle.std.proofs.Common.{◌≡◌, ℕ, ◌-◌, ◌^◌, ◌<◌, Bool, length, get_or}
use Rattle.std.specs.Fn.{FnReturnsAt}
use Rattle.model.specs.declared.Term.{Term}
use Rattle.incidence.proofs.Candidates.{RowFrom}
use Rattle.incidence.proofs.rows.passing.Given as goal

abbrev pub invariant-loop-k : goal.invariant-loop-k
invariant-loop-k g l = record {
  room : l.found < 2 ^ (length l.terms - l.k);
  same : (f : Term → ℕ → Bool) (x : ℕ) → ((i : ℕ) (d : Term) (b : Bool) → i < length l.terms → FnReturnsAt g.F.Fn l.test (get_or l.terms i d) b → b ≡ f (get_or l.terms i d) x)
      → RowFrom f l.terms x l.k l.found;
}
