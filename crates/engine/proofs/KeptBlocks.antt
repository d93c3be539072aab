-- The sets of the blocks behind a command that is no F and no D: they stay as they are.
use native.Mathlib.Omega.{arith}
use Prim.Native.Nat.{ℕ, ◌≤◌}
use mathlib.Core.Path.{ap, subst, subst⁻¹}
use mathlib.Core.Bool.{not}
use mathlib.Core.List.{List, []}
use lib.Dec.{T}
use Rattle.model.specs.Primes.{primes}
use Rattle.model.specs.Candidates.{Candidate, Basis}
use Rattle.model.specs.Commands as model
use Rattle.model.specs.Commands.{Context, is, allowed, table_of, rows_of_b, operand_term, problem_after}
use Rattle.model.specs.Invariants.{Valid}
use Rattle.model.proofs.RowByRow.{rows_set_lem}
use Rattle.model.proofs.Valid.{place_last}
use Rattle.incidence.specs.Stored.{BlocksAt}
use Rattle.incidence.proofs.Uses.{blocks_term, none_alone}

-- while rows may come there is no candidate
pub blocks_early : {held : List ℕ} (q : model.Problem) → Valid q → q.place ≤ model.among_rows → BlocksAt q.cands held → BlocksAt [] held
blocks_early {held} q v l = subst (λ (cs : List Candidate). BlocksAt cs held) (v.early l)

pub blocks_kept : {held : List ℕ} (x : Context) (k : model.Kind) → T (not (is k model.Kind.F)) → T (not (is k model.Kind.D)) → T (allowed k x.problem.place) → Valid x.problem
    → BlocksAt x.problem.cands held → BlocksAt (problem_after x k).cands held
unfolding problem_after
blocks_kept {held = held} x model.Kind.F f d a v h = elim f [ ]
blocks_kept {held = held} x model.Kind.D f d a v h = elim d [ ]
blocks_kept x model.Kind.I f d a v h = let l = place_last model.Kind.I x.problem.place a in blocks_early x.problem v (omega (arith, l)) h
blocks_kept x model.Kind.W f d a v h = h
blocks_kept x model.Kind.R f d a v h = h
blocks_kept {held} x model.Kind.B f d a v h = subst⁻¹ (λ (cs : List Candidate). BlocksAt cs held) (ap (λ (b : Basis). b.cands) (rows_set_lem (rows_of_b x.rest) x.problem)) h
blocks_kept x model.Kind.T f d a v h = blocks_term (operand_term x) h
blocks_kept x model.Kind.P f d a v h =
    let l = place_last model.Kind.P x.problem.place a in
    none_alone (blocks_early x.problem v l h) (primes (table_of x.problem))
blocks_kept x model.Kind.A f d a v h = blocks_term (operand_term x) h
blocks_kept x model.Kind.G f d a v h = h
blocks_kept x model.Kind.L f d a v h = h
blocks_kept x model.Kind.«V» f d a v h = h
blocks_kept x model.Kind.C f d a v h = h
blocks_kept x model.Kind.N f d a v h = h
blocks_kept x model.Kind.E f d a v h = h
blocks_kept x model.Kind.none f d a v h = h
