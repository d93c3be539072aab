-- K6: the prices that each command of a job finds: those of the W before it, or 1, 1 and 0.
use Prim.Native.Nat.{ℕ, ◌≤◌}
use native.Mathlib.Omega.{arith}
use mathlib.Core.Path.{◌≡◌, refl, ap, ◌∙◌, subst⁻¹}
use mathlib.Core.Logic.{◌⊎◌, inl, inr}
use mathlib.Core.Bool.{false, not}
use mathlib.Core.List.{List, [], ◌∷◌, ◌++◌}
use lib.Dec.{T}
use Rattle.model.specs.Base.{some}
use Rattle.model.specs.Candidates.{usual, Basis}
use Rattle.model.specs.Commands.{in_prices, Kind, form_of, is, Problem, empty, prices_of, basis_of, Context, problem_after}
use Rattle.model.specs.Rules.{engine}
use Rattle.model.specs.Job.{run}
use Rattle.model.specs.Standing.{Command, command_of, Behind, prices_in, sets_to, raises, none_came}
use Rattle.model.specs.Pricing.{WithoutW, ByW}
use Rattle.model.proofs.Lists.{yes_or_no, not_or_l, and_l, and_r}
use Rattle.model.proofs.Codes.{is_kind}
use Rattle.model.proofs.Runs.{Passed}
use Rattle.model.proofs.Sound.{engine_lawful}
use Rattle.model.proofs.Valid.{place_last}
use Rattle.model.proofs.Behind.{not_nil, behind_ind}
use Rattle.model.proofs.Standing.{sets_to_lem, raised}

-- all but I and W keep them
prices_kept : (c : Command) (k : Kind) (b : Basis) → T (not (is k Kind.I)) → T (not (is k Kind.W)) → (sets_to c k b).prices ≡ b.prices
unfolding sets_to
prices_kept c Kind.I b i w = absurd i
prices_kept c Kind.W b i w = absurd w
prices_kept c Kind.R b i w = refl
prices_kept c Kind.B b i w = refl
prices_kept c Kind.T b i w = refl
prices_kept c Kind.F b i w = refl
prices_kept c Kind.P b i w = refl
prices_kept c Kind.A b i w = refl
prices_kept c Kind.D b i w = refl
prices_kept c Kind.G b i w = refl
prices_kept c Kind.L b i w = refl
prices_kept c Kind.«V» b i w = refl
prices_kept c Kind.C b i w = refl
prices_kept c Kind.N b i w = refl
prices_kept c Kind.E b i w = refl
prices_kept c Kind.none b i w = refl

module _ (z : Context) where
  after_other : T (not (is z.kind Kind.I)) → T (not (is z.kind Kind.W)) → prices_of (problem_after z z.kind) ≡ prices_of z.problem
  after_other i w = ap (λ (b : Basis). b.prices) (sets_to_lem z) ∙ prices_kept (command_of z) z.kind (basis_of z.problem) i w

  after_i : z.kind ≡ Kind.I → prices_of (problem_after z z.kind) ≡ usual
  unfolding problem_after
  after_i e = rw e refl

  after_w : z.kind ≡ Kind.W → prices_of (problem_after z z.kind) ≡ prices_in (command_of z)
  unfolding sets_to
  after_w e = ap (λ (b : Basis). b.prices) (sets_to_lem z) ∙ rw e refl

  -- without a W they stay as I sets them, and behind the place of a W as they are
  still_usual : T (not (is z.kind Kind.W)) → prices_of z.problem ≡ usual → prices_of (problem_after z z.kind) ≡ usual
  still_usual n e = go (yes_or_no (is z.kind Kind.I))
    where
      go : T (is z.kind Kind.I) ⊎ T (not (is z.kind Kind.I)) → prices_of (problem_after z z.kind) ≡ usual
      go (inl i) = after_i (is_kind z.kind Kind.I i)
      go (inr i) = after_other i n ∙ e

  still_set : Passed engine z → in_prices ≤ z.problem.place → prices_of (problem_after z z.kind) ≡ prices_of z.problem
  still_set h l = go (yes_or_no (is z.kind Kind.I)) (yes_or_no (is z.kind Kind.W))
    where
      last : z.problem.place ≤ (form_of z.kind).last
      last = place_last z.kind z.problem.place h.place

      go : T (is z.kind Kind.I) ⊎ T (not (is z.kind Kind.I)) → T (is z.kind Kind.W) ⊎ T (not (is z.kind Kind.W)) → prices_of (problem_after z z.kind) ≡ prices_of z.problem
      go (inl i) w = absurd (omega (arith, last, l, ap (λ (k : Kind). (form_of k).last) (is_kind z.kind Kind.I i)))
      go (inr i) (inl w) = absurd (omega (arith, last, l, ap (λ (k : Kind). (form_of k).last) (is_kind z.kind Kind.W w)))
      go (inr i) (inr w) = after_other i w

-- ---- every job

record Found (q : Problem) (before : List Context) (x : Context) : Type 0 where
  none : T (none_came (Kind.W ∷ []) before) → prices_of q ≡ usual → prices_of x.problem ≡ usual
  later : in_prices ≤ q.place → prices_of x.problem ≡ prices_of q
  by : (pre : List Context) (w : Context) (between : List Context) → before ≡ pre ++ (w ∷ between) → T (is w.kind Kind.W) → prices_of x.problem ≡ prices_in (command_of w)

found_here : (x : Context) → Found x.problem [] x
found_here x = record { none = λ t e. e; later = λ l. refl; by = λ pre w between e t. absurd (not_nil pre w between e) }

found_next : (z : Context) → Passed engine z → (zs : List Context) (x : Context) → Found (problem_after z z.kind) zs x → Found z.problem (z ∷ zs) x
found_next z h zs x f = record {
  none = λ t e. f.none (and_r (not (some (is z.kind) (Kind.W ∷ []))) (none_came (Kind.W ∷ []) zs) t) (still_usual z (no_w t) e);
  later = λ l. f.later (omega (arith, raised z z.kind h.place)) ∙ still_set z h l;
  by = own;
}
  where
    no_w : T (none_came (Kind.W ∷ []) (z ∷ zs)) → T (not (is z.kind Kind.W))
    no_w t = not_or_l (is z.kind Kind.W) false (and_l (not (some (is z.kind) (Kind.W ∷ []))) (none_came (Kind.W ∷ []) zs) t)

    own : (pre : List Context) (w : Context) (between : List Context) → z ∷ zs ≡ pre ++ (w ∷ between) → T (is w.kind Kind.W) → prices_of x.problem ≡ prices_in (command_of w)
    own [] w between e t =
        let here : z ≡ w = cc in
        let k = is_kind z.kind Kind.W (subst⁻¹ (λ (u : Context). T (is u.kind Kind.W)) here t) in
        f.later (omega (arith, raised z z.kind h.place, ap raises k)) ∙ after_w z k ∙ ap (λ (u : Context). prices_in (command_of u)) here
    own (p ∷ pre) w between e t = f.by pre w between (cc) t

found : (job : List ℕ) (room : ℕ) (before : List Context) (x : Context) → Behind (run job room) before x → Found empty before x
found = behind_ind engine engine_lawful Found found_here found_next

pub without_w : WithoutW
without_w job room before x g t = (found job room before x g).none t refl

pub by_w : ByW
by_w job room before w between x g t = (found job room (before ++ (w ∷ between)) x g).by before w between refl t
