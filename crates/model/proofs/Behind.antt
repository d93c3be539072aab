-- A command of a job and those before it, by any rules: one induction, from the command back to the empty problem.
use Prim.Native.Nat.{ℕ}
use native.Mathlib.Omega.{arith}
use mathlib.Core.Path.{◌≡◌, ap, subst, subst⁻¹}
use mathlib.Core.List.{List, [], ◌∷◌, ◌++◌}
use lib.ListN.{length, length-append}
use Rattle.model.specs.Base.{All}
use Rattle.model.specs.Commands.{Problem, empty, Context}
use Rattle.model.specs.Rules.{Rules}
use Rattle.model.specs.Job.{Run, run_by}
use Rattle.model.specs.Standing.{Behind}
use Rattle.model.proofs.Lists.{all_left, all_right}
use Rattle.model.proofs.Runs.{Lawful, Passed, context, OnRuns, IfGoes, run_ind}

pub not_nil : {A : Type 0} (ys : List A) (x : A) (zs : List A) → ◌≡◌ {A = List A} [] (ys ++ (x ∷ zs)) → ⊥
not_nil ys x zs e = omega (arith, ap length e, length-append ys (x ∷ zs))

-- a claim on a command and those before it, from a problem on: it holds of a command with none before it, and one command earlier
-- wherever it holds
module _ (rules : Rules) (law : Lawful rules) (F : Problem → List Context → Context → Type 0) (here : (x : Context) → F x.problem [] x)
    (next : (y : Context) → Passed rules y → (ys : List Context) (x : Context) → F (rules.after y) ys x → F y.problem (y ∷ ys) x) where
  abbrev Each : OnRuns
  Each q bs free at r = (before : List Context) (x : Context) → Behind r before x → F q before x

  first : (y x : Context) → y ≡ x → F y.problem [] x
  first y x e = subst⁻¹ (λ (z : Context). F z.problem [] x) e (here x)

  each_one : (y : Context) (before : List Context) (x : Context) (after : List Context) → y ∷ [] ≡ before ++ (x ∷ after) → F y.problem before x
  each_one y [] x after e = first y x (cc)
  each_one y (z ∷ ys) x after e = absurd (not_nil ys x after (cc))

  each_goes : IfGoes rules Each
  each_goes q b bs free at h z n r f [] x g = first (context q b bs free) x (cc g.1)
  each_goes q b bs free at h z n r f (y ∷ ys) x g =
      let t = context q b bs free in
      let s : t ≡ y = cc g.1 in
      let rest : r.contexts ≡ ys ++ (x ∷ g.0) = cc g.1 in
      subst (λ (u : Context). F q (u ∷ ys) x) s (next t h ys x (f ys x (g.0, rest)))

  pub behind_ind : (job : List ℕ) (room : ℕ) (before : List Context) (x : Context) → Behind (run_by rules job room) before x → F empty before x
  behind_ind job room = run_ind rules law Each (λ q free at before x g. absurd (not_nil before x g.0 g.1))
      (λ q b bs free at n before x g. each_one (context q b bs free) before x g.0 g.1)
      (λ q b bs free at h z e before x g. each_one (context q b bs free) before x g.0 g.1)
      each_goes (λ r. (before : List Context) (x : Context) → Behind r before x → F empty before x) job room
      (λ l before x g. absurd (not_nil before x g.0 g.1)) (λ l m r f. f)

-- what holds of every command of a job holds of it, and of those before it
module _ (P : Context → Type 0) (r : Run) (before : List Context) (x : Context) (g : Behind r before x) (a : All P r.contexts) where
  split : All P (before ++ (x ∷ g.0))
  split = subst (All P) g.1 a

  pub all_here : P x
  all_here = (all_right P before (x ∷ g.0) split).0

  pub all_before : All P before
  all_before = all_left P before (x ∷ g.0) split
