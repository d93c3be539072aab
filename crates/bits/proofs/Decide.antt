-- A test's answer decides what the test is equivalent to.
use mathlib.Core.Path.{◌≡◌, sym, subst}
use mathlib.Core.Logic.{⊎_elim}
use mathlib.Core.Bool.{Bool, true, false}
use Prim.Native.Nat.{ℕ}
use native.Mathlib.Omega.{arith}
use lib.Dec.{eqb}
use borrow.Author.Tests.{eq-eqb, ne_eqb}
use Rattle.bits.specs.Bits.{Decides}
use Rattle.bits.proofs.Digits.{eq?}

pub decides_true : (P : Type 0) (r : Bool) → Decides P r → r ≡ true → P
unfolding Decides
decides_true P r d e = subst (Decides P) e d

pub decides_false : (P : Type 0) (r : Bool) → Decides P r → r ≡ false → P → ⊥
unfolding Decides
decides_false P r d e = subst (Decides P) e d

pub says_true : (P : Type 0) → P → Decides P true
unfolding Decides
says_true P p = p

pub says_false : (P : Type 0) → (P → ⊥) → Decides P false
unfolding Decides
says_false P p = p

pub true_is_not_false : true ≡ false → ⊥
true_is_not_false e = let z : ◌≡◌ {A = ℕ} 0 1 = cc in omega arith

pub says_eqb : (P : Type 0) (a b : ℕ) → (a ≡ b → P) → (P → a ≡ b) → Decides P (eqb a b)
says_eqb P a b f g =
    ⊎_elim (λ e. subst (Decides P) (sym (eq-eqb a b e)) (says_true P (f e)))
    (λ n. subst (Decides P) (sym (ne_eqb a b n)) (says_false P (λ p. n (g p))))
    (eq? a b)
