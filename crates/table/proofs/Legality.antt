-- Well-formed terms as cubes, and terms that hold no off cell; the laws behind `holds_no_off`.
use Prim.Native.Nat.{ℕ, ◌≤◌}
use mathlib.Core.Path.{◌≡◌, refl, sym, ◌∙◌, subst, subst⁻¹}
use mathlib.Core.Bool.{Bool, true, false, ◌&&◌}
use mathlib.Core.List.{List, []}
use lib.Bits.{bit_and}
use lib.Dec.{T, eqb, eqb→eq, eqb_refl}
use Rattle.model.specs.declared.Term.{Term}
use Rattle.model.specs.Base.{bit}
use Rattle.model.specs.Table.{Table, holds_no_off}
use Rattle.model.specs.Primes.{drives}
use Rattle.model.specs.Sets.{Within}
use Rattle.model.proofs.Cubes.{bit_of_and, bits_ext, and_within, Formed, formed_e}
use Rattle.model.proofs.Drives.{no_off_e, no_off_i}
use Rattle.table.specs.Cubes.{Cube, Drives, TellsFormed, TellsNoOff}
use Rattle.model.proofs.Lists.{bool_ext}

-- ---- a part of a number's bits, as a test

pub within_test : (a b : ℕ) → Within a b → T (eqb (bit_and a b) a)
within_test a b w = subst⁻¹ (λ (x : ℕ). T (eqb x a)) same (eqb_refl a)
  where
    both : (x y : Bool) → (T x → T y) → (x && y) ≡ x
    both true true h = refl
    both true false h = absurd (h tt)
    both false y h = refl

    same : bit_and a b ≡ a
    same = bits_ext (bit_and a b) a (λ i. bit_of_and i a b ∙ both (bit i a) (bit i b) (w i))

pub test_within : (a b : ℕ) → T (eqb (bit_and a b) a) → Within a b
test_within a b t = and_within a b (eqb→eq (bit_and a b) a t)

-- ---- well-formed

module _ (n m : ℕ) (t : Term) where
  pub formed_cube : (r : Bool) → n ≤ 8 → TellsFormed n m t r → r ≡ true → Cube n t.care t.value
  formed_cube r l f e =
      let p : Table = record { n = n; m = m; on = []; dc = [] } in
      let g : Formed p t = formed_e p t (subst (λ (b : Bool). T b) (sym e ∙ f p refl refl) tt) in
      record { inputs = l; care_lt = g.care_lt; value_in = g.value_in }

-- ---- no off cell

pub no_off_tells : (may : List ℕ) (n : ℕ) (t : Term) (d : ℕ) (r : Bool) → Drives may n t.care t.value d → r ≡ eqb (bit_and t.outputs d) t.outputs → TellsNoOff may n t r
no_off_tells may n t d r h e p a l = e ∙ rw (h p a) (bool_ext (eqb (bit_and t.outputs (drives p t.care t.value)) t.outputs) (holds_no_off p t)
    (λ x. no_off_i p t (test_within t.outputs (drives p t.care t.value) x))
    (λ x. within_test t.outputs (drives p t.care t.value) (no_off_e p t l x)))
