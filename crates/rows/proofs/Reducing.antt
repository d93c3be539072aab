-- The reduced rows have the covers of all rows.
use mathlib.Core.Path.{◌≡◌, sym, ap, ◌∙◌}
use mathlib.Core.Logic.{⊎_elim}
use mathlib.Core.List.{List}
use Prim.Native.Nat.{ℕ, ◌<◌}
use native.Mathlib.Omega.{arith}
use lib.ListN.{length, get_or, take}
use lib.Seq.{get_or-take, length-take-le}
use lib.Bits.{bit_and}
use Rattle.bits.specs.Bits.{digit, Part}
use Rattle.rows.specs.Covers.{Cover}
use Rattle.rows.specs.Reduction.{Reduced}
use Rattle.bits.proofs.Digits.{eq?, a_member}
use Rattle.bits.proofs.Members.{and_left, and_right, and_both, not_zero}
use Rattle.bits.proofs.Parts.{members}

-- what does not meet a row meets no part of it
unmet_part : (x y s : ℕ) → Part x y → bit_and y s ≡ 0 → bit_and x s ≡ 0
unmet_part x y s p z =
    ⊎_elim (λ e. e)
    (λ n.
    let m : (b : ℕ) × (digit b (bit_and x s) ≡ 1) = a_member (bit_and x s) n in
    absurd (not_zero m.0 (bit_and y s)
    (and_both m.0 y s (members x y p m.0 (and_left m.0 x s m.1)) (and_right m.0 x s m.1)) z))
    (eq? (bit_and x s) 0)

module _ (rows out : List ℕ) (r : ℕ) (d : Reduced rows out r) where
  long : length (take r out) ≡ r
  long = length-take-le r out d.within

  pub reduced_cover : (s : ℕ) → Cover rows s → Cover (take r out) s
  unfolding Cover
  reduced_cover s c k lt z =
      let l : k < r = omega (arith, long) in
      let w : (j : ℕ) × (j < length rows) × (get_or out k 0 ≡ get_or rows j 0) = d.from k l in
      c w.0 w.1 (ap (λ (v : ℕ). bit_and v s) (sym (get_or-take r out k 0 l ∙ w.2)) ∙ z)

  pub cover_reduced : (s : ℕ) → Cover (take r out) s → Cover rows s
  unfolding Cover
  cover_reduced s c j lt z =
      let w : (k : ℕ) × (k < r) × Part (get_or out k 0) (get_or rows j 0) = d.below j lt in
      c w.0 (omega (arith, w.1, long))
      (ap (λ (v : ℕ). bit_and v s) (get_or-take r out w.0 0 w.1) ∙ unmet_part (get_or out w.0 0) (get_or rows j 0) s w.2 z)
