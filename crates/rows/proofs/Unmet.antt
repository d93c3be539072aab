-- The members of the rows that a set does not meet, row by row.
use mathlib.Core.Path.{◌≡◌, subst}
use mathlib.Core.List.{List}
use Prim.Native.Nat.{ℕ, ◌+◌}
use native.Mathlib.Omega.{arith}
use borrow.Author.Count.{below_more}
use lib.ListN.{length, get_or}
use lib.Bits.{bit_and, bit_or}
use Rattle.bits.specs.Bits.{Part}
use Rattle.rows.specs.Covers.{Unmet}
use Rattle.bits.proofs.Parts.{part_or_left, part_or_right}

pub unmet_none : (rows : List ℕ) (s : ℕ) → Unmet rows 0 s 0
unfolding Unmet
unmet_none rows s k lt = absurd (omega arith)

module _ (rows : List ℕ) (n s u : ℕ) (h : Unmet rows n s u) where
  -- s meets the next row
  pub unmet_met : (bit_and (get_or rows n 0) s ≡ 0 → ⊥) → Unmet rows (n + 1) s u
  unfolding Unmet
  unmet_met m = below_more _ n h (λ z. absurd (m z))

  -- it does not
  pub unmet_more : Unmet rows (n + 1) s (bit_or u (get_or rows n 0))
  unfolding Unmet
  unmet_more =
      below_more (λ k. bit_and (get_or rows k 0) s ≡ 0 → Part (get_or rows k 0) (bit_or u (get_or rows n 0))) n
      (λ k lt z. part_or_left (get_or rows k 0) u (get_or rows n 0) (h k lt z))
      (λ z. part_or_right u (get_or rows n 0))

pub unmet_all : (rows : List ℕ) (n s u : ℕ) → n ≡ length rows → Unmet rows n s u → Unmet rows (length rows) s u
unmet_all rows n s u e h = subst (λ (m : ℕ). Unmet rows m s u) e h
