-- Shifts and single bits: the power that a shift makes, the bit that one reads, the bit that an `or` sets.
use Prim.Native.Nat.{ℕ, zero, suc, ◌+◌, ◌*◌, ◌/◌, ◌%◌, ◌^◌, ◌≤◌}
use native.Mathlib.Omega.{arith}
use native.Mathlib.Nat.{one-mul, div-one, pow-suc, pow-succ', div-div-eq-div-mul}
use mathlib.Core.Path.{◌≡◌, sym, ap, ◌∙◌}
use lib.Bits.{bit_and, bit_or, and_mask, or_step, or_zero_r}
use lib.Dec.{eqb, lit<}
use lib.Pow.{pow_mono, shl_exact}
use Rattle.model.specs.Base.{bit}
use Rattle.model.proofs.Cubes.{set_bit}

-- ---- powers

pub shifted_one : (w i : ℕ) → 1 + i ≤ w → 1 * 2 ^ i % 2 ^ w ≡ 2 ^ i
shifted_one w i h = shl_exact 1 i w (lit< tt) h ∙ one-mul _

pub power_le : (n s : ℕ) → n ≤ 8 → s ≡ 2 ^ n → s ≤ 256
power_le n s l e = omega (arith, pow_mono l)

-- ---- reading a bit

low_bit : (s : ℕ) → bit_and s 1 ≡ s % 2
low_bit s = and_mask s 1

pub shifted_bit : (i s : ℕ) → eqb (bit_and (s / 2 ^ i) 1) 1 ≡ bit i s
shifted_bit zero s = ap (λ (x : ℕ). eqb x 1) (low_bit (s / 1) ∙ ap (λ (x : ℕ). x % 2) (div-one s))
shifted_bit (suc i) s =
    let e : s / 2 ^ suc i ≡ s / 2 / 2 ^ i = ap (λ (x : ℕ). s / x) (pow-succ' 2 i) ∙ sym (div-div-eq-div-mul s 2 (2 ^ i)) in
    ap (λ (x : ℕ). eqb (bit_and x 1) 1) e ∙ shifted_bit i (s / 2)

-- ---- setting a bit

pub set_is_or : (i s : ℕ) → bit_or s (2 ^ i) ≡ set_bit i s
unfolding set_bit
set_is_or zero s = or_step s 1 ∙ (let e : bit_or (s / 2) 0 ≡ s / 2 = or_zero_r (s / 2) in omega arith)
set_is_or (suc i) s =
    let h : 2 ^ suc i / 2 ≡ 2 ^ i = omega (arith, pow-suc 2 i) in
    let l : 2 ^ suc i % 2 ≡ 0 = omega (arith, pow-suc 2 i) in
    let r : bit_or (s / 2) (2 ^ suc i / 2) ≡ set_bit i (s / 2) = ap (bit_or (s / 2)) h ∙ set_is_or i (s / 2) in
    or_step s (2 ^ suc i) ∙ omega arith
