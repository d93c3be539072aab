-- A set without one member, those above it moved down by one: how masks and a shift make it, and digit by digit.
use Prim.Native.Nat.{ℕ, zero, suc, ◌+◌, ◌-◌, ◌*◌, ◌/◌, ◌%◌, ◌^◌, ◌<◌}
use native.Mathlib.Omega.{arith}
use native.Mathlib.Numerals.{add-one}
use native.Mathlib.Nat.{mul_assoc, mod-one, mod-lt, pow-suc, pow-succ', div-div-eq-div-mul}
use mathlib.Core.Path.{◌≡◌, sym, ap, ap₂, ◌∙◌}
use lib.Bits.{bit_and, bit_or, bit_xor, and_mask, or_shifted_r, xor_block, xor_self, xor_zero_r}
use lib.Pow.{pow_pos, split, mod-pow-add}
use Rattle.bits.specs.Bits.{Minus, removed}
use Rattle.bits.proofs.Parts.{minus_is}

half_above : (k s : ℕ) → s / 2 / 2 ^ k ≡ s / 2 ^ suc k
half_above k s = div-div-eq-div-mul s 2 (2 ^ k) ∙ ap (λ (p : ℕ). s / p) (sym (pow-succ' 2 k))

-- a without its members below k
above_mask : (k a : ℕ) → bit_xor a (bit_and a (2 ^ k - 1)) ≡ a / 2 ^ k * 2 ^ k
above_mask k a =
    let low : ℕ = a % 2 ^ k in
    let l : low < 2 ^ k = mod-lt a (pow_pos k) in
    let e : low ≡ 0 * 2 ^ k + low = omega arith in
    ap (bit_xor a) (and_mask a k ∙ e)
    ∙ ap (λ (x : ℕ). bit_xor x (0 * 2 ^ k + low)) (sym (split a k))
    ∙ xor_block k (a / 2 ^ k) 0 low low l l
    ∙ omega (arith, ap₂ (λ (x y : ℕ). x * 2 ^ k + y) (xor_zero_r (a / 2 ^ k)) (xor_self low))

pub masked_removed : (k s low above : ℕ) → low ≡ 2 ^ k - 1 → Minus (s / 2) low above → bit_or (bit_and s low) above ≡ removed k s
unfolding removed
masked_removed k s low above e m =
    let up : above ≡ s / 2 ^ suc k * 2 ^ k = minus_is (s / 2) low above m ∙ ap (λ (x : ℕ). bit_xor (s / 2) (bit_and (s / 2) x)) e ∙ above_mask k (s / 2) ∙ ap (λ (x : ℕ). x * 2 ^ k) (half_above k s) in
    ap₂ bit_or (ap (bit_and s) e ∙ and_mask s k) up ∙ or_shifted_r (s / 2 ^ suc k) k (s % 2 ^ k) (mod-lt s (pow_pos k)) ∙ omega arith

-- ---- digit by digit

pub removed_first : (s : ℕ) → removed 0 s ≡ s / 2
unfolding removed
removed_first s = omega (arith, mod-one s)

pub removed_next : (k s : ℕ) → removed (suc k) s ≡ removed k (s / 2) * 2 + s % 2
unfolding removed
removed_next k s =
    let h : s / 2 / 2 ^ suc k ≡ s / 2 ^ suc (suc k) = half_above (suc k) s in
    let p : 2 ^ suc k ≡ 2 ^ k * 2 = pow-suc 2 k in
    let e : s / 2 ^ suc (suc k) * 2 ^ suc k ≡ s / 2 / 2 ^ suc k * 2 ^ k * 2 = ap₂ (λ (x y : ℕ). x * y) (sym h) p ∙ sym (mul_assoc (s / 2 / 2 ^ suc k) (2 ^ k) 2) in
    let f : s % 2 ^ suc k ≡ s / 2 % 2 ^ k * 2 + s % 2 = ap (λ (x : ℕ). s % 2 ^ x) (sym (add-one k)) ∙ mod-pow-add s k 1 in
    omega arith

-- of no members none is left
pub removed_none : (k : ℕ) → removed k 0 ≡ 0
removed_none zero = removed_first 0
removed_none (suc k) = removed_next k 0 ∙ omega (arith, removed_none k)
