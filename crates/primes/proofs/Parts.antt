-- The next part of a set; the law behind `next_part`.
use Prim.Native.Nat.{ℕ, zero, suc, ◌+◌, ◌*◌, ◌/◌, ◌%◌, ◌^◌, ◌≤◌, ◌<◌}
use native.Mathlib.Omega.{arith}
use native.Mathlib.Nat.{pow-suc}
use native.Mathlib.Decide.{ℕ_discrete}
use mathlib.Core.Path.{◌≡◌, ap, ◌∙◌, subst⁻¹}
use lib.Bits.{bit_and, and_step, and_zero_r}
use Rattle.model.specs.Sets.{Within}
use Rattle.model.proofs.Bits.{bit0_e, bit0_i, within_half, within_low, within_le}
use Rattle.primes.specs.Parts.{NotLast, NextPart}

within_whole : (a s : ℕ) → a % 2 ≤ s % 2 → Within (a / 2) (s / 2) → Within a s
within_whole a s l w zero t = bit0_i s (omega (arith, bit0_e a t))
within_whole a s l w (suc i) t = w i t

-- what care lacks is 0 in care
part_stays : (k care free value : ℕ) → care + free + 1 ≡ 2 ^ k → Within value care → bit_and (value + free) care ≡ value
part_stays zero care free value e w =
    let z : care ≡ 0 = omega arith in
    ap (bit_and (value + free)) z ∙ and_zero_r (value + free) ∙ omega (arith, within_le value care w)
part_stays (suc k) care free value e w =
    let p : 2 ^ suc k ≡ 2 ^ k * 2 = pow-suc 2 k in
    let l : value % 2 ≤ care % 2 = within_low value care w in
    let h : (value + free) / 2 ≡ value / 2 + free / 2 = omega arith in
    let r : bit_and ((value + free) / 2) (care / 2) ≡ value / 2 = ap (λ (x : ℕ). bit_and x (care / 2)) h ∙ part_stays k (care / 2) (free / 2) (value / 2) (omega arith) (within_half w) in
    omega (arith, and_step (value + free) care)

next_of : (k care free value : ℕ) → care + free + 1 ≡ 2 ^ k → Within value care → value < care → NextPart care value (bit_and (value + free + 1) care)
next_of zero care free value e w l = absurd (omega arith)
next_of (suc k) care free value e w l = go (ℕ_discrete (value % 2) (care % 2)) (next_of k (care / 2) (free / 2) (value / 2) (omega (arith, pow-suc 2 k)) (within_half w))
  where
    p : 2 ^ suc k ≡ 2 ^ k * 2
    p = pow-suc 2 k

    low : value % 2 ≤ care % 2
    low = within_low value care w

    go : Dec (value % 2 ≡ care % 2) → (value / 2 < care / 2 → NextPart (care / 2) (value / 2) (bit_and (value / 2 + free / 2 + 1) (care / 2))) → NextPart care value (bit_and (value + free + 1) care)
    go (yes q) ih =
        let n = ih (omega (arith, p, low)) in
        let h : (value + free + 1) / 2 ≡ value / 2 + free / 2 + 1 = omega (arith, p, low) in
        let b : bit_and ((value + free + 1) / 2) (care / 2) ≡ bit_and (value / 2 + free / 2 + 1) (care / 2) = ap (λ (x : ℕ). bit_and x (care / 2)) h in
        let r : bit_and (value + free + 1) care ≡ bit_and (value / 2 + free / 2 + 1) (care / 2) * 2 = omega (arith, p, low, and_step (value + free + 1) care) in
        let d : bit_and (value + free + 1) care / 2 ≡ bit_and (value / 2 + free / 2 + 1) (care / 2) = omega (arith, p, low) in
        record {
          above = omega (arith, p, low, n.above);
          part = within_whole (bit_and (value + free + 1) care) care (omega (arith, p, low)) (subst⁻¹ (λ (x : ℕ). Within x (care / 2)) d n.part);
          next = λ x y m. omega (arith, n.next (x / 2) (within_half y) (omega (arith, low, within_low x care y)));
        }
    go (no d) ih =
        let h : (value + free + 1) / 2 ≡ value / 2 + free / 2 = omega (arith, p, low) in
        let b : bit_and ((value + free + 1) / 2) (care / 2) ≡ value / 2 =
        ap (λ (x : ℕ). bit_and x (care / 2)) h ∙ part_stays k (care / 2) (free / 2) (value / 2) (omega (arith, p, low)) (within_half w) in
        let r : bit_and (value + free + 1) care ≡ value + 1 = omega (arith, p, low, and_step (value + free + 1) care) in
        let z : bit_and (value + free + 1) care / 2 ≡ value / 2 = omega (arith, p, low) in
        record {
          above = omega (arith, p, low);
          part = within_whole (bit_and (value + free + 1) care) care (omega (arith, p, low)) (subst⁻¹ (λ (x : ℕ). Within x (care / 2)) z (within_half w));
          next = λ x y m. omega (arith, p, low);
        }

pub next_part_lem : (care free value : ℕ) → NotLast care free value → NextPart care value (bit_and (value + free + 1) care)
next_part_lem care free value q = next_of q.bound.0 care free value q.bound.1 q.part q.more
