-- The highest member of a set, the members below a number, and the index of a single member.
use mathlib.Core.Path.{◌≡◌, refl, sym, ap, ◌∙◌, subst}
use Prim.Native.Nat.{ℕ, zero, suc, ◌+◌, ◌-◌, ◌*◌, ◌/◌, ◌%◌, ◌^◌, ◌≤◌, ◌<◌}
use native.Mathlib.Nat.{div-eq_of_lt, mod-eq_of_lt, pow-suc}
use native.Mathlib.Decide.{dec_lt}
use native.Mathlib.Omega.{arith}
use lib.Bits.{and_mask}
use lib.Count.{count_leading_zeros, leading_top, count_trailing_zeros, under}
use lib.Pow.{pow_pos, pow_mono, pow-lt, high}
use Rattle.bits.specs.Bits.{digit, Single, Highest, Index}
use Rattle.bits.proofs.Digits.{pow_here, pow_only}
use Rattle.bits.proofs.Members.{part_of}
use Rattle.bits.proofs.Parts.{by_members}

-- ---- a number by its size

pub digit_in : (j k y : ℕ) → k * 2 ^ j ≤ y → y < k * 2 ^ j + 2 ^ j → digit j y ≡ k % 2
unfolding digit
digit_in j k y lo hi =
    let e : y ≡ k * 2 ^ j + (y - k * 2 ^ j) = omega arith in
    let l : y - k * 2 ^ j < 2 ^ j = omega arith in
    ap (λ (x : ℕ). x / 2 ^ j % 2) e ∙ ap (λ (x : ℕ). x % 2) (high k j l)

pub digit_beyond : (b x : ℕ) → x < 2 ^ b → digit b x ≡ 0
unfolding digit
digit_beyond b x lt = ap (λ (q : ℕ). q % 2) (div-eq_of_lt lt)

-- ---- the members below k

pub mask_below : (k b : ℕ) → b < k → digit b (2 ^ k - 1) ≡ 1
mask_below k b lt =
    let l : 2 ^ b < 2 ^ k = pow-lt lt in
    part_of (2 ^ b) (2 ^ k - 1) (and_mask (2 ^ b) k ∙ mod-eq_of_lt l) b (pow_here b)

pub mask_above : (k b : ℕ) → k ≤ b → digit b (2 ^ k - 1) ≡ 0
mask_above k b le =
    let l : 2 ^ k ≤ 2 ^ b = pow_mono le in
    digit_beyond b (2 ^ k - 1) (omega (arith, pow_pos k))

-- ---- the highest member

-- no power above it
pow_below : (a b : ℕ) → 2 ^ a ≤ 2 ^ b → a ≤ b
pow_below a b le =
    elim (dec_lt b a) [
      | yes lt ↦ let l : 2 ^ b < 2 ^ a = pow-lt lt in absurd (omega arith)
      | no ge ↦ omega arith
    ]

pub highest_is : (x m k : ℕ) → Highest x m → m ≡ 2 ^ k → (b : ℕ) → digit b x ≡ 1 → b ≤ k
highest_is x m k h e b d = pow_below b k (subst (λ (y : ℕ). 2 ^ b ≤ y) e (h.greatest b d))

pub highest_power : (x m : ℕ) → 0 < x → x < 2 ^ 64 → m ≡ 2 ^ (63 - count_leading_zeros 64 x) → Highest x m
unfolding Single
highest_power x m pos fits e =
    let t = leading_top 64 x pos fits in
    let j : ℕ = t.0 in
    let n : 63 - count_leading_zeros 64 x ≡ j = omega (arith, t.1) in
    let f : m ≡ 2 ^ j = e ∙ ap (λ (k : ℕ). 2 ^ k) n in
    let s : 2 ^ suc j ≡ 2 ^ j * 2 = pow-suc 2 j in
    let here : digit j x ≡ 1 = digit_in j 1 x (omega (arith, t.2)) (omega (arith, t.3)) in
    record {
      member = record {
        single = (j, f);
        part = by_members m x (λ c d. subst (λ (b : ℕ). digit b x ≡ 1) (sym (pow_only c j (sym (ap (digit c) f) ∙ d))) here);
      };
      greatest = λ b d.
          elim (dec_lt j b) [
            | yes lt ↦
                let le : suc j ≤ b = omega arith in
                let l : 2 ^ suc j ≤ 2 ^ b = pow_mono le in
                absurd (omega (arith, digit_beyond b x (omega (arith, t.3))))
            | no ge ↦ let le : b ≤ j = omega arith in let l : 2 ^ b ≤ 2 ^ j = pow_mono le in omega arith
          ];
    }

-- ---- the index of a single member

trailing_power : (k b : ℕ) → b < k → count_trailing_zeros k (2 ^ b) ≡ b
unfolding count_trailing_zeros
trailing_power zero b lt = absurd (omega arith)
trailing_power (suc k) zero lt = refl
trailing_power (suc k) (suc b) lt =
    let e : 2 ^ suc b ≡ 2 ^ b * 2 = pow-suc 2 b in
    let even : 2 ^ suc b % 2 ≡ 0 = omega arith in
    let half : 2 ^ suc b / 2 ≡ 2 ^ b = omega arith in
    ap (λ (d : ℕ). under d (count_trailing_zeros k (2 ^ suc b / 2))) even
    ∙ ap (λ (n : ℕ). suc (count_trailing_zeros k n)) half
    ∙ ap suc (trailing_power k b (omega arith))

small_power : (m b k : ℕ) → m ≡ 2 ^ b → m < 2 ^ k → b < k
small_power m b k e lt =
    elim (dec_lt b k) [
      | yes l ↦ l
      | no ge ↦ let le : k ≤ b = omega arith in let p : 2 ^ k ≤ 2 ^ b = pow_mono le in absurd (omega arith)
    ]

pub index_is : (m : ℕ) → Single m → m < 2 ^ 64 → Index m (count_trailing_zeros 64 m)
unfolding Single
index_is m one fits =
    let b : ℕ = one.0 in
    let small : b < 64 = small_power m b 64 one.1 fits in
    let e : count_trailing_zeros 64 m ≡ b = ap (count_trailing_zeros 64) one.1 ∙ trailing_power 64 b small in
    record { small = omega arith; is = one.1 ∙ ap (λ (k : ℕ). 2 ^ k) (sym e) }
