-- The laws of a number's bits: of an `and`, an `or` and a power of two, and that the bits say the number.
use mathlib.Core.Path.{◌≡◌, refl, sym, ap, ◌∙◌, subst}
use mathlib.Core.Logic.{◌↔◌, ◌⊎◌, inl, inr, ⊎_elim}
use Prim.Native.Nat.{ℕ, zero, suc, ◌+◌, ◌-◌, ◌*◌, ◌/◌, ◌%◌, ◌^◌, ◌<◌, min, max}
use native.Mathlib.Nat.{div-one, zero-div, div_self, pow-suc, pow-succ', div-div-eq-div-mul, mod_self}
use native.Mathlib.Decide.{ℕ_discrete}
use native.Mathlib.Omega.{arith}
use lib.Arith.{bin_ind}
use lib.Pow.{pow_pos}
use lib.Bits.{bit_and, bit_or, bit_xor, differ, and_step, or_step, xor_step, and_shr, or_shr, xor_shr, and_mask, and_self}
use lib.Dec.{T}
use Rattle.model.specs.Base.{bit}
use Rattle.model.proofs.Bits.{bit0_e, bit0_i}
use Rattle.bits.specs.Bits.{digit, Single}

pub eq? : (a b : ℕ) → (a ≡ b) ⊎ (a ≡ b → ⊥)
eq? a b = go (ℕ_discrete a b)
  where
    go : Dec (a ≡ b) → (a ≡ b) ⊎ (a ≡ b → ⊥)
    go (yes e) = inl e
    go (no h) = inr h

pub digit_first : (x : ℕ) → digit 0 x ≡ x % 2
unfolding digit
digit_first x = ap (λ (q : ℕ). q % 2) (div-one x)

pub digit_next : (b x : ℕ) → digit (suc b) x ≡ digit b (x / 2)
unfolding digit
digit_next b x =
    ap (λ (p : ℕ). x / p % 2) (pow-succ' 2 b)
    ∙ ap (λ (q : ℕ). q % 2) (sym (div-div-eq-div-mul x 2 (2 ^ b)))

pub digit_lt : (b x : ℕ) → digit b x < 2
unfolding digit
digit_lt b x = omega arith

pub digit_of_zero : (b : ℕ) → digit b 0 ≡ 0
unfolding digit
digit_of_zero b = ap (λ (q : ℕ). q % 2) (zero-div (2 ^ b))

pub digit_and : (b x y : ℕ) → digit b (bit_and x y) ≡ min (digit b x) (digit b y)
unfolding digit
digit_and b x y =
    ap (λ (q : ℕ). q % 2) (and_shr x y b)
    ∙ (let e : bit_and (x / 2 ^ b) (y / 2 ^ b) ≡ bit_and (x / 2 ^ b / 2) (y / 2 ^ b / 2) * 2 + min (x / 2 ^ b % 2) (y / 2 ^ b % 2)
    = and_step (x / 2 ^ b) (y / 2 ^ b) in
    omega arith)

pub digit_or : (b x y : ℕ) → digit b (bit_or x y) ≡ max (digit b x) (digit b y)
unfolding digit
digit_or b x y =
    ap (λ (q : ℕ). q % 2) (or_shr x y b)
    ∙ (let e : bit_or (x / 2 ^ b) (y / 2 ^ b) ≡ bit_or (x / 2 ^ b / 2) (y / 2 ^ b / 2) * 2 + max (x / 2 ^ b % 2) (y / 2 ^ b % 2)
    = or_step (x / 2 ^ b) (y / 2 ^ b) in
    omega arith)

differ_lt : (x y : ℕ) → x < 2 → y < 2 → differ x y < 2
differ_lt zero y hx hy = hy
differ_lt (suc x) zero hx hy = hx
differ_lt (suc x) (suc y) hx hy = differ_lt x y (omega arith) (omega arith)

pub digit_xor : (b x y : ℕ) → digit b (bit_xor x y) ≡ differ (digit b x) (digit b y)
unfolding digit
digit_xor b x y =
    ap (λ (q : ℕ). q % 2) (xor_shr x y b)
    ∙ (let e : bit_xor (x / 2 ^ b) (y / 2 ^ b) ≡ bit_xor (x / 2 ^ b / 2) (y / 2 ^ b / 2) * 2 + differ (x / 2 ^ b % 2) (y / 2 ^ b % 2)
    = xor_step (x / 2 ^ b) (y / 2 ^ b) in
    let l : differ (x / 2 ^ b % 2) (y / 2 ^ b % 2) < 2
    = differ_lt (x / 2 ^ b % 2) (y / 2 ^ b % 2) (omega arith) (omega arith) in
    omega arith)

-- ---- the bits say the number

no_bits : (y : ℕ) → ((b : ℕ) → digit b y ≡ 0) → y ≡ 0
no_bits =
    bin_ind (λ (y : ℕ). ((b : ℕ) → digit b y ≡ 0) → y ≡ 0) (λ h. refl)
    (λ n ih h.
    let u : n / 2 ≡ 0 = ih (λ b. sym (digit_next b n) ∙ h (suc b)) in
    let v : n % 2 ≡ 0 = sym (digit_first n) ∙ h 0 in
    omega arith)

pub digit_ext : (x y : ℕ) → ((b : ℕ) → digit b x ≡ digit b y) → x ≡ y
digit_ext =
    bin_ind (λ (x : ℕ). (y : ℕ) → ((b : ℕ) → digit b x ≡ digit b y) → x ≡ y)
    (λ y h. sym (no_bits y (λ b. sym (h b) ∙ digit_of_zero b)))
    (λ n ih y h.
    let u : n / 2 ≡ y / 2 = ih (y / 2) (λ b. sym (digit_next b n) ∙ h (suc b) ∙ digit_next b y) in
    let v : n % 2 ≡ y % 2 = sym (digit_first n) ∙ h 0 ∙ digit_first y in
    omega arith)

-- the same, by members
pub member_ext : (x y : ℕ) → ((b : ℕ) → digit b x ≡ 1 → digit b y ≡ 1) → ((b : ℕ) → digit b y ≡ 1 → digit b x ≡ 1) → x ≡ y
member_ext x y f g =
    digit_ext x y λ b.
    let lx : digit b x < 2 = digit_lt b x in
    let ly : digit b y < 2 = digit_lt b y in
    ⊎_elim (λ e. e ∙ sym (f b e))
    (λ n. ⊎_elim (λ e. g b e ∙ sym e) (λ m. omega arith) (eq? (digit b y) 1))
    (eq? (digit b x) 1)

-- what is not 0 has a member
pub a_member : (x : ℕ) → (x ≡ 0 → ⊥) → (b : ℕ) × (digit b x ≡ 1)
a_member =
    bin_ind (λ (x : ℕ). (x ≡ 0 → ⊥) → (b : ℕ) × (digit b x ≡ 1)) (λ h. absurd (h refl))
    (λ n ih h.
    ⊎_elim (λ e. (0, digit_first n ∙ e))
    (λ m.
    let r : (b : ℕ) × (digit b (n / 2) ≡ 1) = ih (λ z. h (omega arith)) in
    (suc r.0, digit_next r.0 n ∙ r.1))
    (eq? (n % 2) 1))

-- ---- a power of two

pub pow_here : (b : ℕ) → digit b (2 ^ b) ≡ 1
unfolding digit
pow_here b = ap (λ (q : ℕ). q % 2) (div_self (pow_pos b))

pow_half : (b : ℕ) → 2 ^ suc b / 2 ≡ 2 ^ b
pow_half b = let e : 2 ^ suc b ≡ 2 ^ b * 2 = pow-suc 2 b in omega arith

pub pow_only : (c b : ℕ) → digit c (2 ^ b) ≡ 1 → c ≡ b
pow_only zero zero h = refl
pow_only zero (suc b) h =
    let e : 2 ^ suc b ≡ 2 ^ b * 2 = pow-suc 2 b in
    let f : 2 ^ suc b % 2 ≡ 1 = sym (digit_first (2 ^ suc b)) ∙ h in
    absurd (omega arith)
pow_only (suc c) zero h =
    let e : digit c 0 ≡ 1 = sym (digit_next c 1) ∙ h in
    let f : digit c 0 ≡ 0 = digit_of_zero c in
    absurd (omega arith)
pow_only (suc c) (suc b) h =
    ap suc (pow_only c b (sym (ap (digit c) (pow_half b)) ∙ sym (digit_next c (2 ^ suc b)) ∙ h))

-- ---- exactly one digit

pub single_clears : (x : ℕ) → Single x → bit_and x (x - 1) ≡ 0
unfolding Single
single_clears x s =
    subst (λ (p : ℕ). bit_and p (p - 1) ≡ 0) (sym s.1) (and_mask (2 ^ s.0) s.0 ∙ mod_self (2 ^ s.0))

pub clears_single : (x : ℕ) → (x ≡ 0 → ⊥) → bit_and x (x - 1) ≡ 0 → Single x
unfolding Single
clears_single =
    bin_ind (λ (x : ℕ). (x ≡ 0 → ⊥) → bit_and x (x - 1) ≡ 0 → Single x) (λ h. absurd (h refl))
    (λ n ih h z.
    let st : bit_and (n / 2) ((n - 1) / 2) * 2 + min (n % 2) ((n - 1) % 2) ≡ 0 = sym (and_step n (n - 1)) ∙ z in
    ⊎_elim
    (λ e.
    let same : (n - 1) / 2 ≡ n / 2 = omega arith in
    let w : bit_and (n / 2) ((n - 1) / 2) ≡ n / 2 = ap (bit_and (n / 2)) same ∙ and_self (n / 2) in
    (0, omega arith))
    (λ m.
    let less : (n - 1) / 2 ≡ n / 2 - 1 = omega arith in
    let w : bit_and (n / 2) ((n - 1) / 2) ≡ bit_and (n / 2) (n / 2 - 1) = ap (bit_and (n / 2)) less in
    let r : (b : ℕ) × (n / 2 ≡ 2 ^ b) = ih (λ y. h (omega arith)) (omega arith) in
    let p : 2 ^ suc r.0 ≡ 2 ^ r.0 * 2 = pow-suc 2 r.0 in
    let q : n / 2 ≡ 2 ^ r.0 = r.1 in
    (suc r.0, omega arith))
    (eq? (n % 2) 1))

-- ---- crate model's bits and subsets

pub digit_bit : (i s : ℕ) → T (bit i s) ↔ (digit i s ≡ 1)
digit_bit zero s = (λ t. digit_first s ∙ bit0_e s t, λ e. bit0_i s (sym (digit_first s) ∙ e))
digit_bit (suc i) s = (λ t. digit_next i s ∙ (digit_bit i (s / 2)).0 t, λ e. (digit_bit i (s / 2)).1 (sym (digit_next i s) ∙ e))
