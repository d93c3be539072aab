-- Sets by their members: of an `and`, an `or`, a part, a set without one member, and the numbers between s and s with all its low bits.
use mathlib.Core.Path.{◌≡◌, refl, sym, ap, ◌∙◌, subst}
use mathlib.Core.Logic.{⊎_elim}
use Prim.Native.Nat.{ℕ, zero, suc, ◌+◌, ◌-◌, ◌*◌, ◌/◌, ◌%◌, ◌^◌, ◌≤◌, ◌<◌}
use native.Mathlib.Nat.{mod-eq_of_lt}
use native.Mathlib.Omega.{arith}
use lib.Pow.{split}
use lib.Bits.{bit_and, bit_or, bit_xor, differ, and_mask, or_shifted}
use Rattle.bits.specs.Bits.{digit}
use Rattle.bits.proofs.Digits.{eq?, digit_lt, digit_of_zero, digit_and, digit_or, digit_xor, member_ext, a_member, pow_here, pow_only}

-- ---- members of an `and`

pub and_left : (b x y : ℕ) → digit b (bit_and x y) ≡ 1 → digit b x ≡ 1
and_left b x y h = omega (arith, digit_and b x y, digit_lt b x)

pub and_right : (b x y : ℕ) → digit b (bit_and x y) ≡ 1 → digit b y ≡ 1
and_right b x y h = omega (arith, digit_and b x y, digit_lt b y)

pub and_both : (b x y : ℕ) → digit b x ≡ 1 → digit b y ≡ 1 → digit b (bit_and x y) ≡ 1
and_both b x y hx hy = omega (arith, digit_and b x y)

-- ---- and of an `or`

pub or_left : (b x y : ℕ) → digit b x ≡ 1 → digit b (bit_or x y) ≡ 1
or_left b x y h = omega (arith, digit_or b x y, digit_lt b y)

pub or_right : (b x y : ℕ) → digit b y ≡ 1 → digit b (bit_or x y) ≡ 1
or_right b x y h = omega (arith, digit_or b x y, digit_lt b x)

-- ---- parts

-- what has a member is not 0
pub not_zero : (b x : ℕ) → digit b x ≡ 1 → x ≡ 0 → ⊥
not_zero b x h e =
    let f : digit b x ≡ 0 = ap (digit b) e ∙ digit_of_zero b in
    omega arith

-- a part t of s, by members
pub part_of : (t s : ℕ) → bit_and t s ≡ t → (b : ℕ) → digit b t ≡ 1 → digit b s ≡ 1
part_of t s h b m = and_right b t s (ap (digit b) h ∙ m)

pub to_part : (t s : ℕ) → ((b : ℕ) → digit b t ≡ 1 → digit b s ≡ 1) → bit_and t s ≡ t
to_part t s f = member_ext (bit_and t s) t (λ b m. and_left b t s m) (λ b m. and_both b t s m (f b m))

-- ---- the set m of the one member j

pow_other : (c b : ℕ) → (c ≡ b → ⊥) → digit c (2 ^ b) ≡ 0
pow_other c b n =
    ⊎_elim (λ e. absurd (n (pow_only c b e))) (λ m. omega (arith, digit_lt c (2 ^ b))) (eq? (digit c (2 ^ b)) 1)

module _ (j m : ℕ) (e : m ≡ 2 ^ j) where
  pub bit_here : digit j m ≡ 1
  bit_here = ap (digit j) e ∙ pow_here j

  pub bit_elsewhere : (b : ℕ) → (b ≡ j → ⊥) → digit b m ≡ 0
  bit_elsewhere b d = ap (digit b) e ∙ pow_other b j d

  pub has_bit : (x : ℕ) → (bit_and x m ≡ 0 → ⊥) → digit j x ≡ 1
  has_bit x d =
      let q : (b : ℕ) × (digit b (bit_and x m) ≡ 1) = a_member (bit_and x m) d in
      let b : ℕ = q.0 in
      let f : b ≡ j = pow_only b j (sym (ap (digit b) e) ∙ and_right b x m q.1) in
      subst (λ (c : ℕ). digit c x ≡ 1) f (and_left b x m q.1)

  pub lacks_bit : (x : ℕ) → bit_and x m ≡ 0 → digit j x ≡ 0
  lacks_bit x z = omega (arith, digit_and j x m, bit_here, ap (digit j) z, digit_of_zero j, digit_lt j x)

-- ---- s without its member b

differ_zero : (x : ℕ) → differ x 0 ≡ x
differ_zero zero = refl
differ_zero (suc x) = refl

pub without_here : (s b : ℕ) → digit b s ≡ 1 → digit b (bit_xor s (2 ^ b)) ≡ 1 → ⊥
without_here s b h g =
    let e : digit b (bit_xor s (2 ^ b)) ≡ differ (digit b s) (digit b (2 ^ b)) = digit_xor b s (2 ^ b) in
    let f : differ (digit b s) (digit b (2 ^ b)) ≡ 0
    = ap (λ (x : ℕ). differ x (digit b (2 ^ b))) h ∙ ap (differ 1) (pow_here b) in
    omega arith

pub without_other : (s b c : ℕ) → (c ≡ b → ⊥) → digit c (bit_xor s (2 ^ b)) ≡ digit c s
without_other s b c n = digit_xor c s (2 ^ b) ∙ ap (differ (digit c s)) (pow_other c b n) ∙ differ_zero (digit c s)

pub without_part : (s b c : ℕ) → digit b s ≡ 1 → digit c (bit_xor s (2 ^ b)) ≡ 1 → digit c s ≡ 1
without_part s b c h m =
    ⊎_elim (λ e. subst (λ (j : ℕ). digit j s ≡ 1) (sym e) h) (λ n. sym (without_other s b c n) ∙ m) (eq? c b)

-- ---- the subtree: x is s with some of the i low bits, which are 0 in s

module _ (i s x : ℕ) (z : s % 2 ^ i ≡ 0) (lo : s ≤ x) (hi : x < s + 2 ^ i) where
  low_bits : bit_or s (x - s) ≡ x
  low_bits =
      let e : s / 2 ^ i * 2 ^ i + s % 2 ^ i ≡ s = split s i in
      let f : s / 2 ^ i * 2 ^ i ≡ s = omega arith in
      subst (λ (j : ℕ). bit_or j (x - s) ≡ j + (x - s)) f (or_shifted (s / 2 ^ i) i (x - s) (omega arith)) ∙ omega arith

  pub above : (b : ℕ) → digit b s ≡ 1 → digit b x ≡ 1
  above b m =
      let e : digit b (bit_or s (x - s)) ≡ digit b x = ap (digit b) low_bits in
      omega (arith, digit_or b s (x - s), digit_lt b x)

  pub within : (b : ℕ) → digit b x ≡ 1 → digit b (bit_or s (2 ^ i - 1)) ≡ 1
  within b m =
      let e : digit b (bit_or s (x - s)) ≡ digit b x = ap (digit b) low_bits in
      let p : bit_and (x - s) (2 ^ i - 1) ≡ x - s = and_mask (x - s) i ∙ mod-eq_of_lt (omega arith) in
      ⊎_elim
      (λ q.
      let q' : digit b (2 ^ i - 1) ≡ 1 = part_of (x - s) (2 ^ i - 1) p b q in
      omega (arith, digit_or b s (2 ^ i - 1), digit_lt b s))
      (λ n. omega (arith, digit_or b s (x - s), digit_or b s (2 ^ i - 1), digit_lt b (x - s), digit_lt b (2 ^ i - 1), digit_lt b s))
      (eq? (digit b (x - s)) 1)
