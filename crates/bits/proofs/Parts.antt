-- Parts of a set, their number of members, a set without another, disjoint sets, and one member of a set, all by their bits.
use mathlib.Core.Path.{◌≡◌, refl, sym, ap, ◌∙◌, subst}
use mathlib.Core.Bool.{Bool, true, false, cond}
use mathlib.Core.Logic.{◌⊎◌, inl, inr, ⊎_elim}
use Prim.Native.Nat.{ℕ, zero, suc, ◌+◌, ◌-◌, ◌*◌, ◌/◌, ◌%◌, ◌^◌, ◌≤◌, ◌<◌, min}
use native.Mathlib.Nat.{pow-suc}
use native.Mathlib.Omega.{arith}
use native.Mathlib.Decide.{dec_lt}
use lib.Arith.{bin_ind}
use lib.Bits.{bit_and, bit_or, bit_xor, differ, and_le_l, and_le_r, and_step}
use lib.Count.{ones, ones_step}
use lib.Dec.{ltb}
use lib.Pow.{pow_mono}
use Rattle.bits.specs.Bits.{digit, Single, Part, Minus, Member, Lowest, fewer}
use Rattle.bits.proofs.Digits.{eq?, digit_first, digit_next, digit_lt, digit_and, digit_or, digit_xor, digit_ext, member_ext, a_member, pow_here, pow_only}
use Rattle.bits.proofs.Members.{part_of, to_part, and_left, and_right, and_both, or_left, or_right, not_zero}

-- ---- parts

pub part_le : (t s : ℕ) → Part t s → t ≤ s
unfolding Part
part_le t s p = subst (λ (x : ℕ). x ≤ s) p (and_le_r t s)

pub members : (t s : ℕ) → Part t s → (b : ℕ) → digit b t ≡ 1 → digit b s ≡ 1
unfolding Part
members t s p = part_of t s p

pub by_members : (t s : ℕ) → ((b : ℕ) → digit b t ≡ 1 → digit b s ≡ 1) → Part t s
unfolding Part
by_members t s f = to_part t s f

pub part_self : (s : ℕ) → Part s s
part_self s = by_members s s (λ b m. m)

pub part_trans : (a b c : ℕ) → Part a b → Part b c → Part a c
part_trans a b c p q = by_members a c (λ j m. members b c q j (members a b p j m))

-- ---- members inside and outside

-- m has the members that x has not, of k: y's members in x and in m make up y
pub and_outside : (k x m y : ℕ) → x + m + 1 ≡ 2 ^ k → y < 2 ^ k → bit_and y x + bit_and y m ≡ y
and_outside zero x m y e l = omega (arith, and_le_l y x, and_le_l y m)
and_outside (suc k) x m y e l =
    let p : 2 ^ suc k ≡ 2 ^ k * 2 = pow-suc 2 k in
    let i : bit_and (y / 2) (x / 2) + bit_and (y / 2) (m / 2) ≡ y / 2 = and_outside k (x / 2) (m / 2) (y / 2) (omega arith) (omega arith) in
    omega (arith, and_step y x, and_step y m)

-- ---- the number of members

no_ones : (y : ℕ) → ones y ≡ 0 → y ≡ 0
no_ones =
    bin_ind (λ (y : ℕ). ones y ≡ 0 → y ≡ 0) (λ h. refl)
    (λ n ih h. let z : n / 2 ≡ 0 = ih (omega (arith, ones_step n)) in omega (arith, ones_step n))

-- a part with no fewer members is the whole
pub part_whole : (x y : ℕ) → Part x y → ones y ≤ ones x → x ≡ y
unfolding Part ones
part_whole =
    bin_ind (λ (x : ℕ). (y : ℕ) → Part x y → ones y ≤ ones x → x ≡ y)
    (λ y p h. sym (no_ones y (omega arith)))
    (λ n ih y p h.
    let s : bit_and n y ≡ bit_and (n / 2) (y / 2) * 2 + min (n % 2) (y % 2) = and_step n y in
    let e : n / 2 ≡ y / 2 = ih (y / 2) (omega arith) (omega (arith, ones_step n, ones_step y)) in
    omega (arith, ones_step n, ones_step y, ap ones e))

-- ---- a set without another

zero_or_one : (x : ℕ) → x < 2 → (x ≡ 0) ⊎ (x ≡ 1)
zero_or_one x lt = ⊎_elim (λ e. inl e) (λ n. inr (omega arith)) (eq? x 0)

differ_min : (x y : ℕ) → x < 2 → y < 2 → differ x (min x y) ≡ x - y
differ_min x y hx hy =
    ⊎_elim
    (λ (e : x ≡ 0). ⊎_elim (λ (f : y ≡ 0). rw (e, f)) (λ (f : y ≡ 1). rw (e, f)) (zero_or_one y hy))
    (λ (e : x ≡ 1). ⊎_elim (λ (f : y ≡ 0). rw (e, f)) (λ (f : y ≡ 1). rw (e, f)) (zero_or_one y hy))
    (zero_or_one x hx)

pub minus_bits : (a b : ℕ) → Minus a b (bit_xor a (bit_and a b))
unfolding Minus
minus_bits a b c =
    digit_xor c a (bit_and a b) ∙ ap (differ (digit c a)) (digit_and c a b) ∙ differ_min (digit c a) (digit c b) (digit_lt c a) (digit_lt c b)

-- it is one set alone
pub minus_is : (a b r : ℕ) → Minus a b r → r ≡ bit_xor a (bit_and a b)
unfolding Minus
minus_is a b r m = digit_ext r (bit_xor a (bit_and a b)) (λ c. m c ∙ sym (minus_bits a b c))

pub minus_part : (a b r : ℕ) → Minus a b r → Part r a
unfolding Minus
minus_part a b r m = by_members r a (λ c h. omega (arith, m c, digit_lt c a))

-- ---- the lowest member

-- the bits above the lowest, where the lowest is the first
odd_others : (n c : ℕ) → (n - 1) / 2 ≡ n / 2 → (c ≡ 0 → ⊥) → digit c n ≤ digit c (n - 1)
odd_others n zero e d = absurd (d refl)
odd_others n (suc c) e d = omega (arith, digit_next c n, digit_next c (n - 1), ap (digit c) e)

-- the other bits, where the first is not set
even_others : (n b c : ℕ) → n % 2 ≡ 0 → (n - 1) / 2 ≡ n / 2 - 1 → ((j : ℕ) → (j ≡ b → ⊥) → digit j (n / 2) ≤ digit j (n / 2 - 1))
    → (c ≡ suc b → ⊥) → digit c n ≤ digit c (n - 1)
even_others n b zero z e f d = omega (arith, digit_first n)
even_others n b (suc c) z e f d =
    omega (arith, digit_next c n, digit_next c (n - 1), ap (digit c) e, f c (λ q. d (ap suc q)))

-- an even number's members, one up
even_least : (n b c : ℕ) → n % 2 ≡ 0 → ((j : ℕ) → digit j (n / 2) ≡ 1 → b ≤ j) → digit c n ≡ 1 → suc b ≤ c
even_least n b zero z f h = absurd (omega (arith, digit_first n))
even_least n b (suc c) z f h = omega (arith, f c (sym (digit_next c n) ∙ h))

-- b is the lowest digit of x, and the only one that x has and x - 1 has not
record Least (x b : ℕ) : Type 0 where
  here : digit b x ≡ 1
  gone : digit b (x - 1) ≡ 0
  others : (c : ℕ) → (c ≡ b → ⊥) → digit c x ≤ digit c (x - 1)
  least : (c : ℕ) → digit c x ≡ 1 → b ≤ c

least_digit : (x : ℕ) → (x ≡ 0 → ⊥) → (b : ℕ) × Least x b
least_digit =
    bin_ind (λ (x : ℕ). (x ≡ 0 → ⊥) → (b : ℕ) × Least x b) (λ h. absurd (h refl))
    (λ n ih h. ⊎_elim
    (λ o. (
      0,
      record {
        here = digit_first n ∙ o;
        gone = digit_first (n - 1) ∙ omega arith;
        others = λ c d. odd_others n c (omega arith) d;
        least = λ c m. omega arith;
      },
    ))
    (λ o.
    let z : n % 2 ≡ 0 = omega arith in
    let e : (n - 1) / 2 ≡ n / 2 - 1 = omega arith in
    let r : (b : ℕ) × Least (n / 2) b = ih (λ y. h (omega arith)) in
    let b : ℕ = r.0 in (
      suc b,
      record {
        here = digit_next b n ∙ r.1.here;
        gone = digit_next b (n - 1) ∙ ap (digit b) e ∙ r.1.gone;
        others = λ c d. even_others n b c z e r.1.others d;
        least = λ c m. even_least n b c z r.1.least m;
      },
    ))
    (eq? (n % 2) 1))

pub lowest_member : (x m : ℕ) → 0 < x → Minus x (x - 1) m → Lowest x m
unfolding Minus Single
lowest_member x m p d =
    let l : (b : ℕ) × Least x b = least_digit x (λ e. omega arith) in
    let b : ℕ = l.0 in
    let here : digit b m ≡ 1 = omega (arith, d b, l.1.here, l.1.gone) in
    let is : m ≡ 2 ^ b
    = member_ext m (2 ^ b)
    (λ c h. ⊎_elim (λ e. subst (λ (j : ℕ). digit j (2 ^ b) ≡ 1) (sym e) (pow_here b)) (λ n. absurd (omega (arith, d c, l.1.others c n))) (eq? c b))
    (λ c h. subst (λ (j : ℕ). digit j m ≡ 1) (sym (pow_only c b h)) here) in
    record {
      member = record { single = (b, is); part = minus_part x (x - 1) m d };
      least = λ c h. subst (λ (v : ℕ). v ≤ 2 ^ c) (sym is) (pow_mono (l.1.least c h));
    }

-- ---- one member

-- which member it is
pub the_member : (x m : ℕ) → Member x m → (b : ℕ) × (m ≡ 2 ^ b) × (digit b x ≡ 1)
unfolding Single
the_member x m h =
    let b : ℕ = h.single.0 in
    (b, h.single.1, members m x h.part b (ap (digit b) h.single.1 ∙ pow_here b))

pub member_of_more : (x y m : ℕ) → Part x y → Member x m → Member y m
member_of_more x y m p h = record { single = h.single; part = part_trans m x y h.part p }

-- without a member there is less
pub minus_member_less : (x m r : ℕ) → Member x m → Minus x m r → r < x
unfolding Minus
minus_member_less x m r h d =
    let w : (b : ℕ) × (m ≡ 2 ^ b) × (digit b x ≡ 1) = the_member x m h in
    let b : ℕ = w.0 in
    let g : digit b m ≡ 1 = ap (digit b) w.1 ∙ pow_here b in
    let le : r ≤ x = part_le r x (minus_part x m r d) in
    ⊎_elim (λ e. absurd (omega (arith, d b, w.2, ap (digit b) e))) (λ n. omega arith) (eq? r x)

-- and one member fewer, at least
pub minus_member_ones : (x m r : ℕ) → Member x m → Minus x m r → ones r < ones x
minus_member_ones x m r h d = elim (dec_lt (ones r) (ones x)) [
  | yes l ↦ l
  | no g ↦
      let e : r ≡ x = part_whole r x (minus_part x m r d) (omega arith) in
      absurd (omega (arith, minus_member_less x m r h d))
]

-- ---- parts of an `and` and of an `or`, and disjoint sets

pub part_and_left : (a b : ℕ) → Part (bit_and a b) b
part_and_left a b = by_members (bit_and a b) b (λ c h. and_right c a b h)

pub part_and_less : (a b x : ℕ) → Part a x → Part (bit_and a b) x
part_and_less a b x p = by_members (bit_and a b) x (λ c h. members a x p c (and_left c a b h))

pub part_or_left : (x a b : ℕ) → Part x a → Part x (bit_or a b)
part_or_left x a b p = by_members x (bit_or a b) (λ c m. or_left c a b (members x a p c m))

pub part_or_right : (a b : ℕ) → Part b (bit_or a b)
part_or_right a b = by_members b (bit_or a b) (λ c m. or_right c a b m)

pub apart_by : (a b : ℕ) → ((c : ℕ) → digit c a ≡ 1 → digit c b ≡ 1 → ⊥) → bit_and a b ≡ 0
apart_by a b f =
    ⊎_elim (λ (e : bit_and a b ≡ 0). e)
    (λ (n : bit_and a b ≡ 0 → ⊥).
    let m : (c : ℕ) × (digit c (bit_and a b) ≡ 1) = a_member (bit_and a b) n in
    absurd (f m.0 (and_left m.0 a b m.1) (and_right m.0 a b m.1)))
    (eq? (bit_and a b) 0)

pub no_common : (a b c : ℕ) → bit_and a b ≡ 0 → digit c a ≡ 1 → digit c b ≡ 1 → ⊥
no_common a b c z p q = not_zero c (bit_and a b) (and_both c a b p q) z

pub and_or : (t a b : ℕ) → bit_and t (bit_or a b) ≡ bit_or (bit_and t a) (bit_and t b)
and_or t a b =
    digit_ext (bit_and t (bit_or a b)) (bit_or (bit_and t a) (bit_and t b)) λ c.
    omega (arith, digit_and c t (bit_or a b), digit_or c a b, digit_or c (bit_and t a) (bit_and t b), digit_and c t a, digit_and c t b)

-- ---- the one with fewer members

pub fewer_either : (x y : ℕ) → (fewer x y ≡ x) ⊎ (fewer x y ≡ y)
unfolding fewer
fewer_either x y = go (ltb (ones y) (ones x))
  where
    go : (b : Bool) → (cond b y x ≡ x) ⊎ (cond b y x ≡ y)
    go true = inr refl
    go false = inl refl
