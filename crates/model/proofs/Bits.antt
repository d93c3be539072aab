-- Sets as numbers: members, a set without one of them, and sets together.
use Prim.Native.Nat.{ℕ, zero, suc, ◌+◌, ◌-◌, ◌*◌, ◌/◌, ◌%◌, ◌^◌, ◌≤◌, ◌<◌, min, max}
use native.Mathlib.Omega.{arith}
use native.Mathlib.Nat.{pow-suc}
use mathlib.Core.Path.{◌≡◌, refl, sym, ap, subst}
use mathlib.Core.Logic.{◌≢◌, ◌⊎◌, inl, inr}
use mathlib.Core.Bool.{Bool, true, false, not, cond, ◌&&◌, ◌||◌}
use lib.Dec.{T, eqb, eqb→eq}
use lib.Arith.{bin_ind}
use lib.Bits.{bit_and, bit_or, and_step, or_step}
use lib.Pow.{pow_pos}
use Rattle.model.specs.Base.{bit, from_bits}
use Rattle.model.specs.Sets.{Within}
use Rattle.model.proofs.Lists.{yes_or_no, T_true, T_false, or_cases, or_l, or_r}

pub bit0_e : (s : ℕ) → T (bit 0 s) → s % 2 ≡ 1
bit0_e s t = eqb→eq (s % 2) 1 t

pub bit0_i : (s : ℕ) → s % 2 ≡ 1 → T (bit 0 s)
bit0_i s e = rw e tt

-- a number without bit 0 is even
pub bit0_n : (s : ℕ) → T (not (bit 0 s)) → s % 2 ≡ 0
bit0_n s t = go (s % 2) (omega arith) refl t
  where
    go : (r : ℕ) → r < 2 → s % 2 ≡ r → T (not (eqb r 1)) → s % 2 ≡ 0
    go zero l e u = e
    go (suc zero) l e u = absurd u
    go (suc (suc r)) l e u = absurd (omega arith)

pub bit_flag : (r : ℕ) → cond (bit 0 r) 1 0 ≡ r % 2
bit_flag r = go (yes_or_no (bit 0 r))
  where
    go : T (bit 0 r) ⊎ T (not (bit 0 r)) → cond (bit 0 r) 1 0 ≡ r % 2
    go (inl t) = rw (T_true {b = bit 0 r} t) (sym (bit0_e r t))
    go (inr t) = rw (T_false {b = bit 0 r} t) (sym (bit0_n r t))

pub bit_le : (i s : ℕ) → T (bit i s) → 2 ^ i ≤ s
bit_le zero s t = let e = bit0_e s t in omega arith
bit_le (suc i) s t = let h = bit_le i (s / 2) t in omega (arith, pow-suc 2 i)

pub bit_lt : (i k s : ℕ) → T (bit i s) → s < 2 ^ k → i < k
bit_lt i zero s t h = let l = bit_le i s t in let q = pow_pos i in absurd (omega arith)
bit_lt zero (suc k) s t h = omega arith
bit_lt (suc i) (suc k) s t h = let r = bit_lt i k (s / 2) t (omega (arith, pow-suc 2 k)) in omega arith

pub within_half : {a s : ℕ} → Within a s → Within (a / 2) (s / 2)
within_half w i t = w (suc i) t

pub within_low : (a s : ℕ) → Within a s → a % 2 ≤ s % 2
within_low a s w = go (yes_or_no (bit 0 a))
  where
    go : T (bit 0 a) ⊎ T (not (bit 0 a)) → a % 2 ≤ s % 2
    go (inl t) = omega (arith, bit0_e a t, bit0_e s (w 0 t))
    go (inr t) = omega (arith, bit0_n a t)

pub within_le : (a s : ℕ) → Within a s → a ≤ s
within_le = bin_ind (λ (n : ℕ). (s : ℕ) → Within n s → n ≤ s) (λ s w. omega arith) (λ n ih s w. let h = ih (s / 2) (within_half w) in let l = within_low n s w in omega arith)

-- a proper subset lacks a member
pub lacks : (k a s : ℕ) → s < 2 ^ k → Within a s → a ≢ s → (i : ℕ) × (i < k) × T (bit i s) × T (not (bit i a))
lacks zero a s l w d = let h = within_le a s w in absurd (d (omega arith))
lacks (suc k) a s l w d = go (yes_or_no (bit 0 s)) (yes_or_no (bit 0 a)) (lacks k (a / 2) (s / 2) (omega (arith, pow-suc 2 k)) (within_half w))
  where
    up : (i : ℕ) × (i < k) × T (bit i (s / 2)) × T (not (bit i (a / 2))) → (i : ℕ) × (i < suc k) × T (bit i s) × T (not (bit i a))
    up q = (suc q.0, omega (arith, q.1), q.2, q.3)

    go : T (bit 0 s) ⊎ T (not (bit 0 s)) → T (bit 0 a) ⊎ T (not (bit 0 a)) → (a / 2 ≢ s / 2 → (i : ℕ) × (i < k) × T (bit i (s / 2)) × T (not (bit i (a / 2))))
        → (i : ℕ) × (i < suc k) × T (bit i s) × T (not (bit i a))
    go (inl t) (inr u) r = (0, omega arith, t, u)
    go (inl t) (inl u) r = up (r (λ e. d (omega (arith, bit0_e s t, bit0_e a u))))
    go (inr t) (inr u) r = up (r (λ e. d (omega (arith, bit0_n s t, bit0_n a u))))
    go (inr t) (inl u) r = absurd (omega (arith, bit0_n s t, bit0_e s (w 0 u)))

-- a set without its member i
pub drop_half : (i s : ℕ) → T (bit i (s / 2)) → (s - 2 ^ suc i) / 2 ≡ s / 2 - 2 ^ i
drop_half i s t = let h = bit_le i (s / 2) t in omega (arith, pow-suc 2 i)

pub drop_low : (i s : ℕ) → T (bit i (s / 2)) → (s - 2 ^ suc i) % 2 ≡ s % 2
drop_low i s t = let h = bit_le i (s / 2) t in omega (arith, pow-suc 2 i)

pub without_within : (i s : ℕ) → T (bit i s) → Within (s - 2 ^ i) s
without_within zero s t zero u = t
without_within zero s t (suc j) u =
    let e = bit0_e s t in
    let q : (s - 1) / 2 ≡ s / 2 = omega arith in
    rw q at u
without_within (suc i) s t zero u = rw (drop_low i s t) at u
without_within (suc i) s t (suc j) u = without_within i (s / 2) t j (rw (drop_half i s t) at u)

pub within_without : (i a s : ℕ) → T (bit i s) → T (not (bit i a)) → Within a s → Within a (s - 2 ^ i)
within_without zero a s t n w zero u = absurd (omega (arith, bit0_n a n, bit0_e a u))
within_without zero a s t n w (suc j) u =
    let e = bit0_e s t in
    let q : (s - 1) / 2 ≡ s / 2 = omega arith in
    rw q (w (suc j) u)
within_without (suc i) a s t n w zero u = rw (drop_low i s t) (w zero u)
within_without (suc i) a s t n w (suc j) u = rw (drop_half i s t) (within_without i (a / 2) (s / 2) t n (within_half w) j u)

-- ---- sets together

pub within_both : (a b : ℕ) → Within a b → Within b a → a ≡ b
within_both a b w v = omega (arith, within_le a b w, within_le b a v)

-- the set without members
pub bit_none : (i : ℕ) → T (bit i 0) → ⊥
bit_none i t = omega (arith, bit_le i 0 t, pow_pos i)

pub bit_of_or : (i p q : ℕ) → bit i (bit_or p q) ≡ (bit i p || bit i q)
bit_of_or zero p q = go (yes_or_no (bit 0 p)) (yes_or_no (bit 0 q))
  where
    low : bit_or p q % 2 ≡ max (p % 2) (q % 2)
    low = omega (arith, or_step p q)

    go : T (bit 0 p) ⊎ T (not (bit 0 p)) → T (bit 0 q) ⊎ T (not (bit 0 q)) → bit 0 (bit_or p q) ≡ (bit 0 p || bit 0 q)
    go (inl t) u = let e : max (p % 2) (q % 2) ≡ 1 = omega (arith, bit0_e p t) in rw (low, e, T_true {b = bit 0 p} t)
    go (inr t) u = let e : max (p % 2) (q % 2) ≡ q % 2 = omega (arith, bit0_n p t) in rw (low, e, T_false {b = bit 0 p} t)
bit_of_or (suc i) p q =
    let e : bit_or p q / 2 ≡ bit_or (p / 2) (q / 2) = omega (arith, or_step p q) in
    rw e (bit_of_or i (p / 2) (q / 2))

pub bit_of_and : (i p q : ℕ) → bit i (bit_and p q) ≡ (bit i p && bit i q)
bit_of_and zero p q = go (yes_or_no (bit 0 p))
  where
    low : bit_and p q % 2 ≡ min (p % 2) (q % 2)
    low = omega (arith, and_step p q)

    go : T (bit 0 p) ⊎ T (not (bit 0 p)) → bit 0 (bit_and p q) ≡ (bit 0 p && bit 0 q)
    go (inl t) = let e : min (p % 2) (q % 2) ≡ q % 2 = omega (arith, bit0_e p t) in rw (low, e, T_true {b = bit 0 p} t)
    go (inr t) = let e : min (p % 2) (q % 2) ≡ 0 = omega (arith, bit0_n p t) in rw (low, e, T_false {b = bit 0 p} t)
bit_of_and (suc i) p q =
    let e : bit_and p q / 2 ≡ bit_and (p / 2) (q / 2) = omega (arith, and_step p q) in
    rw e (bit_of_and i (p / 2) (q / 2))

-- 2 ^ i has the member i and no other
pub pow_here : (i : ℕ) → T (bit i (2 ^ i))
pow_here zero = tt
pow_here (suc i) = let e : 2 ^ suc i / 2 ≡ 2 ^ i = omega (arith, pow-suc 2 i) in rw e (pow_here i)

pub pow_only : (i j : ℕ) → T (bit j (2 ^ i)) → j ≡ i
pow_only zero zero t = refl
pow_only zero (suc j) t = absurd (bit_none j t)
pow_only (suc i) zero t = absurd (omega (arith, pow-suc 2 i, bit0_e (2 ^ suc i) t))
pow_only (suc i) (suc j) t = let e : 2 ^ suc i / 2 ≡ 2 ^ i = omega (arith, pow-suc 2 i) in ap suc (pow_only i j (rw e at t))

-- a set with member i put to it
pub within_with : (p i : ℕ) → Within p (bit_or p (2 ^ i))
within_with p i j t = rw (bit_of_or j p (2 ^ i)) (or_l (bit j p) (bit j (2 ^ i)) t)

pub with_here : (p i : ℕ) → T (bit i (bit_or p (2 ^ i)))
with_here p i = rw (bit_of_or i p (2 ^ i)) (or_r (bit i p) (bit i (2 ^ i)) (pow_here i))

pub with_within : (p i s : ℕ) → Within p s → T (bit i s) → Within (bit_or p (2 ^ i)) s
with_within p i s w t j u = go (or_cases (bit j p) (bit j (2 ^ i)) (rw (bit_of_or j p (2 ^ i)) at u))
  where
    go : T (bit j p) ⊎ T (bit j (2 ^ i)) → T (bit j s)
    go (inl v) = w j v
    go (inr v) = subst (λ (m : ℕ). T (bit m s)) (sym (pow_only i j v)) t

-- ---- a set by its members

flag : (b : Bool) (x : ℕ) → (x * 2 + cond b 1 0) / 2 ≡ x
flag true x = omega arith
flag false x = omega arith

flag_low : (b : Bool) (x : ℕ) → eqb ((x * 2 + cond b 1 0) % 2) 1 ≡ b
flag_low true x = let e : (x * 2 + 1) % 2 ≡ 1 = omega arith in rw e
flag_low false x = let e : (x * 2 + 0) % 2 ≡ 0 = omega arith in rw e

pub from_bits_e : (f : ℕ → Bool) (j k : ℕ) → T (bit j (from_bits f k)) → (j < k) × T (f j)
from_bits_e f j zero t = absurd (bit_none j t)
from_bits_e f zero (suc k) t = (omega arith, rw (flag_low (f 0) (from_bits (λ j. f (suc j)) k)) at t)
from_bits_e f (suc j) (suc k) t =
    let r = from_bits_e (λ i. f (suc i)) j k (rw (flag (f 0) (from_bits (λ i. f (suc i)) k)) at t) in
    (omega (arith, r.0), r.1)

pub from_bits_i : (f : ℕ → Bool) (j k : ℕ) → j < k → T (f j) → T (bit j (from_bits f k))
from_bits_i f j zero l t = absurd (omega arith)
from_bits_i f zero (suc k) l t = rw (flag_low (f 0) (from_bits (λ i. f (suc i)) k)) t
from_bits_i f (suc j) (suc k) l t = rw (flag (f 0) (from_bits (λ i. f (suc i)) k)) (from_bits_i (λ i. f (suc i)) j k (omega arith) t)

pub from_bits_lt : (f : ℕ → Bool) (k : ℕ) → from_bits f k < 2 ^ k
from_bits_lt f zero = omega arith
from_bits_lt f (suc k) = go (f 0) (from_bits_lt (λ j. f (suc j)) k)
  where
    go : (b : Bool) → from_bits (λ j. f (suc j)) k < 2 ^ k → from_bits (λ j. f (suc j)) k * 2 + cond b 1 0 < 2 ^ suc k
    go true h = omega (arith, pow-suc 2 k)
    go false h = omega (arith, pow-suc 2 k)

-- ---- a set without one of its members

-- it does not have that one
pub without_gone : (i s : ℕ) → T (bit i s) → T (bit i (s - 2 ^ i)) → ⊥
without_gone zero s t u = omega (arith, bit0_e s t, bit0_e (s - 2 ^ 0) u)
without_gone (suc i) s t u = without_gone i (s / 2) t (rw (drop_half i s t) at u)

-- and has all others
pub without_others : (i j s : ℕ) → T (bit i s) → T (bit j s) → j ≢ i → T (bit j (s - 2 ^ i))
without_others i j s t u d = within_without i (2 ^ j) s t (lacking (yes_or_no (bit i (2 ^ j)))) (λ m v. subst (λ (x : ℕ). T (bit x s)) (sym (pow_only j m v)) u) j (pow_here j)
  where
    lacking : T (bit i (2 ^ j)) ⊎ T (not (bit i (2 ^ j))) → T (not (bit i (2 ^ j)))
    lacking (inl v) = absurd (d (sym (pow_only j i v)))
    lacking (inr v) = v

-- a set that is not 0 has a member
pub has_member : (n s : ℕ) → s < 2 ^ n → 0 < s → (i : ℕ) × T (bit i s)
has_member n s l h = let q = lacks n 0 s l (λ i t. absurd (bit_none i t)) (λ e. omega (arith, e)) in (q.0, q.2)
