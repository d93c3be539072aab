-- A product with each member of a set, lowest first.
use Prim.Native.Nat.{ℕ, zero, suc, ◌+◌, ◌-◌, ◌^◌, ◌≤◌, ◌<◌}
use native.Mathlib.Omega.{arith}
use native.Mathlib.Decide.{dec_lt}
use native.Mathlib.Nat.{pow-suc}
use mathlib.Core.Path.{◌≡◌, refl, sym, ap, ◌∙◌}
use mathlib.Core.Bool.{Bool, true, false, not, ◌&&◌}
use mathlib.Core.List.{List, [], ◌∷◌, ◌++◌, map, append-nil, Memᴰ}
use lib.Pow.{pow_pos, pow_mono}
use lib.Bits.{bit_and, bit_or}
use lib.Dec.{T, T_not, not_T, eqb, eqb→eq}
use lib.ListN.{length, take, get_or}
use borrow.Author.Tests.{eq-eqb, ne_eqb}
use Rattle.model.specs.Base.{bit, from, filter}
use Rattle.model.proofs.Lists.{from_e, and_l, and_r, and_i, some_e, some_i, T_true, bool_ext}
use Rattle.model.proofs.Bits.{bit_lt}
use Rattle.model.proofs.Matrix.{filter_same}
use Rattle.bits.specs.Bits.{digit, Minus, Lowest}
use Rattle.bits.proofs.Digits.{digit_lt, digit_bit, digit_of_zero}
use Rattle.bits.proofs.Parts.{the_member}
use Rattle.bits.proofs.Steps.{taken_gone, others_stay}
use Rattle.rows.specs.Covers.{Own, PrivatesOf, Privates}
use Rattle.std.proofs.Common.{Result, Ok}
use Rattle.product.specs.declared.TooMany.{TooMany}
use Rattle.product.specs.Steps.{Held, candidates, with, barred, added, extended}
use Rattle.product.proofs.Putting.{held_fits}

-- ---- lists

filter_none : (f : ℕ → Bool) (xs : List ℕ) → ((t : ℕ) → f t ≡ false) → filter f xs ≡ []
filter_none f [] h = refl
filter_none f (x ∷ xs) h = rw (h x) (filter_none f xs h)

-- the first of a list that passes f, and those that pass f without it
first_from : (f g : ℕ → Bool) (j i k : ℕ) → i ≤ j → j < i + k → f j ≡ true → g j ≡ false → ((t : ℕ) → t < j → f t ≡ false) → ((t : ℕ) → (t ≡ j → ⊥) → g t ≡ f t)
    → filter f (from i k) ≡ j ∷ filter g (from i k)
first_from f g j i zero a b here gone before others = absurd (omega arith)
first_from f g j i (suc k) a b here gone before others = go (dec_lt i j) (first_from f g j (suc i) k)
  where
    go : Dec (i < j) → (suc i ≤ j → j < suc i + k → f j ≡ true → g j ≡ false → ((t : ℕ) → t < j → f t ≡ false) → ((t : ℕ) → (t ≡ j → ⊥) → g t ≡ f t)
        → filter f (from (suc i) k) ≡ j ∷ filter g (from (suc i) k)) → filter f (from i (suc k)) ≡ j ∷ filter g (from i (suc k))
    go (yes l) r = rw (before i l, others i (λ e. omega arith) ∙ before i l) (r l (omega arith) here gone before others)
    go (no l) r =
        let e : i ≡ j = omega arith in
        rw (e, here, gone, filter_same f g (from (suc j) k) (λ t m. sym (others t (λ q. omega (arith, from_e (suc j) k m)))))

first_of : (f g : ℕ → Bool) (j : ℕ) → j < 64 → f j ≡ true → g j ≡ false → ((t : ℕ) → t < j → f t ≡ false) → ((t : ℕ) → (t ≡ j → ⊥) → g t ≡ f t)
    → filter f candidates ≡ j ∷ filter g candidates
unfolding candidates
first_of f g j l here gone before others = first_from f g j 0 64 (omega arith) l here gone before others

-- ---- one by one

not_bit : (i x : ℕ) → (digit i x ≡ 1 → ⊥) → bit i x ≡ false
not_bit i x d = go (bit i x) (λ t. d ((digit_bit i x).0 t))
  where
    go : (b : Bool) → (T b → ⊥) → b ≡ false
    go true f = absurd (f tt)
    go false f = refl

pub with_next : (p x m rest : ℕ) → x < 2 ^ 64 → Lowest x m → Minus x m rest → with p x ≡ bit_or p m ∷ with p rest
unfolding with
with_next p x m rest l h d =
    let w = the_member x m h.member in
    let b : ℕ = w.0 in
    let small : b < 64 = bit_lt b 64 x ((digit_bit b x).1 w.2) l in
    let before : (t : ℕ) → t < b → bit t x ≡ false
    = λ t lt. not_bit t x (λ e. omega (arith, h.least t e, w.1, pow_mono {i = suc t} {j = b} lt, pow-suc 2 t, pow_pos t)) in
    let others : (t : ℕ) → (t ≡ b → ⊥) → bit t rest ≡ bit t x
    = λ t n. let e = others_stay x m b rest w.1 d t n in
    bool_ext (bit t rest) (bit t x) (λ u. (digit_bit t x).1 (sym e ∙ (digit_bit t rest).0 u)) (λ u. (digit_bit t rest).1 (e ∙ (digit_bit t x).0 u)) in
    ap (map (λ i. bit_or p (2 ^ i)))
    (first_of (λ i. bit i x) (λ i. bit i rest) b small (T_true {b = bit b x} ((digit_bit b x).1 w.2)) (not_bit b rest (taken_gone x m b rest w.1 d)) before others)
    ∙ ap (λ (v : ℕ). bit_or p v ∷ with p rest) (sym w.1)

pub with_none : (p x : ℕ) → x ≡ 0 → with p x ≡ []
unfolding with
with_none p x z = rw (filter_none (λ i. bit i x) candidates (λ t. not_bit t x (λ e. omega (arith, ap (digit t) z, digit_of_zero t))))

-- ---- the members barred

entry_in : (ps : List ℕ) (k : ℕ) → k < length ps → Memᴰ (get_or ps k 0) ps
entry_in [] k l = absurd (omega arith)
entry_in (p ∷ ps) zero l = Memᴰ.head refl
entry_in (p ∷ ps) (suc k) l = Memᴰ.tail (entry_in ps k (omega arith))

entry_at : {p : ℕ} (ps : List ℕ) → Memᴰ p ps → (k : ℕ) × (k < length ps) × (get_or ps k 0 ≡ p)
entry_at {p = p} [] x' = elim x' [ ]
entry_at (q ∷ ps) (Memᴰ.head e) = (0, omega arith, sym e)
entry_at (q ∷ ps) (Memᴰ.tail m) = let a = entry_at ps m in (suc a.0, omega (arith, a.1), a.2)

pub barred_e : (qs : List ℕ) (p i : ℕ) → T (barred qs p i) → (q : ℕ) × Memᴰ q qs × (bit_and q (2 ^ 64 - 1 - p) ≡ 2 ^ i)
unfolding barred
barred_e qs p i t = let a = some_e (λ q. eqb (bit_and q (2 ^ 64 - 1 - p)) (2 ^ i)) qs t in (a.0, a.1, eqb→eq _ _ a.2)

pub barred_i : (qs : List ℕ) (p i q : ℕ) → Memᴰ q qs → bit_and q (2 ^ 64 - 1 - p) ≡ 2 ^ i → T (barred qs p i)
unfolding barred
barred_i qs p i q m e = some_i (λ q. eqb (bit_and q (2 ^ 64 - 1 - p)) (2 ^ i)) m (rw (eq-eqb (bit_and q (2 ^ 64 - 1 - p)) (2 ^ i) e) tt)

pub added_is : (qs : List ℕ) (r p s x : ℕ) → Privates qs (2 ^ 64 - 1 - p) s → Minus r s x → added qs r p ≡ with p x
unfolding added with Privates PrivatesOf Own Minus
added_is qs r p s x v d = ap (map (λ i. bit_or p (2 ^ i)))
    (filter_same (λ i. bit i r && not (barred qs p i)) (λ i. bit i x) candidates (λ i l. bool_ext (bit i r && not (barred qs p i)) (bit i x) (to i) (back i)))
  where
    to : (i : ℕ) → T (bit i r && not (barred qs p i)) → T (bit i x)
    to i t =
        let a : digit i r ≡ 1 = (digit_bit i r).0 (and_l (bit i r) (not (barred qs p i)) t) in
        let n : digit i s ≡ 1 → ⊥ = λ e.
        let o = v.0 i e in
        T_not (barred qs p i) (and_r (bit i r) (not (barred qs p i)) t) (barred_i qs p i (get_or qs o.0 0) (entry_in qs o.0 o.1) o.2) in
        (digit_bit i x).1 (omega (arith, d i, digit_lt i s))

    back : (i : ℕ) → T (bit i x) → T (bit i r && not (barred qs p i))
    back i t =
        let e : digit i x ≡ 1 = (digit_bit i x).0 t in
        and_i (bit i r) (not (barred qs p i)) ((digit_bit i r).1 (omega (arith, d i, digit_lt i r)))
        (not_T (barred qs p i) (λ u.
        let a = barred_e qs p i u in
        let k = entry_at qs a.1 in
        let g : digit i s ≡ 1 = v.1 i (k.0, k.1, ap (λ (q : ℕ). bit_and q (2 ^ 64 - 1 - p)) k.2 ∙ a.2) in
        omega (arith, d i, digit_lt i r)))

-- ---- what one product leaves

pub extend_none : (qs : List ℕ) (r p : ℕ) (to : List ℕ) (held : ℕ) → length to ≡ 1024 → held ≤ 1024 → (bit_and r p ≡ 0 → ⊥) → Held (take held to ++ extended qs r p) to (Ok held)
unfolding extended
extend_none qs r p to held l m d = held_fits _ to held l m (rw (ne_eqb (bit_and r p) 0 d) (sym (append-nil (take held to))))

pub extend_put : (qs : List ℕ) (r p s x : ℕ) (front new : List ℕ) (c : Result ℕ TooMany) → bit_and r p ≡ 0 → Privates qs (2 ^ 64 - 1 - p) s → Minus r s x
    → Held (front ++ with p x) new c → Held (front ++ extended qs r p) new c
unfolding extended
extend_put qs r p s x front new c z v d h = rw (eq-eqb (bit_and r p) 0 z, added_is qs r p s x v d) h
