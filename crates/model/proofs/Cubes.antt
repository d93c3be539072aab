-- Terms by their bits: what containment says of care, value and outputs.
use Prim.Native.Nat.{ℕ, zero, suc, ◌+◌, ◌-◌, ◌*◌, ◌/◌, ◌%◌, ◌^◌, ◌≤◌, ◌<◌}
use native.Mathlib.Omega.{arith}
use native.Mathlib.Decide.{ℕ_discrete}
use native.Mathlib.Nat.{pow-suc, le_refl, le_antisymm}
use mathlib.Core.Path.{◌≡◌, refl, sym, ap, ◌∙◌, subst, subst⁻¹}
use mathlib.Core.Logic.{◌≢◌, ◌↔◌, ◌⊎◌, inl, inr}
use mathlib.Core.Bool.{Bool, true, false, not, ◌&&◌, and-true, and-false}
use mathlib.Core.List.Memᴰ
use mathlib.Core.List.{map, Memᴰ}
use lib.Dec.{T, ltb, eqb, eqb→eq, eqb_refl, T_not, not_T, ltb→lt}
use lib.Arith.{bin_ind}
use lib.Bits.{bit_and, and_shr, and_mod}
use lib.Count.{ones, ones_step, ones-le}
use lib.Pow.{pow_pos}
use Rattle.model.specs.Base.{bit, below, every, join, implies}
use Rattle.model.specs.Table.{Table, Term, Cell, holds, cells, cell, term, formed, legal, holds_no_off}
use Rattle.model.specs.Primes.{contains, same_term, contained_in, prime, primes, terms}
use Rattle.model.specs.Sets.{Within}
use Rattle.model.proofs.Lists.{yes_or_no, and_l, and_r, and_i, implies_e, implies_i, every_e, every_i, not_every, filter_e, filter_i, below_i, T_true, T_false, join_i}
use Rattle.model.proofs.Bits.{bit0_n, bit0_i, bit_lt, within_le, within_half, within_low}

-- ---- bits

both : (x y : ℕ) → x < 2 → y < 2 → eqb (bit_and x y % 2) 1 ≡ (eqb x 1 && eqb y 1)
both zero y h k = refl
both (suc zero) zero h k = refl
both (suc zero) (suc zero) h k = refl
both (suc zero) (suc (suc y)) h k = absurd (omega arith)
both (suc (suc x)) y h k = absurd (omega arith)

mod2_mod2 : (x : ℕ) → x % 2 % 2 ≡ x % 2
mod2_mod2 x = omega arith

pub bit_of_and : (i a b : ℕ) → bit i (bit_and a b) ≡ (bit i a && bit i b)
bit_of_and zero a b = rw (← mod2_mod2 (bit_and a b), and_mod a b 1) (both (a % 2) (b % 2) (omega arith) (omega arith))
bit_of_and (suc i) a b = rw (and_shr a b 1) (bit_of_and i (a / 2) (b / 2))

pub bits_ext : (a b : ℕ) → ((i : ℕ) → bit i a ≡ bit i b) → a ≡ b
bits_ext a b h = le_antisymm (within_le a b (λ i t. subst (λ (x : Bool). T x) (h i) t)) (within_le b a (λ i t. subst⁻¹ (λ (x : Bool). T x) (h i) t))

-- a and b agree on the bits of c
abbrev pub Agree : ℕ → ℕ → ℕ → Type 0
Agree c a b = (i : ℕ) → T (bit i c) → bit i a ≡ bit i b

pub agree_e : (c a b : ℕ) → T (eqb (bit_and a c) (bit_and b c)) → Agree c a b
agree_e c a b t i u =
    let e : (bit i a && bit i c) ≡ (bit i b && bit i c) = sym (bit_of_and i a c) ∙ ap (bit i) (eqb→eq (bit_and a c) (bit_and b c) t) ∙ bit_of_and i b c in
    rw (T_true {b = bit i c} u, and-true, and-true) at e

pub agree_i : (c a b : ℕ) → Agree c a b → T (eqb (bit_and a c) (bit_and b c))
agree_i c a b h = subst (λ (x : ℕ). T (eqb (bit_and a c) x)) (bits_ext (bit_and a c) (bit_and b c) (λ i. bit_of_and i a c ∙ go i (bit i c) (h i) ∙ sym (bit_of_and i b c))) (eqb_refl (bit_and a c))
  where
    go : (i : ℕ) (x : Bool) → (T x → bit i a ≡ bit i b) → (bit i a && x) ≡ (bit i b && x)
    go i true f = rw (f tt)
    go i false f = and-false (bit i a) ∙ sym (and-false (bit i b))

-- s with bit i set
unfoldable pub set_bit : ℕ → ℕ → ℕ
set_bit zero s = s / 2 * 2 + 1
set_bit (suc i) s = set_bit i (s / 2) * 2 + s % 2

pub set_here : (i s : ℕ) → T (bit i (set_bit i s))
unfolding set_bit
set_here zero s = bit0_i (s / 2 * 2 + 1) (omega arith)
set_here (suc i) s =
    let e : (set_bit i (s / 2) * 2 + s % 2) / 2 ≡ set_bit i (s / 2) = omega arith in
    rw e (set_here i (s / 2))

pub set_other : (i j s : ℕ) → j ≢ i → bit j (set_bit i s) ≡ bit j s
unfolding set_bit
set_other zero zero s d = absurd (d refl)
set_other zero (suc j) s d =
    let e : (s / 2 * 2 + 1) / 2 ≡ s / 2 = omega arith in
    rw e
set_other (suc i) zero s d =
    let e : (set_bit i (s / 2) * 2 + s % 2) % 2 ≡ s % 2 = omega arith in
    rw e
set_other (suc i) (suc j) s d =
    let e : (set_bit i (s / 2) * 2 + s % 2) / 2 ≡ set_bit i (s / 2) = omega arith in
    rw e (set_other i j (s / 2) (λ q. d (ap suc q)))

pub set_lt : (i n s : ℕ) → i < n → s < 2 ^ n → set_bit i s < 2 ^ n
unfolding set_bit
set_lt i zero s h l = absurd (omega arith)
set_lt zero (suc n) s h l = omega (arith, pow-suc 2 n)
set_lt (suc i) (suc n) s h l = omega (arith, pow-suc 2 n, set_lt i n (s / 2) (omega arith) (omega (arith, pow-suc 2 n)))

-- a number that is not 0 has a bit
pub has_bit : (s : ℕ) → 0 < s → (i : ℕ) × T (bit i s)
has_bit = bin_ind (λ (n : ℕ). 0 < n → (i : ℕ) × T (bit i n)) (λ h. absurd (omega arith)) (λ n ih h. go n ih h (yes_or_no (bit 0 n)))
  where
    go : (n : ℕ) → (0 < n / 2 → (i : ℕ) × T (bit i (n / 2))) → 0 < n → T (bit 0 n) ⊎ T (not (bit 0 n)) → (i : ℕ) × T (bit i n)
    go n ih h (inl t) = (0, t)
    go n ih h (inr t) = let q = ih (omega (arith, bit0_n n t)) in (suc q.0, q.1)

ones_more : (a b : ℕ) → Within a b → ones a ≤ ones b
ones_more =
    bin_ind (λ (n : ℕ). (b : ℕ) → Within n b → ones n ≤ ones b) (λ b w. omega (arith, ones-le 0 0 (pow_pos 0)))
    (λ n ih b w. omega (arith, ones_step n, ones_step b, ih (b / 2) (within_half w), within_low n b w))

-- ---- cells and terms of a table

pub cell_i : (p : Table) (v j : ℕ) → v < 2 ^ p.n → j < p.m → Memᴰ (cell v j) (cells p)
unfolding cells
cell_i p v j h k = join_i (Memᴰ.map (cell v) (below_i k)) (Memᴰ.map (λ w. map (cell w) (below p.m)) (below_i h))

term_i : (p : Table) (c v o : ℕ) → c < 2 ^ p.n → v < 2 ^ p.n → o < 2 ^ p.m → Memᴰ (term c v o) (terms p)
unfolding terms
term_i p c v o h k l =
    join_i (join_i (Memᴰ.map (term c v) (below_i l)) (Memᴰ.map (λ w. map (term c w) (below (2 ^ p.m))) (below_i k)))
    (Memᴰ.map (λ d. join (map (λ w. map (term d w) (below (2 ^ p.m))) (below (2 ^ p.n)))) (below_i h))

pub record Formed (p : Table) (t : Term) : Type 0 where
  pub care_lt : t.care < 2 ^ p.n
  pub value_in : Within t.value t.care
  pub outputs_pos : 0 < t.outputs
  pub outputs_lt : t.outputs < 2 ^ p.m

pub and_within : (a b : ℕ) → bit_and a b ≡ a → Within a b
and_within a b e i t = and_r (bit i a) (bit i b) (subst (λ (x : Bool). T x) (ap (bit i) (sym e) ∙ bit_of_and i a b) t)

pub formed_e : (p : Table) (t : Term) → T (formed p t) → Formed p t
unfolding formed
formed_e p t f =
    let a = ltb t.care (2 ^ p.n) in
    let b = eqb (bit_and t.value t.care) t.value in
    let c = ltb 0 t.outputs in
    let d = ltb t.outputs (2 ^ p.m) in
    let r = and_r a (b && (c && d)) f in
    record {
      care_lt = ltb→lt t.care (2 ^ p.n) (and_l a (b && (c && d)) f);
      value_in = and_within t.value t.care (eqb→eq (bit_and t.value t.care) t.value (and_l b (c && d) r));
      outputs_pos = ltb→lt 0 t.outputs (and_l c d (and_r b (c && d) r));
      outputs_lt = ltb→lt t.outputs (2 ^ p.m) (and_r c d (and_r b (c && d) r));
    }

pub legal_formed : (p : Table) (t : Term) → T (legal p t) → Formed p t
unfolding legal
legal_formed p t l = formed_e p t (and_l (formed p t) (holds_no_off p t) l)

legal_listed : (p : Table) (t : Term) → T (legal p t) → Memᴰ t (terms p)
legal_listed p t l =
    let f = legal_formed p t l in
    term_i p t.care t.value t.outputs f.care_lt (omega (arith, within_le t.value t.care f.value_in, f.care_lt)) f.outputs_lt

pub holds_e : (t : Term) (c : Cell) → T (holds t c) → Agree t.care c.v t.value × T (bit c.j t.outputs)
unfolding holds
holds_e t c h =
    let a = eqb (bit_and c.v t.care) (bit_and t.value t.care) in
    let b = bit c.j t.outputs in
    (agree_e t.care c.v t.value (and_l a b h), and_r a b h)

pub holds_i : (t : Term) (c : Cell) → Agree t.care c.v t.value → T (bit c.j t.outputs) → T (holds t c)
unfolding holds
holds_i t c a b = and_i (eqb (bit_and c.v t.care) (bit_and t.value t.care)) (bit c.j t.outputs) (agree_i t.care c.v t.value a) b

pub contains_e : (p : Table) (t u : Term) → T (contains p t u) → (c : Cell) → Memᴰ c (cells p) → T (holds u c) → T (holds t c)
unfolding contains
contains_e p t u h c m k = implies_e (holds u c) (holds t c) (every_e (λ d. implies (holds u d) (holds t d)) m h) k

pub contains_i : (p : Table) (t u : Term) → ((c : Cell) → Memᴰ c (cells p) → T (holds u c) → T (holds t c)) → T (contains p t u)
unfolding contains
contains_i p t u f = every_i (λ d. implies (holds u d) (holds t d)) (cells p) (λ c m. implies_i (holds u c) (holds t c) (f c m))

-- a term that contains another has some of its literals, and all of its outputs
pub record Wider (t u : Term) : Type 0 where
  pub care_in : Within t.care u.care
  pub outputs_in : Within u.outputs t.outputs
  pub agree : Agree t.care u.value t.value

pub wider : (p : Table) (t u : Term) → Formed p t → Formed p u → T (contains p t u) → Wider t u
wider p t u f g h = record { care_in = care; outputs_in = λ j b. (at u.value j value_lt b (λ i q. refl)).1; agree = agrees }
  where
    value_lt : u.value < 2 ^ p.n
    value_lt = omega (arith, within_le u.value u.care g.value_in, g.care_lt)

    at : (v j : ℕ) → v < 2 ^ p.n → T (bit j u.outputs) → Agree u.care v u.value → Agree t.care v t.value × T (bit j t.outputs)
    at v j l b a = holds_e t (cell v j) (contains_e p t u h (cell v j) (cell_i p v j l (bit_lt j p.m u.outputs b g.outputs_lt)) (holds_i u (cell v j) a b))

    some_output : (j : ℕ) × T (bit j u.outputs)
    some_output = has_bit u.outputs g.outputs_pos

    agrees : Agree t.care u.value t.value
    agrees = (at u.value some_output.0 value_lt some_output.1 (λ i q. refl)).0

    -- a bit of t's care that u leaves free: u holds a vertex with that bit at 1 and one with it at 0
    care : Within t.care u.care
    care i b = go (yes_or_no (bit i u.care))
      where
        go : T (bit i u.care) ⊎ T (not (bit i u.care)) → T (bit i u.care)
        go (inl q) = q
        go (inr n) =
            let w : ℕ = set_bit i u.value in
            let l = set_lt i p.n u.value (bit_lt i p.n t.care b f.care_lt) value_lt in
            let a : Agree u.care w u.value = λ k q. set_other i k u.value (λ e. T_not (bit i u.care) n (subst (λ (x : ℕ). T (bit x u.care)) e q)) in
            let e = (at w some_output.0 l some_output.1 a).0 i b in
            g.value_in i (subst (λ (x : Bool). T x) (e ∙ sym (agrees i b)) (set_here i u.value))

same_i : (t u : Term) → t.care ≡ u.care → t.value ≡ u.value → t.outputs ≡ u.outputs → T (same_term t u)
unfolding same_term
same_i t u a b c =
    and_i (eqb t.care u.care) (eqb t.value u.value && eqb t.outputs u.outputs) (subst (λ (x : ℕ). T (eqb t.care x)) a (eqb_refl t.care))
    (and_i (eqb t.value u.value) (eqb t.outputs u.outputs) (subst (λ (x : ℕ). T (eqb t.value x)) b (eqb_refl t.value))
    (subst (λ (x : ℕ). T (eqb t.outputs x)) c (eqb_refl t.outputs)))

pub same_e : (t u : Term) → T (same_term t u) → t ≡ u
unfolding same_term
same_e t u s =
    let a = eqb t.care u.care in
    let b = eqb t.value u.value in
    let c = eqb t.outputs u.outputs in
    let x = eqb→eq t.care u.care (and_l a (b && c) s) in
    let y = eqb→eq t.value u.value (and_l b c (and_r a (b && c) s)) in
    let z = eqb→eq t.outputs u.outputs (and_r b c (and_r a (b && c) s)) in
    λ i. record { care = x i; value = y i; outputs = z i }

-- of two terms, one wider than the other, with the same care and outputs: they are the same
pub wider_same : (p : Table) (t u : Term) → Formed p t → Formed p u → Wider t u → t.care ≡ u.care → t.outputs ≡ u.outputs → T (same_term t u)
wider_same p t u f g w a c = same_i t u a (bits_ext t.value u.value (λ i. go i (yes_or_no (bit i t.care)))) c
  where
    go : (i : ℕ) → T (bit i t.care) ⊎ T (not (bit i t.care)) → bit i t.value ≡ bit i u.value
    go i (inl b) = sym (w.agree i b)
    go i (inr n) =
        let x = not_T (bit i t.value) (λ q. T_not (bit i t.care) n (f.value_in i q)) in
        let y = not_T (bit i u.value) (λ q. T_not (bit i t.care) n (subst (λ (z : ℕ). T (bit i z)) (sym a) (g.value_in i q))) in
        T_false {b = bit i t.value} x ∙ sym (T_false {b = bit i u.value} y)

size : Table → Term → ℕ
size p t = t.care + (2 ^ p.m - t.outputs)

-- of two terms, one wider than the other and not the same, the wider is of smaller size
smaller : (p : Table) (t u : Term) → Formed p t → Formed p u → Wider t u → T (not (same_term t u)) → size p t < size p u
unfolding size
smaller p t u f g w n =
    let a = within_le t.care u.care w.care_in in
    let b = within_le u.outputs t.outputs w.outputs_in in
    go a b (ℕ_discrete t.care u.care) (ℕ_discrete t.outputs u.outputs)
  where
    go : t.care ≤ u.care → u.outputs ≤ t.outputs → Dec (t.care ≡ u.care) → Dec (t.outputs ≡ u.outputs) → t.care + (2 ^ p.m - t.outputs) < u.care + (2 ^ p.m - u.outputs)
    go a b (yes x) (yes y) = absurd (T_not (same_term t u) n (wider_same p t u f g w x y))
    go a b (yes x) (no y) = omega (arith, f.outputs_lt, g.outputs_lt)
    go a b (no x) (yes y) = omega (arith, f.outputs_lt, g.outputs_lt)
    go a b (no x) (no y) = omega (arith, f.outputs_lt, g.outputs_lt)

-- ---- every legal term is contained in a prime with no more literals

pub record Over (p : Table) (u : Term) : Type 0 where
  pub top : Term
  pub prime_top : T (prime p top)
  pub containing : T (contains p top u)
  pub fewer : ones top.care ≤ ones u.care

contained_in_e : (p : Table) (t u : Term) → T (contained_in p t u) → T (legal p u) × T (contains p u t) × T (not (same_term u t))
unfolding contained_in
contained_in_e p t u a =
    let x = legal p u in
    let y = contains p u t in
    let z = not (same_term u t) in
    let r = and_r x (y && z) a in
    (and_l x (y && z) a, and_l y z r, and_r y z r)

contains_trans : (p : Table) (t u w : Term) → T (contains p t u) → T (contains p u w) → T (contains p t w)
contains_trans p t u w h k = contains_i p t w (λ c m q. contains_e p t u h c m (contains_e p u w k c m q))

contains_self : (p : Table) (t : Term) → T (contains p t t)
contains_self p t = contains_i p t t (λ c m q. q)

not_prime : (p : Table) (t : Term) → T (legal p t) → T (not (prime p t)) → (u : Term) × T (contained_in p t u)
unfolding prime
not_prime p t l n =
    let q = not_every (λ u. not (contained_in p t u)) (terms p) (go (legal p t) (every (λ u. not (contained_in p t u)) (terms p)) l n) in
    (q.0, twice (contained_in p t q.0) q.2)
  where
    go : (a b : Bool) → T a → T (not (a && b)) → T (not b)
    go true b u v = v
    go false b u v = absurd u

    twice : (a : Bool) → T (not (not a)) → T a
    twice true u = tt
    twice false u = u

climb : (p : Table) (k : ℕ) (t : Term) → T (legal p t) → size p t < k → Over p t
climb p zero t l h = absurd (omega arith)
climb p (suc k) t l h = go (yes_or_no (prime p t)) (λ u. climb p k u)
  where
    go : T (prime p t) ⊎ T (not (prime p t)) → ((u : Term) → T (legal p u) → size p u < k → Over p u) → Over p t
    go (inl q) r = record { top = t; prime_top = q; containing = contains_self p t; fewer = le_refl _ }
    go (inr n) r =
        let q = not_prime p t l n in
        let a = contained_in_e p t q.0 q.1 in
        let f = legal_formed p q.0 a.0 in
        let g = legal_formed p t l in
        let w = wider p q.0 t f g a.1 in
        let s = smaller p q.0 t f g w a.2 in
        let o = r q.0 a.0 (omega arith) in
        record {
          top = o.top;
          prime_top = o.prime_top;
          containing = contains_trans p o.top q.0 t o.containing a.1;
          fewer = omega (arith, o.fewer, ones_more q.0.care t.care w.care_in);
        }

pub prime_over : (p : Table) (t : Term) → T (legal p t) → Over p t
prime_over p t l = climb p (suc (size p t)) t l (le_refl _)

-- what the test says: a prime is legal and contained in no other legal term
pub prime_e : (p : Table) (t : Term) → T (prime p t) → T (legal p t) × ((u : Term) → T (legal p u) → T (contains p u t) → u ≡ t)
unfolding prime contained_in
prime_e p t h =
    let rest = and_r (legal p t) none h in
    (and_l (legal p t) none h, λ u l c. same_e u t (go (legal p u) (contains p u t) (same_term u t) l c (every_e (λ w. not (contained_in p t w)) (legal_listed p u l) rest)))
  where
    none : Bool
    none = every (λ u. not (contained_in p t u)) (terms p)

    go : (x y z : Bool) → T x → T y → T (not (x && (y && not z))) → T z
    go true true true a b n = tt
    go true true false a b n = n
    go true false z a b n = absurd b
    go false y z a b n = absurd a

pub prime_i : (p : Table) (t : Term) → T (legal p t) → ((u : Term) → T (legal p u) → T (contains p u t) → u ≡ t) → T (prime p t)
unfolding prime
prime_i p t l f = and_i (legal p t) (every (λ u. not (contained_in p t u)) (terms p)) l (every_i (λ u. not (contained_in p t u)) (terms p) (λ u m. not_T (contained_in p t u) (λ a.
    let q = contained_in_e p t u a in
    let e = f u q.0 q.1 in
    T_not (same_term u t) q.2 (same_i u t (ap (λ (x : Term). x.care) e) (ap (λ (x : Term). x.value) e) (ap (λ (x : Term). x.outputs) e)))))

-- the list has the primes, and nothing else
primes_i : (p : Table) (t : Term) → T (prime p t) → Memᴰ t (primes p)
unfolding primes
primes_i p t h = filter_i (prime p) (legal_listed p t (prime_e p t h).0) h

pub primes_e : (p : Table) (t : Term) → Memᴰ t (primes p) → T (prime p t)
unfolding primes
primes_e p t m = (filter_e (prime p) (terms p) m).1

pub primes_iff : (p : Table) (t : Term) → T (prime p t) ↔ Memᴰ t (primes p)
primes_iff p t = (primes_i p t, primes_e p t)
