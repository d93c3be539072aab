-- The outputs that a cube may drive: what makes a term legal, what makes it prime, and the two halves of a cube.
use Prim.Native.Nat.{ℕ, zero, suc, ◌-◌, ◌/◌, ◌%◌, ◌^◌, ◌<◌, max}
use native.Mathlib.Omega.{arith}
use native.Mathlib.Nat.{pow-suc}
use native.Mathlib.Decide.{ℕ_discrete, dec_lt}
use mathlib.Core.Path.{◌≡◌, refl, sym, ap, ◌∙◌, subst, subst⁻¹}
use mathlib.Core.Logic.{◌≢◌, ◌⊎◌, inl, inr}
use mathlib.Core.Bool.{Bool, true, false, not, ◌&&◌, ◌||◌}
use mathlib.Core.List.{List, [], ◌∷◌, map, Memᴰ}
use lib.Dec.{T, ltb, eqb, eqb_refl, T_not, not_T, lt→ltb}
use lib.Bits.{bit_and, bit_or, or_step}
use lib.ListN.{get_or}
use lib.Pow.{pow_pos}
use Rattle.model.specs.Base.{bit, below, every, join}
use Rattle.model.specs.Table.{Table, Term, Cell, is_on, is_dc, is_off, holds, in_cube, cells, cell, term, formed, holds_no_off, legal}
use Rattle.model.specs.Primes.{drives, contains, prime}
use Rattle.model.specs.Sets.{Within}
use Rattle.model.proofs.Lists.{bool_ext, yes_or_no, or_cases, and_l, and_r, and_i, every_e, every_i, every_append, below_e, below_i, T_true, T_false}
use Rattle.model.proofs.Bits.{bit0_i, bit_le, bit_lt, from_bits_e, from_bits_i, from_bits_lt, within_le, lacks, without_within, within_without}
use Rattle.model.proofs.Cubes.{bit_of_and, bits_ext, Agree, agree_e, agree_i, set_bit, set_here, set_other, cell_i, Formed, legal_formed, holds_e}
use Rattle.model.proofs.Cubes.{holds_i, contains_i, Wider, wider, same_e, wider_same, prime_e, prime_i}

-- ---- lists of cells

every_map : (f : Cell → Bool) (g : ℕ → Cell) (xs : List ℕ) → ((x : ℕ) → Memᴰ x xs → T (f (g x))) → T (every f (map g xs))
every_map f g [] h = tt
every_map f g (x ∷ xs) h = and_i (f (g x)) (every f (map g xs)) (h x (Memᴰ.head refl)) (every_map f g xs (λ y m. h y (Memᴰ.tail m)))

every_grid : (f : Cell → Bool) (m : ℕ) (vs : List ℕ) → ((v j : ℕ) → Memᴰ v vs → j < m → T (f (cell v j))) → T (every f (join (map (λ v. map (cell v) (below m)) vs)))
every_grid f m [] h = tt
every_grid f m (v ∷ vs) h =
    let here : List Cell = map (cell v) (below m) in
    let others : List Cell = join (map (λ v. map (cell v) (below m)) vs) in
    rw (every_append f here others)
    (and_i (every f here) (every f others)
    (every_map f (cell v) (below m) (λ j k. h v j (Memᴰ.head refl) (below_e m k)))
    (every_grid f m vs (λ w j k l. h w j (Memᴰ.tail k) l)))

cells_every : (p : Table) (f : Cell → Bool) → ((v j : ℕ) → v < 2 ^ p.n → j < p.m → T (f (cell v j))) → T (every f (cells p))
unfolding cells
cells_every p f h = every_grid f p.m (below (2 ^ p.n)) (λ v j k l. h v j (below_e (2 ^ p.n) k) l)

-- ---- the outputs that a cube may drive

neither : (a b : Bool) → (T a → T b → ⊥) → T (not (a && b))
neither true true f = f tt tt
neither true false f = tt
neither false b f = tt

clash : (a b : Bool) → T (not (a && b)) → T a → T b → ⊥
clash true true n x y = n
clash true false n x y = y
clash false b n x y = x

drivable : Table → ℕ → ℕ → ℕ → Bool
drivable p c w j = every (λ v. not (in_cube c w v && is_off p (cell v j))) (below (2 ^ p.n))

pub drives_e : (p : Table) (c w j : ℕ) → T (bit j (drives p c w)) → (j < p.m) × ((v : ℕ) → v < 2 ^ p.n → Agree c v w → T (is_off p (cell v j)) → ⊥)
unfolding drives drivable
drives_e p c w j t =
    let q = from_bits_e (drivable p c w) j p.m t in
    (q.0, λ v l a o. clash (in_cube c w v) (is_off p (cell v j)) (every_e (λ v. not (in_cube c w v && is_off p (cell v j))) (below_i l) q.1) (agree_i c v w a) o)

pub drives_i : (p : Table) (c w j : ℕ) → j < p.m → ((v : ℕ) → v < 2 ^ p.n → Agree c v w → T (is_off p (cell v j)) → ⊥) → T (bit j (drives p c w))
unfolding drives drivable
drives_i p c w j l f =
    let none = every_i (λ v. not (in_cube c w v && is_off p (cell v j))) (below (2 ^ p.n)) in
    from_bits_i (drivable p c w) j p.m l (none (λ v m. neither (in_cube c w v) (is_off p (cell v j)) (λ a o. f v (below_e (2 ^ p.n) m) (agree_e c v w a) o)))

pub drives_lt : (p : Table) (c w : ℕ) → drives p c w < 2 ^ p.m
unfolding drives
drives_lt p c w = from_bits_lt _ p.m

-- a term of the table's size holds no off cell exactly where its cube may drive its outputs
pub no_off_e : (p : Table) (t : Term) → t.outputs < 2 ^ p.m → T (holds_no_off p t) → Within t.outputs (drives p t.care t.value)
unfolding holds_no_off
no_off_e p t l h j b =
    let m = bit_lt j p.m t.outputs b l in
    drives_i p t.care t.value j m (λ v k a o. clash (holds t (cell v j)) (is_off p (cell v j)) (every_e (λ c. not (holds t c && is_off p c)) (cell_i p v j k m) h) (holds_i t (cell v j) a b) o)

pub no_off_i : (p : Table) (t : Term) → Within t.outputs (drives p t.care t.value) → T (holds_no_off p t)
unfolding holds_no_off
no_off_i p t w = cells_every p (λ c. not (holds t c && is_off p c)) (λ v j k m. neither (holds t (cell v j)) (is_off p (cell v j)) (λ h o.
    let q = holds_e t (cell v j) h in
    (drives_e p t.care t.value j (w j q.1)).1 v k q.0 o))

-- ---- the two halves of a cube with a free input

set_more : (i k c : ℕ) → T (bit k c) → T (bit k (set_bit i c))
set_more i k c t = go (ℕ_discrete k i)
  where
    go : Dec (k ≡ i) → T (bit k (set_bit i c))
    go (yes e) = subst⁻¹ (λ (x : ℕ). T (bit x (set_bit i c))) e (set_here i c)
    go (no d) = subst⁻¹ (λ (x : Bool). T x) (set_other i k c d) t

pub drives_halves : (p : Table) (c w i : ℕ) → T (not (bit i c)) → T (not (bit i w))
    → drives p c w ≡ bit_and (drives p (set_bit i c) w) (drives p (set_bit i c) (set_bit i w))
drives_halves p c w i n o = bits_ext (drives p c w) (bit_and lo hi) (λ j. bool_ext (bit j (drives p c w)) (bit j lo && bit j hi) (to j) (back j) ∙ sym (bit_of_and j lo hi))
  where
    lo : ℕ
    lo = drives p (set_bit i c) w

    hi : ℕ
    hi = drives p (set_bit i c) (set_bit i w)

    other : (k : ℕ) → T (bit k c) → k ≢ i
    other k b e = T_not (bit i c) n (subst (λ (x : ℕ). T (bit x c)) e b)

    to : (j : ℕ) → T (bit j (drives p c w)) → T (bit j lo && bit j hi)
    to j t =
        let q = drives_e p c w j t in
        and_i (bit j lo) (bit j hi)
        (drives_i p (set_bit i c) w j q.0 (λ v l a. q.1 v l (λ k b. a k (set_more i k c b))))
        (drives_i p (set_bit i c) (set_bit i w) j q.0 (λ v l a. q.1 v l (λ k b. a k (set_more i k c b) ∙ set_other i k w (other k b))))

    low : (v k : ℕ) → Agree c v w → T (not (bit i v)) → Dec (k ≡ i) → T (bit k (set_bit i c)) → bit k v ≡ bit k w
    low v k a z (yes e) b = subst⁻¹ (λ (x : ℕ). bit x v ≡ bit x w) e (T_false {b = bit i v} z ∙ sym (T_false {b = bit i w} o))
    low v k a z (no d) b = a k (subst (λ (x : Bool). T x) (set_other i k c d) b)

    high : (v k : ℕ) → Agree c v w → T (bit i v) → Dec (k ≡ i) → T (bit k (set_bit i c)) → bit k v ≡ bit k (set_bit i w)
    high v k a z (yes e) b = subst⁻¹ (λ (x : ℕ). bit x v ≡ bit x (set_bit i w)) e (T_true {b = bit i v} z ∙ sym (T_true {b = bit i (set_bit i w)} (set_here i w)))
    high v k a z (no d) b = a k (subst (λ (x : Bool). T x) (set_other i k c d) b) ∙ sym (set_other i k w d)

    back : (j : ℕ) → T (bit j lo && bit j hi) → T (bit j (drives p c w))
    back j t =
        let x = drives_e p (set_bit i c) w j (and_l (bit j lo) (bit j hi) t) in
        let y = drives_e p (set_bit i c) (set_bit i w) j (and_r (bit j lo) (bit j hi) t) in
        drives_i p c w j x.0 (λ v l a. pick v l a x.1 y.1 (yes_or_no (bit i v)))
      where
        pick : (v : ℕ) → v < 2 ^ p.n → Agree c v w → ((v : ℕ) → v < 2 ^ p.n → Agree (set_bit i c) v w → T (is_off p (cell v j)) → ⊥)
            → ((v : ℕ) → v < 2 ^ p.n → Agree (set_bit i c) v (set_bit i w) → T (is_off p (cell v j)) → ⊥)
            → T (bit i v) ⊎ T (not (bit i v)) → T (is_off p (cell v j)) → ⊥
        pick v l a x y (inl z) = y v l (λ k b. high v k a z (ℕ_discrete k i) b)
        pick v l a x y (inr z) = x v l (λ k b. low v k a z (ℕ_discrete k i) b)

formed_i : (p : Table) (t : Term) → Formed p t → T (formed p t)
unfolding formed
formed_i p t f =
    let a = ltb t.care (2 ^ p.n) in
    let b = eqb (bit_and t.value t.care) t.value in
    let c = ltb 0 t.outputs in
    let d = ltb t.outputs (2 ^ p.m) in
    and_i a (b && (c && d)) (lt→ltb t.care (2 ^ p.n) f.care_lt)
    (and_i b (c && d) (subst⁻¹ (λ (x : ℕ). T (eqb x t.value)) same (eqb_refl t.value))
    (and_i c d (lt→ltb 0 t.outputs f.outputs_pos) (lt→ltb t.outputs (2 ^ p.m) f.outputs_lt)))
  where
    same : bit_and t.value t.care ≡ t.value
    same = bits_ext (bit_and t.value t.care) t.value (λ i. bit_of_and i t.value t.care ∙ go (bit i t.value) (bit i t.care) (f.value_in i))
      where
        go : (x y : Bool) → (T x → T y) → (x && y) ≡ x
        go true true h = refl
        go true false h = absurd (h tt)
        go false y h = refl

legal_i : (p : Table) (t : Term) → Formed p t → Within t.outputs (drives p t.care t.value) → T (legal p t)
unfolding legal
legal_i p t f w = and_i (formed p t) (holds_no_off p t) (formed_i p t f) (no_off_i p t w)

legal_drives : (p : Table) (t : Term) → T (legal p t) → Within t.outputs (drives p t.care t.value)
unfolding legal
legal_drives p t l = no_off_e p t (legal_formed p t l).outputs_lt (and_r (formed p t) (holds_no_off p t) l)

-- the converse of `wider`
contains_wider : (p : Table) (t u : Term) → Wider t u → T (contains p t u)
contains_wider p t u w = contains_i p t u (λ c m h.
    let q = holds_e u c h in
    holds_i t c (λ i b. q.0 i (w.care_in i b) ∙ w.agree i b) (w.outputs_in c.j q.1))

-- ---- prime, by the cube's own outputs and the cubes with one literal less

-- t without the literal i
pub without : Term → ℕ → Term
without t i = term (t.care - 2 ^ i) (bit_and t.value (t.care - 2 ^ i)) t.outputs

pub record Locally (p : Table) (t : Term) : Type 0 where
  pub formed : Formed p t
  pub outs : t.outputs ≡ drives p t.care t.value
  pub tight : (i : ℕ) → T (bit i t.care) → Within t.outputs (drives p (t.care - 2 ^ i) (bit_and t.value (t.care - 2 ^ i))) → ⊥

without_formed : (p : Table) (t : Term) (i : ℕ) → T (bit i t.care) → Formed p t → Formed p (without t i)
unfolding without
without_formed p t i b f = record {
  care_lt = omega (arith, f.care_lt);
  value_in = λ j q. and_r (bit j t.value) (bit j (t.care - 2 ^ i)) (subst (λ (x : Bool). T x) (bit_of_and j t.value (t.care - 2 ^ i)) q);
  outputs_pos = f.outputs_pos;
  outputs_lt = f.outputs_lt;
}

without_wider : (t : Term) (i : ℕ) → T (bit i t.care) → Wider (without t i) t
unfolding without
without_wider t i b = record {
  care_in = without_within i t.care b;
  outputs_in = λ j q. q;
  agree = λ j q. sym (bit_of_and j t.value (t.care - 2 ^ i) ∙ rw (T_true {b = bit j (t.care - 2 ^ i)} q) (keep (bit j t.value)));
}
  where
    keep : (x : Bool) → (x && true) ≡ x
    keep true = refl
    keep false = refl

pub prime_local : (p : Table) (t : Term) → T (prime p t) → Locally p t
unfolding without
prime_local p t h =
    let e = prime_e p t h in
    let f = legal_formed p t e.0 in
    record { formed = f; outs = outs e f; tight = λ i b w. tight e f i b w }
  where
    outs : T (legal p t) × ((u : Term) → T (legal p u) → T (contains p u t) → u ≡ t) → Formed p t → t.outputs ≡ drives p t.care t.value
    outs e f =
        let d : ℕ = drives p t.care t.value in
        let w = legal_drives p t e.0 in
        let u : Term = term t.care t.value d in
        let some : 0 < d = omega (arith, f.outputs_pos, within_le t.outputs d w) in
        let g : Formed p u = record { care_lt = f.care_lt; value_in = f.value_in; outputs_pos = some; outputs_lt = drives_lt p t.care t.value } in
        let l = legal_i p u g (λ j q. q) in
        let c = contains_wider p u t (record { care_in = λ i q. q; outputs_in = w; agree = λ i q. refl }) in
        sym (ap (λ (x : Term). x.outputs) (e.1 u l c))

    tight : T (legal p t) × ((u : Term) → T (legal p u) → T (contains p u t) → u ≡ t) → Formed p t → (i : ℕ) → T (bit i t.care)
        → Within t.outputs (drives p (t.care - 2 ^ i) (bit_and t.value (t.care - 2 ^ i))) → ⊥
    tight e f i b w =
        let l = legal_i p (without t i) (without_formed p t i b f) w in
        let q = ap (λ (x : Term). x.care) (e.1 (without t i) l (contains_wider p (without t i) t (without_wider t i b))) in
        omega (arith, q, bit_le i t.care b, pow_pos i)

pub local_prime : (p : Table) (t : Term) → Locally p t → T (prime p t)
unfolding without
local_prime p t h = prime_i p t (legal_i p t h.formed (λ j q. subst (λ (x : ℕ). T (bit j x)) h.outs q)) (λ u l c. go u l c (wider p u t (legal_formed p u l) h.formed c))
  where
    go : (u : Term) → T (legal p u) → T (contains p u t) → Wider u t → u ≡ t
    go u l c w = split (ℕ_discrete u.care t.care)
      where
        own : (j : ℕ) → T (bit j u.outputs) → (j < p.m) × ((v : ℕ) → v < 2 ^ p.n → Agree u.care v u.value → T (is_off p (cell v j)) → ⊥)
        own j b = drives_e p u.care u.value j (legal_drives p u l j b)

        outs : Within u.outputs t.outputs
        outs j b =
            let q = own j b in
            subst⁻¹ (λ (x : ℕ). T (bit j x)) h.outs (drives_i p t.care t.value j q.0 (λ v k a. q.1 v k (λ i r. a i (w.care_in i r) ∙ w.agree i r)))

        fewer : (i : ℕ) → T (bit i t.care) → T (not (bit i u.care)) → ⊥
        fewer i b n = h.tight i b (λ j r.
            let q = own j (w.outputs_in j r) in
            drives_i p (t.care - 2 ^ i) (bit_and t.value (t.care - 2 ^ i)) j q.0 (λ v k a. q.1 v k (λ x y.
            let z = within_without i u.care t.care b n w.care_in x y in
            a x z ∙ sym ((without_wider t i b).agree x z) ∙ w.agree x y)))

        split : Dec (u.care ≡ t.care) → u ≡ t
        split (yes e) =
            let o : u.outputs ≡ t.outputs = omega (arith, within_le u.outputs t.outputs outs, within_le t.outputs u.outputs w.outputs_in) in
            same_e u t (wider_same p u t (legal_formed p u l) h.formed w e o)
        split (no d) = let q = lacks p.n u.care t.care h.formed.care_lt w.care_in d in absurd (fewer q.0 q.2 q.3)

-- ---- a cube with no free input

either : (x y : ℕ) → x < 2 → y < 2 → eqb (max x y) 1 ≡ (eqb x 1 || eqb y 1)
either zero zero h k = refl
either zero (suc zero) h k = refl
either (suc zero) zero h k = refl
either (suc zero) (suc zero) h k = refl
either zero (suc (suc y)) h k = absurd (omega arith)
either (suc zero) (suc (suc y)) h k = absurd (omega arith)
either (suc (suc x)) y h k = absurd (omega arith)

pub bit_of_or : (i a b : ℕ) → bit i (bit_or a b) ≡ (bit i a || bit i b)
bit_of_or zero a b =
    let e : bit_or a b % 2 ≡ max (a % 2) (b % 2) = omega (arith, or_step a b) in
    rw e (either (a % 2) (b % 2) (omega arith) (omega arith))
bit_of_or (suc i) a b =
    let e : bit_or a b / 2 ≡ bit_or (a / 2) (b / 2) = omega (arith, or_step a b) in
    rw e (bit_of_or i (a / 2) (b / 2))

full : (i n : ℕ) → i < n → T (bit i (2 ^ n - 1))
full i zero h = absurd (omega arith)
full zero (suc n) h = bit0_i (2 ^ suc n - 1) (omega (arith, pow-suc 2 n, pow_pos n))
full (suc i) (suc n) h =
    let e : (2 ^ suc n - 1) / 2 ≡ 2 ^ n - 1 = omega (arith, pow-suc 2 n, pow_pos n) in
    rw e (full i n (omega arith))

-- where every input is cared for, only the vertex itself agrees
agree_full : (n v w : ℕ) → v < 2 ^ n → w < 2 ^ n → Agree (2 ^ n - 1) v w → v ≡ w
agree_full n v w h k a = bits_ext v w (λ i. go i (dec_lt i n))
  where
    none : (i x : ℕ) → x < 2 ^ n → (i < n → ⊥) → bit i x ≡ false
    none i x l f = T_false {b = bit i x} (not_T (bit i x) (λ t. f (bit_lt i n x t l)))

    go : (i : ℕ) → Dec (i < n) → bit i v ≡ bit i w
    go i (yes l) = a i (full i n l)
    go i (no f) = none i v h f ∙ sym (none i w k f)

-- it drives what its vertex wants or leaves free
pub drives_vertex : (p : Table) (v : ℕ) → v < 2 ^ p.n → get_or p.on v 0 < 2 ^ p.m → get_or p.dc v 0 < 2 ^ p.m → drives p (2 ^ p.n - 1) v ≡ bit_or (get_or p.on v 0) (get_or p.dc v 0)
unfolding is_off is_on is_dc
drives_vertex p v l x y = bits_ext (drives p (2 ^ p.n - 1) v) (bit_or on dc) (λ j. bool_ext (bit j (drives p (2 ^ p.n - 1) v)) (bit j on || bit j dc) (to j) (back j) ∙ sym (bit_of_or j on dc))
  where
    on : ℕ
    on = get_or p.on v 0

    dc : ℕ
    dc = get_or p.dc v 0

    known : (b : Bool) → (T (not b) → ⊥) → T b
    known true f = tt
    known false f = f tt

    to : (j : ℕ) → T (bit j (drives p (2 ^ p.n - 1) v)) → T (bit j on || bit j dc)
    to j t = known (bit j on || bit j dc) ((drives_e p (2 ^ p.n - 1) v j t).1 v l (λ i b. refl))

    small : (j : ℕ) → T (bit j on) ⊎ T (bit j dc) → j < p.m
    small j (inl t) = bit_lt j p.m on t x
    small j (inr t) = bit_lt j p.m dc t y

    back : (j : ℕ) → T (bit j on || bit j dc) → T (bit j (drives p (2 ^ p.n - 1) v))
    back j t = drives_i p (2 ^ p.n - 1) v j (small j (or_cases (bit j on) (bit j dc) t)) (λ w k a o.
        T_not (bit j on || bit j dc) (subst (λ (z : ℕ). T (is_off p (cell z j))) (agree_full p.n w v k l a) o) t)
