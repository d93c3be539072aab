-- The primes in the paper's order, cube by cube: what an array has of them. Walk has the loops.
use Prim.Native.Nat.{ℕ, zero, suc, ◌+◌, ◌^◌, ◌≤◌, ◌<◌, min}
use native.Mathlib.Omega.{arith}
use mathlib.Core.Path.{◌≡◌, sym, ap, ◌∙◌, subst, subst⁻¹}
use mathlib.Core.Bool.{Bool, true, false}
use mathlib.Core.List.{List, [], ◌∷◌, ◌++◌, map, append-nil, append_assoc}
use borrow.Author.Tests.{lt-ltb, le-ltb}
use lib.Dec.{T, ltb, eqb_refl}
use Rattle.std.specs.Prelude.{Some, None}
use lib.ListN.{length, set, take, length-append, length-take}
use lib.Seq.{take_all, take-append-le}
use Rattle.model.specs.declared.Term.{Term}
use Rattle.model.specs.Base.{below, filter}
use Rattle.model.specs.Table.{Table, term}
use Rattle.model.specs.Primes.{prime, primes, terms}
use Rattle.model.proofs.Cubes.{Formed, legal_formed, prime_e}
use Rattle.bits.specs.Lists.{Filled, parts, up_to}
use Rattle.bits.proofs.Lists.{up_to_split, up_to_next, rest, passes_none, passes_one, filled_next}
use Rattle.primes.specs.declared.prime_list.PrimeList.{PrimeList}
use Rattle.primes.specs.Numbers.{Numbered}
use Rattle.primes.specs.Literals.{PrimeOutputs}
use Rattle.primes.specs.Primes.{PrimesBy}

-- ---- the terms of a cube, and those of a care: the parts of `terms`

abbrev of_cube : Table → ℕ → ℕ → List Term
of_cube p care value = map (term care value) (below (2 ^ p.m))

abbrev of_care : Table → ℕ → List Term
of_care p care = parts (of_cube p care) (2 ^ p.n)

-- the primes of the cubes before care and value
abbrev pub primes_before : Table → ℕ → ℕ → List Term
primes_before p care value = up_to (prime p) (of_care p) care ++ up_to (prime p) (of_cube p care) value

-- ---- one cube: it has no prime, or one

module _ (t : List ℕ) (n care value : ℕ) (p : Table) (h : Numbered p n t) where
  cube_none : PrimeOutputs t n care value None → filter (prime p) (of_cube p care value) ≡ []
  cube_none k = passes_none (prime p) (term care value) (below (2 ^ p.m)) (k p h)

  cube_one : (r : ℕ) → PrimeOutputs t n care value (Some r) → filter (prime p) (of_cube p care value) ≡ term care value r ∷ []
  cube_one r k = passes_one (prime p) (term care value) r (k p h) (2 ^ p.m) small
    where
      formed : Formed p (term care value r)
      formed = legal_formed p (term care value r) (prime_e p (term care value r) (subst⁻¹ (λ (b : Bool). T b) (k p h r) (eqb_refl r))).0

      small : r < 2 ^ p.m
      small = formed.outputs_lt

-- ---- one cube more, and one care more

before_next : (p : Table) (care value : ℕ) → primes_before p care (value + 1) ≡ primes_before p care value ++ filter (prime p) (of_cube p care value)
before_next p care value =
    ap (λ (l : List Term). up_to (prime p) (of_care p) care ++ l) (up_to_next (prime p) (of_cube p care) value)
    ∙ sym (append_assoc (up_to (prime p) (of_care p) care) (up_to (prime p) (of_cube p care) value) (filter (prime p) (of_cube p care value)))

before_care : (p : Table) (care : ℕ) → primes_before p (care + 1) 0 ≡ primes_before p care (2 ^ p.n)
before_care p care = append-nil (up_to (prime p) (of_care p) (care + 1)) ∙ up_to_next (prime p) (of_care p) care

-- the primes of all cares
before_all : (p : Table) → primes_before p (2 ^ p.n) 0 ≡ primes p
unfolding primes terms
before_all p = append-nil (up_to (prime p) (of_care p) (2 ^ p.n))

-- the primes of the cubes from care and value on
after : Table → ℕ → ℕ → List Term
after p care value = rest (prime p) (of_cube p care) value (2 ^ p.n) ++ rest (prime p) (of_care p) (care + 1) (2 ^ p.n)

before_after : (p : Table) (care value : ℕ) → care < 2 ^ p.n → value ≤ 2 ^ p.n → primes p ≡ primes_before p care value ++ after p care value
unfolding primes terms after
before_after p care value l h =
    let a : List Term = up_to (prime p) (of_care p) care in
    let b : List Term = up_to (prime p) (of_cube p care) value in
    let c : List Term = rest (prime p) (of_cube p care) value (2 ^ p.n) in
    let d : List Term = rest (prime p) (of_care p) (care + 1) (2 ^ p.n) in
    up_to_split (prime p) (of_care p) (care + 1) (2 ^ p.n) (omega arith)
    ∙ ap (λ (x : List Term). x ++ d) (up_to_next (prime p) (of_care p) care ∙ ap (λ (x : List Term). a ++ x) (up_to_split (prime p) (of_cube p care) value (2 ^ p.n) h) ∙ sym (append_assoc a b c))
    ∙ append_assoc (a ++ b) c d

-- ---- the array of those found

-- it has the primes of the cubes before care and value
abbrev pub Held : List ℕ → ℕ → ℕ → ℕ → List Term → ℕ → Type 0
Held t n care value ts count = (p : Table) → Numbered p n t → Filled 64 (primes_before p care value) ts count

pub held_first : (t : List ℕ) (n : ℕ) (ts : List Term) (count : ℕ) → Filled 64 [] ts count → Held t n 0 0 ts count
held_first t n ts count f p h = f

module _ (t : List ℕ) (n care : ℕ) (ts : List Term) (count : ℕ) where
  held_none : (value : ℕ) → Held t n care value ts count → PrimeOutputs t n care value None → Held t n care (value + 1) ts count
  held_none value f k p h =
      let same : primes_before p care (value + 1) ≡ primes_before p care value =
      before_next p care value ∙ ap (λ (l : List Term). primes_before p care value ++ l) (cube_none t n care value p h k) ∙ append-nil (primes_before p care value) in
      subst⁻¹ (λ (l : List Term). Filled 64 l ts count) same (f p h)

  pub held_one : (value r : ℕ) → Held t n care value ts count → PrimeOutputs t n care value (Some r) → count < 64 → Held t n care (value + 1) (set ts count (term care value r)) (count + 1)
  held_one value r f k l p h =
      let same : primes_before p care (value + 1) ≡ primes_before p care value ++ (term care value r ∷ []) =
      before_next p care value ∙ ap (λ (l : List Term). primes_before p care value ++ l) (cube_one t n care value p h r k) in
      subst⁻¹ (λ (l : List Term). Filled 64 l (set ts count (term care value r)) (count + 1)) same (filled_next 64 ts count (primes_before p care value) (term care value r) (f p h) l)

  -- values without primes
  pub held_past : (d value : ℕ) → ((w : ℕ) → value ≤ w → w < value + d → PrimeOutputs t n care w None) → Held t n care value ts count → Held t n care (value + d) ts count
  held_past zero value f x =
      let e : value ≡ value + 0 = omega arith in
      subst (λ (j : ℕ). Held t n care j ts count) e x
  held_past (suc d) value f x =
      let e : value + 1 + d ≡ value + suc d = omega arith in
      subst (λ (j : ℕ). Held t n care j ts count) e
      (held_past d (value + 1) (λ w l m. f w (omega arith) (omega arith)) (held_none value x (f value (omega arith) (omega arith))))

  pub held_care : Held t n care (2 ^ n) ts count → Held t n (care + 1) 0 ts count
  held_care f p h =
      let same : primes_before p (care + 1) 0 ≡ primes_before p care (2 ^ n) = before_care p care ∙ ap (λ (k : ℕ). primes_before p care (2 ^ k)) h.inputs in
      subst⁻¹ (λ (l : List Term). Filled 64 l ts count) same (f p h)

  -- ---- the end: all cubes are passed, or a 65th prime comes

  counted : {xs : List Term} → Filled 64 xs ts count → (length xs ≡ count) × (count ≤ 64)
  counted {xs} f =
      let l : length (take count ts) ≡ min count (length ts) = length-take count ts in
      let s : length (take count ts) ≡ length xs = ap length f.same in
      (sym f.counted, omega (arith, f.counted, f.size))

  pub held_full : (value r : ℕ) → care < 2 ^ n → value < 2 ^ n → Held t n care value ts count → PrimeOutputs t n care value (Some r)
      → count ≡ 64 → PrimesBy t n (record { terms = ts; count = count; full = true })
  held_full value r l v f k e p h =
      let before : List Term = primes_before p care value in
      let behind : List Term = (term care value r ∷ []) ++ after p care (value + 1) in
      let all : primes p ≡ before ++ behind =
      before_after p care (value + 1) (subst⁻¹ (λ (x : ℕ). care < 2 ^ x) h.inputs l) (omega (arith, subst⁻¹ (λ (x : ℕ). value < 2 ^ x) h.inputs v))
      ∙ ap (λ (x : List Term). x ++ after p care (value + 1)) (before_next p care value ∙ ap (λ (x : List Term). before ++ x) (cube_one t n care value p h r k))
      ∙ append_assoc before (term care value r ∷ []) (after p care (value + 1)) in
      let c = counted (f p h) in
      let m : length (before ++ behind) ≡ length before + length behind = length-append before behind in
      let first : take 64 (primes p) ≡ before = ap (take 64) all ∙ take-append-le 64 before behind (omega (arith, c)) ∙ take_all 64 before (omega (arith, c)) in
      record {
        stored = subst⁻¹ (λ (x : List Term). Filled 64 x ts count) first (f p h);
        more = sym (ap (λ (x : List Term). ltb 64 (length x)) all ∙ lt-ltb 64 (length (before ++ behind)) (omega (arith, c)));
      }

pub held_all : (t : List ℕ) (n : ℕ) (list : PrimeList) → list.full ≡ false → Held t n (2 ^ n) 0 list.terms list.count → PrimesBy t n list
held_all t n list o f p h =
    let same : primes_before p (2 ^ n) 0 ≡ primes p = ap (λ (k : ℕ). primes_before p (2 ^ k) 0) (sym h.inputs) ∙ before_all p in
    let g : Filled 64 (primes p) list.terms list.count = subst (λ (l : List Term). Filled 64 l list.terms list.count) same (f p h) in
    let c = counted t n 0 list.terms list.count g in
    record {
      stored = subst⁻¹ (λ (l : List Term). Filled 64 l list.terms list.count) (take_all 64 (primes p) (omega (arith, c))) g;
      more = o ∙ sym (le-ltb 64 (length (primes p)) (omega (arith, c)));
    }
