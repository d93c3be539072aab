-- The walk over all cubes, by care, then value; the laws behind `first_prime` and `listed`.
use Prim.Native.Nat.{ℕ, suc, ◌+◌, ◌-◌, ◌*◌, ◌^◌, ◌≤◌, ◌<◌}
use native.Mathlib.Nat.{pow-suc}
use native.Mathlib.Omega.{arith}
use native.Mathlib.Decide.{dec_lt}
use mathlib.Core.Path.{◌≡◌, refl, ap, ◌∙◌, subst, subst⁻¹}
use mathlib.Core.Bool.{Bool, true, false, not}
use mathlib.Core.List.{List, []}
use lib.Dec.{T, T_not, not_T}
use lib.ListN.{set}
use Rattle.std.specs.Prelude.{Some, None}
use lib.Pow.{pow_pos, pow_mono}
use Rattle.model.specs.Base.{bit}
use Rattle.model.specs.Sets.{Within}
use Rattle.model.specs.Table.{term}
use Rattle.model.proofs.Bits.{bit_le, bit_lt, within_le}
use Rattle.model.proofs.Cubes.{set_bit, set_here, set_other}
use Rattle.bits.proofs.Digits.{digit_bit, pow_only}
use Rattle.primes.specs.declared.prime_list.Found.{Found}
use Rattle.primes.specs.declared.prime_list.PrimeList.{PrimeList}
use Rattle.table.specs.Cubes.{Cube}
use Rattle.primes.specs.Literals.{PrimeOutputs, CubePrime}
use Rattle.primes.specs.Parts.{PartOrEnd, NotLast, NextPart}
use Rattle.primes.specs.Primes.{FirstTerms, FirstFound, FirstPrime, PrimesBy}
use Rattle.table.proofs.Halves.{set_adds}
use Rattle.primes.proofs.Literals.{prime_outside}
use Rattle.primes.proofs.PrimeLists.{Held, held_first, held_one, held_past, held_care, held_all, held_full}

-- ---- care with the bit behind the last input

module _ (n size care : ℕ) (e : size ≡ 2 ^ n) (l : care < 2 ^ n) where
  off : T (not (bit n care))
  off = not_T (bit n care) (λ u. omega (arith, bit_lt n n care u l))

  with_last : set_bit n care ≡ care + size
  with_last = set_adds n care off ∙ omega arith

  -- the parts of care are its parts below 2^n
  to_last : (w : ℕ) → Within w care → Within w (care + size)
  to_last w q = subst (Within w) with_last (λ j u.
      subst⁻¹ (λ (b : Bool). T b) (set_other n j care (λ z. T_not (bit n care) off (subst (λ (x : ℕ). T (bit x care)) z (q j u)))) (q j u))

  from_last : (w : ℕ) → w < 2 ^ n → Within w (care + size) → Within w care
  from_last w s q j u =
      let b : j < n = bit_lt j n w u s in
      subst (λ (b : Bool). T b) (set_other n j care (λ z. omega arith)) (subst⁻¹ (λ (x : ℕ). T (bit j x)) with_last (q j u))

  -- and 2^n is one
  end_part : Within size (care + size)
  end_part = subst (Within size) with_last (λ j u.
      let z : j ≡ n = pow_only j n ((digit_bit j (2 ^ n)).0 (subst (λ (x : ℕ). T (bit j x)) e u)) in
      subst⁻¹ (λ (x : ℕ). T (bit x (set_bit n care))) z (set_here n care))

  pub not_last : (free value : ℕ) → free ≡ size - 1 - care → value < size → Within value care → NotLast (care + size) free value
  not_last free value f s q = record { bound = (suc n, omega (arith, pow-suc 2 n)); part = to_last value q; more = omega arith }

  -- ---- the part behind one

  module _ (value r : ℕ) (s : value < size) (q : NextPart (care + size) value r) where
    next_le : r ≤ size
    next_le = q.next size end_part s

    next_or_end : PartOrEnd n care r
    next_or_end = record { at_most = omega (arith, next_le); part = λ s. from_last r s q.part }

    -- between them is none
    none_between : (t : List ℕ) (w : ℕ) → value + 1 ≤ w → w < r → PrimeOutputs t n care w None
    none_between t w c m = prime_outside t n care w (λ z. omega (arith, q.next w (to_last w z) (omega arith)))

-- ---- the primes of one care

-- no value from the first one up to the next has a prime
pub record Passed (t : List ℕ) (n care value next : ℕ) : Type 0 where
  pub place : PartOrEnd n care next
  pub above : value ≤ next
  pub none : (w : ℕ) → value ≤ w → w < next → PrimeOutputs t n care w None

module _ (t : List ℕ) (n care value : ℕ) where
  pub passed_first : PartOrEnd n care value → Passed t n care value value
  passed_first k = record { place = k; above = omega arith; none = λ w a b. absurd (omega arith) }

  module _ (size next : ℕ) (e : size ≡ 2 ^ n) (l : care < 2 ^ n) (h : Passed t n care value next) where
    module _ (i : n ≤ 8) (s : next < size) where
      here : Cube n care next
      here = record { inputs = i; care_lt = l; value_in = h.place.part (omega arith) }

      pub passed_eight : Cube 8 care next
      passed_eight = record { inputs = omega arith; care_lt = omega (arith, pow_mono i); value_in = here.value_in }

      pub passed_found : (r : ℕ) → CubePrime t care next (Some r) → FirstPrime t n care value (Some (record { value = next; outputs = r }))
      passed_found r o = record { above = h.above; none = h.none; here = o n here; cube = here }

      module _ (o : CubePrime t care next None) where
        pub passed_next : (next' : ℕ) → NextPart (care + size) next next' → Passed t n care value next'
        passed_next next' q = record { place = next_or_end n size care e l next next' s q; above = omega (arith, h.above, q.above); none = λ w a b. go w a b (dec_lt w next) (dec_lt next w) }
          where
            go : (w : ℕ) → value ≤ w → w < next' → Dec (w < next) → Dec (next < w) → PrimeOutputs t n care w None
            go w a b (yes c) d = h.none w a c
            go w a b (no c) (yes d) = none_between n size care e l next next' s q t w (omega arith) b
            go w a b (no c) (no d) =
                let f : next ≡ w = omega arith in
                subst (λ (x : ℕ). PrimeOutputs t n care x None) f (o n here)

    pub passed_all : size ≤ next → FirstPrime t n care value None
    passed_all s w a b = h.none w a (omega arith)

-- ---- all cares

-- all cubes before care and value are passed, and the list has their primes, at most 64
pub record Walked (t : List ℕ) (n size care value : ℕ) (list : PrimeList) : Type 0 where
  pub cares : care ≤ size
  pub place : PartOrEnd n care value
  pub end : size ≤ care → value ≡ 0
  pub room : list.count ≤ 64
  pub not_full : list.full ≡ false
  pub held : Held t n care value list.terms list.count

none_within : (n care : ℕ) → PartOrEnd n care 0
none_within n care = record { at_most = omega arith; part = λ s i u. absurd (omega (arith, bit_le i 0 u, pow_pos i)) }

pub walked_first : (t : List ℕ) (n size : ℕ) (list : PrimeList) → FirstTerms [] list → Walked t n size 0 0 list
walked_first t n size list f = record {
  cares = omega arith;
  place = none_within n 0;
  end = λ d. refl;
  room = omega (arith, f.stored.counted);
  not_full = f.more;
  held = held_first t n list.terms list.count f.stored;
}

module _ (t : List ℕ) (n size care value : ℕ) (list : PrimeList) (e : size ≡ 2 ^ n) (w : Walked t n size care value list) where
  pub walked_all : size ≤ care → PrimesBy t n list
  walked_all l =
      let c : care ≡ 2 ^ n = omega (arith, w.cares) in
      held_all t n list w.not_full (subst (λ (x : ℕ). Held t n x 0 list.terms list.count) c (subst (λ (x : ℕ). Held t n care x list.terms list.count) (w.end l) w.held))

  -- values without primes are passed
  held_to : (k : ℕ) → value ≤ k → ((x : ℕ) → value ≤ x → x < k → PrimeOutputs t n care x None) → Held t n care k list.terms list.count
  held_to k a f =
      let d : value + (k - value) ≡ k = omega arith in
      subst (λ (j : ℕ). Held t n care j list.terms list.count) d
      (held_past t n care list.terms list.count (k - value) value (λ x b c. f x b (omega arith)) w.held)

  module _ (l : care < size) where
    care_lt : care < 2 ^ n
    care_lt = omega arith

    -- what is left to pass, by cares
    left : (size - care) * (size + 1) ≡ (size - (care + 1)) * (size + 1) + (size + 1)
    left =
        let d : size - care ≡ suc (size - (care + 1)) = omega arith in
        ap (λ (x : ℕ). x * (size + 1)) d ∙ omega arith

    -- no prime is left of this care
    pub walked_care : FirstPrime t n care value None → Walked t n size (care + 1) 0 list
    walked_care f = record {
      cares = omega arith;
      place = none_within n (care + 1);
      end = λ x. refl;
      room = w.room;
      not_full = w.not_full;
      held = held_care t n care list.terms list.count (held_to (2 ^ n) w.place.at_most f);
    }

    pub less_care : (size - (care + 1)) * (size + 1) - 0 < (size - care) * (size + 1) - value
    less_care = omega (arith, left, w.place.at_most)

    module _ (r : Found) (f : FirstFound t n care value r) where
      held_there : Held t n care r.value list.terms list.count
      held_there = held_to r.value f.above f.none

      pub found_lt : r.value < size
      found_lt = omega (arith, within_le r.value care f.cube.value_in)

      -- a 65th
      pub walked_full : list.count ≡ 64 → PrimesBy t n (record { terms = list.terms; count = list.count; full = true })
      walked_full g = held_full t n care list.terms list.count r.value r.outputs care_lt (omega (arith, found_lt)) held_there f.here g

      pub found_not_last : NotLast (care + size) (size - 1 - care) r.value
      found_not_last = not_last n size care e care_lt (size - 1 - care) r.value refl found_lt f.cube.value_in

      module _ (next : ℕ) (q : NextPart (care + size) r.value next) where
        with_found : PrimeList
        with_found = record { terms = set list.terms list.count (term care r.value r.outputs); count = list.count + 1; full = list.full }

        pub walked_next : (list.count ≡ 64 → ⊥)
            → Walked t n size care next (record { terms = set list.terms list.count (term care r.value r.outputs); count = list.count + 1; full = list.full })
        unfolding with_found
        walked_next g = record {
          cares = w.cares;
          place = next_or_end n size care e care_lt r.value next found_lt q;
          end = λ x. absurd (omega arith);
          room = omega (arith, w.room);
          not_full = w.not_full;
          held = subst (λ (j : ℕ). Held t n care j with_found.terms with_found.count) sum
              (held_past t n care with_found.terms with_found.count (next - (r.value + 1)) (r.value + 1)
              (λ x a b. none_between n size care e care_lt r.value next found_lt q t x a (omega arith)) one);
        }
          where
            sum : r.value + 1 + (next - (r.value + 1)) ≡ next
            sum = omega (arith, q.above)

            one : Held t n care (r.value + 1) (set list.terms list.count (term care r.value r.outputs)) (list.count + 1)
            one = held_one t n care list.terms list.count r.value r.outputs held_there f.here (omega (arith, w.room))

        pub less_next : (size - care) * (size + 1) - next < (size - care) * (size + 1) - value
        less_next = omega (arith, f.above, q.above, next_le n size care e care_lt r.value next found_lt q, left)
