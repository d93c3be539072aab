-- Costs that are multiples of a unit: their greatest common divisor is one, and a limit between two multiples can be lowered to the lower one.
use Rattle.std.proofs.Common.{◌≡◌, refl, ap, sym, subst, ◌∙◌, List, [], ◌∷◌, ℕ, suc, ◌+◌, ◌-◌, ◌*◌, ◌/◌, ◌%◌, ◌≤◌, ◌<◌, max, add-mul, one-mul, div-add-mod', mod-lt, mul-le-mul_right, arith, below_more, length, get_or}
use Prim.Native.Nat.{◌∣◌}
use native.Mathlib.Nat.{mul-mod_left, dvd_refl, dvd-zero, dvd_trans, dvd-add}
use native.Mathlib.Nat.{dvd-mul_left_of_dvd, dvd-mod_iff, dvd_of_mod-eq-zero, div-mul_cancel, one-dvd, eq-zero_of_zero-dvd}
use native.Mathlib.Decide.{dec_le, dec_lt}
use Rattle.cheapest_bounds.specs.Costs.{cost_of}
use Rattle.cheapest_bounds.specs.Units.{Multiple, Measures, GreatestDivisor, CommonDivisor, GreatestUnit, LimitBelow}

-- ---- multiples are what the library's divisibility says

to_dvd : (u c : ℕ) → Multiple u c → u ∣ c
unfolding Multiple
to_dvd u c m = dvd_of_mod-eq-zero u (ap (λ (x : ℕ). x % u) m.1 ∙ mul-mod_left m.0 u)

of_dvd : (u c : ℕ) → u ∣ c → Multiple u c
unfolding Multiple
of_dvd u c d = (c / u, sym (div-mul_cancel u d))

multiple_zero : (u c : ℕ) → c ≡ 0 → Multiple u c
multiple_zero u c z = of_dvd u c (subst (λ (x : ℕ). u ∣ x) (sym z) (dvd-zero u))

pub multiple_one : (u c : ℕ) → u ≡ 1 → Multiple u c
multiple_one u c e = of_dvd u c (subst (λ (x : ℕ). x ∣ c) (sym e) (one-dvd c))

zero_of : (u c : ℕ) → u ≡ 0 → Multiple u c → c ≡ 0
zero_of u c z m = eq-zero_of_zero-dvd (subst (λ (x : ℕ). x ∣ c) z (to_dvd u c m))

-- ---- Euclid's algorithm

-- x and y have the common divisors of a and b
pub record SameDivisors (a b x y : ℕ) : Type 0 where
  pub into : (d : ℕ) → Multiple d a → Multiple d b → Multiple d x × Multiple d y
  pub back : (d : ℕ) → Multiple d x → Multiple d y → Multiple d a × Multiple d b

pub same_start : (a b : ℕ) → SameDivisors a b a b
same_start a b = record { into = λ d m n. (m, n); back = λ d m n. (m, n) }

pub same_step : {a b x y : ℕ} → SameDivisors a b x y → SameDivisors a b y (x % y)
same_step {a} {b} {x} {y} h = record {
  into = λ d m n.
      let p : Multiple d x × Multiple d y = h.into d m n in
      (p.1, of_dvd d (x % y) ((dvd-mod_iff d (to_dvd d y p.1)).1 (to_dvd d x p.0)));
  back = λ d m n. h.back d (of_dvd d x ((dvd-mod_iff d (to_dvd d y m)).0 (to_dvd d (x % y) n))) m;
}

pub same_end : {a b x y : ℕ} → SameDivisors a b x y → y ≡ 0 → GreatestDivisor a b x
same_end {a} {b} {x} {y} h z =
    let both : Multiple x a × Multiple x b = h.back x (of_dvd x x (dvd_refl x)) (multiple_zero x y z) in
    record { left = both.0; right = both.1; greatest = λ d m n. (h.into d m n).0 }

-- ---- the divisor of the first n costs

-- each of the first n costs is a multiple of u
unfoldable Measured : List ℕ → ℕ → ℕ → Type 0
Measured costs n u = (k : ℕ) → k < n → Multiple u (get_or costs k 0)

-- u is the greatest common divisor of the first n costs
pub record Folded (costs : List ℕ) (n u : ℕ) : Type 0 where
  divides : Measured costs n u
  greatest : (d : ℕ) → Measured costs n d → Multiple d u

pub folded_none : (costs : List ℕ) (u : ℕ) → u ≡ 0 → Folded costs 0 u
unfolding Measured
folded_none costs u z = record { divides = λ k lt. absurd (omega arith); greatest = λ d h. multiple_zero d u z }

pub folded_more : {costs : List ℕ} {n u c v : ℕ} → Folded costs n u → c ≡ get_or costs n 0 → GreatestDivisor c u v → Folded costs (n + 1) v
unfolding Measured
folded_more {costs} {n} {u} {c} {v} h is divisor = let g : GreatestDivisor (get_or costs n 0) u v = subst (λ (x : ℕ). GreatestDivisor x u v) is divisor in record {
  divides = below_more (λ k. Multiple v (get_or costs k 0)) n
      (λ k lt. of_dvd v (get_or costs k 0) (dvd_trans v (to_dvd v u g.right) (to_dvd u (get_or costs k 0) (h.divides k lt)))) g.left;
  greatest = λ d m. g.greatest d (m n (omega arith)) (h.greatest d (λ k lt. m k (omega arith)));
}

pub folded_all : {costs : List ℕ} {n u : ℕ} → Folded costs n u → n ≡ length costs → CommonDivisor costs u
unfolding Measured Measures
folded_all h e = record { divides = λ k lt. h.divides k (omega arith); greatest = λ d m. h.greatest d (λ k lt. m k (omega arith)) }

pub folded_one : {costs : List ℕ} {n u : ℕ} → Folded costs n u → n ≤ length costs → u ≡ 1 → CommonDivisor costs u
unfolding Measured Measures
folded_one {costs} {n} {u} h le e = record {
  divides = λ k lt. multiple_one u (get_or costs k 0) e;
  greatest = λ d m. h.greatest d (λ k lt. m k (omega arith));
}

-- ---- the unit

-- where each cost is a multiple of u, the cost of each set is one
pub whole : (costs : List ℕ) (u : ℕ) → Measures costs u → (t : ℕ) → Multiple u (cost_of costs t)
unfolding Measures cost_of
whole [] u h t = multiple_zero u 0 refl
whole (w ∷ ws) u h t = of_dvd u (t % 2 * w + cost_of ws (t / 2)) (dvd-add u (dvd-mul_left_of_dvd u (to_dvd u w (h 0 (omega arith))) (t % 2))
    (to_dvd u (cost_of ws (t / 2)) (whole ws u (λ k lt. h (suc k) (omega arith)) (t / 2))))

unit_free : {costs : List ℕ} {u : ℕ} → CommonDivisor costs u → u ≡ 0 → GreatestUnit costs 1
unfolding Measures
unit_free {costs} {u} h z = record {
  unit = record { positive = omega arith; whole = λ t. multiple_one 1 (cost_of costs t) refl };
  free = λ none. refl;
  greatest = λ k lt some d m. absurd (omega (arith, zero_of u (get_or costs k 0) z (h.divides k lt)));
}

unit_greatest : {costs : List ℕ} {u : ℕ} → CommonDivisor costs u → (u ≡ 0 → ⊥) → GreatestUnit costs u
unfolding Measures
unit_greatest {costs} {u} h some = record {
  unit = record { positive = omega arith; whole = whole costs u h.divides };
  free = λ none. absurd (some (zero_of 0 u refl (h.greatest 0 (λ k lt. multiple_zero 0 (get_or costs k 0) (none k lt)))));
  greatest = λ k lt more d m. h.greatest d m;
}

pub unit_of : {costs : List ℕ} {u r : ℕ} → CommonDivisor costs u → r ≡ max u 1 → GreatestUnit costs r
unit_of {costs} {u} {r} h e = elim (dec_lt 0 u) [
  | yes some ↦ subst (GreatestUnit costs) (omega arith) (unit_greatest h (λ z. omega arith))
  | no none ↦ subst (GreatestUnit costs) (omega arith) (unit_free h (omega arith))
]

-- ---- the limit

pub limit_zero : (cost u : ℕ) → cost ≡ 0 → LimitBelow cost u 0
limit_zero cost u z = record { near = omega arith; kept = λ c m lt. absurd (omega arith) }

module _ (cost u : ℕ) (pos : 0 < u) (some : cost ≡ 0 → ⊥) where
  k : ℕ
  k = cost - 1

  split : k / u * u + k % u ≡ k
  split = div-add-mod' k u

  pub limit_small : (cost - 1) / u * u ≤ cost - 1
  unfolding k
  limit_small = omega (arith, split)

  pub limit_is : LimitBelow cost u ((cost - 1) / u * u + 1)
  unfolding k Multiple
  limit_is = record {
    near = omega (arith, limit_small);
    kept = λ c m lt. elim (dec_le m.0 (k / u)) [
      | yes le ↦ let s : m.0 * u ≤ k / u * u = mul-le-mul_right u le in omega (arith, m.1)
      | no gt ↦
          let le : k / u + 1 ≤ m.0 = omega arith in
          let s : (k / u + 1) * u ≤ m.0 * u = mul-le-mul_right u le in
          absurd (omega (arith, m.1, add-mul (k / u) 1 u, one-mul u, split, mod-lt k pos))
    ];
  }
