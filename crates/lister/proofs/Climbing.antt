-- The climb from a number: with each bit, the range above it that has been searched grows to the next multiple of the bit.
use Rattle.std.proofs.Common.{Option, None, Some, ◌≡◌, sym, ap, ◌∙◌, subst, List, ℕ, ◌+◌, ◌-◌, ◌*◌, ◌/◌, ◌%◌, ◌^◌, ◌≤◌, ◌<◌, div-one, mul_assoc, add-mul, mul-le-mul_right, mod-lt, arith, bit_and, pow_pos, pow_mono, pow-add, shr_lt, shr-shr}
use Rattle.std.proofs.lemmas.Nat.{and_mask}
use Rattle.std.proofs.Math.Nat.{div-eq_of_lt, add-mod_right, mul-mod_left}
use Rattle.std.proofs.Math.Pow.{split}
use Rattle.bits.specs.Bits.{digit}
use Rattle.rows.specs.Covers.{IrredundantCover, Node}
use Rattle.lister_narrowing.specs.Narrowing.{NoneBetween}
use Rattle.lister.specs.Levels.{top, PossibleLevels}
use Rattle.lister.specs.Lister.{Among, LeastIn}
use Rattle.bits.proofs.Members.{has_bit, lacks_bit}
use Rattle.lister.proofs.Tree.{in_first, in_second}

pub top_le : (at i n : ℕ) → i ≤ n → at < 2 ^ n → top at i ≤ 2 ^ n
unfolding top
top_le at i n p lt =
    let f : n ≡ n - i + i = omega arith in
    let q : at / 2 ^ i < 2 ^ (n - i) = shr_lt (n - i) i (subst (λ (k : ℕ). at < 2 ^ k) f lt) in
    let r : (at / 2 ^ i + 1) * 2 ^ i ≤ 2 ^ (n - i) * 2 ^ i = mul-le-mul_right (2 ^ i) (omega arith) in
    let a : (at / 2 ^ i + 1) * 2 ^ i ≡ at / 2 ^ i * 2 ^ i + 1 * 2 ^ i = add-mul (at / 2 ^ i) 1 (2 ^ i) in
    let e : 2 ^ n ≡ 2 ^ (n - i) * 2 ^ i = ap (λ (k : ℕ). 2 ^ k) f ∙ pow-add 2 (n - i) i in
    omega arith

-- the next multiple of the double, by the bit of at
module _ (at i : ℕ) where
  twice : 2 ^ (i + 1) ≡ 2 * 2 ^ i
  twice = omega (arith, pow-add 2 i 1)

  next : at / 2 ^ (i + 1) * 2 ^ (i + 1) ≡ at / 2 ^ i / 2 * 2 * 2 ^ i
  next =
      ap (λ (k : ℕ). k * 2 ^ (i + 1)) (sym (shr-shr at i 1)) ∙ ap (λ (k : ℕ). at / 2 ^ i / 2 * k) twice ∙ sym (mul_assoc (at / 2 ^ i / 2) 2 (2 ^ i))

  pub top_zero : digit i at ≡ 0 → top at (i + 1) ≡ top at i + 2 ^ i
  unfolding top digit
  top_zero z =
      let q : at / 2 ^ i / 2 * 2 ≡ at / 2 ^ i = omega arith in
      omega (arith, next, ap (λ (k : ℕ). k * 2 ^ i) q, twice)

  top_one : digit i at ≡ 1 → top at (i + 1) ≡ top at i
  unfolding top digit
  top_one o =
      let q : at / 2 ^ i ≡ at / 2 ^ i / 2 * 2 + 1 = omega arith in
      omega (arith, next, ap (λ (k : ℕ). k * 2 ^ i) q, add-mul (at / 2 ^ i / 2 * 2) 1 (2 ^ i), twice)

-- where the climb from at stands: nothing is found below the top
pub record Climbed (rows : List ℕ) (n at i : ℕ) : Type 0 where
  pub below : at < 2 ^ n
  pub none : LeastIn rows at (top at i) None

pub out_of_range : (rows : List ℕ) (n at all : ℕ) → all ≡ 2 ^ n - 1 → all < at → LeastIn rows at (2 ^ n) None
unfolding LeastIn Among
out_of_range rows n at all e lt y a = omega (arith, a.0, a.1)

pub at_once : (rows : List ℕ) (n at all : ℕ) → all ≡ 2 ^ n - 1 → at ≤ all → IrredundantCover rows at → LeastIn rows at (2 ^ n) (Some at)
unfolding LeastIn Among
at_once rows n at all e le f = ((omega arith, omega (arith, pow_pos n), f), λ y a. a.0)

pub climbed_none : (rows : List ℕ) (n at all : ℕ) → all ≡ 2 ^ n - 1 → at ≤ all → (IrredundantCover rows at → ⊥) → Climbed rows n at 0
unfolding LeastIn Among top
climbed_none rows n at all e le f = record {
  below = omega (arith, pow_pos n);
  none = λ y a.
      let q : y ≡ at = omega (arith, a.0, a.1, div-one at) in
      f (subst (IrredundantCover rows) q a.2);
}

module _ (rows : List ℕ) (n at i : ℕ) (c : Climbed rows n at i) (lt : i < n) (m : ℕ) (e : m ≡ 2 ^ i) where
  -- the range that the bit starts begins at the top
  starts : (s : ℕ) → s ≡ at - bit_and at (m - 1) + m → s ≡ top at i
  unfolding top
  starts s f =
      let b : bit_and at (m - 1) ≡ at % 2 ^ i = ap (λ (k : ℕ). bit_and at (k - 1)) e ∙ and_mask at i in
      omega (arith, split at i)

  pub climbed_one : (bit_and at m ≡ 0 → ⊥) → Climbed rows n at (i + 1)
  climbed_one d = record {
    below = c.below;
    none = subst (λ (k : ℕ). LeastIn rows at k None) (sym (top_one at i (has_bit i m e at d))) c.none;
  }

  module _ (z : bit_and at m ≡ 0) where
    after : top at i + 2 ^ i ≤ 2 ^ n
    after = omega (arith, top_zero at i (lacks_bit i m e at z), top_le at (i + 1) n (omega arith) c.below)

    from_at : at ≤ top at i
    unfolding top
    from_at = omega (arith, split at i, mod-lt at (pow_pos i))

    pub climb_node : (s : ℕ) → n ≤ 64 → s ≡ at - bit_and at (m - 1) + m → Node i s
    unfolding top
    climb_node s l f = record {
      small = omega arith;
      aligned = ap (λ (k : ℕ). k % 2 ^ i) (starts s f) ∙ add-mod_right (at / 2 ^ i * 2 ^ i) (2 ^ i) ∙ mul-mod_left (at / 2 ^ i) (2 ^ i);
      room = omega (arith, starts s f, after, pow_mono l);
    }

    -- a range without possible
    pub impossible_level : (possible s : ℕ) → PossibleLevels rows at possible → s ≡ at - bit_and at (m - 1) + m → bit_and possible m ≡ 0
        → NoneBetween rows s (m - 1)
    unfolding PossibleLevels
    impossible_level possible s h f w =
        let r : NoneBetween rows (top at i) (2 ^ i - 1) = h i (lacks_bit i m e at z) (lacks_bit i m e possible w) in
        subst (λ (k : ℕ). NoneBetween rows k (m - 1)) (sym (starts s f)) (subst (λ (k : ℕ). NoneBetween rows (top at i) (k - 1)) (sym e) r)

    module _ (s : ℕ) (f : s ≡ at - bit_and at (m - 1) + m) where
      here : (r : Option ℕ) → LeastIn rows s (s + 2 ^ i) r → LeastIn rows at (top at i + 2 ^ i) r
      here r h = in_second rows at (top at i) (top at i + 2 ^ i) r from_at c.none (subst (λ (k : ℕ). LeastIn rows k (k + 2 ^ i) r) (starts s f) h)

      pub climbed_zero : LeastIn rows s (s + 2 ^ i) None → Climbed rows n at (i + 1)
      climbed_zero h = record {
        below = c.below;
        none = subst (λ (k : ℕ). LeastIn rows at k None) (sym (top_zero at i (lacks_bit i m e at z))) (here None h);
      }

      pub climbed_found : (x : ℕ) → LeastIn rows s (s + 2 ^ i) (Some x) → LeastIn rows at (2 ^ n) (Some x)
      climbed_found x h = in_first rows at (top at i + 2 ^ i) (2 ^ n) x after (here (Some x) h)

pub climbed_all : (rows : List ℕ) (n at i : ℕ) → Climbed rows n at i → i ≡ n → LeastIn rows at (2 ^ n) None
unfolding top
climbed_all rows n at i c e =
    let z : at / 2 ^ n ≡ 0 = div-eq_of_lt c.below in
    let h : LeastIn rows at (at / 2 ^ n * 2 ^ n + 2 ^ n) None = subst (λ (k : ℕ). LeastIn rows at (at / 2 ^ k * 2 ^ k + 2 ^ k) None) e c.none in
    let f : at / 2 ^ n * 2 ^ n + 2 ^ n ≡ 2 ^ n = omega (arith, ap (λ (k : ℕ). k * 2 ^ n) z) in
    subst (λ (k : ℕ). LeastIn rows at k None) f h
