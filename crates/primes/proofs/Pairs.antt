-- The block of one input; the laws behind `fill_pair`.
use Prim.Native.Nat.{ℕ, ◌+◌, ◌*◌, ◌^◌, ◌≤◌, ◌<◌}
use native.Mathlib.Omega.{arith}
use mathlib.Core.Path.{◌≡◌, refl, sym, ap, ap₂, ◌∙◌, subst, subst⁻¹}
use mathlib.Core.List.{List}
use lib.Bits.{bit_and}
use lib.ListN.{length, get_or, set, length-set}
use lib.Seq.{get_or-set_same, get_or-set_other}
use Rattle.primes.specs.Blocks.{ClearBelow, Joined, FilledBlock}
use Rattle.primes.proofs.BaseThree.{spread_power}
use Rattle.primes.proofs.Blocks.{one_entry, split, blocks}

pub fits_set : (t : List ℕ) (i x k : ℕ) → k < length t → k < length (set t i x)
fits_set t i x k l = omega (arith, length-set t i x)

pub fits_twice : (t : List ℕ) (i x j y k : ℕ) → k < length t → k < length (set (set t i x) j y)
fits_twice t i x j y k l = fits_set (set t i x) j y k (fits_set t i x k l)

module _ (may t : List ℕ) (value at : ℕ) (clear : ClearBelow 1 value) (fits : at + 3 ≤ length t) where
  low : ℕ
  low = get_or may value 0

  high : ℕ
  high = get_or may (value + 1) 0

  first : List ℕ
  first = set t (at + 1) low

  second : List ℕ
  second = set first (at + 2) high

  both : List ℕ
  both = set second at (bit_and low high)

  first_filled : FilledBlock may 0 value (at + 1) t first
  unfolding low first
  first_filled = one_entry may t 0 value (at + 1) refl (omega arith)

  second_filled : FilledBlock may 0 (value + 1) (at + 2) first second
  unfolding high second
  second_filled = one_entry may first 0 (value + 1) (at + 2) refl (omega (arith, first_filled.beside.size))

  low_there : get_or second (at + 1) 0 ≡ low
  unfolding first
  low_there = second_filled.beside.low (at + 1) (omega arith) ∙ get_or-set_same t (at + 1) low 0 (omega arith)

  high_there : get_or second (at + 2) 0 ≡ high
  unfolding second
  high_there = get_or-set_same first (at + 2) high 0 (omega (arith, first_filled.beside.size))

  both_joined : Joined second at 1 both
  unfolding both
  both_joined = record {
    beside = record {
      size = length-set second at (bit_and low high);
      low = λ k b. get_or-set_other second at k (bit_and low high) 0 (λ q. omega arith);
      high = λ k b. get_or-set_other second at k (bit_and low high) 0 (λ q. omega arith);
    };
    both = λ x l. joined x (omega arith);
  }
    where
      joined : (x : ℕ) → x ≡ 0 → get_or (set second at (bit_and low high)) (at + x) 0 ≡ bit_and (get_or second (at + 1 + x) 0) (get_or second (at + 2 * 1 + x) 0)
      joined x z =
          let a : at + x ≡ at = omega arith in
          let b : at + 1 + x ≡ at + 1 = omega arith in
          let c : at + 2 * 1 + x ≡ at + 2 = omega arith in
          ap (λ (y : ℕ). get_or (set second at (bit_and low high)) y 0) a
          ∙ get_or-set_same second at (bit_and low high) 0 (omega (arith, second_filled.beside.size, first_filled.beside.size))
          ∙ sym (ap₂ bit_and (ap (λ (y : ℕ). get_or second y 0) b ∙ low_there) (ap (λ (y : ℕ). get_or second y 0) c ∙ high_there))

  pub pair_filled : FilledBlock may 1 value at t (set (set (set t (at + 1) (get_or may value 0)) (at + 2) (get_or may (value + 1) 0)) at (bit_and (get_or may value 0) (get_or may (value + 1) 0)))
  unfolding low high first second both
  pair_filled =
      let two : at + 2 ≡ at + 1 + 1 = omega arith in
      blocks 1 1 1 (split 1 1 1 (omega arith) (λ e. omega arith) refl (sym (spread_power 0 (omega arith)))) value clear at may t first second both first_filled
      (subst (λ (x : ℕ). FilledBlock may 0 (value + 1) x first second) two second_filled) both_joined

-- what filling it asks, and what it gives
pub one_input : (i value at m : ℕ) → i ≡ 1 → (i ≤ 8) × (value + 2 ^ i ≤ 256) × ClearBelow i value × (at + 3 ^ i ≤ m) → (value + 2 ≤ 256) × ClearBelow 1 value × (at + 3 ≤ m)
one_input i value at m e h = (
  omega (arith, h.1, ap (λ (x : ℕ). 2 ^ x) e),
  subst (λ (x : ℕ). ClearBelow x value) e h.2,
  omega (arith, h.3, ap (λ (x : ℕ). 3 ^ x) e),
)

pub pair_block : (may old new : List ℕ) (i value at : ℕ) → i ≡ 1 → FilledBlock may 1 value at old new → FilledBlock may i value at old new
pair_block may old new i value at e h = subst⁻¹ (λ (x : ℕ). FilledBlock may x value at old new) e h
