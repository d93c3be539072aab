-- The steps of a loop over the members of a set, which goes on without one of them. (The step from the first n to the first n + 1 is the
-- kit's `below_more`.)
use mathlib.Core.Path.{◌≡◌, sym, ◌∙◌, subst}
use mathlib.Core.Logic.{⊎_elim}
use Prim.Native.Nat.{ℕ, ◌^◌}
use native.Mathlib.Omega.{arith}
use Rattle.bits.specs.Bits.{digit, Minus}
use Rattle.bits.proofs.Digits.{eq?, digit_lt}
use Rattle.bits.proofs.Members.{not_zero, bit_here, bit_elsewhere}

-- ---- x without its member i: rest

module _ (x m i rest : ℕ) (is : m ≡ 2 ^ i) (d : Minus x m rest) where
  pub taken_gone : digit i rest ≡ 1 → ⊥
  unfolding Minus
  taken_gone q = omega (arith, d i, digit_lt i x, bit_here i m is)

  pub others_stay : (b : ℕ) → (b ≡ i → ⊥) → digit b rest ≡ digit b x
  unfolding Minus
  others_stay b n = omega (arith, d b, bit_elsewhere i m is b n)

-- ---- a loop over the members of x, which takes them out of rest one by one

-- P holds of the members of x that are no more in rest
unfoldable pub Visited : (ℕ → Type 0) → ℕ → ℕ → Type 0
Visited P x rest = (b : ℕ) → digit b x ≡ 1 → (digit b rest ≡ 1 → ⊥) → P b

pub visited_none : (P : ℕ → Type 0) (x : ℕ) → Visited P x x
unfolding Visited
visited_none P x b h n = absurd (n h)

pub visited_more : (P : ℕ → Type 0) (x rest m i rest' : ℕ) → Visited P x rest → m ≡ 2 ^ i → Minus rest m rest' → P i → Visited P x rest'
unfolding Visited
visited_more P x rest m i rest' v is d p b h n =
    ⊎_elim (λ (e : b ≡ i). subst P (sym e) p) (λ (o : b ≡ i → ⊥). v b h (λ q. n (others_stay rest m i rest' is d b o ∙ q))) (eq? b i)

pub visited_all : (P : ℕ → Type 0) (x rest : ℕ) → Visited P x rest → rest ≡ 0 → (b : ℕ) → digit b x ≡ 1 → P b
unfolding Visited
visited_all P x rest v z b h = v b h (λ q. not_zero b rest q z)
