-- The entries above a gap, moved down by one.
use Rattle.std.proofs.Common.{◌≡◌, ℕ, zero, suc, ◌+◌, ◌-◌, ◌≤◌, ◌<◌, List, [], ◌∷◌, ◌++◌, length, take, drop, ap, sym, arith, add-one}
use Rattle.std.proofs.Math.Seq.{paste}
use Rattle.model.specs.Base.{without}
use Rattle.problem.specs.Problems.{entries_without}

module _ {A : Type 0} where
  without_parts : (k count : ℕ) (xs : List A) → k < count → count ≤ length xs → without k (take count xs) ≡ take k xs ++ take (count - suc k) (drop (suc k) xs)
  without_parts k zero xs l m = absurd (omega arith)
  without_parts k (suc c) [] l m = absurd (omega arith)
  without_parts zero (suc c) (x ∷ xs) l m = let e : c ≡ suc c - 1 = omega arith in ap (λ (n : ℕ). take n xs) e
  without_parts (suc k) (suc c) (x ∷ xs) l m =
      let e : suc c - suc (suc k) ≡ c - suc k = omega arith in
      rw e (ap (λ (r : List A). x ∷ r) (without_parts k c xs (omega arith) (omega arith)))

  pub moved_down : (xs : List A) (count k : ℕ) → k < count → count ≤ length xs → paste xs k (drop (k + 1) xs) (count - (k + 1)) ≡ entries_without k count xs
  unfolding entries_without
  moved_down xs count k l m =
      let last : k + (count - (k + 1)) ≡ count - 1 = omega arith in
      rw (last, add-one k) (ap (λ (r : List A). r ++ drop (count - 1) xs) (sym (without_parts k count xs l m)))
