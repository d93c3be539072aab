-- The constant table: its rule, tested over all entries by one computation, holds at each entry.
use Prim.Native.Nat.{ℕ, zero, suc, ◌+◌, ◌<◌}
use native.Mathlib.Omega.{arith}
use mathlib.Core.Path.{◌≡◌, subst}
use mathlib.Core.Bool.{Bool, true, ◌&&◌}
use mathlib.Core.List.{List, [], ◌∷◌}
use lib.Dec.{T, eqb, eqb→eq}
use lib.ListN.{length, get_or}
use Rattle.model.proofs.Lists.{and_l, and_r}
use Rattle.model.specs.Numbers.{spread}
use Rattle.primes.specs.Numbers.{Spreads}

-- the test f passes at each entry of a list and its place, counted from i
abbrev pub all_from : (ℕ → ℕ → Bool) → ℕ → List ℕ → Bool
all_from f i [] = true
all_from f i (x ∷ xs) = f i x && all_from f (suc i) xs

entry_from : (f : ℕ → ℕ → Bool) (xs : List ℕ) (i : ℕ) → T (all_from f i xs) → (k : ℕ) → k < length xs → T (f (i + k) (get_or xs k 0))
entry_from f [] i t k l = absurd (omega arith)
entry_from f (x ∷ xs) i t zero l =
    let e : i ≡ i + 0 = omega arith in
    subst (λ (m : ℕ). T (f m x)) e (and_l (f i x) (all_from f (suc i) xs) t)
entry_from f (x ∷ xs) i t (suc k) l =
    let e : suc i + k ≡ i + suc k = omega arith in
    subst (λ (m : ℕ). T (f m (get_or xs k 0))) e (entry_from f xs (suc i) (and_r (f i x) (all_from f (suc i) xs) t) k (omega arith))

-- the sum of 3^i over the ones of each place
unfoldable pub is_spread : ℕ → ℕ → Bool
is_spread b x = eqb x (spread b)

unfoldable pub spreads_tested : List ℕ → Bool
spreads_tested xs = eqb (length xs) 256 && all_from is_spread 0 xs

pub spreads_right : (xs : List ℕ) → T (spreads_tested xs) → Spreads xs
unfolding spreads_tested is_spread
spreads_right xs t = record { entries = at }
  where
    size : length xs ≡ 256
    size = eqb→eq (length xs) 256 (and_l (eqb (length xs) 256) (all_from is_spread 0 xs) t)

    at : (b : ℕ) → b < 256 → get_or xs b 0 ≡ spread b
    at b l =
        let e : 0 + b ≡ b = omega arith in
        let u : T (is_spread (0 + b) (get_or xs b 0)) = entry_from is_spread xs 0 (and_r (eqb (length xs) 256) (all_from is_spread 0 xs) t) b (omega (arith, size)) in
        eqb→eq (get_or xs b 0) (spread b) (subst (λ (m : ℕ). T (is_spread m (get_or xs b 0))) e u)
