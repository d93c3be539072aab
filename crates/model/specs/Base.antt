-- Lists and bits that the other files name. Nothing here is from the paper.
use Rattle.std.specs.Prelude.{ℕ, zero, suc, ◌+◌, ◌*◌, ◌/◌, ◌%◌, ◌<◌, Bool, true, false, cond, ◌&&◌, ◌||◌, List, [], ◌∷◌, ◌++◌, eqb}

-- ---- bits

-- bit i of s, bit 0 the lowest
abbrev pub bit : ℕ → ℕ → Bool
bit zero s = eqb (s % 2) 1
bit (suc i) s = bit i (s / 2)

-- the number whose bits are f 0 to f (k - 1)
abbrev pub from_bits : (ℕ → Bool) → ℕ → ℕ
from_bits f zero = 0
from_bits f (suc k) = from_bits (λ j. f (suc j)) k * 2 + cond (f 0) 1 0

abbrev pub implies : Bool → Bool → Bool
implies true b = b
implies false b = true

-- ---- lists of numbers

-- k numbers from i on, rising
abbrev pub from : ℕ → ℕ → List ℕ
from i zero = []
from i (suc k) = i ∷ from (suc i) k

-- the numbers below k, rising
abbrev pub below : ℕ → List ℕ
below k = from 0 k

-- ---- lists of anything

module _ {A : Type 0} where
  abbrev pub non_empty : List A → Bool
  non_empty [] = false
  non_empty (x ∷ xs) = true

  abbrev pub every : (A → Bool) → List A → Bool
  every f [] = true
  every f (x ∷ xs) = let r = every f xs in f x && r

  abbrev pub some : (A → Bool) → List A → Bool
  some f [] = false
  some f (x ∷ xs) = let r = some f xs in f x || r

  abbrev pub filter : (A → Bool) → List A → List A
  filter f [] = []
  filter f (x ∷ xs) = cond (f x) (x ∷ filter f xs) (filter f xs)

  abbrev pub join : List (List A) → List A
  join [] = []
  join (x ∷ xs) = x ++ join xs

  abbrev pub sum : (A → ℕ) → List A → ℕ
  sum f [] = 0
  sum f (x ∷ xs) = f x + sum f xs

  -- the list without its entry k: those above move down by one
  abbrev pub without : ℕ → List A → List A
  without k [] = []
  without zero (x ∷ xs) = xs
  without (suc k) (x ∷ xs) = x ∷ without k xs

  -- each entry is so
  abbrev pub All : (A → Type 0) → List A → Type 0
  All P [] = Unit {0}
  All P (x ∷ xs) = P x × All P xs

  -- each entry stands so to each behind it
  abbrev pub Ordered : (A → A → Type 0) → List A → Type 0
  Ordered R [] = Unit {0}
  Ordered R (x ∷ xs) = All (R x) xs × Ordered R xs

  -- the first of one list stands so to the first of the other, and so on; as many in both (law `pointwise_length`)
  abbrev pub Pointwise : (A → A → Type 0) → List A → List A → Type 0
  Pointwise R [] [] = Unit {0}
  Pointwise R [] (y ∷ ys) = ⊥
  Pointwise R (x ∷ xs) [] = ⊥
  Pointwise R (x ∷ xs) (y ∷ ys) = R x y × Pointwise R xs ys

abbrev pub Bytes : List ℕ → Type 0
Bytes bs = All (λ b. b < 256) bs
