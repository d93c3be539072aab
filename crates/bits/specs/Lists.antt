-- Lists in arrays, and lists by parts. Nothing here is from the paper.
use Rattle.std.specs.Prelude.{ℕ, ◌≡◌, Bool, List, map, length, take}
use Rattle.model.specs.Base.{below, filter, join}

module _ {A : Type 0} where
  -- the first count entries of an array of cap entries are xs
  pub record Filled (cap : ℕ) (xs array : List A) (count : ℕ) : Type 0 where
    pub size : length array ≡ cap
    pub counted : count ≡ length xs
    pub same : take count array ≡ xs

  -- part 0 to part k - 1 as one list
  abbrev pub parts : (ℕ → List A) → ℕ → List A
  parts part k = join (map part (below k))

  -- what passes f in them
  abbrev pub up_to : (A → Bool) → (ℕ → List A) → ℕ → List A
  up_to f part k = filter f (parts part k)
