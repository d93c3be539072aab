-- Paper 01, "The lister": pages of a rising list of sets.
use Rattle.std.specs.Prelude.{ℕ, suc, ◌-◌, ◌≤◌, min, ◌≡◌, ◌↔◌, Bool, not, List, [], ◌∷◌, ◌++◌, map, T, leb, ltb, length, take}
use Rattle.model.specs.Base.{some, filter, join}

-- strictly rising, from b on
abbrev pub Rising : ℕ → List ℕ → Type 0
Rising b [] = Unit {0}
Rising b (x ∷ xs) = (b ≤ x) × Rising (suc x) xs

-- "the irredundant covers at or above a start number"
unfoldable pub at_or_above : List ℕ → ℕ → List ℕ
at_or_above all start = filter (leb start) all

-- "rising from the lowest with none skipped, as many as fit": the sets for a row of count entries
unfoldable pub page : List ℕ → ℕ → ℕ → List ℕ
page all start count = take count (at_or_above all start)

-- "whether one stands above those"; for count 0, "whether one stands there"
unfoldable pub more : List ℕ → ℕ → ℕ → Bool
more all start count = ltb count (length (at_or_above all start))

-- "the next start is 0 while no set is got, then one above the last": b, and one above the last of the list if it has one
abbrev pub one_above : ℕ → List ℕ → ℕ
one_above b [] = b
one_above b (s ∷ ss) = one_above (suc s) ss

abbrev pub next_start : List ℕ → ℕ
next_start sets = one_above 0 sets

-- ---- pages joined, of any rising list

-- a page: the start and the count that were asked for, the sets that it gave, and whether it said that one stands above those
pub record Page : Type 0 where
  pub start : ℕ
  pub count : ℕ
  pub sets : List ℕ
  pub above : Bool

-- it is the page of this list that was asked for
abbrev pub PageOf : List ℕ → Page → Type 0
PageOf list p = (p.sets ≡ page list p.start p.count) × (p.above ≡ more list p.start p.count)

-- a page with more 0
abbrev pub is_last : Page → Bool
is_last p = not p.above

-- "joining puts its sets behind those of the pages before"
abbrev pub joined_sets : List Page → List ℕ
joined_sets ps = join (map (λ p. p.sets) ps)

-- with g joined before: each page starts at the next start, and "no page follows one with more 0"
abbrev pub InOrder : List ℕ → List Page → Type 0
InOrder g [] = Unit {0}
InOrder g (p ∷ ps) = (p.start ≡ next_start g) × (T (is_last p) → ps ≡ []) × InOrder (g ++ p.sets) ps

-- a page behind g, of as many sets as asked or as are left: all sets below the next start are joined, and it says 'no more' exactly
-- when none is missing
pub record PageBehind (list g : List ℕ) (p : Page) : Type 0 where
  pub as_asked : length p.sets ≡ min p.count (length list - length g)
  pub upto : g ++ p.sets ≡ filter (λ s. ltb s (next_start (g ++ p.sets))) list
  pub last : T (is_last p) ↔ (g ++ p.sets ≡ list)

abbrev pub PagesBehind : List ℕ → List ℕ → List Page → Type 0
PagesBehind list g [] = Unit {0}
PagesBehind list g (p ∷ ps) = PageBehind list g p × PagesBehind list (g ++ p.sets) ps

-- demand 3, of any list: the pages joined are exactly the list in order, and 'no more' is said exactly when none is missing. "The list may
-- end early": then they are those up to the next start
pub record Joined (list : List ℕ) (ps : List Page) : Type 0 where
  pub each : PagesBehind list [] ps
  pub upto : joined_sets ps ≡ filter (λ s. ltb s (next_start (joined_sets ps))) list
  pub last : (ps ≡ [] → ⊥) → T (some is_last ps) ↔ (joined_sets ps ≡ list)
