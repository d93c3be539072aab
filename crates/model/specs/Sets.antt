-- Paper 01, "Sets", over any candidates: all that counts is what each of them holds and what it costs.
use Rattle.std.specs.Prelude.{ℕ, ◌-◌, ◌*◌, ◌+◌, ◌/◌, ◌^◌, ◌≤◌, ◌<◌, ◌≡◌, ◌≢◌, Bool, not, cond, ◌&&◌, List, [], ◌∷◌, T, ltb, get_or, length}
use Rattle.model.specs.Base.{bit, below, every, some, filter, sum}

-- the points to be held (the wanted cells), and the candidates, "as they came", with what each holds and what it costs
pub record Covering (A X : Type 0) : Type 0 where
  pub points : List X
  pub holds : A → X → Bool
  pub weight : A → ℕ
  pub cands : List A

-- ---- sets

-- "set s is a 64-bit number with bit i for candidate i": its members
module _ {A : Type 0} where
  abbrev pub members : List A → ℕ → List A
  members [] s = []
  members (t ∷ ts) s = let r = members ts (s / 2) in cond (bit 0 s) (t ∷ r) r

-- each member of a is one of s
abbrev pub Within : ℕ → ℕ → Type 0
Within a s = (i : ℕ) → T (bit i a) → T (bit i s)

-- ---- covers

-- each point is held by one of the list
module _ {A X : Type 0} where
  unfoldable pub covers : (A → X → Bool) → List X → List A → Bool
  covers holds xs ts = every (λ x. some (λ t. holds t x) ts) xs

module _ {A X : Type 0} (k : Covering A X) where
  -- "it is a cover when each wanted cell is held by a member (candidates are legal)"; what legal candidates add: `LegalBasis`
  unfoldable pub cover : ℕ → Bool
  cover s = covers k.holds k.points (members k.cands s)

  -- the candidates together hold each point: refusal 12 does not apply
  unfoldable pub coverable : Bool
  coverable = covers k.holds k.points k.cands

  -- "irredundant when no proper subset is a cover": a set of candidates that is a cover, and each subset that is one is all of it
  pub record Irredundant (s : ℕ) : Type 0 where
    pub among : s < 2 ^ length k.cands
    pub covering : T (cover s)
    pub tight : (a : ℕ) → Within a s → a ≢ s → T (cover a) → ⊥

  -- member i can go: s without it is a cover
  unfoldable pub redundant : ℕ → ℕ → Bool
  redundant s i = let r = cover (s - 2 ^ i) in bit i s && r

  -- irredundant as a test (law `listed`): a cover of which no single member can go
  unfoldable pub irredundant : ℕ → Bool
  irredundant s =
      let r = every (λ i. not (redundant s i)) (below (length k.cands)) in
      cover s && r

  -- the irredundant covers, rising
  unfoldable pub irredundants : List ℕ
  irredundants = filter irredundant (below (2 ^ length k.cands))

  -- ---- costs

  -- "of a set or list, the sum over its entries"
  unfoldable pub cost : ℕ → ℕ
  cost s = sum k.weight (members k.cands s)

-- of b and the list, the first of least cost
abbrev pub least : (ℕ → ℕ) → ℕ → List ℕ → ℕ
least f b [] = b
least f b (s ∷ ss) = least f (cond (ltb (f s) (f b)) s b) ss

abbrev pub least_of : (ℕ → ℕ) → List ℕ → ℕ
least_of f [] = 0
least_of f (s ∷ ss) = least f s ss

module _ {A X : Type 0} (k : Covering A X) where
  -- "the cheapest is the irredundant cover of least cost, the smallest number among equals": the list rises
  unfoldable pub cheapest : ℕ
  cheapest = least_of (cost k) (irredundants k)

  -- set s of cost c is the cheapest: no cover costs less, and no irredundant one that costs the same is smaller (law `cheapest_best`)
  pub record Best (c s : ℕ) : Type 0 where
    pub tight : Irredundant k s
    pub price : c ≡ cost k s
    pub least_cost : (a : ℕ) → a < 2 ^ length k.cands → T (cover k a) → c ≤ cost k a
    pub smallest : (a : ℕ) → Irredundant k a → cost k a ≤ c → s ≤ a

-- ---- rows of the covering matrix

-- the row of a point: the set of the candidates that hold it. A set is a cover where it meets each row (law `cover_iff`)
module _ {A X : Type 0} (holds : A → X → Bool) where
  unfoldable pub row_of : List A → X → ℕ
  row_of [] x = 0
  row_of (t ∷ ts) x = row_of ts x * 2 + cond (holds t x) 1 0

-- the covering problem by its rows alone: candidate i, of these costs, holds row r where i is one of r. It has the same covers, costs and
-- cheapest (laws `rows_irredundants`, `rows_cheapest`)
abbrev pub of_rows : List ℕ → List ℕ → Covering ℕ ℕ
of_rows costs rows = record { points = rows; holds = bit; weight = λ i. get_or costs i 0; cands = below (length costs) }
