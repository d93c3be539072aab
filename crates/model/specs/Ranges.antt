-- Paper 02, K11: weights known between two ends, over any candidates.
use Rattle.std.specs.Prelude.{ℕ, ◌/◌, ◌≤◌, ◌≢◌, Bool, cond, List, [], ◌∷◌, leb}
use Rattle.model.specs.Base.{bit, every, filter, sum, All}
use Rattle.model.specs.Sets.{Covering, members, Irredundant, irredundants}

-- the ends of a weight
pub record Range : Type 0 where
  pub low : ℕ
  pub high : ℕ

abbrev pub between : ℕ → ℕ → Range
between l h = record { low = l; high = h }

-- "both ends equal the weight"
abbrev pub fixed : ℕ → Range
fixed w = between w w

-- no low end is above its high one: 19 does not apply
abbrev pub Ranged : List Range → Type 0
Ranged rs = All (λ r. r.low ≤ r.high) rs

-- a "choice of whole weights within the ranges": one for each range, in the order of the candidates
abbrev pub Choice : List Range → List ℕ → Type 0
Choice [] [] = Unit {0}
Choice [] (w ∷ ws) = ⊥
Choice (r ∷ rs) [] = ⊥
Choice (r ∷ rs) (w ∷ ws) = (r.low ≤ w) × (w ≤ r.high) × Choice rs ws

-- what set s costs where candidate i has weight i of the list
unfoldable pub cost_at : List ℕ → ℕ → ℕ
cost_at ws s = sum (λ w. w) (members ws s)

module _ {A X : Type 0} (k : Covering A X) (rs : List Range) where
  -- "irredundant covers that, for at least one choice of whole weights within the ranges, cost no more than every other irredundant cover"
  pub record Possible (s : ℕ) : Type 0 where
    pub tight : Irredundant k s
    pub weights : List ℕ
    pub choice : Choice rs weights
    pub least : (t : ℕ) → Irredundant k t → t ≢ s → cost_at weights s ≤ cost_at weights t

-- the choice that is best for s: its members at their low ends, all others at their high ones
abbrev pub favouring : List Range → ℕ → List ℕ
favouring [] s = []
favouring (r ∷ rs) s = cond (bit 0 s) r.low r.high ∷ favouring rs (s / 2)

-- possible as a test on the irredundant covers (law `possible_listed`): at that choice, none of them costs less
unfoldable pub possible : List Range → List ℕ → ℕ → Bool
possible rs all s = every (λ t. leb (cost_at (favouring rs s) s) (cost_at (favouring rs s) t)) all

-- the sets that V lists, rising
unfoldable pub possibles : {A X : Type 0} → Covering A X → List Range → List ℕ
possibles k rs = filter (possible rs (irredundants k)) (irredundants k)
