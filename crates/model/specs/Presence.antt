-- Document 000, "Definitions": the presence function S by formulas (2), (3) and (4), over any candidates. A point ξ_k is one of those to be held
-- (of a table: its wanted cells; free and off cells are no points), the functions F_1 to F_M are candidates 0 to M - 1, and variable σ_m is
-- bit m - 1 of a set; + is ||, a product is &&. Paper 01: "A wanted cell keeps its sum", so formula (3) is taken without the delta.
use Rattle.std.specs.Prelude.{ℕ, ◌-◌, ◌^◌, Bool, not, ◌&&◌, ◌||◌, false, List, map, T, get_or, length, take}
use Rattle.model.specs.Base.{bit, below, every, some}
use Rattle.model.specs.Sets.{Covering, Within}

-- formula (2), Δ: "1 if v_1 = … = v_M, 0 otherwise"
abbrev pub delta : List Bool → Bool
delta vs = every (λ v. v) vs || every not vs

module _ {A X : Type 0} (holds : A → X → Bool) where
  -- "F_1(ξ_k), …, F_M(ξ_k)": for each candidate, in order, whether it holds point x
  abbrev pub values_at : List A → X → List Bool
  values_at fs x = map (λ f. holds f x) fs

  -- formula (3) up to a function: the sum of "F_m(ξ_k) σ_m" over the first c functions, candidate i times bit i of set s
  unfoldable pub sum_up_to : List A → ℕ → X → ℕ → Bool
  sum_up_to fs s x c = some (λ i. get_or (values_at fs x) i false && bit i s) (below c)

  -- formula (3) without the delta, "B_k": the sum over all functions
  unfoldable pub sum_at : List A → ℕ → X → Bool
  sum_at fs s x = sum_up_to fs s x (length fs)

module _ {A X : Type 0} (k : Covering A X) where
  -- formula (4) up to a point: the product of the sums at the first i points
  unfoldable pub product_up_to : ℕ → ℕ → Bool
  product_up_to s i = every (sum_at k.holds k.cands s) (take i k.points)

  -- formula (4), "S": the product over all points. It is the cover test (law `presence_cover`)
  unfoldable pub presence : ℕ → Bool
  presence s = product_up_to s (length k.points)

  -- the set of all candidates. Document 000 begins with functions that represent φ, its formula (1), so that S is 1 at this set; refusal 12
  -- applies where it is 0 (law `presence_all`)
  abbrev pub all_of : ℕ
  all_of = 2 ^ length k.cands - 1

  -- the product of the variables of s "is an implicant of S": S is 1 wherever they are all 1
  abbrev pub Implicant : ℕ → Type 0
  Implicant s = (a : ℕ) → Within s a → T (presence a)

  -- formula (4) up to a point with document 000's delta in (3), over the same points: each at which all functions agree is dropped
  unfoldable pub product_with_delta : ℕ → ℕ → Bool
  product_with_delta s i = every (λ x. delta (values_at k.holds k.cands x) || sum_at k.holds k.cands s x) (take i k.points)
