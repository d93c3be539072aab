-- What the contracts say of weights between two ends, of rivals and of ranges without a listed set.
use Rattle.std.specs.Prelude.{◌≡◌, cond, List, ℕ, ◌+◌, ◌*◌, ◌/◌, ◌^◌, ◌≤◌, ◌<◌, length, get_or, Option, Some, None}
use Rattle.std.specs.Coded.{le_prop, Unit-prop}
use Rattle.std.proofs.Common.{sym, ◌∙◌, ap}
use Rattle.std.proofs.Math.Nat.{mul-div_cancel}
use native.Mathlib.Nat.{ℕ_set}
use mathlib.Core.HLevel.{Σ_prop_path}
use Rattle.std.specs.Int.Bits.{bit_and}
use Rattle.model.specs.Base.{bit}
use Rattle.rows.specs.Covers.{Cover, IrredundantCover, Between}
use Rattle.cheapest_bounds.specs.Costs.{cost_of}
use Rattle.cheapest_bounds.specs.Units as units
use Rattle.ranges.specs.Listed.{minus, against, Listed, Outmeets}

-- a range for each of at most 64 candidates, and all ends are multiples of the unit
pub record Quoted (low high : List ℕ) (unit : ℕ) : Type 0 where
  pub few : length low ≤ 64
  pub even : length high ≡ length low
  pub ordered : (i : ℕ) → get_or low i 0 ≤ get_or high i 0
  pub lows : units.CommonUnit low unit
  pub highs : units.CommonUnit high unit

-- the fact has one proof, so that two values of a struct that holds it are told apart by their entries alone: a number is a multiple of one
-- that is not 0 in one way
Multiple-prop : (u c : ℕ) → 0 < u → IsProp (units.Multiple u c)
unfolding units.Multiple
Multiple-prop u c some a b = Σ_prop_path (λ q. ℕ_set c (q * u)) {u = a} {v = b} (sym (times a) ∙ times b)
  where
    times : (m : units.Multiple u c) → c / u ≡ m.0
    times m = ap (λ x. x / u) m.1 ∙ mul-div_cancel m.0 some

CommonUnit-prop : (costs : List ℕ) (u : ℕ) → IsProp (units.CommonUnit costs u)
CommonUnit-prop costs u a b = λ i. record {
  positive = le_prop a.positive b.positive i;
  whole = λ t. Multiple-prop u (cost_of costs t) a.positive (a.whole t) (b.whole t) i;
}

pub Quoted-prop : (low high : List ℕ) (unit : ℕ) → IsProp (Quoted low high unit)
Quoted-prop low high unit = Prim.hlevel (le_prop, ℕ_set, CommonUnit-prop)

-- x for a member i of a, y for another member of b, else 0
unfoldable pub mixed_entry : ℕ → ℕ → ℕ → ℕ → ℕ → ℕ
mixed_entry x y a b i = cond (bit i a) x (cond (bit i b) y 0)

-- 64 weights, by which a set pays first's for its members in a, and second's for its other members in b
pub record Mixed (first second : List ℕ) (a b : ℕ) (w : List ℕ) : Type 0 where
  pub size : length w ≡ 64
  pub is : (t : ℕ) → cost_of w t ≡ cost_of first (bit_and t a) + cost_of second (minus (bit_and t b) a)

-- the first r entries of new are the rows that s meets, and new has as many entries as before
pub record RowsMet (rows : List ℕ) (s size r : ℕ) (new : List ℕ) : Type 0 where
  pub size_is : length new ≡ size
  pub few : r ≤ length rows
  pub has : (k : ℕ) → k < length rows → (bit_and (get_or rows k 0) s ≡ 0 → ⊥) → (j : ℕ) × (j < r) × (get_or new j 0 ≡ get_or rows k 0)
  pub from : (j : ℕ) → j < r → (k : ℕ) × (k < length rows) × (bit_and (get_or rows k 0) s ≡ 0 → ⊥) × (get_or new j 0 ≡ get_or rows k 0)

-- t is a cover of the rows that costs less than s where s is favoured, or there is none
unfoldable pub Contest : List ℕ → List ℕ → List ℕ → ℕ → Option ℕ → Type 0
Contest rows low high s (Some t) = (t < 2 ^ length low) × Cover rows t × (against low high s t < cost_of low s)
Contest rows low high s None = (t : ℕ) → t < 2 ^ length low → Cover rows t → cost_of low s ≤ against low high s t

-- t meets all rows that s meets and costs less than s where s is favoured, or there is none
unfoldable pub Rival : List ℕ → List ℕ → List ℕ → ℕ → Option ℕ → Type 0
Rival rows low high s (Some t) = (t < 2 ^ length low) × Outmeets rows t s × (against low high s t < cost_of low s)
Rival rows low high s None = (t : ℕ) → t < 2 ^ length low → Outmeets rows t s → cost_of low s ≤ against low high s t

-- t costs less than x whatever the weights
unfoldable pub Undercuts : List ℕ → List ℕ → ℕ → ℕ → Type 0
Undercuts low high t x = cost_of high (minus t x) < cost_of low (minus x t)

-- a cover of the candidates that does
unfoldable pub Recalled : List ℕ → List ℕ → List ℕ → ℕ → Option ℕ → Type 0
Recalled rows low high x (Some t) = (t < 2 ^ length low) × Cover rows t × Undercuts low high t x
Recalled rows low high x None = Unit {0}

-- what is known, if anything, is a listed set
unfoldable pub KnownListed : List ℕ → List ℕ → List ℕ → Option ℕ → Type 0
KnownListed rows low high (Some t) = Listed (length low) rows low high t
KnownListed rows low high None = Unit {0}

pub KnownListed-prop : (rows low high : List ℕ) (known : Option ℕ) → IsProp (KnownListed rows low high known)
unfolding KnownListed IrredundantCover Cover
KnownListed-prop rows low high (Some t) = Prim.hlevel (le_prop, ℕ_set)
KnownListed-prop rows low high None = Unit-prop

-- x costs no more than the known set, whatever the weights
unfoldable pub NoDearer : List ℕ → List ℕ → ℕ → Option ℕ → Type 0
NoDearer low high x (Some t) = cost_of high (minus x t) ≤ cost_of low (minus t x)
NoDearer low high x None = ⊥

-- x is not listed; or it is, if it is an irredundant cover
unfoldable pub Decided : List ℕ → List ℕ → List ℕ → ℕ → Option ℕ → Type 0
Decided rows low high x (Some t) = Listed (length low) rows low high x → ⊥
Decided rows low high x None = x < 2 ^ length low → IrredundantCover rows x → Listed (length low) rows low high x

-- new begins with the rows without the banned candidates, and has as many entries as before
pub record ClearedIn (rows : List ℕ) (banned size : ℕ) (new : List ℕ) : Type 0 where
  pub size_is : length new ≡ size
  pub is : (k : ℕ) → k < length rows → get_or new k 0 ≡ minus (get_or rows k 0) banned

-- no listed set lies between s and s | free
unfoldable pub NoneListed : List ℕ → List ℕ → List ℕ → ℕ → ℕ → Type 0
NoneListed rows low high s free = (y : ℕ) → Listed (length low) rows low high y → Between s free y → ⊥
