-- The summands of formula (3) in columns, and their sum function by function; the laws behind `summands` and `sum_at`.
use Prim.Native.Nat.{ℕ, zero, suc, ◌+◌, ◌≤◌, ◌<◌}
use native.Mathlib.Decide.{dec_lt}
use native.Mathlib.Omega.{arith}
use mathlib.Core.Path.{◌≡◌, refl, sym, ap, ap₂, ◌∙◌}
use mathlib.Core.Bool.{Bool, true, false, cond, ◌&&◌, ◌||◌, and-false}
use mathlib.Core.List.{List, [], ◌∷◌}
use borrow.Author.Count.{below_more}
use lib.Bits.{bit_or}
use lib.ListN.{get_or, length, set, replicate, length-set, length-map, length-replicate, get_or-eq_default}
use lib.Seq.{get_or-set_same, get_or-set_other}
use Rattle.model.specs.declared.Term.{Term}
use Rattle.model.specs.Base.{bit}
use Rattle.model.specs.Table.{Cell, in_cube, holds}
use Rattle.model.specs.Presence.{values_at, sum_up_to}
use Rattle.model.proofs.Lists.{zero_at}
use Rattle.model.proofs.Drives.{bit_of_or}
use Rattle.model.proofs.Presence.{sum_next, sum_whole}
use Rattle.incidence.specs.Presence.{place_at, SummandsOf, TellsSum}
use Rattle.incidence.proofs.Matrix.{no_bit}

-- ---- the summands of formula (3)

-- outputs times a truth value, and one of them
times_bit : (j o : ℕ) (b : Bool) → bit j (cond b o 0) ≡ (b && bit j o)
times_bit j o true = refl
times_bit j o false = no_bit j

module _ (ts : List Term) (s : ℕ) where
  -- the first i functions stand in the columns, and behind them there are no outputs
  pub record InColumns (i : ℕ) (care value outputs : List ℕ) : Type 0 where
    pub cares : length care ≡ 64
    pub values : length value ≡ 64
    pub drives : length outputs ≡ 64
    pub front : (k : ℕ) (x : Cell) → k < i → place_at care value outputs k x ≡ (get_or (values_at holds ts x) k false && bit k s)
    pub behind : (k : ℕ) → i ≤ k → get_or outputs k 0 ≡ 0

  pub columns_none : (care value outputs : List ℕ) → length care ≡ 64 → length value ≡ 64 → outputs ≡ replicate 64 0 → InColumns 0 care value outputs
  columns_none care value outputs c v o = record {
    cares = c;
    values = v;
    drives = ap length o ∙ length-replicate {A = ℕ} 64 0;
    front = λ k x l. absurd (omega arith);
    behind = λ k l. ap (λ (l : List ℕ). get_or l k 0) o ∙ zero_at 64 k;
  }

  module _ {i : ℕ} {care value outputs : List ℕ} (most : length ts ≤ 64) (h : InColumns i care value outputs) where
    value_of : (l : List Term) (k : ℕ) (d : Term) (x : Cell) → k < length l → get_or (values_at holds l x) k false ≡ holds (get_or l k d) x
    value_of [] k d x g = absurd (omega arith)
    value_of (t ∷ ts) zero d x g = refl
    value_of (t ∷ ts) (suc k) d x g = value_of ts k d x (omega arith)

    pub columns_next : (d : Term) (b : Bool) (o : ℕ) → i < length ts → b ≡ bit i s → o ≡ cond b (get_or ts i d).outputs 0
        → InColumns (i + 1) (set care i (get_or ts i d).care) (set value i (get_or ts i d).value) (set outputs i o)
    unfolding holds
    columns_next d b o l g e = record {
      cares = length-set care i t.care ∙ h.cares;
      values = length-set value i t.value ∙ h.values;
      drives = length-set outputs i o ∙ h.drives;
      front = λ k x m. below_more (λ n. place_at care' value' outputs' n x ≡ (get_or (values_at holds ts x) n false && bit n s)) i (λ n q. before n x q) (here x) k m;
      behind = λ k m. get_or-set_other outputs i k o 0 (λ q. omega arith) ∙ h.behind k (omega arith);
    }
      where
        t : Term
        t = get_or ts i d

        care' : List ℕ
        care' = set care i t.care

        value' : List ℕ
        value' = set value i t.value

        outputs' : List ℕ
        outputs' = set outputs i o

        moved : (y z w : Bool) → (y && (z && w)) ≡ ((y && w) && z)
        moved true true true = refl
        moved true true false = refl
        moved true false true = refl
        moved true false false = refl
        moved false z w = refl

        before : (n : ℕ) (x : Cell) → n < i → place_at care' value' outputs' n x ≡ (get_or (values_at holds ts x) n false && bit n s)
        before n x q =
            rw (get_or-set_other care i n t.care 0 (λ z. omega arith), get_or-set_other value i n t.value 0 (λ z. omega arith), get_or-set_other outputs i n o 0 (λ z. omega arith))
            (h.front n x q)

        here : (x : Cell) → place_at care' value' outputs' i x ≡ (get_or (values_at holds ts x) i false && bit i s)
        here x =
            rw (get_or-set_same care i t.care 0 (omega (arith, h.cares)), get_or-set_same value i t.value 0 (omega (arith, h.values)), get_or-set_same outputs i o 0 (omega (arith, h.drives)))
            (ap (λ (y : ℕ). in_cube t.care t.value x.v && bit x.j y) e
            ∙ ap (λ (y : Bool). in_cube t.care t.value x.v && y) (times_bit x.j t.outputs b)
            ∙ moved (in_cube t.care t.value x.v) b (bit x.j t.outputs)
            ∙ ap₂ ◌&&◌ (sym (value_of ts i d x l)) g)

    pub columns_all : length ts ≤ i → SummandsOf ts s care value outputs
    columns_all l = record { few = most; summand = λ k x m. go k x (dec_lt k i) }
      where
        go : (k : ℕ) (x : Cell) → Dec (k < i) → place_at care value outputs k x ≡ (get_or (values_at holds ts x) k false && bit k s)
        go k x (yes q) = h.front k x q
        go k x (no q) =
            let w : get_or (values_at holds ts x) k false ≡ false =
            get_or-eq_default (values_at holds ts x) false (omega (arith, length-map ts (λ f. holds f x))) in
            rw (h.behind k (omega arith), no_bit x.j, w) (and-false (in_cube (get_or care k 0) (get_or value k 0) x.v))

-- ---- formula (3), function by function

module _ (care value outputs : List ℕ) (x : Cell) where
  -- the sum over the first i functions
  pub record Summed (i sum : ℕ) : Type 0 where
    pub same : (ts : List Term) (s : ℕ) → SummandsOf ts s care value outputs → bit x.j sum ≡ sum_up_to holds ts s x i

  pub summed_none : Summed 0 0
  unfolding sum_up_to
  summed_none = record { same = λ ts s c. no_bit x.j }

  pub summed_next : (i sum r : ℕ) → i < 64 → Summed i sum → r ≡ cond (in_cube (get_or care i 0) (get_or value i 0) x.v) (get_or outputs i 0) 0 → Summed (i + 1) (bit_or sum r)
  summed_next i sum r l h e = record {
    same = λ ts s c.
        bit_of_or x.j sum r
        ∙ ap₂ ◌||◌ (h.same ts s c)
        (ap (bit x.j) e ∙ times_bit x.j (get_or outputs i 0) (in_cube (get_or care i 0) (get_or value i 0) x.v) ∙ c.summand i x l)
        ∙ sym (sum_next holds ts s x i);
  }

  pub summed_all : (i sum : ℕ) (b : Bool) → 64 ≤ i → Summed i sum → b ≡ bit x.j sum → TellsSum care value outputs x b
  summed_all i sum b l h e ts s c =
      let f = c.few in
      e ∙ h.same ts s c ∙ sum_whole holds ts s x i (omega arith)
