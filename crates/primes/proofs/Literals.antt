-- The prime of a cube, by its literals; the laws behind `droppable`, `some_droppable` and `prime_outputs`.
use Prim.Native.Nat.{ℕ, suc, ◌+◌, ◌-◌, ◌^◌, ◌<◌}
use native.Mathlib.Omega.{arith}
use native.Mathlib.Nat.{pow-suc}
use native.Mathlib.Decide.{dec_lt}
use mathlib.Core.Path.{◌≡◌, refl, sym, ap, ◌∙◌, subst, subst⁻¹}
use mathlib.Core.Bool.{Bool, true, false, not, ◌&&◌}
use mathlib.Core.List.{List}
use borrow.Author.Count.{below_more}
use lib.Bits.{bit_and}
use lib.Dec.{T, eqb, eqb→eq, eqb_refl, T_not, not_T}
use lib.ListN.{get_or}
use Rattle.std.specs.Prelude.{Some, None}
use Rattle.model.specs.Base.{bit}
use Rattle.model.specs.Table.{Table, term}
use Rattle.model.specs.Primes.{drives, prime}
use Rattle.model.specs.Sets.{Within}
use Rattle.model.proofs.Lists.{bool_ext, and_l, and_r, and_i, T_true, T_false}
use Rattle.model.proofs.Bits.{bit_lt}
use Rattle.model.proofs.Cubes.{bit_of_and}
use Rattle.model.proofs.Drives.{drives_lt, Locally, prime_local, local_prime}
use Rattle.bits.specs.Bits.{Single}
use Rattle.bits.proofs.Digits.{digit_bit}
use Rattle.bits.proofs.Members.{has_bit, lacks_bit}
use Rattle.table.specs.Cubes.{Cube}
use Rattle.model.specs.Numbers.{cube_number}
use Rattle.primes.specs.Numbers.{Numbered}
use Rattle.primes.specs.Literals.{droppable, InTable, TellsDroppable, SomeDroppable, PrimeOutputs}
use Rattle.primes.proofs.BaseThree.{number_lt}
use Rattle.table.proofs.Legality.{within_test, test_within}

-- ---- places in the table

pub place_lt : (care value k : ℕ) → Cube 8 care value → k ≡ cube_number care value → k < 6561
place_lt care value k q e = omega (arith, number_lt 8 care value q)

pub without_cube : (n care value w : ℕ) → Cube n care value → Cube n (care - w) (bit_and value (care - w))
without_cube n care value w k = record {
  inputs = k.inputs;
  care_lt = omega (arith, k.care_lt);
  value_in = λ j u. and_r (bit j value) (bit j (care - w)) (subst (λ (x : Bool). T x) (bit_of_and j value (care - w)) u);
}

-- ---- one literal

module _ (care value w : ℕ) where
  literal : (i : ℕ) → w ≡ 2 ^ i → (bit_and care w ≡ 0 → ⊥) → T (bit i care)
  literal i e d = (digit_bit i care).1 (has_bit i w e care d)

  no_literal : (i : ℕ) → w ≡ 2 ^ i → bit_and care w ≡ 0 → bit i care ≡ false
  no_literal i e z = T_false {b = bit i care} (not_T (bit i care) (λ t. omega (arith, (digit_bit i care).0 t, lacks_bit i w e care z)))

  pub droppable_literal : (t : List ℕ) (d outputs : ℕ) (r : Bool) → (bit_and care w ≡ 0 → ⊥) → d ≡ get_or t (cube_number (care - w) (bit_and value (care - w))) 0 → r ≡ eqb (bit_and outputs d) outputs
      → TellsDroppable t care value outputs w r
  unfolding droppable
  droppable_literal t d outputs r y g f p i a e =
      let h : d ≡ drives p (care - 2 ^ i) (bit_and value (care - 2 ^ i)) =
      g
      ∙ a.numbered.entries (care - w) (bit_and value (care - w)) (without_cube p.n care value w a.cube)
      ∙ ap (λ (x : ℕ). drives p (care - x) (bit_and value (care - x))) e in
      f ∙ rw (h, T_true {b = bit i care} (literal i e y))

  pub droppable_free : (t : List ℕ) (outputs : ℕ) → bit_and care w ≡ 0 → TellsDroppable t care value outputs w false
  unfolding droppable
  droppable_free t outputs z p i a e = rw (no_literal i e z)

literal_of : (p : Table) (care value outputs k : ℕ) → T (droppable p care value outputs k) → T (bit k care)
unfolding droppable
literal_of p care value outputs k u =
    let d : ℕ = drives p (care - 2 ^ k) (bit_and value (care - 2 ^ k)) in
    and_l (bit k care) (eqb (bit_and outputs d) outputs) u

-- ---- all literals

suc_one : (i : ℕ) → suc i ≡ i + 1
suc_one i = omega arith

module _ (t : List ℕ) (care value outputs : ℕ) where
  -- w is the weight of an input, and no input of less weight is droppable
  pub record NoneBelow (w : ℕ) : Type 0 where
    pub input : ℕ
    pub weight : w ≡ 2 ^ input
    pub none : (p : Table) → InTable p t care value → (k : ℕ) → k < input → T (not (droppable p care value outputs k))

  pub none_single : (w : ℕ) → NoneBelow w → Single w
  unfolding Single
  none_single w h = (h.input, h.weight)

  pub none_yet : NoneBelow 1
  none_yet = record { input = 0; weight = refl; none = λ p a k l. absurd (omega arith) }

  module _ (w : ℕ) (r : Bool) (h : NoneBelow w) (d : TellsDroppable t care value outputs w r) where
    double : w + w ≡ 2 ^ suc h.input
    double = omega (arith, h.weight, pow-suc 2 h.input)

    pub none_next : r ≡ false → NoneBelow (w + w)
    none_next f = record {
      input = h.input + 1;
      weight = double ∙ ap (λ (x : ℕ). 2 ^ x) (suc_one h.input);
      none = λ p a. below_more (λ k. T (not (droppable p care value outputs k))) h.input (h.none p a) (subst (λ (x : Bool). T (not x)) (sym f ∙ d p h.input a h.weight) tt);
    }

    pub one_droppable : r ≡ true → SomeDroppable t care value outputs true
    one_droppable e p a = (h.input, subst (λ (x : Bool). T x) (sym e ∙ d p h.input a h.weight) tt)

  -- above care there is no literal
  pub none_droppable : (w : ℕ) → care < w → NoneBelow w → SomeDroppable t care value outputs false
  none_droppable w l h p a k = go (dec_lt k h.input)
    where
      go : Dec (k < h.input) → T (not (droppable p care value outputs k))
      go (yes b) = h.none p a k b
      go (no b) = not_T (droppable p care value outputs k) (λ u. omega (arith, bit_lt k h.input care (literal_of p care value outputs k u) (omega (arith, h.weight))))

-- ---- the cube's prime

module _ (table : List ℕ) (n care value d : ℕ) (k : Cube n care value) (is : d ≡ get_or table (cube_number care value) 0) where
  h : (p : Table) → Numbered p n table → d ≡ drives p care value
  h p a = is ∙ a.entries care value k

  in_table : (p : Table) → Numbered p n table → InTable p table care value
  in_table p a = record {
    cube = subst⁻¹ (λ (x : ℕ). Cube x care value) a.inputs k;
    numbered = subst⁻¹ (λ (x : ℕ). Numbered p x table) a.inputs a;
  }

  never : (p : Table) (o : ℕ) → (T (prime p (term care value o)) → ⊥) → prime p (term care value o) ≡ false
  never p o f = T_false {b = prime p (term care value o)} (not_T (prime p (term care value o)) f)

  outs : (p : Table) → Numbered p n table → (o : ℕ) → T (prime p (term care value o)) → o ≡ d
  outs p a o t = (prime_local p (term care value o) t).outs ∙ sym (h p a)

  pub prime_nothing : d ≡ 0 → PrimeOutputs table n care value None
  prime_nothing z p a o = never p o (λ t. omega (arith, outs p a o t, (prime_local p (term care value o) t).formed.outputs_pos))

  pub prime_droppable : (r : Bool) → SomeDroppable table care value d r → r ≡ true → PrimeOutputs table n care value None
  unfolding droppable
  prime_droppable r s e p a o = never p o (λ t.
      let q = subst (SomeDroppable table care value d) e s p (in_table p a) in
      let w : ℕ = drives p (care - 2 ^ q.0) (bit_and value (care - 2 ^ q.0)) in
      let x = and_l (bit q.0 care) (eqb (bit_and d w) d) q.1 in
      let y = and_r (bit q.0 care) (eqb (bit_and d w) d) q.1 in
      (prime_local p (term care value o) t).tight q.0 x (subst⁻¹ (λ (z : ℕ). Within z w) (outs p a o t) (test_within d w y)))

  pub prime_all : (r : Bool) → (d ≡ 0 → ⊥) → SomeDroppable table care value d r → r ≡ false → PrimeOutputs table n care value (Some d)
  unfolding droppable
  prime_all r z s e p a o = bool_ext (prime p (term care value o)) (eqb o d) to back
    where
      pos : 0 < d
      pos = omega arith

      to : T (prime p (term care value o)) → T (eqb o d)
      to t = subst (λ (x : ℕ). T (eqb o x)) (outs p a o t) (eqb_refl o)

      locally : Locally p (term care value d)
      locally = record {
        formed = record {
          care_lt = subst⁻¹ (λ (x : ℕ). care < 2 ^ x) a.inputs k.care_lt;
          value_in = k.value_in;
          outputs_pos = pos;
          outputs_lt = subst⁻¹ (λ (x : ℕ). x < 2 ^ p.m) (h p a) (drives_lt p care value);
        };
        outs = h p a;
        tight = λ i b w.
            let v : ℕ = drives p (care - 2 ^ i) (bit_and value (care - 2 ^ i)) in
            T_not (bit i care && eqb (bit_and d v) d) (subst (SomeDroppable table care value d) e s p (in_table p a) i) (and_i (bit i care) (eqb (bit_and d v) d) b (within_test d v w));
      }

      back : T (eqb o d) → T (prime p (term care value o))
      back t = subst⁻¹ (λ (x : ℕ). T (prime p (term care value x))) (eqb→eq o d t) (local_prime p (term care value d) locally)

pub prime_outside : (t : List ℕ) (n care value : ℕ) → (Within value care → ⊥) → PrimeOutputs t n care value None
prime_outside t n care value f p a o = T_false {b = prime p (term care value o)}
    (not_T (prime p (term care value o)) (λ y. f (prime_local p (term care value o) y).formed.value_in))
