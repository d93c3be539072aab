-- A member that can keep no row leaves no irredundant cover.
use Rattle.std.specs.Bool.{then_some}
use Rattle.std.proofs.Common.{◌≡◌, refl, sym, ap, ◌∙◌, ⊎_elim, Bool, true, false, List, ℕ, ◌+◌, ◌^◌, ◌≤◌, ◌<◌, arith, length, get_or, bit_and, below_more}
use Rattle.std.proofs.lemmas.Nat.{and_le_l}
use Rattle.lister_narrowing.specs.declared.Tight.{Tight}
use Rattle.bits.specs.Bits.{digit, Part, Minus, Member}
use Rattle.rows.specs.Covers.{Own, Between}
use Rattle.lister_narrowing.specs.Narrowing.{IrredundantBetween, NoneBetween, Narrowed, Tightened}
use Rattle.bits.proofs.Digits.{eq?, digit_lt, digit_or}
use Rattle.bits.proofs.Members.{and_both}
use Rattle.bits.proofs.Parts.{part_le, members, part_trans, minus_part, the_member, member_of_more, minus_member_less, part_and_less}
use Rattle.rows.proofs.Sets.{own_row_fewer}
use Rattle.lister_narrowing.proofs.Tightening.{between_own, narrowed_none}

-- ---- one row

-- in no irredundant cover between s and s | free is b the only member of row
unfoldable pub Barred : List ℕ → ℕ → ℕ → ℕ → ℕ → Type 0
Barred rows s free b row = (t : ℕ) → IrredundantBetween rows s free t → bit_and row t ≡ b → ⊥

module _ (rows : List ℕ) (s free b row : ℕ) (m : Member s b) where
  -- a cover in which b keeps the row takes none of its free candidates
  without : (t rest : ℕ) → Minus free row rest → IrredundantBetween rows s free t → bit_and row t ≡ b → IrredundantBetween rows s rest t
  unfolding IrredundantBetween Between Minus
  without t rest d w e = (
    w.0,
    (
      w.1.0,
      λ c q. ⊎_elim
          (λ (f : digit c s ≡ 1). omega (arith, digit_or c s rest, digit_lt c rest))
          (λ (f : digit c s ≡ 1 → ⊥). ⊎_elim
          (λ (g : digit c row ≡ 1). absurd (f (members b s m.part c (sym (ap (digit c) e) ∙ and_both c row t g q))))
          (λ (g : digit c row ≡ 1 → ⊥). omega (arith, w.1.1 c q, d c, digit_or c s free, digit_or c s rest, digit_lt c s, digit_lt c free, digit_lt c row))
          (eq? (digit c row) 1))
          (eq? (digit c s) 1),
    ),
  )

  -- the row has other members of s
  pub barred_shared : (bit_and row s ≡ b → ⊥) → Barred rows s free b row
  unfolding Barred IrredundantBetween Between
  barred_shared n t w e =
      let j : (c : ℕ) × (b ≡ 2 ^ c) × (digit c s ≡ 1) = the_member s b m in
      n (own_row_fewer row s t j.0 w.1.0 j.2 (e ∙ j.1) ∙ sym j.1)

  -- nothing is left where it is kept
  pub barred_kept : (rest : ℕ) → Minus free row rest → NoneBetween rows s rest → Barred rows s free b row
  unfolding Barred NoneBetween
  barred_kept rest d f t w e = f t (without t rest d w e)

-- ---- one row after the other

-- the same of each of the first n rows
unfoldable pub BarredBelow : List ℕ → ℕ → ℕ → ℕ → ℕ → Type 0
BarredBelow rows n s free b = (k : ℕ) → k < n → Barred rows s free b (get_or rows k 0)

module _ (rows : List ℕ) (s free b : ℕ) where
  pub barred_start : BarredBelow rows 0 s free b
  unfolding BarredBelow
  barred_start k lt = absurd (omega arith)

  pub barred_more : (n : ℕ) → BarredBelow rows n s free b → Barred rows s free b (get_or rows n 0) → BarredBelow rows (n + 1) s free b
  unfolding BarredBelow
  barred_more n h g = below_more (λ k. Barred rows s free b (get_or rows k 0)) n h g

  -- each member of an irredundant cover has a row of its own
  pub barred_all : (n : ℕ) → Member s b → length rows ≤ n → BarredBelow rows n s free b → NoneBetween rows s free
  unfolding NoneBetween BarredBelow Barred IrredundantBetween Between Own
  barred_all n m le h t w =
      let j : (c : ℕ) × (b ≡ 2 ^ c) × (digit c s ≡ 1) = the_member s b m in
      let r : Own rows (length rows) t j.0 = between_own rows s free t j.0 w (w.1.0 j.0 j.2) in
      h r.0 (omega (arith, r.1)) t w (r.2 ∙ sym j.1)

-- ---- narrowed, and tested

pub tightened_tested : (rows : List ℕ) (s free : ℕ) (t : Tight) (alive : Bool) → Narrowed rows s free t → (alive ≡ false → NoneBetween rows t.s t.free)
    → Tightened rows s free (then_some alive t)
tightened_tested rows s free t true n f = n
tightened_tested rows s free t false n f = narrowed_none n (f refl)

-- ---- fewer and fewer members are asked

module _ (q s x b others : ℕ) (p : Part q s) (m : Member (bit_and q x) b) (d : Minus (bit_and q x) b others) where
  pub asked_member : Member s b
  asked_member = member_of_more (bit_and q x) s b (part_and_less q x s p) m

  others_part : Part others s
  others_part = part_trans others (bit_and q x) s (minus_part (bit_and q x) b others d) (part_and_less q x s p)

  others_less : others < q
  others_less = omega (arith, minus_member_less (bit_and q x) b others m d, and_le_l q x)

  pub group_less : (g t : ℕ) → q + q ≡ t → bit_and others g + bit_and others g + 1 < t
  group_less g t e = omega (arith, others_less, and_le_l others g)

  module _ (g rest : ℕ) (r : Minus others g rest) where
    pub rest_part : Part rest s
    rest_part = part_trans rest others s (minus_part others g rest r) others_part

    pub rest_less : (t : ℕ) → q + q ≡ t → rest + rest < t
    rest_less t e = omega (arith, others_less, part_le rest others (minus_part others g rest r))

pub fewer_less : (q x t : ℕ) → q + q + 1 ≡ t → bit_and q x + bit_and q x < t
fewer_less q x t e = omega (arith, and_le_l q x)
