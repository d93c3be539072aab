-- The levels above a number: where some member would have no row of its own, no irredundant cover is.
use Rattle.std.proofs.Common.{◌≡◌, refl, sym, ap, ◌∙◌, subst, ⊎_elim, List, ℕ, ◌+◌, ◌-◌, ◌*◌, ◌/◌, ◌%◌, ◌^◌, ◌≤◌, ◌<◌, length, get_or, set, get_or-set_same, get_or-set_other, bit_and, bit_or, arith, below_more, add-mul, length-set, pow_pos, shr-shr}
use Rattle.std.proofs.Math.Decide.{dec_lt}
use Rattle.std.proofs.Math.Pow.{high}
use Rattle.bits.specs.Bits.{digit, Part, Minus, Member, Highest}
use Rattle.rows.specs.Covers.{Own, Between}
use Rattle.lister_narrowing.specs.Narrowing.{IrredundantBetween, NoneBetween}
use Rattle.lister.specs.Levels.{top, OwnAt, NewAt, OwnLevels, KeptLevels, PossibleLevels}
use Rattle.bits.proofs.Digits.{eq?, digit_lt, pow_here, pow_only}
use Rattle.bits.proofs.Members.{and_left, and_right, and_both, or_left, or_right, not_zero}
use Rattle.bits.proofs.Parts.{members, the_member}
use Rattle.bits.proofs.Tops.{digit_in, mask_below, mask_above, highest_is}
use Rattle.rows.proofs.Sets.{own_has, own_only}
use Rattle.lister_narrowing.proofs.Tightening.{between_own}

-- ---- the set where a level begins

module _ (at i : ℕ) (z : digit i at ≡ 0) where
  top_here : digit i (top at i) ≡ 1
  unfolding top digit
  top_here =
      let a : (at / 2 ^ i + 1) * 2 ^ i ≡ at / 2 ^ i * 2 ^ i + 1 * 2 ^ i = add-mul (at / 2 ^ i) 1 (2 ^ i) in
      digit_in i (at / 2 ^ i + 1) (at / 2 ^ i * 2 ^ i + 2 ^ i) (omega arith) (omega (arith, pow_pos i)) ∙ omega arith

  top_half : top at i / 2 ^ (i + 1) ≡ at / 2 ^ (i + 1)
  unfolding top digit
  top_half =
      let a : (at / 2 ^ i + 1) * 2 ^ i ≡ at / 2 ^ i * 2 ^ i + 1 * 2 ^ i = add-mul (at / 2 ^ i) 1 (2 ^ i) in
      let b : (at / 2 ^ i + 1) * 2 ^ i + 0 ≡ at / 2 ^ i * 2 ^ i + 2 ^ i = omega arith in
      let h : (at / 2 ^ i * 2 ^ i + 2 ^ i) / 2 ^ i ≡ at / 2 ^ i + 1 = ap (λ (x : ℕ). x / 2 ^ i) (sym b) ∙ high (at / 2 ^ i + 1) i (pow_pos i) in
      sym (shr-shr (at / 2 ^ i * 2 ^ i + 2 ^ i) i 1) ∙ omega (arith, shr-shr at i 1)

  top_above : (c : ℕ) → i < c → digit c at ≡ 1 → digit c (top at i) ≡ 1
  unfolding digit
  top_above c lt m =
      let d : ℕ = c - (i + 1) in
      let e : c ≡ i + 1 + d = omega arith in
      let f : (x : ℕ) → x / 2 ^ c ≡ x / 2 ^ (i + 1) / 2 ^ d = λ x. ap (λ (k : ℕ). x / 2 ^ k) e ∙ sym (shr-shr x (i + 1) d) in
      ap (λ (q : ℕ). q % 2) (f (top at i) ∙ ap (λ (q : ℕ). q / 2 ^ d) top_half ∙ sym (f at)) ∙ m

-- ---- the levels of one row

pub member_pos : (own m : ℕ) → Member own m → 0 < m
member_pos own m h = let w = the_member own m h in omega (arith, w.1, pow_pos w.0)

module _ (row own m : ℕ) (h : Highest own m) where
  -- the member whose own the row can be is the highest
  is_highest : (k i b : ℕ) → m ≡ 2 ^ k → OwnAt row own i b → b ≡ k
  is_highest k i b e o =
      let w = the_member own m h.member in
      let same : w.0 ≡ k = pow_only w.0 k (sym (ap (digit w.0) (sym w.1 ∙ e)) ∙ pow_here w.0) in
      let in_own : digit k own ≡ 1 = subst (λ (j : ℕ). digit j own ≡ 1) same w.2 in
      let le : b ≤ k = highest_is own m k h e b o.has in
      sym (o.only k in_own (omega (arith, o.below)))

  module _ (levels : ℕ) (d : Minus (m - 1) row levels) where
    pub own_first : OwnLevels row own levels
    unfolding OwnLevels Minus
    own_first i b o =
        let w = the_member own m h.member in
        let k : ℕ = w.0 in
        let e : b ≡ k = is_highest k i b w.1 o in
        let in_mask : digit i (m - 1) ≡ 1 = ap (λ (x : ℕ). digit i (x - 1)) w.1 ∙ mask_below k i (omega (arith, o.below)) in
        omega (arith, d i, o.lacks)

    pub own_second : (rest c r : ℕ) → Minus own m rest → Highest rest c → Minus levels (c - 1) r → OwnLevels row own r
    unfolding OwnLevels Minus
    own_second rest c r dr hc dl i b o =
        let w = the_member own m h.member in
        let v = the_member rest c hc.member in
        let k : ℕ = w.0 in
        let l : ℕ = v.0 in
        let e : b ≡ k = is_highest k i b w.1 o in
        let here : digit k m ≡ 1 = ap (digit k) w.1 ∙ pow_here k in
        let in_rest : digit l own - digit l m ≡ 1 = sym (dr l) ∙ v.2 in
        let le : l ≤ i
        = elim (dec_lt i l) [
          | yes lt ↦
              let in_own : digit l own ≡ 1 = omega (arith, digit_lt l own) in
              let f : l ≡ k = o.only l in_own lt ∙ e in
              let g : digit l m ≡ 1 = subst (λ (j : ℕ). digit j m ≡ 1) (sym f) here in
              absurd (omega arith)
          | no ge ↦ omega arith
        ] in
        let out : digit i (c - 1) ≡ 0 = ap (λ (x : ℕ). digit i (x - 1)) v.1 ∙ mask_above l i le in
        let first : digit i levels ≡ 1 = own_first i b o in
        omega (arith, dl i)

-- ---- the levels that every member of at leaves

pub kept_levels_all : (alone : List ℕ) (fresh at : ℕ) → KeptLevels alone fresh at fresh
unfolding KeptLevels
kept_levels_all alone fresh at i f h = f

pub kept_levels_less : (alone : List ℕ) (fresh at good rest m k lost r : ℕ) → KeptLevels alone fresh at good → Part rest at → Member rest m → m ≡ 2 ^ k
    → Minus (m - 1) (get_or alone k 0) lost → Minus good lost r → KeptLevels alone fresh at r
unfolding KeptLevels Minus
kept_levels_less alone fresh at good rest m k lost r g p one e dl dr i f h =
    let in_at : digit k at ≡ 1 = members rest at p k (members m rest one.part k (ap (digit k) e ∙ pow_here k)) in
    let was : digit i good ≡ 1 = g i f h in
    let mask : digit i (m - 1) ≡ digit i (2 ^ k - 1) = ap (λ (x : ℕ). digit i (x - 1)) e in
    let gone : digit i lost ≡ 0
    = elim (dec_lt i k) [
      | yes lt ↦ omega (arith, dl i, h k in_at lt, digit_lt i (m - 1))
      | no ge ↦ let le : k ≤ i = omega arith in omega (arith, dl i, mask_above k i le)
    ] in
    omega (arith, dr i)

-- ---- the pass

-- alone has each level at which the row can be some member's own
abbrev Owns : ℕ → List ℕ → ℕ → Type 0
Owns at alone row = (i b : ℕ) → OwnAt row (bit_and row at) i b → digit i (get_or alone b 0) ≡ 1

-- fresh has each level at which the row can be that level's own
abbrev News : ℕ → ℕ → ℕ → Type 0
News at fresh row = (i : ℕ) → NewAt row (bit_and row at) i → digit i fresh ≡ 1

-- what the first n rows tell
pub record LevelsPassed (rows : List ℕ) (at n : ℕ) (alone : List ℕ) (fresh : ℕ) : Type 0 where
  pub size : length alone ≡ 64
  pub owns : (k : ℕ) → k < n → Owns at alone (get_or rows k 0)
  pub news : (k : ℕ) → k < n → News at fresh (get_or rows k 0)

module _ (rows : List ℕ) (at n : ℕ) (alone : List ℕ) (fresh : ℕ) (h : LevelsPassed rows at n alone fresh) where
  abbrev row : ℕ
  row = get_or rows n 0

  abbrev own : ℕ
  own = bit_and (get_or rows n 0) at

  -- a row that at does not meet
  pub levels_open : bit_and (get_or rows n 0) at ≡ 0 → LevelsPassed rows at (n + 1) alone (bit_or fresh (get_or rows n 0))
  levels_open z = record {
    size = h.size;
    owns = below_more (λ k. Owns at alone (get_or rows k 0)) n h.owns (λ i b o. absurd (not_zero b own o.has z));
    news = below_more (λ k. News at (bit_or fresh row) (get_or rows k 0)) n
        (λ k lt i o. or_left i fresh row (h.news k lt i o))
        (λ i o. or_right i fresh row o.has);
  }

  -- one that it meets, k the highest
  module _ (m k levels up : ℕ) (hi : Highest (bit_and (get_or rows n 0) at) m) (lt64 : k < 64) (e : m ≡ 2 ^ k)
      (l : OwnLevels (get_or rows n 0) (bit_and (get_or rows n 0) at) levels) (u : Minus (get_or rows n 0) (m - 1) up) where
    here : (i b : ℕ) → OwnAt row own i b → digit i (get_or (set alone k (bit_or (get_or alone k 0) levels)) b 0) ≡ 1
    unfolding OwnLevels
    here i b o =
        let f : b ≡ k = is_highest row own m hi k i b e o in
        let s : get_or (set alone k (bit_or (get_or alone k 0) levels)) k 0 ≡ bit_or (get_or alone k 0) levels
        = get_or-set_same alone k (bit_or (get_or alone k 0) levels) 0 (omega (arith, h.size)) in
        subst (λ (j : ℕ). digit i (get_or (set alone k (bit_or (get_or alone k 0) levels)) j 0) ≡ 1) (sym f)
        (ap (digit i) s ∙ or_right i (get_or alone k 0) levels (l i b o))

    grows : (i b : ℕ) → digit i (get_or alone b 0) ≡ 1 → digit i (get_or (set alone k (bit_or (get_or alone k 0) levels)) b 0) ≡ 1
    grows i b d =
        ⊎_elim
        (λ (f : b ≡ k).
        let s : get_or (set alone k (bit_or (get_or alone k 0) levels)) k 0 ≡ bit_or (get_or alone k 0) levels
        = get_or-set_same alone k (bit_or (get_or alone k 0) levels) 0 (omega (arith, h.size)) in
        subst (λ (j : ℕ). digit i (get_or (set alone k (bit_or (get_or alone k 0) levels)) j 0) ≡ 1) (sym f)
        (ap (digit i) s ∙ or_left i (get_or alone k 0) levels (subst (λ (j : ℕ). digit i (get_or alone j 0) ≡ 1) f d)))
        (λ (f : b ≡ k → ⊥). ap (digit i) (get_or-set_other alone k b (bit_or (get_or alone k 0) levels) 0 f) ∙ d)
        (eq? b k)

    fresh_here : (i : ℕ) → NewAt row own i → digit i up ≡ 1
    unfolding Minus
    fresh_here i o =
        let w = the_member own m hi.member in
        let out : digit i (m - 1) ≡ 0 = ap (λ (x : ℕ). digit i (x - 1)) w.1 ∙ mask_above w.0 i (o.none w.0 w.2) in
        omega (arith, u i, o.has)

    pub levels_met : LevelsPassed rows at (n + 1) (set alone k (bit_or (get_or alone k 0) levels)) (bit_or fresh up)
    levels_met = record {
      size = simp length-set h.size;
      owns = below_more (λ j. Owns at (set alone k (bit_or (get_or alone k 0) levels)) (get_or rows j 0)) n (λ j lt i b o. grows i b (h.owns j lt i b o)) here;
      news = below_more (λ j. News at (bit_or fresh up) (get_or rows j 0)) n
          (λ j lt i o. or_left i fresh up (h.news j lt i o))
          (λ i o. or_right i fresh up (fresh_here i o));
    }

pub levels_as : {rows : List ℕ} {at n : ℕ} {alone alone' : List ℕ} {fresh fresh' : ℕ}
    → alone ≡ alone' → fresh ≡ fresh' → LevelsPassed rows at n alone' fresh' → LevelsPassed rows at n alone fresh
levels_as a b h = rw (a, b) h

-- ---- an irredundant cover of level i has the own rows that the pass looks for

module _ (rows : List ℕ) (at i t : ℕ) (z : digit i at ≡ 0) (w : IrredundantBetween rows (top at i) (2 ^ i - 1) t) where
  has_level : digit i t ≡ 1
  unfolding IrredundantBetween Between
  has_level = w.1.0 i (top_here at i z)

  has_above : (c : ℕ) → i < c → digit c at ≡ 1 → digit c t ≡ 1
  unfolding IrredundantBetween Between
  has_above c lt m = w.1.0 c (top_above at i z c lt m)

  own_of : (b : ℕ) → digit b t ≡ 1 → Own rows (length rows) t b
  own_of b m = between_own rows (top at i) (2 ^ i - 1) t b w m

  -- a row whose only member of t is b
  module _ (x b : ℕ) (e : bit_and x t ≡ 2 ^ b) where
    old_own : i < b → digit b at ≡ 1 → OwnAt x (bit_and x at) i b
    old_own lt m = record {
      lacks = ⊎_elim (λ (p : digit i x ≡ 1). absurd (omega (arith, own_only x t b e i p has_level))) (λ (p : digit i x ≡ 1 → ⊥). omega (arith, digit_lt i x)) (eq? (digit i x) 1);
      below = lt;
      has = and_both b x at (own_has x t b e) m;
      only = λ c p q. own_only x t b e c (and_left c x at p) (has_above c q (and_right c x at p));
    }

    new_own : b ≡ i → NewAt x (bit_and x at) i
    new_own f = record {
      has = subst (λ (c : ℕ). digit c x ≡ 1) f (own_has x t b e);
      none = λ c p.
          elim (dec_lt i c) [
            | yes lt ↦ absurd (omega (arith, own_only x t b e c (and_left c x at p) (has_above c lt (and_right c x at p))))
            | no ge ↦ omega arith
          ];
    }

  module _ (alone : List ℕ) (fresh : ℕ) (g : LevelsPassed rows at (length rows) alone fresh) where
    level_found : digit i fresh ≡ 1
    unfolding Own
    level_found =
        let r : Own rows (length rows) t i = own_of i has_level in
        g.news r.0 r.1 i (new_own (get_or rows r.0 0) i r.2 refl)

    members_found : (b : ℕ) → digit b at ≡ 1 → i < b → digit i (get_or alone b 0) ≡ 1
    unfolding Own
    members_found b m lt =
        let r : Own rows (length rows) t b = own_of b (has_above b lt m) in
        g.owns r.0 r.1 i b (old_own (get_or rows r.0 0) b r.2 lt m)

pub levels_all : (rows : List ℕ) (at n : ℕ) (alone : List ℕ) (fresh r : ℕ) → LevelsPassed rows at n alone fresh → length rows ≤ n → n ≤ length rows
    → KeptLevels alone fresh at r → PossibleLevels rows at r
unfolding PossibleLevels KeptLevels NoneBetween
levels_all rows at n alone fresh r h ge le k i z out t w =
    let e : n ≡ length rows = omega arith in
    let g : LevelsPassed rows at (length rows) alone fresh = subst (λ (j : ℕ). LevelsPassed rows at j alone fresh) e h in
    let found : digit i r ≡ 1 = k i (level_found rows at i t z w alone fresh g) (members_found rows at i t z w alone fresh g) in
    omega arith
