-- The walk over the listed sets: which sets are passed, and where it ends.
use Rattle.std.proofs.Common.{◌≡◌, refl, sym, ap, ◌∙◌, subst, Bool, true, false, List, ℕ, ◌+◌, ◌-◌, ◌*◌, ◌/◌, ◌%◌, ◌^◌, ◌≤◌, ◌<◌, mod-lt, arith, length, bit_and, bit_or, pow_pos, pow_mono, Some, None}
use mathlib.Core.List.{Memᴰ}
use native.Mathlib.Decide.{dec_lt}
use native.Mathlib.Nat.{mul-mod_left}
use lib.Bits.{and_mask}
use lib.Pow.{split}
use Rattle.model.specs.Pages.{Rising}
use Rattle.bits.specs.Bits.{digit}
use Rattle.bits.proofs.Members.{above, within, lacks_bit}
use Rattle.rows.specs.Covers.{IrredundantCover, Between, row_covers}
use Rattle.lister.specs.declared.cursor.Cursor.{Cursor}
use Rattle.lister.specs.Levels.{top}
use Rattle.lister.specs.Lister.{coming, sought, advanced}
use Rattle.lister.specs.Selected.{Passed, room}
use Rattle.lister.proofs.Climbing.{top_le, top_zero}
use Rattle.lister.proofs.Listing.{row_covers_lem, row_covers_rising}
use Rattle.lister.proofs.Selecting.{moved_on, selected_none, selected_found, selected_on, passed_to, passed_one, room_falls}
use Rattle.ranges.specs.Listed.{Listed, row_possibles}
use Rattle.ranges.specs.Rivals.{Quoted, KnownListed, Decided, NoneListed}
use Rattle.ranges.proofs.Bridge.{row_possibles_lem, possibles_rise}
use Rattle.ranges.proofs.Contesting.{quoted_ends}

module _ (x i m s : ℕ) (e : m ≡ 2 ^ i) (f : s ≡ x - bit_and x (m - 1)) where
  level_start : s ≡ x / 2 ^ i * 2 ^ i
  level_start =
      let b : bit_and x (m - 1) ≡ x % 2 ^ i = ap (λ (k : ℕ). bit_and x (k - 1)) e ∙ and_mask x i in
      omega (arith, split x i)

  -- the range of a level below 64 ends below 2^64
  pub level_fits : i < 64 → x < 2 ^ 64 → bit_and x m ≡ 0 → s + m < 2 ^ 64
  unfolding top
  level_fits lt small z = omega (arith, level_start, top_zero x i (lacks_bit i m e x z), top_le x (i + 1) 64 (omega arith) small, pow_pos i)

module _ (rows low high : List ℕ) (unit : ℕ) (q : Quoted low high unit) where
  abbrev list : List ℕ
  list = row_possibles (length low) rows low high

  abbrev all : List ℕ
  all = row_covers (length low) rows

  is_listed : (s : ℕ) → Memᴰ s list → Listed (length low) rows low high s
  is_listed s m = (row_possibles_lem (length low) rows low high (quoted_ends low high unit q) s).0 m

  in_list : (s : ℕ) → Listed (length low) rows low high s → Memᴰ s list
  in_list s h = (row_possibles_lem (length low) rows low high (quoted_ends low high unit q) s).1 h

  pub list_rising : Rising 0 (row_possibles (length low) rows low high)
  list_rising = possibles_rise (length low) rows low high (quoted_ends low high unit q)

  inside : (s : ℕ) → Memᴰ s list → Memᴰ s all
  inside s m = let h = is_listed s m in (row_covers_lem (length low) rows s).1 (h.among, h.tight)

  pub list_small : (s : ℕ) → Memᴰ s (row_possibles (length low) rows low high) → s < 2 ^ 64
  list_small s m = omega (arith, (is_listed s m).among, pow_mono q.few)

  -- a cursor that was moved and is not over stands on a listed set
  pub found_known : (c d : Cursor) → d ≡ sought list c → d.over ≡ false → KnownListed rows low high (Some d.at)
  unfolding KnownListed
  found_known c d e o = is_listed d.at (moved_on list list list_rising (λ s m. m) c d e o).2

  -- ---- the range of a level

  module _ (x i m s : ℕ) (e : m ≡ 2 ^ i) (f : s ≡ x - bit_and x (m - 1)) where
    start : s ≡ x / 2 ^ i * 2 ^ i
    start = level_start x i m s e f

    pub level_passed : NoneListed rows low high s (m - 1) → (c : Cursor) → c ≡ record { at = s + m; over = false } → Passed list (record { at = x; over = false }) c
    unfolding NoneListed Between
    level_passed none c g = passed_to list (record { at = x; over = false }) refl (s + m) c g (omega (arith, start, split x i, mod-lt x (pow_pos i)))
        (λ y k h. elim (dec_lt y (s + m)) [
          | no ge ↦ omega arith
          | yes lt ↦ absurd (none y (is_listed y k) (lies y h lt))
        ])
      where
        aligned : s % 2 ^ i ≡ 0
        aligned = ap (λ (k : ℕ). k % 2 ^ i) start ∙ mul-mod_left (x / 2 ^ i) (2 ^ i)

        lies : (y : ℕ) → x ≤ y → y < s + m → Between s (m - 1) y
        lies y h lt =
            let lo : s ≤ y = omega (arith, start, split x i) in
            let hi : y < s + 2 ^ i = omega arith in
            (above i s y aligned lo hi, λ b d. subst (λ (k : ℕ). digit b (bit_or s (k - 1)) ≡ 1) (sym e) (within i s y aligned lo hi b d))

  pub one_passed : (x : ℕ) (b c : Cursor) → b ≡ record { at = x; over = false } → c ≡ advanced b → (Listed (length low) rows low high x → ⊥)
      → Passed list (record { at = x; over = false }) c
  one_passed x b c e f not =
      passed_one list (record { at = x; over = false }) refl list_small (λ m. not (is_listed x m)) c (f ∙ ap advanced e)

  -- ---- the walk

  module _ (self c d : Cursor) (so_far : coming list c ≡ coming list self) (e : d ≡ sought all c) where
    stands : d.over ≡ false → (d.at < 2 ^ length low) × IrredundantCover rows d.at
    stands o = (row_covers_lem (length low) rows d.at).0 (moved_on all list (row_covers_rising (length low) rows) inside c d e o).2

    pub walked_none : d.over ≡ true → record { at = self.at; over = true } ≡ sought list self
    walked_none o = selected_none all list (row_covers_rising (length low) rows) inside list_rising self c d so_far e o

    pub walked_found : d.over ≡ false → Decided rows low high d.at None → d ≡ sought list self
    unfolding Decided
    walked_found o r =
        let s = stands o in
        selected_found all list (row_covers_rising (length low) rows) inside list_rising self c d so_far e o (in_list d.at (r s.0 s.1))

    made : d.over ≡ false → (b : Cursor) → Passed list (record { at = d.at; over = false }) b → Passed list d b
    made o b p = subst (λ (x : Cursor). Passed list x b) (ap (λ (v : Bool). record { at = d.at; over = v }) (sym o)) p

    pub walked_on : d.over ≡ false → (b : Cursor) → Passed list (record { at = d.at; over = false }) b → coming list b ≡ coming list self
    walked_on o b p = selected_on all list (row_covers_rising (length low) rows) inside list_rising self c d so_far e b (made o b p)

    pub walked_less : d.over ≡ false → (b : Cursor) → Passed list (record { at = d.at; over = false }) b → room b < room c
    walked_less o b p =
        let small : c.at < 2 ^ 64
        = omega (arith, (stands o).0, pow_mono q.few, (moved_on all list (row_covers_rising (length low) rows) inside c d e o).1) in
        room_falls all list (row_covers_rising (length low) rows) c d b small e o (made o b p)
