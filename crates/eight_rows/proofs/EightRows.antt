-- The laws behind the eight rows of a B at once: bits that hold those of each byte, a B that is accepted, and its rows put.
use Prim.Native.Nat.{ℕ, suc, ◌+◌, ◌-◌, ◌*◌, ◌^◌, ◌≤◌, ◌<◌}
use native.Mathlib.Omega.{arith}
use native.Mathlib.Decide.{dec_lt}
use mathlib.Core.Path.{◌≡◌, refl, sym, ap, ◌∙◌, subst}
use mathlib.Core.List.{List}
use borrow.Author.Tests.{le-ltb, lt-leb}
use lib.Bits.{bit_and, bit_or, and_le_l, and_le_r, or_add_and}
use lib.Pow.{pow_mono}
use lib.Seq.{get_or-drop, get_or-take, length-take-le}
use lib.ListN.{get_or, length, take, drop, length-drop, drop_of_length-le}
use Rattle.model.specs.Base.{below}
use Rattle.model.specs.Commands.{kind_of, Row, row_of_b, rows_of_b}
use Rattle.model.specs.Refusals.{first_of}
use Rattle.model.proofs.Lists.{below_e, all_of, all_map}
use Rattle.model.proofs.RowByRow.{rows_eight, rows_drop}
use Rattle.problem.specs.declared.Settings.{Settings}
use Rattle.problem.specs.declared.TableRows.{TableRows}
use Rattle.problem.specs.Problems.{row_put, rows_put}
use Rattle.problem.specs.Refusing.{is_taken, row_refusals}
use Rattle.eight_rows.specs.Rows.{EightAt}

-- ---- bits that hold those of each number

-- the loop's invariant: `all` is no less than each of the first i numbers
abbrev pub Union : (ℕ → ℕ) → ℕ → ℕ → Type 0
Union f i all = (j : ℕ) → j < i → f j ≤ all

pub union_next : {f : ℕ → ℕ} {i all : ℕ} → Union f i all → Union f (i + 1) (bit_or all (f i))
union_next {f} {i} {all} u j k = go (dec_lt j i)
  where
    go : Dec (j < i) → f j ≤ bit_or all (f i)
    go (yes s) = omega (arith, u j s, or_add_and all (f i), and_le_r all (f i))
    go (no n) = let e : j ≡ i = omega arith in rw e (omega (arith, or_add_and all (f i), and_le_l all (f i)))

-- of a part of a list
pub part_below : (xs : List ℕ) (a b r : ℕ) → b ≤ length xs → ((i : ℕ) → i < length (take (b - a) (drop a xs)) → get_or (take (b - a) (drop a xs)) i 0 ≤ r)
    → (i : ℕ) → i < b - a → get_or xs (a + i) 0 ≤ r
part_below xs a b r h f i l =
    let n : length (take (b - a) (drop a xs)) ≡ b - a = length-take-le (b - a) (drop a xs) (omega (arith, length-drop a xs)) in
    omega (arith, f i (omega (arith, n)), get_or-take (b - a) (drop a xs) i 0 l, get_or-drop a xs i 0)

-- ---- a B that is accepted

module _ (s : Settings) (given job : List ℕ) (at : ℕ) {v top bound g h u : ℕ} (room : 18 ≤ length job - at) (byte : get_or job at 0 ≡ 0x42) (first : v ≡ get_or job (at + 1) 0)
    (inputs : top ≡ 2 ^ s.n) (few : s.n ≤ 8) (below_top : v + 8 ≤ top) (given_all : (i : ℕ) → i < 8 → get_or given (v + i) 0 ≤ g) (no_given : g ≤ 0)
    (shared_all : (i : ℕ) → i < 8 → bit_and (get_or job (at + 2 + 2 * i) 0) (get_or job (at + 2 + 2 * i + 1) 0) ≤ h) (no_shared : h ≤ 0)
    (used_all : (i : ℕ) → i < 16 → get_or job (at + 2 + i) 0 ≤ u) (outputs : bound ≡ 2 ^ s.m) (below_bound : u < bound) where
  operand_is : (i j : ℕ) → at + 1 + i ≡ j → get_or (drop (at + 1) job) i 0 ≡ get_or job j 0
  operand_is i j e = get_or-drop (at + 1) job i 0 ∙ ap (λ (k : ℕ). get_or job k 0) e

  -- row i, by itself
  row_passes : (i : ℕ) → i < 8 → let w = row_of_b (drop (at + 1) job) i in 0 ≡ first_of (row_refusals s.n s.m given w.vertex w.on w.dc)
  unfolding is_taken
  row_passes i l =
      let on = get_or job (at + 2 + 2 * i) 0 in
      let dc = get_or job (at + 2 + 2 * i + 1) 0 in
      let v_is : get_or (drop (at + 1) job) 0 0 ≡ v = operand_is 0 (at + 1) (omega arith) ∙ sym first in
      let dc_at : at + 2 + 2 * i + 1 ≡ at + 2 + (2 * i + 1) = omega arith in
      let dc_used : dc ≤ u = subst (λ (k : ℕ). get_or job k 0 ≤ u) (sym dc_at) (used_all (2 * i + 1) (omega arith)) in
      rw (v_is, operand_is (1 + 2 * i) (at + 2 + 2 * i) (omega arith), operand_is (2 + 2 * i) (at + 2 + 2 * i + 1) (omega arith))
      (rw (
        lt-leb (2 ^ s.n) (v + i) (omega (arith, inputs, below_top)),
        le-ltb 0 (get_or given (v + i) 0) (omega (arith, given_all i l, no_given)),
        le-ltb 0 (bit_and on dc) (omega (arith, shared_all i l, no_shared)),
        lt-leb (2 ^ s.m) on (omega (arith, used_all (2 * i) (omega arith), outputs, below_bound)),
        lt-leb (2 ^ s.m) dc (omega (arith, dc_used, outputs, below_bound)),
      ) refl)

  pub eight_at : EightAt s given job at
  unfolding kind_of rows_of_b
  eight_at = record {
    room = omega (arith, room);
    kind = ap kind_of byte;
    bytes = omega (arith, first, inputs, below_top, pow_mono few);
    accepted = all_map (λ (w : Row). 0 ≡ first_of (row_refusals s.n s.m given w.vertex w.on w.dc)) (row_of_b (drop (at + 1) job))
        (below 8) (all_of _ (below 8) (λ i m. row_passes i (below_e 8 m)));
  }

-- ---- its rows put

-- the loop's invariant: what is left to put of them
pub record Putting (rows : TableRows) (ws : List Row) (i : ℕ) (now : TableRows) : Type 0 where
  pub within : i ≤ 8
  pub left : rows_put now (drop i ws) ≡ rows_put rows ws

pub putting_none : {rows : TableRows} (ws : List Row) → Putting rows ws 0 rows
putting_none ws = record { within = omega arith; left = refl }

pub putting_next : {rows now : TableRows} (job : List ℕ) (at : ℕ) {i v : ℕ} → Putting rows (rows_of_b (drop at job)) i now → i < 8 → v ≡ get_or job at 0
    → Putting rows (rows_of_b (drop at job)) (i + 1) (row_put now (v + i) (get_or job (at + 1 + 2 * i) 0) (get_or job (at + 2 + 2 * i) 0))
putting_next {rows} {now} job at {i} {v} p l e = record {
  within = omega arith;
  left = ap (λ (k : ℕ). rows_put after (drop k ws)) next ∙ ap (λ (r : TableRows). rows_put r (drop (suc i) ws)) (sym same) ∙ sym (ap (rows_put now) (rows_drop (drop at job) i l)) ∙ p.left;
}
  where
    ws : List Row
    ws = rows_of_b (drop at job)

    after : TableRows
    after = row_put now (v + i) (get_or job (at + 1 + 2 * i) 0) (get_or job (at + 2 + 2 * i) 0)

    w : Row
    w = row_of_b (drop at job) i

    next : i + 1 ≡ suc i
    next = omega arith

    operand_is : (k j : ℕ) → at + k ≡ j → get_or (drop at job) k 0 ≡ get_or job j 0
    operand_is k j q = get_or-drop at job k 0 ∙ ap (λ (n : ℕ). get_or job n 0) q

    same : row_put now w.vertex w.on w.dc ≡ after
    same =
        let v_is : get_or (drop at job) 0 0 ≡ v = operand_is 0 at (omega arith) ∙ sym e in
        rw (v_is, operand_is (1 + 2 * i) (at + 1 + 2 * i) (omega arith), operand_is (2 + 2 * i) (at + 2 + 2 * i) (omega arith)) refl

pub putting_all : {rows now : TableRows} (bs : List ℕ) {i : ℕ} → Putting rows (rows_of_b bs) i now → 8 ≤ i → now ≡ rows_put rows (rows_of_b bs)
putting_all {now = now} bs {i} p l = let all : length (rows_of_b bs) ≤ i = omega (arith, rows_eight bs) in sym (ap (rows_put now) (drop_of_length-le (rows_of_b bs) all)) ∙ p.left
