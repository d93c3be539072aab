-- Formula (3) in two parts, the candidates that are terms and those that are blocks; the laws behind `block_summands` and behind a point of
-- `presence`.
use Prim.Native.Nat.{ℕ, ◌-◌, ◌≤◌, ◌<◌, min, max}
use native.Mathlib.Omega.{arith}
use mathlib.Core.Path.{◌≡◌, sym, ap, ap₂, ◌∙◌}
use mathlib.Core.Logic.{⊎_elim}
use mathlib.Core.Bool.{Bool, ◌||◌}
use mathlib.Core.List.{List}
use lib.Bits.{bit_and, and_zero_r}
use lib.Dec.{T, ltb, ltb→lt, lt→ltb}
use lib.ListN.{get_or, replicate, length-replicate}
use Rattle.model.specs.declared.Term.{Term}
use Rattle.model.specs.Table.{cell, holds}
use Rattle.model.specs.Candidates.{Candidate, candidate_holds}
use Rattle.model.specs.Sets.{row_of}
use Rattle.model.specs.Presence.{sum_at}
use Rattle.model.proofs.Lists.{bool_ext, or_cases, or_l, or_r, zero_at}
use Rattle.model.proofs.Rows.{held_iff}
use Rattle.model.proofs.Presence.{sum_held}
use Rattle.bits.specs.Bits.{digit, Minus}
use Rattle.bits.proofs.Digits.{eq?, digit_lt, digit_and, a_member}
use Rattle.bits.proofs.Members.{and_left, and_right, and_both, not_zero}
use Rattle.incidence.specs.Stored.{Stored}
use Rattle.incidence.specs.Rows.{has_vertex, drives_output, at_vertex}
use Rattle.incidence.specs.Presence.{TellsSum, BlockSummands, InParts}
use Rattle.incidence.proofs.Candidates.{held_blocks, stored_digits, entry_row, cell_row_lem}

-- ---- a set without a block

pub no_summands : (ts : List Term) (m s : ℕ) (array : List ℕ) → s ≡ 0 → array ≡ replicate 8 0 → BlockSummands ts s m array
no_summands ts m s array z e = rw (z, e) (record { size = length-replicate {A = ℕ} 8 0; sets = λ j l. zero_at 8 j ∙ sym (and_zero_r (row_of drives_output ts j)) })

-- ---- sets that meet

-- they have a member in common
common : (x y : ℕ) → T (ltb 0 (bit_and x y)) → (i : ℕ) × (digit i x ≡ 1) × (digit i y ≡ 1)
common x y t =
    let w : (i : ℕ) × (digit i (bit_and x y) ≡ 1) = a_member (bit_and x y) (λ e. omega (arith, ltb→lt 0 (bit_and x y) t)) in
    (w.0, and_left w.0 x y w.1, and_right w.0 x y w.1)

meet : (i x y : ℕ) → digit i x ≡ 1 → digit i y ≡ 1 → T (ltb 0 (bit_and x y))
meet i x y g h = lt→ltb 0 (bit_and x y) (let n : bit_and x y ≡ 0 → ⊥ = not_zero i (bit_and x y) (and_both i x y g h) in omega arith)

-- the sum at a point is 1 where the set meets the row of the point
sum_meets : {A X : Type 0} (f : A → X → Bool) (fs : List A) (s : ℕ) (x : X) → sum_at f fs s x ≡ ltb 0 (bit_and s (row_of f fs x))
sum_meets f fs s x = sum_held f fs s x ∙ bool_ext _ (ltb 0 (bit_and s (row_of f fs x)))
    (λ t. lt→ltb 0 (bit_and s (row_of f fs x)) ((held_iff f fs x s).0 t)) (λ t. (held_iff f fs x s).1 (ltb→lt 0 (bit_and s (row_of f fs x)) t))

-- ---- the two parts

module _ {cs : List Candidate} {ts : List Term} {blocks : ℕ} {held : List ℕ} (q : Stored cs ts blocks held) (s rest v j : ℕ) (m : Minus s blocks rest) (l : v < 256) where
  abbrev drive : ℕ
  drive = row_of drives_output ts j

  abbrev entries : ℕ
  entries = row_of holds ts (cell v j)

  abbrev row : ℕ
  row = row_of candidate_holds cs (cell v j)

  abbrev driven : ℕ
  driven = bit_and drive (bit_and s blocks)

  entry_digit : (i : ℕ) → digit i entries ≡ min (digit i (row_of has_vertex ts v)) (digit i drive)
  entry_digit i = ap (digit i) (sym (entry_row ts v j)) ∙ digit_and i (row_of has_vertex ts v) drive

  row_digit : (i : ℕ) → digit i row ≡ min (max (digit i (row_of has_vertex ts v) - digit i blocks) (digit i (get_or held v 0))) (digit i drive)
  row_digit i = ap (digit i) (sym (cell_row_lem q v j)) ∙ digit_and i (row_of at_vertex cs v) drive ∙ ap (λ (x : ℕ). min x (digit i drive)) (stored_digits q v i l)

  driven_digit : (i : ℕ) → digit i driven ≡ min (digit i drive) (min (digit i s) (digit i blocks))
  driven_digit i = digit_and i drive (bit_and s blocks) ∙ ap (min (digit i drive)) (digit_and i s blocks)

  in_blocks : (i : ℕ) → digit i (get_or held v 0) ≤ digit i blocks
  in_blocks i = rw (q.at.sets v l, q.which) (held_blocks cs v i)

  -- a member that is a term, and one that is a block
  of_term : T (ltb 0 (bit_and rest entries)) → T (ltb 0 (bit_and s row))
  unfolding Minus
  of_term t =
      let w = common rest entries t in
      let i : ℕ = w.0 in
      meet i s row (omega (arith, m i, w.1, digit_lt i s)) (omega (arith, m i, w.1, w.2, entry_digit i, row_digit i, digit_lt i s, digit_lt i row, digit_lt i drive))

  of_block : T (ltb 0 (bit_and (get_or held v 0) driven)) → T (ltb 0 (bit_and s row))
  of_block t =
      let w = common (get_or held v 0) driven t in
      let i : ℕ = w.0 in
      meet i s row (omega (arith, w.2, driven_digit i, digit_lt i s)) (omega (arith, w.1, w.2, driven_digit i, row_digit i, digit_lt i row, digit_lt i drive))

  either : T (ltb 0 (bit_and s row)) → T (ltb 0 (bit_and rest entries) || ltb 0 (bit_and (get_or held v 0) driven))
  unfolding Minus
  either t =
      let w = common s row t in
      let i : ℕ = w.0 in
      let d : digit i drive ≡ 1 = omega (arith, w.2, row_digit i, digit_lt i drive) in
      ⊎_elim
      (λ (a : digit i (get_or held v 0) ≡ 1).
      or_r (ltb 0 (bit_and rest entries)) (ltb 0 (bit_and (get_or held v 0) driven))
      (meet i (get_or held v 0) driven a (omega (arith, w.1, d, driven_digit i, in_blocks i, digit_lt i blocks))))
      (λ (a : digit i (get_or held v 0) ≡ 1 → ⊥).
      let none : digit i (get_or held v 0) ≡ 0 = omega (arith, digit_lt i (get_or held v 0)) in
      let e : digit i (row_of has_vertex ts v) - digit i blocks ≡ 1 = omega (arith, w.2, d, none, row_digit i, digit_lt i (row_of has_vertex ts v)) in
      let c : digit i (row_of has_vertex ts v) ≡ 1 = omega (arith, e, digit_lt i (row_of has_vertex ts v)) in
      or_l (ltb 0 (bit_and rest entries)) (ltb 0 (bit_and (get_or held v 0) driven)) (meet i rest entries (omega (arith, w.1, e, c, m i)) (omega (arith, c, d, entry_digit i))))
      (eq? (digit i (get_or held v 0)) 1)

  two_parts : (ltb 0 (bit_and rest entries) || ltb 0 (bit_and (get_or held v 0) driven)) ≡ sum_at candidate_holds cs s (cell v j)
  two_parts =
      bool_ext (ltb 0 (bit_and rest entries) || ltb 0 (bit_and (get_or held v 0) driven)) (ltb 0 (bit_and s row))
      (λ t. ⊎_elim of_term of_block (or_cases (ltb 0 (bit_and rest entries)) (ltb 0 (bit_and (get_or held v 0) driven)) t)) either
      ∙ sym (sum_meets candidate_holds cs s (cell v j))

pub point_sum : {ts : List Term} {blocks s m : ℕ} {care value outputs driving held : List ℕ} → InParts ts blocks s m care value outputs driving → (v j : ℕ) (a b : Bool)
    → v < 256 → j < m → TellsSum care value outputs (cell v j) a → b ≡ ltb 0 (bit_and (get_or held v 0) (get_or driving j 0))
    → (cs : List Candidate) → Stored cs ts blocks held → (a || b) ≡ sum_at candidate_holds cs s (cell v j)
point_sum {ts} {blocks} {s} {driving = driving} {held = held} k v j a b l g tells f cs q =
    ap₂ ◌||◌ (tells ts k.rest k.columns ∙ sum_meets holds ts k.rest (cell v j))
    (f ∙ ap (λ (y : ℕ). ltb 0 (bit_and (get_or held v 0) y)) (k.blocks_driving.sets j g))
    ∙ two_parts q s k.rest v j k.terms l
