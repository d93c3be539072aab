-- Sets of candidates, each as a number; the laws behind `cubes_at`, `candidates_for`, `driving` and `driving_all`.
use Prim.Native.Nat.{ℕ, zero, suc, ◌+◌, ◌-◌, ◌*◌, ◌/◌, ◌%◌, ◌^◌, ◌≤◌, ◌<◌, min, max}
use native.Mathlib.Omega.{arith}
use native.Mathlib.Nat.{pow-suc}
use mathlib.Core.Path.{◌≡◌, refl, sym, ap, ap₂, ◌∙◌}
use mathlib.Core.Bool.{Bool, true, false, cond, ◌&&◌}
use mathlib.Core.List.{List, [], ◌∷◌, map}
use borrow.Author.Count.{below_more}
use lib.Bits.{bit_and, bit_or, and_step}
use lib.ListN.{length, drop, get_or, set, length-set}
use lib.Pow.{pow_mono}
use lib.Seq.{drop-cons, drop-length, get_or-set_same, get_or-set_other}
use mir.Val.{bool_byte}
use Rattle.model.specs.declared.Term.{Term}
use Rattle.model.specs.Table.{cell, holds}
use Rattle.model.specs.Blocks.{vertex_bit, block_holds}
use Rattle.model.specs.Candidates.{Candidate, candidate_holds}
use Rattle.model.specs.Sets.{row_of}
use Rattle.bits.specs.Bits.{digit, Minus}
use Rattle.bits.proofs.Digits.{digit_first, digit_next, digit_of_zero, digit_or, digit_ext}
use Rattle.incidence.specs.Stored.{entry_of, is_block, block_at, Stored}
use Rattle.incidence.specs.Rows.{has_vertex, drives_output, at_vertex, AtOutputs}

pub flag_le : (b : Bool) (x : ℕ) → x ≡ cond b 1 0 → x ≤ 1
flag_le true x e = omega arith
flag_le false x e = omega arith

-- a truth value as a number
pub as_flag : (b : Bool) {y : ℕ} → y ≡ bool_byte b → y ≡ cond b 1 0
as_flag true e = e
as_flag false e = e

-- ---- one bit for each candidate, from the last one down

-- s has the rows of the candidates from k on
pub record RowFrom {A X : Type 0} (f : A → X → Bool) (ts : List A) (x : X) (k s : ℕ) : Type 0 where
  pub same : s ≡ row_of f (drop k ts) x

module _ {A X : Type 0} (f : A → X → Bool) (ts : List A) (x : X) where
  pub from_none : RowFrom f ts x (length ts) 0
  unfolding row_of
  from_none = record { same = rw (drop-length ts) }

  pub from_next : {k s : ℕ} (d : A) (b : Bool) (y : ℕ) → 0 < k → k ≤ length ts → b ≡ f (get_or ts (k - 1) d) x → y ≡ cond b 1 0 → RowFrom f ts x k s → RowFrom f ts x (k - 1) (s * 2 + y)
  unfolding row_of
  from_next {k} {s} d b y l m e z h =
      let n : suc (k - 1) ≡ k = omega arith in
      let q : drop (k - 1) ts ≡ get_or ts (k - 1) d ∷ drop k ts = drop-cons ts (k - 1) d (omega arith) ∙ ap (λ (j : ℕ). get_or ts (k - 1) d ∷ drop j ts) n in
      record { same = rw (q, h.same, z, e) }

-- each bit doubles the room
pub room_next : (n k s y : ℕ) (b : Bool) → 0 < k → k ≤ n → s < 2 ^ (n - k) → y ≡ cond b 1 0 → s * 2 + y < 2 ^ (n - (k - 1))
room_next n k s y b l m h e =
    let i : n - (k - 1) ≡ suc (n - k) = omega arith in
    let p : 2 ^ (n - (k - 1)) ≡ 2 ^ (n - k) * 2 = ap (λ (i : ℕ). 2 ^ i) i ∙ pow-suc 2 (n - k) in
    omega (arith, flag_le b y e, p)

pub room_of : (n k s : ℕ) → n ≤ 64 → 0 < k → s < 2 ^ (n - k) → s * 2 + 1 < 2 ^ 64
room_of n k s m l h =
    let p : 2 ^ (n - k) ≤ 2 ^ 63 = pow_mono {i = n - k} {j = 63} (omega arith) in
    omega arith

-- ---- output by output

module _ (f : ℕ → ℕ) (array : List ℕ) where
  pub outputs_none : length array ≡ 8 → AtOutputs f 0 array
  outputs_none s = record { size = s; sets = λ j l. absurd (omega arith) }

  pub outputs_next : (k x y : ℕ) → k < 8 → x ≡ k → y ≡ f k → AtOutputs f k array → AtOutputs f (k + 1) (set array x y)
  outputs_next k x y l e g h = rw e (record {
    size = length-set array k y ∙ h.size;
    sets =
        below_more (λ j. get_or (set array k y) j 0 ≡ f j) k
        (λ j b. get_or-set_other array k j y 0 (λ d. omega arith) ∙ h.sets j b) (get_or-set_same array k y 0 (omega (arith, h.size)) ∙ g);
  })

  pub outputs_end : (k m : ℕ) → m ≤ k → AtOutputs f k array → AtOutputs f m array
  outputs_end k m l h = record { size = h.size; sets = λ j b. h.sets j (omega arith) }

-- ---- a row by its bits

pub half : (z : ℕ) (c : Bool) → (z * 2 + cond c 1 0) / 2 ≡ z
half z true = omega arith
half z false = omega arith

pub low : (z : ℕ) (c : Bool) → (z * 2 + cond c 1 0) % 2 ≡ cond c 1 0
low z true = omega arith
low z false = omega arith

module _ {A X : Type 0} (f : A → X → Bool) (c : A) (cs : List A) (x : X) where
  first_digit : digit 0 (row_of f (c ∷ cs) x) ≡ cond (f c x) 1 0
  unfolding row_of
  first_digit = digit_first (row_of f (c ∷ cs) x) ∙ low (row_of f cs x) (f c x)

  next_digit : (i : ℕ) → digit (suc i) (row_of f (c ∷ cs) x) ≡ digit i (row_of f cs x)
  unfolding row_of
  next_digit i = digit_next i (row_of f (c ∷ cs) x) ∙ ap (digit i) (half (row_of f cs x) (f c x))

-- ---- the candidates at a vertex: terms by their cubes, blocks by what is held

vertex_digits : (cs : List Candidate) (v i : ℕ) → digit i (row_of at_vertex cs v) ≡ max (digit i (row_of has_vertex (map entry_of cs) v) - digit i (row_of is_block cs 0)) (digit i (row_of block_at cs v))
unfolding row_of
vertex_digits [] v i = omega (arith, digit_of_zero i)
vertex_digits (c ∷ cs) v zero = rw (first_digit at_vertex c cs v, first_digit has_vertex (entry_of c) (map entry_of cs) v, first_digit is_block c cs 0, first_digit block_at c cs v) (one c)
  where
    one : (c : Candidate) → cond (at_vertex c v) 1 0 ≡ max (cond (has_vertex (entry_of c) v) 1 0 - cond (is_block c 0) 1 0) (cond (block_at c v) 1 0)
    one (Candidate.term t) = flags (has_vertex t v)
      where
        flags : (b : Bool) → cond b 1 0 ≡ max (cond b 1 0 - 0) 0
        flags true = refl
        flags false = refl
    one (Candidate.block b) = flags (has_vertex (entry_of (Candidate.block b)) v) (vertex_bit b v)
      where
        flags : (a b : Bool) → cond b 1 0 ≡ max (cond a 1 0 - 1) (cond b 1 0)
        flags true b = omega arith
        flags false b = omega arith
vertex_digits (c ∷ cs) v (suc i) =
    rw (next_digit at_vertex c cs v i, next_digit has_vertex (entry_of c) (map entry_of cs) v i, next_digit is_block c cs 0 i, next_digit block_at c cs v i) (vertex_digits cs v i)

-- what is held are blocks
pub held_blocks : (cs : List Candidate) (v i : ℕ) → digit i (row_of block_at cs v) ≤ digit i (row_of is_block cs 0)
unfolding row_of
held_blocks [] v i = omega arith
held_blocks (c ∷ cs) v zero = rw (first_digit block_at c cs v, first_digit is_block c cs 0) (one c)
  where
    one : (c : Candidate) → cond (block_at c v) 1 0 ≤ cond (is_block c 0) 1 0
    one (Candidate.term t) = omega arith
    one (Candidate.block b) = flag_le (vertex_bit b v) (cond (vertex_bit b v) 1 0) refl
held_blocks (c ∷ cs) v (suc i) = rw (next_digit block_at c cs v i, next_digit is_block c cs 0 i) (held_blocks cs v i)

module _ {cs : List Candidate} {ts : List Term} {blocks : ℕ} {held : List ℕ} (q : Stored cs ts blocks held) where
  pub stored_digits : (v i : ℕ) → v < 256 → digit i (row_of at_vertex cs v) ≡ max (digit i (row_of has_vertex ts v) - digit i blocks) (digit i (get_or held v 0))
  stored_digits v i l = rw (q.entries, q.which, q.at.sets v l) (vertex_digits cs v i)

  pub vertex_row : (v u x y : ℕ) → v < 256 → u ≡ v → x ≡ row_of has_vertex ts v → Minus x blocks y → bit_or y (get_or held u 0) ≡ row_of at_vertex cs v
  unfolding Minus
  vertex_row v u x y l f e m = rw f (digit_ext (bit_or y (get_or held v 0)) (row_of at_vertex cs v)
      (λ i. omega (arith, digit_or i y (get_or held v 0), m i, ap (digit i) e, stored_digits v i l)))

-- ---- the row of a cell

and_flags : (x y : ℕ) (a b : Bool) → bit_and (x * 2 + cond a 1 0) (y * 2 + cond b 1 0) ≡ bit_and x y * 2 + cond (a && b) 1 0
and_flags x y a b = and_step (x * 2 + cond a 1 0) (y * 2 + cond b 1 0) ∙ rw (half x a, half y b, low x a, low y b) (ap (λ (z : ℕ). bit_and x y * 2 + z) (least a b))
  where
    least : (c d : Bool) → min (cond c 1 0) (cond d 1 0) ≡ cond (c && d) 1 0
    least true true = refl
    least true false = refl
    least false true = refl
    least false false = refl

-- the row of a conjunction is the meet of two rows
row_and : {A X Y Z : Type 0} (f : A → X → Bool) (g : A → Y → Bool) (h : A → Z → Bool) (x : X) (y : Y) (z : Z)
    → ((t : A) → h t z ≡ (f t x && g t y)) → (ts : List A) → bit_and (row_of f ts x) (row_of g ts y) ≡ row_of h ts z
unfolding row_of
row_and f g h x y z e [] = refl
row_and f g h x y z e (t ∷ ts) = and_flags (row_of f ts x) (row_of g ts y) (f t x) (g t y) ∙ ap₂ (λ (r : ℕ) (b : Bool). r * 2 + cond b 1 0) (row_and f g h x y z e ts) (sym (e t))

row_map : {A B X : Type 0} (f : B → X → Bool) (g : A → B) (cs : List A) (x : X) → row_of f (map g cs) x ≡ row_of (λ c. f (g c)) cs x
unfolding row_of
row_map f g [] x = refl
row_map f g (c ∷ cs) x = ap (λ (r : ℕ). r * 2 + cond (f (g c) x) 1 0) (row_map f g cs x)

-- of entries, and of candidates
pub entry_row : (ts : List Term) (v j : ℕ) → bit_and (row_of has_vertex ts v) (row_of drives_output ts j) ≡ row_of holds ts (cell v j)
unfolding holds
entry_row ts v j = row_and has_vertex drives_output holds v j (cell v j) (λ t. refl) ts

pub cell_row_lem : {cs : List Candidate} {ts : List Term} {blocks : ℕ} {held : List ℕ} → Stored cs ts blocks held → (v j : ℕ)
    → bit_and (row_of at_vertex cs v) (row_of drives_output ts j) ≡ row_of candidate_holds cs (cell v j)
unfolding holds block_holds
cell_row_lem {cs} q v j =
    ap (λ (us : List Term). bit_and (row_of at_vertex cs v) (row_of drives_output us j)) q.entries
    ∙ ap (bit_and (row_of at_vertex cs v)) (row_map drives_output entry_of cs j)
    ∙ row_and at_vertex (λ c. drives_output (entry_of c)) candidate_holds v j (cell v j) both cs
  where
    both : (c : Candidate) → candidate_holds c (cell v j) ≡ (at_vertex c v && drives_output (entry_of c) j)
    both (Candidate.term t) = refl
    both (Candidate.block b) = refl
