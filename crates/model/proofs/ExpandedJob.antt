-- K3: the job with the R commands, command by command. It is one of bytes, no shorter, and no whole B is left in it.
use Prim.Native.Nat.{ℕ, ◌*◌, ◌≤◌, ◌<◌, min}
use native.Mathlib.Omega.{arith}
use mathlib.Core.Path.{◌≡◌, refl, sym, ap, ap₂, ◌∙◌, subst, subst⁻¹}
use mathlib.Core.Logic.{◌⊎◌, inl, inr}
use mathlib.Core.Bool.{not}
use mathlib.Core.List.{List, [], ◌∷◌, ◌++◌, map, append-nil}
use lib.Dec.{T, leb, leb→le, le→leb}
use lib.Seq.{take_all, take_at, drop_at, length-take-le}
use lib.ListN.{length, take, drop, length-append, length-drop, length-take, drop_of_length-le}
use Rattle.model.specs.Base.{below, join, All, Bytes}
use Rattle.model.specs.Commands.{Kind, form_of, is, kind_of, width, Row, row_of_b, rows_of_b}
use Rattle.model.specs.Pieces.{Piece, piece_kind, piece_bytes, reach, pieces}
use Rattle.model.specs.Expanded.{row_command, is_whole_b, as_rows, expanded}
use Rattle.model.proofs.Lists.{yes_or_no, and_l, and_r, T_true, T_false, all_append, all_left, all_right}
use Rattle.model.proofs.Codes.{is_kind, code_of}
use Rattle.model.proofs.RowByRow.{rows_eight, rows_take}
use Rattle.model.proofs.Sound.{get_d_byte}
use Rattle.model.proofs.Pieces.{piece, later, pieces_none, pieces_step, pieces_ind, pieces_whole, Within, reach_width, all_or_within}

-- ---- a whole B, and any other command

pub expanded_none : expanded [] ≡ []
unfolding expanded pieces
expanded_none = refl

expanded_step : (b : ℕ) (bs : List ℕ) → expanded (b ∷ bs) ≡ as_rows (piece b bs) ++ expanded (later b bs)
unfolding expanded
expanded_step b bs = rw (pieces_step b bs)

-- B's byte, and the R commands of some rows
abbrev pub byte_b : ℕ
byte_b = (form_of Kind.B).code

abbrev pub row_commands : List Row → List ℕ
row_commands ws = join (map row_command ws)

-- with its 17 operands
whole_operands : (c : Piece) → T (is_whole_b c) → 17 ≤ length c.operands
whole_operands c w = leb→le 17 (length c.operands) (and_r (is (piece_kind c) Kind.B) (leb 17 (length c.operands)) w)

rows_whole : (c : Piece) → T (is_whole_b c) → as_rows c ≡ row_commands (rows_of_b c.operands)
unfolding as_rows
rows_whole c w = rw (T_true {b = is_whole_b c} w)

pub rows_other : (c : Piece) → T (not (is_whole_b c)) → as_rows c ≡ piece_bytes c
unfolding as_rows
rows_other c n = rw (T_false {b = is_whole_b c} n)

-- what stands behind the command byte in the expanded job
abbrev pub behind : ℕ → List ℕ → List ℕ
behind b bs = take (reach (kind_of b) bs) bs ++ expanded (later b bs)

pub expanded_other : (b : ℕ) (bs : List ℕ) → T (not (is_whole_b (piece b bs))) → expanded (b ∷ bs) ≡ b ∷ behind b bs
expanded_other b bs n = expanded_step b bs ∙ rw (rows_other (piece b bs) n)

module _ (bs : List ℕ) (l : 17 ≤ length bs) where
  pub size_b : length (piece byte_b bs).operands ≡ 17
  unfolding kind_of
  size_b = length-take-le 17 bs l

  whole_b : T (is_whole_b (piece byte_b bs))
  unfolding kind_of
  whole_b = le→leb 17 (length (take 17 bs)) (omega (arith, size_b))

  rows_b : as_rows (piece byte_b bs) ≡ row_commands (rows_of_b bs)
  unfolding kind_of
  rows_b = rows_whole (piece byte_b bs) whole_b ∙ ap row_commands (rows_take bs)

  pub expanded_b : expanded (byte_b ∷ bs) ≡ row_commands (rows_of_b bs) ++ expanded (drop 17 bs)
  unfolding kind_of
  expanded_b = expanded_step byte_b bs ∙ ap (λ (cs : List ℕ). cs ++ expanded (drop 17 bs)) rows_b

  pub length_b : length (as_rows (piece byte_b bs)) ≡ 32
  length_b = ap length rows_b ∙ four (rows_of_b bs) ∙ ap (λ (n : ℕ). 4 * n) (rows_eight bs)
    where
      four : (ws : List Row) → length (row_commands ws) ≡ 4 * length ws
      four [] = refl
      four (w ∷ ws) = omega (arith, four ws)

-- what holds of a whole B and of any other command
module _ (F : ℕ → List ℕ → Type 0) (whole : (bs : List ℕ) → 17 ≤ length bs → F byte_b bs) (other : (b : ℕ) (bs : List ℕ) → T (not (is_whole_b (piece b bs))) → F b bs) where
  pub by_piece : (b : ℕ) (bs : List ℕ) → F b bs
  by_piece b bs = go (yes_or_no (is_whole_b (piece b bs)))
    where
      go : T (is_whole_b (piece b bs)) ⊎ T (not (is_whole_b (piece b bs))) → F b bs
      go (inl w) =
          let k = is_kind (kind_of b) Kind.B (and_l (is (kind_of b) Kind.B) (leb 17 (length (piece b bs).operands)) w) in
          subst (λ (x : ℕ). F x bs) (sym (ap (λ (x : Kind). (form_of x).code) k) ∙ code_of b (subst⁻¹ (λ (x : Kind). T (not (is x Kind.none))) k tt))
          (whole bs (omega (arith, whole_operands (piece b bs) w, length-take (reach (kind_of b) bs) bs)))
      go (inr n) = other b bs n

-- ---- no shorter

pub rows_longer : (b : ℕ) (bs : List ℕ) → length (piece_bytes (piece b bs)) ≤ length (as_rows (piece b bs))
rows_longer = by_piece (λ b bs. length (piece_bytes (piece b bs)) ≤ length (as_rows (piece b bs))) (λ bs l. omega (arith, length_b bs l, size_b bs l))
    (λ b bs n. omega (arith, ap length (rows_other (piece b bs) n)))

pub longer : (job : List ℕ) → length job ≤ length (expanded job)
longer = pieces_ind (λ bs. length bs ≤ length (expanded bs)) (omega arith) (λ b bs h.
    let n = reach (kind_of b) bs in
    omega (arith, h, rows_longer b bs, ap length (expanded_step b bs), length-append (as_rows (piece b bs)) (expanded (later b bs)), length-take n bs, length-drop n bs))

-- ---- of bytes

piece_bytes_lem : (c : Piece) → Bytes (piece_bytes c) → Bytes (as_rows c)
unfolding rows_of_b
piece_bytes_lem c y = go (yes_or_no (is_whole_b c))
  where
    rows : (is : List ℕ) → Bytes (row_commands (map (row_of_b c.operands) is))
    rows [] = tt
    rows (i ∷ is) = (omega arith, (omega arith, (get_d_byte c.operands _ y.1, (get_d_byte c.operands _ y.1, rows is))))

    go : T (is_whole_b c) ⊎ T (not (is_whole_b c)) → Bytes (as_rows c)
    go (inl w) = subst⁻¹ Bytes (rows_whole c w) (rows (below 8))
    go (inr n) = subst⁻¹ Bytes (rows_other c n) y

pub expanded_bytes : (job : List ℕ) → Bytes job → Bytes (expanded job)
unfolding expanded
expanded_bytes job y = all (pieces job) (subst⁻¹ Bytes (pieces_whole job) y)
  where
    Byte : ℕ → Type 0
    Byte b = b < 256

    all : (cs : List Piece) → Bytes (join (map piece_bytes cs)) → Bytes (join (map as_rows cs))
    all [] y = tt
    all (c ∷ cs) y =
        let rest = join (map piece_bytes cs) in
        all_append Byte (as_rows c) (join (map as_rows cs)) (piece_bytes_lem c (all_left Byte (piece_bytes c) rest y)) (all cs (all_right Byte (piece_bytes c) rest y))

-- ---- no whole B

abbrev NoneWhole : List Piece → Type 0
NoneWhole cs = All (λ c. T (not (is_whole_b c))) cs

-- where there is none, the job stays as it is
pub expanded_same : (job : List ℕ) → All (λ c. T (not (is_whole_b c))) (pieces job) → expanded job ≡ job
unfolding expanded
expanded_same job h = all (pieces job) h ∙ pieces_whole job
  where
    all : (cs : List Piece) → NoneWhole cs → join (map as_rows cs) ≡ join (map piece_bytes cs)
    all [] h = refl
    all (c ∷ cs) h = ap₂ (λ (bs cs : List ℕ). bs ++ cs) (rows_other c h.0) (all cs h.1)

-- a command that is no whole B: with nothing left behind it, its bytes are as they were; else only what is behind its operands changes
pub behind_all : (b : ℕ) (bs : List ℕ) → length bs ≤ reach (kind_of b) bs → behind b bs ≡ bs
behind_all b bs h = rw (take_all (reach (kind_of b) bs) bs h, drop_of_length-le bs h, expanded_none) (append-nil bs)

module _ (b : ℕ) (bs : List ℕ) (w : Within b bs) where
  size : length (take (width (kind_of b)) bs) ≡ width (kind_of b)
  size = length-take-le (width (kind_of b)) bs w.operands

  pub behind_take : take (width (kind_of b)) (behind b bs) ≡ take (width (kind_of b)) bs
  behind_take = rw (reach_width b bs w bs) (take_at (take (width (kind_of b)) bs) (expanded (drop (width (kind_of b)) bs)) (width (kind_of b)) size)

  pub behind_drop : drop (width (kind_of b)) (behind b bs) ≡ expanded (drop (width (kind_of b)) bs)
  behind_drop = rw (reach_width b bs w bs) (drop_at (take (width (kind_of b)) bs) (expanded (drop (width (kind_of b)) bs)) (width (kind_of b)) size)

pieces_behind : (b : ℕ) (bs : List ℕ) → pieces (b ∷ behind b bs) ≡ piece b bs ∷ pieces (expanded (later b bs))
pieces_behind b bs = go (all_or_within b bs)
  where
    go : (length bs ≤ reach (kind_of b) bs) ⊎ Within b bs → pieces (b ∷ behind b bs) ≡ piece b bs ∷ pieces (expanded (later b bs))
    go (inl h) = ap (λ (cs : List ℕ). pieces (b ∷ cs)) (behind_all b bs h) ∙ pieces_step b bs ∙ rw (drop_of_length-le bs {i = reach (kind_of b) bs} h, expanded_none)
    go (inr w) = pieces_step b (behind b bs) ∙ rw (reach_width b bs w (behind b bs), behind_take b bs w, behind_drop b bs w, reach_width b bs w bs)

pub expanded_none_left : (job : List ℕ) → All (λ c. T (not (is_whole_b c))) (pieces (expanded job))
unfolding kind_of
expanded_none_left = pieces_ind (λ bs. NoneWhole (pieces (expanded bs))) (rw (expanded_none, pieces_none) tt)
    (by_piece (λ b bs. NoneWhole (pieces (expanded (later b bs))) → NoneWhole (pieces (expanded (b ∷ bs)))) whole other)
  where
    rows : (ws : List Row) (more : List ℕ) → NoneWhole (pieces more) → NoneWhole (pieces (row_commands ws ++ more))
    rows [] more h = h
    rows (w ∷ ws) more h = subst⁻¹ NoneWhole (pieces_step (form_of Kind.R).code (min w.vertex 255 ∷ w.on ∷ w.dc ∷ (row_commands ws ++ more))) (tt, rows ws more h)

    whole : (bs : List ℕ) → 17 ≤ length bs → NoneWhole (pieces (expanded (later byte_b bs))) → NoneWhole (pieces (expanded (byte_b ∷ bs)))
    whole bs l h = subst⁻¹ (λ (cs : List ℕ). NoneWhole (pieces cs)) (expanded_b bs l) (rows (rows_of_b bs) (expanded (drop 17 bs)) h)

    other : (b : ℕ) (bs : List ℕ) → T (not (is_whole_b (piece b bs))) → NoneWhole (pieces (expanded (later b bs))) → NoneWhole (pieces (expanded (b ∷ bs)))
    other b bs n h = subst⁻¹ NoneWhole (ap pieces (expanded_other b bs n) ∙ pieces_behind b bs) (n, h)
