-- K3: rows one by one. What each row keeps is kept by them all, and where they stand in B's operands.
use Prim.Native.Nat.{ℕ, suc, ◌+◌, ◌*◌, ◌^◌, ◌<◌}
use native.Mathlib.Omega.{arith}
use mathlib.Core.Path.{◌≡◌, refl, ap, ap₂, ◌∙◌}
use mathlib.Core.Bool.{false, not}
use mathlib.Core.List.{List, [], ◌∷◌, ◌++◌, map, Memᴰ}
use borrow.Author.Tests.{ne_eqb}
use lib.Dec.{T, leb, eqb}
use lib.Seq.{get_or-take, drop-cons}
use lib.ListN.{get_or, length, take, drop, get_or-map}
use Rattle.model.specs.Base.{below, some, All}
use Rattle.model.specs.Commands.{among_rows, Problem, at_place, with_cands, table_of, prices_of, basis_of, Row, row_of_b, rows_of_b, add_row, add_rows}
use Rattle.model.specs.Candidates.{priced}
use Rattle.model.specs.Refusals.{Refusal, first_of, row_refusals, rows_refusals}
use Rattle.model.specs.Standing.{rows_set}
use Rattle.model.proofs.Lists.{from_at, below_e, all_append, all_left, all_right}
use Rattle.model.proofs.Runs.{Numbered, first_before, first_behind, NoneApplies}

-- "the first refusal that they would meet": the first row's, or where it has none that of the rows behind it
pub rows_first : (q : Problem) (w : Row) (ws : List Row) → (first_of (row_refusals q w) ≡ 0 → ⊥) → first_of (rows_refusals q (w ∷ ws)) ≡ first_of (row_refusals q w)
rows_first q w ws n = first_before (row_refusals q w) (rows_refusals (add_row q w) ws) n

pub rows_next : (q : Problem) (w : Row) (ws : List Row) → first_of (row_refusals q w) ≡ 0 → first_of (rows_refusals q (w ∷ ws)) ≡ first_of (rows_refusals (add_row q w) ws)
rows_next q w ws z = first_behind (row_refusals q w) (rows_refusals (add_row q w) ws) (omega arith, (omega arith, tt)) z

abbrev Not : Refusal → Type 0
Not r = T (not r.applies)

-- the first row and the others
pub rows_split : (w : Row) (ws : List Row) (q : Problem) → NoneApplies (rows_refusals q (w ∷ ws)) → NoneApplies (row_refusals q w) × NoneApplies (rows_refusals (add_row q w) ws)
rows_split w ws q a =
    let later = rows_refusals (add_row q w) ws in
    (all_left Not (row_refusals q w) later a, all_right Not (row_refusals q w) later a)

-- what each row keeps that is not refused
pub rows_keep : (P : Problem → Type 0) → ((q : Problem) (w : Row) → NoneApplies (row_refusals q w) → P q → P (add_row q w))
    → (ws : List Row) (q : Problem) → NoneApplies (rows_refusals q ws) → P q → P (add_rows q ws)
rows_keep P step [] q a p = p
rows_keep P step (w ∷ ws) q a p =
    let first = rows_split w ws q a in
    rows_keep P step ws (add_row q w) first.1 (step q w first.0 p)

pub rows_numbered : (ws : List Row) (q : Problem) → All Numbered (rows_refusals q ws)
rows_numbered [] q = tt
rows_numbered (w ∷ ws) q = all_append Numbered (row_refusals q w) (rows_refusals (add_row q w) ws) (omega arith, (omega arith, tt)) (rows_numbered ws (add_row q w))

pub rows_set_lem : (ws : List Row) (q : Problem) → basis_of (add_rows q ws) ≡ priced (prices_of q) (rows_set (table_of q) ws) q.cands
rows_set_lem [] q = refl
rows_set_lem (w ∷ ws) q = rows_set_lem ws (add_row q w)

pub rows_given : (ws : List Row) (q : Problem) → length (add_rows q ws).rows.given ≡ length ws + length q.rows.given
rows_given [] q = omega arith
rows_given (w ∷ ws) q = omega (arith, rows_given ws (add_row q w))

-- ---- without the candidates

-- a problem with its rows and no candidate
abbrev pub bare : ℕ → Problem → Problem
bare p q = at_place p (with_cands [] [] [] q)

pub rows_refused_bare : (ws : List Row) (p : ℕ) (q : Problem) → rows_refusals (bare p q) ws ≡ rows_refusals q ws
rows_refused_bare [] p q = refl
rows_refused_bare (w ∷ ws) p q = ap (λ (rs : List Refusal). row_refusals q w ++ rs) (rows_refused_bare ws among_rows (add_row q w))

pub rows_bare : (w : Row) (ws : List Row) (p : ℕ) (q : Problem) → add_rows (bare p q) (w ∷ ws) ≡ bare among_rows (add_rows q (w ∷ ws))
rows_bare w [] p q = refl
rows_bare w (v ∷ ws) p q = rows_bare v ws among_rows (add_row q w)

-- ---- B's operands

pub rows_eight : (bs : List ℕ) → length (rows_of_b bs) ≡ 8
unfolding rows_of_b
rows_eight bs = refl

-- its rows are told by its operands
pub same_rows : (bs cs : List ℕ) → ((i : ℕ) → i < 17 → get_or bs i 0 ≡ get_or cs i 0) → rows_of_b bs ≡ rows_of_b cs
unfolding rows_of_b
same_rows bs cs g = all (below 8) (λ i m. below_e 8 m)
  where
    one : (i : ℕ) → i < 8 → row_of_b bs i ≡ row_of_b cs i
    one i l = rw (g 0 (omega arith), g (1 + 2 * i) (omega arith), g (2 + 2 * i) (omega arith))

    all : (is : List ℕ) → ((i : ℕ) → Memᴰ i is → i < 8) → map (row_of_b bs) is ≡ map (row_of_b cs) is
    all [] f = refl
    all (i ∷ is) f = ap₂ (λ (w : Row) (ws : List Row). w ∷ ws) (one i (f i (Memᴰ.head refl))) (all is (λ j m. f j (Memᴰ.tail m)))

row_at : (bs : List ℕ) (i : ℕ) → i < 8 → get_or (rows_of_b bs) i (row_of_b bs 0) ≡ row_of_b bs i
unfolding rows_of_b
row_at bs i l = get_or-map (row_of_b bs) (below 8) i 0 ∙ ap (row_of_b bs) (omega (arith, from_at 0 8 i l))

-- row i and those behind it
pub rows_drop : (bs : List ℕ) (i : ℕ) → i < 8 → drop i (rows_of_b bs) ≡ row_of_b bs i ∷ drop (suc i) (rows_of_b bs)
rows_drop bs i l = drop-cons (rows_of_b bs) i (row_of_b bs 0) (omega (arith, rows_eight bs)) ∙ ap (λ (w : Row). w ∷ drop (suc i) (rows_of_b bs)) (row_at bs i l)

pub rows_take : (bs : List ℕ) → rows_of_b (take 17 bs) ≡ rows_of_b bs
rows_take bs = same_rows (take 17 bs) bs (λ i. get_or-take 17 bs i 0)

-- ---- rising vertices

-- rows for rising vertices, from v on
abbrev pub Rises : ℕ → List Row → Type 0
Rises v [] = Unit {0}
Rises v (w ∷ ws) = (w.vertex ≡ v) × Rises (suc v) ws

pub rows_rise : (bs : List ℕ) → Rises (get_or bs 0 0) (rows_of_b bs)
unfolding rows_of_b
rows_rise bs = omega arith

pub rows_place : (bs : List ℕ) (q : Problem) → (add_rows q (rows_of_b bs)).place ≡ among_rows
unfolding rows_of_b
rows_place bs q = refl

-- each row by itself, in a problem
abbrev pub EachPasses : Problem → List Row → Type 0
EachPasses q ws = All (λ w. NoneApplies (row_refusals q w)) ws

-- a row bars none for another vertex
not_barred : (q : Problem) (w u : Row) → w.vertex < u.vertex → NoneApplies (row_refusals q u) → NoneApplies (row_refusals (add_row q w) u)
not_barred q w u l a =
    let high = leb (2 ^ q.settings.n) u.vertex in
    let there = some (eqb u.vertex) q.rows.given in
    let other : eqb u.vertex w.vertex ≡ false = ne_eqb u.vertex w.vertex (λ e. omega (arith, e)) in
    (rw other a.0, a.1)

none_barred : (q : Problem) (w : Row) (ws : List Row) (v : ℕ) → w.vertex < v → Rises v ws → EachPasses q ws → EachPasses (add_row q w) ws
none_barred q w [] v l r a = tt
none_barred q w (u ∷ us) v l r a = (not_barred q w u (omega (arith, r.0)) a.0, none_barred q w us (suc v) (omega arith) r.1 a.1)

-- so where each passes by itself, all pass one by one
pub all_pass : (ws : List Row) (q : Problem) (v : ℕ) → Rises v ws → EachPasses q ws → NoneApplies (rows_refusals q ws)
all_pass [] q v r a = tt
all_pass (w ∷ ws) q v r a =
    let later = none_barred q w ws (suc v) (omega (arith, r.0)) r.1 a.1 in
    all_append Not (row_refusals q w) (rows_refusals (add_row q w) ws) a.0 (all_pass ws (add_row q w) (suc v) r.1 later)
