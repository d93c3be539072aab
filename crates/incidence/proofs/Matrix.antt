-- The rows of the covering matrix in a buffer; the laws behind `put_cell`, `put_vertex` and `rows`.
use Prim.Native.Nat.{ℕ, zero, suc, ◌+◌, ◌*◌, ◌^◌, ◌≤◌, ◌<◌}
use native.Mathlib.Omega.{arith}
use mathlib.Core.Path.{◌≡◌, refl, sym, ap, ap₂, ◌∙◌, subst, subst⁻¹}
use mathlib.Core.Logic.{inl, inr}
use mathlib.Core.Bool.{Bool, true, false, cond}
use mathlib.Core.List.{List, [], ◌∷◌, ◌++◌, map, map-append, append-nil, append_assoc, Memᴰ}
use lib.Bits.{bit_and}
use lib.ListN.{length, drop, get_or, set, length-append, length-drop, length-set}
use lib.Seq.{drop-cons, set_at}
use Rattle.model.specs.declared.Term.{Term}
use Rattle.model.specs.Base.{bit, below, filter, join}
use Rattle.model.specs.Table.{Table, Cell, cell, cells, is_on, on_cells}
use Rattle.model.specs.Candidates.{Candidate, candidate_holds}
use Rattle.model.specs.Sets.{row_of}
use Rattle.model.proofs.Lists.{below_e, filter_append}
use Rattle.bits.specs.Lists.{parts}
use Rattle.bits.proofs.Shifts.{power_le}
use Rattle.bits.proofs.Lists.{parts_next}
use Rattle.incidence.specs.Stored.{Stored}
use Rattle.incidence.specs.Rows.{OnBytes, at_vertex, CandidatesFor, Driving, Put, Appends, cell_row, vertex_rows, AllRows}
use Rattle.incidence.proofs.Candidates.{cell_row_lem}

-- ---- one row more

put_next : (xs old a : List ℕ) (at x : ℕ) → at < 2048 → at < length a → Put xs old a at → Put (xs ++ (x ∷ [])) old (set a at x) (at + 1)
put_next xs old a at x l g p = record { counted = omega (arith, p.counted, n); most = omega arith; same = same }
  where
    n : length (xs ++ (x ∷ [])) ≡ length xs + 1
    n = length-append xs (x ∷ [])

    room : length xs < length old
    room = omega (arith, p.counted, ap length p.same, length-append xs (drop (length xs) old), length-drop (length xs) old)

    rest : drop (suc (length xs)) old ≡ drop (length (xs ++ (x ∷ []))) old
    rest =
        let e : suc (length xs) ≡ length (xs ++ (x ∷ [])) = omega (arith, n) in
        ap (λ (k : ℕ). drop k old) e

    same : set a at x ≡ (xs ++ (x ∷ [])) ++ drop (length (xs ++ (x ∷ []))) old
    same =
        ap (λ (l : List ℕ). set l at x) (p.same ∙ ap (λ (l : List ℕ). xs ++ l) (drop-cons old (length xs) 0 room))
        ∙ set_at xs (get_or old (length xs) 0) (drop (suc (length xs)) old) x at (sym p.counted)
        ∙ ap (λ (l : List ℕ). xs ++ (x ∷ l)) rest
        ∙ sym (append_assoc xs (x ∷ []) (drop (length (xs ++ (x ∷ []))) old))

-- ---- cell by cell

module _ (on row j : ℕ) (a : List ℕ) (at : ℕ) (b : Bool) (e : b ≡ bit j on) where
  pub cell_on : at < 2048 → 2048 ≤ length a → b ≡ true → Appends a at (cell_row on row j) 1 (set a at row) (at + 1)
  unfolding cell_row
  cell_on l g t = rw (sym e ∙ t) (record { size = length-set a at row; within = omega arith; put = λ ys old p. put_next ys old a at row l (omega arith) p })

  pub cell_not_on : b ≡ false → Appends a at (cell_row on row j) 1 a at
  unfolding cell_row
  cell_not_on t = rw (sym e ∙ t) (record { size = refl; within = omega arith; put = λ ys old p. rw append-nil p })

module _ (on here : ℕ) (driving : List ℕ) (a : List ℕ) (at : ℕ) where
  pub vertex_none : Appends a at (vertex_rows on here driving 0) 0 a at
  unfolding vertex_rows
  vertex_none = record { size = refl; within = omega arith; put = λ ys old p. rw append-nil p }

  pub vertex_next : (j : ℕ) (b c : List ℕ) (end r x row : ℕ) → x ≡ j → row ≡ bit_and here (get_or driving x 0)
      → Appends a at (vertex_rows on here driving j) j b end → Appends b end (cell_row on row j) 1 c r
      → Appends a at (vertex_rows on here driving (j + 1)) (j + 1) c r
  unfolding vertex_rows
  vertex_next j b c end r x row e q f g = record {
    size = g.size ∙ f.size;
    within = omega (arith, f.within, g.within);
    put = λ ys old p. subst (λ (l : List ℕ). Put l old c r) (together ys) (g.put (ys ++ vertex_rows on here driving j) old (f.put ys old p));
  }
    where
      same : cell_row on row j ≡ cell_row on (bit_and here (get_or driving j 0)) j
      same = ap (λ (y : ℕ). cell_row on y j) (q ∙ ap (λ (k : ℕ). bit_and here (get_or driving k 0)) e)

      together : (ys : List ℕ) → (ys ++ vertex_rows on here driving j) ++ cell_row on row j ≡ ys ++ vertex_rows on here driving (j + 1)
      together ys =
          append_assoc ys (vertex_rows on here driving j) (cell_row on row j)
          ∙ ap (λ (l : List ℕ). ys ++ l) (ap (λ (l : List ℕ). vertex_rows on here driving j ++ l) same ∙ sym (parts_next (λ k. cell_row on (bit_and here (get_or driving k 0)) k) j))

  pub vertex_all : (j m : ℕ) (b : List ℕ) (r : ℕ) → m ≤ j → j ≤ m → Appends a at (vertex_rows on here driving j) j b r → Appends a at (vertex_rows on here driving m) m b r
  vertex_all j m b r l g f =
      let e : j ≡ m = omega arith in
      subst (λ (k : ℕ). Appends a at (vertex_rows on here driving k) k b r) e f

-- ---- a vertex without an on cell

pub no_bit : (j : ℕ) → bit j 0 ≡ false
no_bit zero = refl
no_bit (suc j) = no_bit j

no_parts : (part : ℕ → List ℕ) (js : List ℕ) → ((j : ℕ) → part j ≡ []) → join (map part js) ≡ []
no_parts part [] e = refl
no_parts part (j ∷ js) e = rw (e j) (no_parts part js e)

rows_for : {on : ℕ} {ts : List Term} {blocks : ℕ} {held : List ℕ} (v : ℕ) {here : ℕ} (driving : List ℕ) (m : ℕ) → CandidatesFor on ts blocks held v here
    → (cs : List Candidate) → Stored cs ts blocks held → vertex_rows on here driving m ≡ vertex_rows on (row_of at_vertex cs v) driving m
unfolding vertex_rows cell_row
rows_for v driving m (inr e) cs q = rw (e cs q)
rows_for v driving m (inl z) cs q = rw z (no_parts _ (below m) (λ j. rw (no_bit j)) ∙ sym (no_parts _ (below m) (λ j. rw (no_bit j))))

-- ---- vertex by vertex

-- the rows of vertex v
abbrev pub rows_at : List ℕ → List ℕ → ℕ → List Candidate → ℕ → List ℕ
rows_at on driving m cs v = vertex_rows (get_or on v 0) (row_of at_vertex cs v) driving m

module _ (on : List ℕ) (ts : List Term) (blocks : ℕ) (held driving : List ℕ) (m : ℕ) where
  -- the rows of the vertices below k stand in the buffer, eight at most for each
  pub record RowsBelow (k : ℕ) (old new : List ℕ) (r : ℕ) : Type 0 where
    pub size : length new ≡ length old
    pub within : r ≤ 8 * k
    pub put : (cs : List Candidate) → Stored cs ts blocks held → Put (parts (rows_at on driving m cs) k) old new r

  pub rows_none : (old : List ℕ) → RowsBelow 0 old old 0
  rows_none old = record { size = refl; within = omega arith; put = λ cs q. record { counted = refl; most = omega arith; same = refl } }

  pub rows_next : (k : ℕ) (old a b : List ℕ) (at r here : ℕ) → m ≤ 8 → CandidatesFor (get_or on k 0) ts blocks held k here → RowsBelow k old a at
      → Appends a at (vertex_rows (get_or on k 0) here driving m) m b r → RowsBelow (k + 1) old b r
  rows_next k old a b at r here l e u f = record {
    size = f.size ∙ u.size;
    within = omega (arith, u.within, f.within);
    put = λ cs q. subst⁻¹ (λ (xs : List ℕ). Put xs old b r) (parts_next (rows_at on driving m cs) k)
        (subst (λ (xs : List ℕ). Put (parts (rows_at on driving m cs) k ++ xs) old b r) (rows_for k driving m e cs q) (f.put (parts (rows_at on driving m cs) k) old (u.put cs q)));
  }

-- ---- the rows so put are those of the on cells

-- parts that are made of other parts by a filter and a map
fused : (h : Cell → ℕ) (f : Cell → Bool) (part : ℕ → List Cell) (row : ℕ → List ℕ) (xs : List ℕ)
    → ((x : ℕ) → Memᴰ x xs → row x ≡ map h (filter f (part x))) → join (map row xs) ≡ map h (filter f (join (map part xs)))
fused h f part row [] e = refl
fused h f part row (x ∷ xs) e =
    ap₂ (λ (a b : List ℕ). a ++ b) (e x (Memᴰ.head refl)) (fused h f part row xs (λ y m. e y (Memᴰ.tail m)))
    ∙ sym (map-append h (filter f (part x)) (filter f (join (map part xs))))
    ∙ ap (map h) (sym (filter_append f (part x) (join (map part xs))))

-- the rows of one vertex
vertex_is : (p : Table) (cs : List Candidate) (here : ℕ) (driving : List ℕ) (v : ℕ) (js : List ℕ) → ((j : ℕ) → Memᴰ j js → bit_and here (get_or driving j 0) ≡ row_of candidate_holds cs (cell v j))
    → join (map (λ j. cell_row (get_or p.on v 0) (bit_and here (get_or driving j 0)) j) js) ≡ map (row_of candidate_holds cs) (filter (is_on p) (map (cell v) js))
unfolding is_on cell_row
vertex_is p cs here driving v [] e = refl
vertex_is p cs here driving v (j ∷ js) e = go (bit j (get_or p.on v 0)) (vertex_is p cs here driving v js (λ i m. e i (Memᴰ.tail m)))
  where
    others : List Cell
    others = filter (is_on p) (map (cell v) js)

    behind : List ℕ
    behind = join (map (λ j. cell_row (get_or p.on v 0) (bit_and here (get_or driving j 0)) j) js)

    go : (b : Bool) → behind ≡ map (row_of candidate_holds cs) others
        → cond b (bit_and here (get_or driving j 0) ∷ []) [] ++ behind ≡ map (row_of candidate_holds cs) (cond b (cell v j ∷ others) others)
    go true h = ap₂ (λ (x : ℕ) (l : List ℕ). x ∷ l) (e j (Memᴰ.head refl)) h
    go false h = h

cells_rows : {on : List ℕ} {ts : List Term} {blocks : ℕ} {held : List ℕ} (driving : List ℕ) {n m : ℕ} → Driving ts m driving → {p : Table} {cs : List Candidate}
    → OnBytes p n m on → Stored cs ts blocks held → parts (rows_at on driving m cs) (2 ^ n) ≡ map (row_of candidate_holds cs) (on_cells p)
unfolding cells on_cells vertex_rows
cells_rows {on} driving {n} {m} d {p} {cs} o q =
    ap (λ (k : ℕ). parts (rows_at on driving m cs) (2 ^ k)) (sym o.inputs)
    ∙ fused (row_of candidate_holds cs) (is_on p) (λ v. map (cell v) (below p.m)) (rows_at on driving m cs) (below (2 ^ p.n)) row
  where
    row : (v : ℕ) → Memᴰ v (below (2 ^ p.n)) → rows_at on driving m cs v ≡ map (row_of candidate_holds cs) (filter (is_on p) (map (cell v) (below p.m)))
    row v w =
        let b : v < 2 ^ n = subst (λ (x : ℕ). v < 2 ^ x) o.inputs (below_e (2 ^ p.n) w) in
        ap₂ (λ (x y : ℕ). vertex_rows x (row_of at_vertex cs v) driving y) (o.bytes v b) (sym o.outputs)
        ∙ vertex_is p cs (row_of at_vertex cs v) driving v (below p.m)
        (λ j w. ap (bit_and (row_of at_vertex cs v)) (d.sets j (subst (λ (x : ℕ). j < x) o.outputs (below_e p.m w))) ∙ cell_row_lem q v j)

pub rows_all : (on : List ℕ) (ts : List Term) (blocks : ℕ) (held driving : List ℕ) (n m k s : ℕ) (old new : List ℕ) (r : ℕ) → n ≤ 8 → s ≡ 2 ^ n
    → Driving ts m driving → s ≤ k → k ≤ s → RowsBelow on ts blocks held driving m k old new r → AllRows on n m ts blocks held old new r
rows_all on ts blocks held driving n m k s old new r b e d l g u =
    let i : k ≡ 2 ^ n = omega arith in
    record {
      most = omega (arith, u.within, power_le n s b e);
      put = λ p cs o q. subst (λ (xs : List ℕ). Put xs old new r) (ap (parts (rows_at on driving m cs)) i ∙ cells_rows driving d o q) (u.put cs q);
    }
