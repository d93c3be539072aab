-- The product of formula (4), point by point; the laws behind `product_at` and `presence`.
use Prim.Native.Nat.{ℕ, zero, suc, ◌+◌, ◌-◌, ◌^◌, ◌≤◌, ◌<◌}
use native.Mathlib.Omega.{arith}
use mathlib.Core.Path.{◌≡◌, refl, sym, ap, ap₂, ◌∙◌, subst}
use mathlib.Core.Bool.{Bool, true, false, ◌&&◌, ◌||◌, and-true}
use mathlib.Core.List.{List, [], ◌∷◌, ◌++◌, map, map-append, append-nil, append_assoc}
use lib.Bits.{bit_and}
use lib.Dec.{ltb}
use lib.ListN.{get_or, length, take}
use lib.Seq.{take-length, take_at}
use Rattle.model.specs.declared.Term.{Term}
use Rattle.model.specs.Base.{bit, from, below, every, filter, join}
use Rattle.model.specs.Table.{Table, Cell, cell, cells, is_on, on_cells}
use Rattle.model.specs.Candidates.{Candidate, candidate_holds, basis, covering}
use Rattle.model.specs.Presence.{sum_at, product_up_to, presence}
use Rattle.model.proofs.Lists.{every_append, filter_append}
use Rattle.bits.specs.Lists.{parts}
use Rattle.bits.proofs.Lists.{below_split, parts_next, parts_split}
use Rattle.incidence.specs.Stored.{Stored}
use Rattle.incidence.specs.Rows.{OnBytes}
use Rattle.incidence.specs.Presence.{TellsSum, TellsPresence, cells_before, points_before, StandsAt, AtVertex}
use Rattle.incidence.proofs.Matrix.{no_bit}
use Rattle.incidence.proofs.BlockSums.{point_sum}

module _ (p : Table) where
  abbrev cells_of : ℕ → List Cell
  cells_of u = map (cell u) (below p.m)

  -- ---- the cells in order

  cells_next : (v j : ℕ) → cells_before p v (j + 1) ≡ cells_before p v j ++ (cell v j ∷ [])
  unfolding cells_before
  cells_next v j =
      let e : j + 1 - j ≡ 1 = omega arith in
      ap (λ (l : List Cell). parts cells_of v ++ l) (ap (map (cell v)) (below_split j (j + 1) (omega arith) ∙ ap (λ (k : ℕ). below j ++ from j k) e) ∙ map-append (cell v) (below j) (j ∷ []))
      ∙ sym (append_assoc (parts cells_of v) (map (cell v) (below j)) (cell v j ∷ []))

  vertex_end : (v : ℕ) → cells_before p v p.m ≡ cells_before p (v + 1) 0
  unfolding cells_before
  vertex_end v = sym (parts_next cells_of v) ∙ sym (append-nil (parts cells_of (v + 1)))

  cells_rest : (v j : ℕ) → j ≤ p.m → cells_before p v p.m ≡ cells_before p v j ++ map (cell v) (from j (p.m - j))
  unfolding cells_before
  cells_rest v j h =
      ap (λ (l : List Cell). parts cells_of v ++ l) (ap (map (cell v)) (below_split j p.m h) ∙ map-append (cell v) (below j) (from j (p.m - j)))
      ∙ sym (append_assoc (parts cells_of v) (map (cell v) (below j)) (map (cell v) (from j (p.m - j))))

  -- where no output from i on is wanted there is no point
  no_points : (v i k : ℕ) → ((u : ℕ) → i ≤ u → is_on p (cell v u) ≡ false) → filter (is_on p) (map (cell v) (from i k)) ≡ []
  no_points v i zero f = refl
  no_points v i (suc k) f = rw (f i (omega arith)) (no_points v (suc i) k (λ u l. f u (omega arith)))

  -- xs are the first cells of the table
  abbrev Front : List Cell → Type 0
  Front xs = (rest : List Cell) × (cells p ≡ xs ++ rest)

  front : (v j : ℕ) → v < 2 ^ p.n → j ≤ p.m → Front (cells_before p v j)
  unfolding cells cells_before
  front v j l h =
      let behind : List Cell = join (map cells_of (from (v + 1) (2 ^ p.n - (v + 1)))) in
      let here : List Cell = map (cell v) (from j (p.m - j)) in (
        here ++ behind,
        parts_split cells_of (v + 1) (2 ^ p.n) (omega arith)
            ∙ ap (λ (xs : List Cell). xs ++ behind) (parts_next cells_of v ∙ cells_rest v j h)
            ∙ append_assoc (cells_before p v j) here behind,
      )

  front_all : Front (cells_before p (2 ^ p.n) 0)
  unfolding cells cells_before
  front_all = ([], sym (append-nil (parts cells_of (2 ^ p.n))) ∙ sym (append-nil (parts cells_of (2 ^ p.n) ++ [])))

  -- the points among them are the first of the table
  points_front : (xs : List Cell) → Front xs → take (length (filter (is_on p) xs)) (on_cells p) ≡ filter (is_on p) xs
  unfolding on_cells
  points_front xs f =
      ap (take (length (filter (is_on p) xs))) (ap (filter (is_on p)) f.1 ∙ filter_append (is_on p) xs f.0)
      ∙ take_at (filter (is_on p) xs) (filter (is_on p) f.0) (length (filter (is_on p) xs)) refl

  -- the first `points_before` points are the wanted cells before cell (v, j)
  pub points_before_lem : (v j : ℕ) → v < 2 ^ p.n → j ≤ p.m → take (points_before p v j) (on_cells p) ≡ filter (is_on p) (cells_before p v j)
  points_before_lem v j l h = points_front (cells_before p v j) (front v j l h)

  -- ---- the product up to them

  module _ (cs : List Candidate) (s : ℕ) where
    product_before : (v j : ℕ) → v < 2 ^ p.n → j ≤ p.m → product_up_to (covering (basis p cs)) s (points_before p v j) ≡ every (sum_at candidate_holds cs s) (filter (is_on p) (cells_before p v j))
    unfolding product_up_to
    product_before v j l h = ap (every (sum_at candidate_holds cs s)) (points_before_lem v j l h)

    -- behind one cell more
    cell_more : (v j : ℕ) → v < 2 ^ p.n → j < p.m
        → product_up_to (covering (basis p cs)) s (points_before p v (j + 1))
        ≡ (product_up_to (covering (basis p cs)) s (points_before p v j) && every (sum_at candidate_holds cs s) (filter (is_on p) (cell v j ∷ [])))
    cell_more v j l h =
        product_before v (j + 1) l (omega arith)
        ∙ ap (λ (xs : List Cell). every (sum_at candidate_holds cs s) (filter (is_on p) xs)) (cells_next v j)
        ∙ ap (every (sum_at candidate_holds cs s)) (filter_append (is_on p) (cells_before p v j) (cell v j ∷ []))
        ∙ every_append (sum_at candidate_holds cs s) (filter (is_on p) (cells_before p v j)) (filter (is_on p) (cell v j ∷ []))
        ∙ ap (λ (b : Bool). b && every (sum_at candidate_holds cs s) (filter (is_on p) (cell v j ∷ []))) (sym (product_before v j l (omega arith)))

    points_all : filter (is_on p) (cells_before p (2 ^ p.n) 0) ≡ on_cells p
    unfolding on_cells cells cells_before
    points_all = ap (filter (is_on p)) (append-nil (parts cells_of (2 ^ p.n)))

    product_all : product_up_to (covering (basis p cs)) s (points_before p (2 ^ p.n) 0) ≡ presence (covering (basis p cs)) s
    unfolding presence product_up_to
    product_all =
        ap (every (sum_at candidate_holds cs s)) (points_front (cells_before p (2 ^ p.n) 0) front_all ∙ points_all ∙ sym (take-length (on_cells p)))

module _ (on : List ℕ) (n m : ℕ) (ts : List Term) (blocks : ℕ) (held : List ℕ) (s : ℕ) where
  pub stands_none : StandsAt on n m ts blocks held s 0 0 true
  unfolding cells_before product_up_to
  stands_none = record { up_to = λ p cs o q. refl }

  module _ (v j : ℕ) (product b : Bool) (below_size : v < 2 ^ n) (h : j < m) (e : b ≡ bit j (get_or on v 0)) (stands : StandsAt on n m ts blocks held s v j product) where
    here : (p : Table) → OnBytes p n m on → b ≡ is_on p (cell v j)
    unfolding is_on
    here p o = e ∙ ap (bit j) (o.bytes v below_size)

    next : (p : Table) (cs : List Candidate) → OnBytes p n m on → Stored cs ts blocks held
        → (product && every (sum_at candidate_holds cs s) (filter (is_on p) (cell v j ∷ []))) ≡ product_up_to (covering (basis p cs)) s (points_before p v (j + 1))
    next p cs o q =
        ap (λ (c : Bool). c && every (sum_at candidate_holds cs s) (filter (is_on p) (cell v j ∷ []))) (stands.up_to p cs o q)
        ∙ sym (cell_more p cs s v j (subst (λ (k : ℕ). v < 2 ^ k) (sym o.inputs) below_size) (subst (λ (k : ℕ). j < k) (sym o.outputs) h))

    -- a wanted cell is a point: its sum is multiplied in
    pub stands_point : (sum new : Bool) → b ≡ true → ((cs : List Candidate) → Stored cs ts blocks held → sum ≡ sum_at candidate_holds cs s (cell v j))
        → new ≡ (product && sum) → StandsAt on n m ts blocks held s v (j + 1) new
    stands_point sum new t g f = record { up_to = λ p cs o q. f ∙ ap (λ (c : Bool). product && c) (g cs q ∙ one p cs o) ∙ next p cs o q }
      where
        one : (p : Table) (cs : List Candidate) → OnBytes p n m on → sum_at candidate_holds cs s (cell v j) ≡ every (sum_at candidate_holds cs s) (filter (is_on p) (cell v j ∷ []))
        one p cs o = rw (sym (here p o) ∙ t) (sym (and-true (sum_at candidate_holds cs s (cell v j))))

    -- any other cell is none
    pub stands_cell : (new : Bool) → b ≡ false → new ≡ product → StandsAt on n m ts blocks held s v (j + 1) new
    stands_cell new t f = record { up_to = λ p cs o q. f ∙ sym (and-true product) ∙ ap (λ (c : Bool). product && c) (none p cs o) ∙ next p cs o q }
      where
        none : (p : Table) (cs : List Candidate) → OnBytes p n m on → true ≡ every (sum_at candidate_holds cs s) (filter (is_on p) (cell v j ∷ []))
        none p cs o = rw (sym (here p o) ∙ t)

  pub stands_vertex : (v : ℕ) (product : Bool) → StandsAt on n m ts blocks held s v m product → StandsAt on n m ts blocks held s (v + 1) 0 product
  stands_vertex v product stands = record {
    up_to = λ p cs o q.
        let e : m ≡ p.m = sym o.outputs in
        stands.up_to p cs o q
        ∙ ap (λ (xs : List Cell). product_up_to (covering (basis p cs)) s (length (filter (is_on p) xs))) (ap (cells_before p v) e ∙ vertex_end p v);
  }

  -- no cell of vertex v is wanted
  pub stands_none_wanted : (v : ℕ) (product : Bool) → v < 2 ^ n → get_or on v 0 ≡ 0 → StandsAt on n m ts blocks held s v 0 product → StandsAt on n m ts blocks held s v m product
  unfolding is_on
  stands_none_wanted v product l z stands = record {
    up_to = λ p cs o q. stands.up_to p cs o q ∙ ap (λ (xs : List Cell). product_up_to (covering (basis p cs)) s (length xs)) (same p o);
  }
    where
      off : (p : Table) → OnBytes p n m on → (u : ℕ) → is_on p (cell v u) ≡ false
      off p o u = ap (bit u) (sym (o.bytes v l) ∙ z) ∙ no_bit u

      same : (p : Table) → OnBytes p n m on → filter (is_on p) (cells_before p v 0) ≡ filter (is_on p) (cells_before p v m)
      same p o =
          let k : 0 ≤ p.m = omega arith in
          sym (
          ap (λ (j : ℕ). filter (is_on p) (cells_before p v j)) (sym o.outputs)
          ∙ ap (filter (is_on p)) (cells_rest p v 0 k)
          ∙ filter_append (is_on p) (cells_before p v 0) (map (cell v) (from 0 (p.m - 0)))
          ∙ ap (λ (xs : List Cell). filter (is_on p) (cells_before p v 0) ++ xs) (no_points p v 0 (p.m - 0) (λ u l. off p o u))
          ∙ append-nil (filter (is_on p) (cells_before p v 0))
          )

  pub stands_all : (v : ℕ) (product : Bool) → v ≡ 2 ^ n → StandsAt on n m ts blocks held s v 0 product → TellsPresence on n m ts blocks held s product
  stands_all v product e stands p cs o q =
      let f : v ≡ 2 ^ p.n = e ∙ ap (λ (k : ℕ). 2 ^ k) (sym o.inputs) in
      stands.up_to p cs o q
      ∙ ap (λ (x : ℕ). product_up_to (covering (basis p cs)) s (points_before p x 0)) f
      ∙ product_all p cs s

-- ---- the cells of one vertex

module _ (product : Bool) (on : ℕ) (care value outputs : List ℕ) (held : ℕ) (driving : List ℕ) (v m : ℕ) where
  pub at_none : AtVertex product on care value outputs held driving v m 0 product
  at_none = record { up_to = λ table n ts blocks sets s k l e h stands. stands }

  pub at_off : on ≡ 0 → AtVertex product on care value outputs held driving v m m product
  at_off z = record { up_to = λ table n ts blocks sets s k l e h stands. stands_none_wanted table n m ts blocks sets s v product l (e ∙ z) stands }

  module _ {j : ℕ} {r : Bool} (b : Bool) (l : j < m) (e : b ≡ bit j on) (at : AtVertex product on care value outputs held driving v m j r) where
    pub at_point : v < 256 → b ≡ true → (k : ℕ) → k ≡ j → (x y new : Bool) → TellsSum care value outputs (cell v j) x → y ≡ ltb 0 (bit_and held (get_or driving k 0)) → new ≡ (r && (x || y))
        → AtVertex product on care value outputs held driving v m (j + 1) new
    at_point g t k w x y new tells f q = record {
      up_to = λ table n ts blocks sets s parts i d h stands.
          stands_point table n m ts blocks sets s v j r b i l (e ∙ ap (bit j) (sym d)) (at.up_to table n ts blocks sets s parts i d h stands) (x || y) new t
          (point_sum parts v j x y g l tells (f ∙ ap₂ (λ (i z : ℕ). ltb 0 (bit_and z (get_or driving i 0))) w (sym h))) q;
    }

    pub at_cell : b ≡ false → (new : Bool) → new ≡ r → AtVertex product on care value outputs held driving v m (j + 1) new
    at_cell t new q = record {
      up_to = λ table n ts blocks sets s parts i d h stands.
          stands_cell table n m ts blocks sets s v j r b i l (e ∙ ap (bit j) (sym d)) (at.up_to table n ts blocks sets s parts i d h stands) new t q;
    }

  pub at_end : {j : ℕ} {r : Bool} → m ≤ j → j ≤ m → AtVertex product on care value outputs held driving v m j r → AtVertex product on care value outputs held driving v m m r
  at_end {j} {r} l g at =
      let e : j ≡ m = omega arith in
      subst (λ (i : ℕ). AtVertex product on care value outputs held driving v m i r) e at
