-- Blocks, vertex by vertex; the laws behind the loops of `blocks`.
use Prim.Native.Nat.{ℕ, ◌+◌, ◌^◌, ◌≤◌, ◌<◌}
use native.Mathlib.Omega.{arith}
use mathlib.Core.Path.{◌≡◌, sym, ◌∙◌, subst, subst⁻¹}
use mathlib.Core.Bool.{Bool, true, false, not, ◌&&◌}
use mathlib.Core.List.Memᴰ
use mathlib.Core.List.{List, map, Memᴰ}
use borrow.Author.Count.{below_none, below_more}
use borrow.Author.Tests.{le-leb}
use lib.Bits.{bit_and}
use lib.Dec.{T, leb, eqb, leb→le, not_T, T_not}
use lib.ListN.{get_or}
use Rattle.model.specs.declared.Block.{Block}
use Rattle.model.specs.Base.{bit, below, every}
use Rattle.model.specs.Table.{Table, Cell, cell, cells, is_off}
use Rattle.model.specs.Blocks.{vertex_bit, block_holds, vertices_below, block_holds_no_off}
use Rattle.model.proofs.Lists.{and_l, and_r, and_i, implies_e, implies_i, T_true, T_false, bool_ext, every_e, every_i, below_i, below_e, join_e}
use Rattle.model.proofs.Bits.{bit_lt}
use Rattle.model.proofs.Cubes.{cell_i}
use Rattle.table.specs.Cubes.{Allowed}
use Rattle.table.specs.Blocks.{vertex_in, no_off_at, TellsBlockNoOff}
use Rattle.table.proofs.Halves.{may_bit}
use Rattle.table.proofs.Legality.{within_test, test_within}

-- ---- a test of the numbers below k, one by one

-- each number below i passes
abbrev Passed : (ℕ → Bool) → ℕ → Type 0
Passed f i = (k : ℕ) → k < i → T (f k)

all_pass : (f : ℕ → Bool) (i k : ℕ) → k ≤ i → Passed f i → true ≡ every f (below k)
all_pass f i k l h = sym (T_true {b = every f (below k)} (every_i f (below k) (λ v m. let b : v < k = below_e k m in h v (omega arith))))

one_fails : (f : ℕ → Bool) (i k : ℕ) → i < k → f i ≡ false → false ≡ every f (below k)
one_fails f i k l e = sym (T_false {b = every f (below k)} (not_T (every f (below k)) (λ t. subst (λ (b : Bool). T b) e (every_e f (below_i l) t))))

-- ---- no vertex at or above size

-- v is below size, or none of the vertices
abbrev lower : ℕ → List ℕ → ℕ → Bool
lower size vertices v = not (vertex_in vertices v && leb size v)

-- from size up to v there is no vertex
pub record NoneBetween (size : ℕ) (vertices : List ℕ) (v : ℕ) : Type 0 where
  pub from_size : size ≤ v
  pub all_lower : Passed (lower size vertices) v

pub none_yet : {size : ℕ} {vertices : List ℕ} → NoneBetween size vertices size
none_yet {size} {vertices} = record {
  from_size = omega arith;
  all_lower = λ v l. not_T (vertex_in vertices v && leb size v) (λ t. absurd (omega (arith, leb→le size v (and_r (vertex_in vertices v) (leb size v) t))));
}

pub none_next : {size v : ℕ} {vertices : List ℕ} {h : Bool} → NoneBetween size vertices v → h ≡ vertex_in vertices v → h ≡ false → NoneBetween size vertices (v + 1)
none_next {size} {v} {vertices} g e t = record {
  from_size = omega (arith, g.from_size);
  all_lower = below_more (λ k. T (lower size vertices k)) v g.all_lower (rw (sym e ∙ t) tt);
}

module _ {size v : ℕ} (b : Block) (g : NoneBetween size b.vertices v) where
  pub one_above_lem : {h : Bool} → v < 256 → h ≡ vertex_in b.vertices v → h ≡ true → false ≡ vertices_below size b
  unfolding vertices_below vertex_bit
  one_above_lem l e t = one_fails (lower size b.vertices) v 256 l (rw (sym e ∙ t, le-leb size v g.from_size))

  pub none_above : 256 ≤ v → true ≡ vertices_below size b
  unfolding vertices_below vertex_bit
  none_above l = all_pass (lower size b.vertices) v 256 l g.all_lower

-- ---- no off cell

-- the vertex of a cell is one of the table
cell_vertex : (p : Table) (c : Cell) → Memᴰ c (cells p) → c.v < 2 ^ p.n
unfolding cells
cell_vertex p c m =
    let row = join_e (map (λ v. map (cell v) (below p.m)) (below (2 ^ p.n))) m in
    let at = Memᴰ.of_map (λ v. map (cell v) (below p.m)) (below (2 ^ p.n)) row.2 in
    let here = Memᴰ.of_map (cell at.0) (below p.m) (subst⁻¹ (λ (r : List Cell). Memᴰ c r) at.2 row.1) in
    subst (λ (d : Cell). d.v < 2 ^ p.n) here.2 (below_e (2 ^ p.n) at.1)

module _ (may : List ℕ) (b : Block) where
  -- b holds no off cell at v
  abbrev no_off_of : ℕ → Bool
  no_off_of v = no_off_at (get_or may v 0) b.outputs b.vertices v

  module _ (n : ℕ) (p : Table) (a : Allowed p n may) (l : b.outputs < 2 ^ p.m) where
    inside : ℕ → Bool
    inside v = eqb (bit_and b.outputs (get_or may v 0)) b.outputs

    off : Cell → Bool
    off c = block_holds b c && is_off p c

    no_off_to : T (every no_off_of (below (2 ^ n))) → T (block_holds_no_off p b)
    unfolding no_off_at vertex_bit block_holds_no_off block_holds inside off
    no_off_to h = every_i (λ c. not (off c)) (cells p) (λ c m. not_T (off c) (λ t.
        let q : c.v < 2 ^ n = subst (λ (y : ℕ). c.v < 2 ^ y) a.inputs (cell_vertex p c m) in
        let x = and_l (block_holds b c) (is_off p c) t in
        let w = implies_e (vertex_bit b c.v) (inside c.v) (every_e no_off_of (below_i q) h) (and_l (vertex_bit b c.v) (bit c.j b.outputs) x) in
        let f = test_within b.outputs (get_or may c.v 0) w c.j (and_r (vertex_bit b c.v) (bit c.j b.outputs) x) in
        T_not (is_off p c) (subst (λ (y : Bool). T y) (may_bit p n may a c.v c.j q) f) (and_r (block_holds b c) (is_off p c) t)))

    no_off_back : T (block_holds_no_off p b) → T (every no_off_of (below (2 ^ n)))
    unfolding no_off_at vertex_bit block_holds_no_off block_holds inside off
    no_off_back h = every_i no_off_of (below (2 ^ n)) (λ v m. implies_i (vertex_bit b v) (inside v) (λ x. within_test b.outputs (get_or may v 0) (λ j o.
        let q : v < 2 ^ n = below_e (2 ^ n) m in
        let k : v < 2 ^ p.n = subst⁻¹ (λ (y : ℕ). v < 2 ^ y) a.inputs q in
        let f = every_e (λ c. not (off c)) (cell_i p v j k (bit_lt j p.m b.outputs o l)) h in
        subst⁻¹ (λ (y : Bool). T y) (may_bit p n may a v j q) (not_T (is_off p (cell v j)) (λ u.
        T_not (off (cell v j)) f (and_i (block_holds b (cell v j)) (is_off p (cell v j)) (and_i (vertex_bit b v) (bit j b.outputs) x o) u))))))

    no_off_is : every no_off_of (below (2 ^ n)) ≡ block_holds_no_off p b
    no_off_is = bool_ext (every no_off_of (below (2 ^ n))) (block_holds_no_off p b) no_off_to no_off_back

  -- at the vertices below v, b holds no off cell
  pub record NoOffBelow (v : ℕ) : Type 0 where
    pub none_off : Passed no_off_of v

  pub no_off_yet : NoOffBelow 0
  no_off_yet = record { none_off = below_none (λ k. T (no_off_of k)) }

module _ {may : List ℕ} {b : Block} {v : ℕ} (h : NoOffBelow may b v) where
  pub no_off_next : {r : Bool} → r ≡ no_off_of may b v → r ≡ true → NoOffBelow may b (v + 1)
  no_off_next e t = record { none_off = below_more (λ k. T (no_off_of may b k)) v h.none_off (subst (λ (x : Bool). T x) (sym t ∙ e) tt) }

  module _ {n s : ℕ} (e : s ≡ 2 ^ n) where
    pub one_off : {r : Bool} → v < s → r ≡ no_off_of may b v → r ≡ false → TellsBlockNoOff may n b false
    one_off l f t p a o = one_fails (no_off_of may b) v (2 ^ n) (omega arith) (sym f ∙ t) ∙ no_off_is may b n p a o

    pub none_off_all : s ≤ v → TellsBlockNoOff may n b true
    none_off_all l p a o = all_pass (no_off_of may b) v (2 ^ n) (omega arith) h.none_off ∙ no_off_is may b n p a o
