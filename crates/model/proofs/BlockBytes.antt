-- K10: a block and F's operands: they tell it, and written out they are read again.
use Prim.Native.Nat.{ℕ, suc, ◌+◌, ◌<◌}
use native.Mathlib.Omega.{arith}
use mathlib.Core.Path.{◌≡◌, refl, sym, ap, ap₂, ◌∙◌, subst⁻¹}
use mathlib.Core.List.{List, [], ◌∷◌, ◌++◌, map, append_assoc, Memᴰ}
use lib.Seq.{get_or-append-add, take_all}
use lib.ListN.{get_or, length, length-append, get_or-append}
use Rattle.model.specs.Base.{below}
use Rattle.model.specs.Blocks.{Block}
use Rattle.model.specs.Commands.{low, number, block_of_f}
use Rattle.model.specs.Standing.{block_bytes}
use Rattle.model.specs.Invariants.{SmallBlock}
use Rattle.model.proofs.Lists.{below_e, by_entries}

map_same : (f g : ℕ → ℕ) (is : List ℕ) → ((i : ℕ) → Memᴰ i is → f i ≡ g i) → map f is ≡ map g is
map_same f g [] h = refl
map_same f g (i ∷ is) h = ap₂ (λ (x : ℕ) (xs : List ℕ). x ∷ xs) (h i (Memᴰ.head refl)) (map_same f g is (λ j m. h j (Memᴰ.tail m)))

-- a block is told by its 35 operands
pub same_block : (bs cs : List ℕ) → ((i : ℕ) → i < 35 → get_or bs i 0 ≡ get_or cs i 0) → block_of_f bs ≡ block_of_f cs
same_block bs cs g =
    let vertices = map_same (λ i. get_or bs (suc i) 0) (λ i. get_or cs (suc i) 0) (below 32) (λ i m. let l = below_e 32 m in g (suc i) (omega arith)) in
    rw (g 0 (omega arith), vertices, g 33 (omega arith), g 34 (omega arith))

module _ (b : Block) (s : SmallBlock b) where
  pub block_long : length (block_bytes b) ≡ 35
  block_long = omega (arith, length-append b.vertices (low 2 b.weight), s.vertices)

  -- the bytes behind its outputs
  abbrev behind : List ℕ → List ℕ
  behind bs = b.vertices ++ (low 2 b.weight ++ bs)

  abbrev all : List ℕ → List ℕ
  all bs = b.outputs ∷ behind bs

  vertex_at : (bs : List ℕ) (i : ℕ) → i < length b.vertices → get_or (all bs) (suc i) 0 ≡ get_or b.vertices i 0
  vertex_at bs i l = get_or-append b.vertices (low 2 b.weight ++ bs) 0 i l

  weight_at : (bs : List ℕ) (j : ℕ) → get_or (behind bs) (32 + j) 0 ≡ get_or (low 2 b.weight ++ bs) j 0
  weight_at bs j = ap (λ (k : ℕ). get_or (behind bs) (k + j) 0) (sym s.vertices) ∙ get_or-append-add b.vertices (low 2 b.weight ++ bs) j 0

  read_all : (bs : List ℕ) → block_of_f (all bs) ≡ b
  read_all bs =
      let vertices : map (λ i. get_or (all bs) (suc i) 0) (below 32) ≡ b.vertices =
      sym (by_entries (λ i. get_or (all bs) (suc i) 0) b.vertices 0 32 (omega (arith, s.vertices))
      (λ i l. ap (λ (k : ℕ). get_or (all bs) (suc k) 0) (omega arith) ∙ vertex_at bs i (omega (arith, l, s.vertices))))
      ∙ take_all 32 b.vertices (omega (arith, s.vertices)) in
      let low_byte = weight_at bs 0 in
      let high_byte = weight_at bs 1 in
      let weight : number (get_or (all bs) 33 0 ∷ get_or (all bs) 34 0 ∷ []) ≡ b.weight = omega (arith, low_byte, high_byte, s.weight) in
      rw (vertices, weight)

  -- written out and read again, whatever stands behind it
  pub read_block : (bs : List ℕ) → block_of_f (block_bytes b ++ bs) ≡ b
  read_block bs = subst⁻¹ (λ (cs : List ℕ). block_of_f (b.outputs ∷ cs) ≡ b) (append_assoc b.vertices (low 2 b.weight) bs) (read_all bs)
