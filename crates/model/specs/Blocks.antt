-- Paper 02, K10: ready-made blocks, "fixed blocks that are no product term".
use Rattle.std.specs.Prelude.{ℕ, ◌/◌, ◌%◌, ◌^◌, Bool, not, ◌&&◌, leb, ltb, get_or}
pub use Rattle.model.specs.declared.Block.{Block}
use Rattle.model.specs.Base.{bit, below, every}
use Rattle.model.specs.Table.{Table, Cell, cells, is_off}

-- "32 bytes with bit v for vertex v, low bit first"
unfoldable pub vertex_bit : Block → ℕ → Bool
vertex_bit b v = bit (v % 8) (get_or b.vertices (v / 8) 0)

-- "It holds cell (v, j) when bit v and output j are set"
unfoldable pub block_holds : Block → Cell → Bool
block_holds b c = vertex_bit b c.v && bit c.j b.outputs

-- of all 256 no vertex bit k or above
unfoldable pub vertices_below : ℕ → Block → Bool
vertices_below k b = every (λ v. not (vertex_bit b v && leb k v)) (below 256)

-- 18 does not apply: not "outputs 0, an output bit m or above, a vertex bit 2^n or above, or a weight above 850"
unfoldable pub block_formed : Table → Block → Bool
block_formed p b = ltb 0 b.outputs && (ltb b.outputs (2 ^ p.m) && (vertices_below (2 ^ p.n) b && leb b.weight 850))

-- "Refusals 10 and 11 apply to F": it holds no off cell, 10 does not apply
unfoldable pub block_holds_no_off : Table → Block → Bool
block_holds_no_off p b = every (λ c. not (block_holds b c && is_off p c)) (cells p)
