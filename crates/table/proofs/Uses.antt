-- What a caller has of the contracts.
--
--     small_bytes     the bytes of a table have no bit above its outputs
--     formed-outputs  a well-formed block has no output above those of the table, as `TellsBlockNoOff` asks
use Prim.Native.Nat.{ℕ, ◌^◌, ◌<◌}
use mathlib.Core.Bool.{Bool, not, ◌&&◌, ◌||◌}
use lib.Bits.{bit_and}
use lib.Dec.{T, leb, ltb, T_not, not_T, nleb→lt, ltb→lt}
use lib.ListN.{get_or}
use Rattle.model.specs.declared.Block.{Block}
use Rattle.model.specs.Table.{Table}
use Rattle.model.specs.Blocks.{vertices_below, block_formed}
use Rattle.model.specs.Library.{bad_vertex}
use Rattle.model.proofs.Lists.{or_l, or_r, and_l, and_r}

-- a row that refusal 8 lets pass has no bit above the outputs
pub small_bytes : (p : Table) (v : ℕ) → T (not (bad_vertex p v)) → (get_or p.on v 0 < 2 ^ p.m) × (get_or p.dc v 0 < 2 ^ p.m)
small_bytes p v g = (
  small on (λ t. or_r shared (leb (2 ^ p.m) on || leb (2 ^ p.m) dc) (or_l (leb (2 ^ p.m) on) (leb (2 ^ p.m) dc) t)),
  small dc (λ t. or_r shared (leb (2 ^ p.m) on || leb (2 ^ p.m) dc) (or_r (leb (2 ^ p.m) on) (leb (2 ^ p.m) dc) t)),
)
  where
    on : ℕ
    on = get_or p.on v 0

    dc : ℕ
    dc = get_or p.dc v 0

    shared : Bool
    shared = ltb 0 (bit_and (get_or p.on v 0) (get_or p.dc v 0))

    small : (x : ℕ) → (T (leb (2 ^ p.m) x) → T (bad_vertex p v)) → x < 2 ^ p.m
    small x f = nleb→lt (2 ^ p.m) x (not_T (leb (2 ^ p.m) x) (λ t. T_not (bad_vertex p v) g (f t)))

pub formed_outputs : (p : Table) (b : Block) → T (block_formed p b) → b.outputs < 2 ^ p.m
unfolding block_formed
formed_outputs p b f =
    let small = ltb b.outputs (2 ^ p.m) in
    let rest = vertices_below (2 ^ p.n) b && leb b.weight 850 in
    ltb→lt b.outputs (2 ^ p.m) (and_l small rest (and_r (ltb 0 b.outputs) (small && rest) f))
