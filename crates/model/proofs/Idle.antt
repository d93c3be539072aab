-- A candidate that holds no point is in no irredundant cover: without it a cover is still one. So a block without a vertex is in none.
use Prim.Native.Nat.{ℕ, ◌-◌, ◌^◌}
use native.Mathlib.Omega.{arith}
use mathlib.Core.Path.{◌≡◌, ap, ◌∙◌, subst, subst⁻¹}
use mathlib.Core.Logic.{◌≢◌}
use mathlib.Core.Bool.{Bool, false, ◌&&◌}
use mathlib.Core.List.{Memᴰ}
use lib.Dec.{T}
use mathlib.Core.Option.{some as just}
use lib.ListN.{get_or, get_elem?, length}
use lib.Pow.{pow_pos}
use Rattle.model.specs.Base.{bit, below, some}
use Rattle.model.specs.Table.{Cell, on_cells}
use Rattle.model.specs.Blocks.{Block, vertex_bit, block_holds}
use Rattle.model.specs.Candidates.{Candidate, candidate_holds, Basis, covering}
use Rattle.model.specs.Sets.{Covering, members, covers, cover, Irredundant}
use Rattle.model.specs.Presence.{values_at, sum_up_to, sum_at}
use Rattle.model.proofs.Lists.{and_l, and_r, and_i, every_e, every_i, some_e, some_i, at_entry, get_d_at_entry}
use Rattle.model.proofs.Bits.{bit_le, without_within, without_others}
use Rattle.model.proofs.Presence.{sum_held}

module _ {A X : Type 0} (k : Covering A X) (i : ℕ) (idle : (x : X) → Memᴰ x k.points → get_or (values_at k.holds k.cands x) i false ≡ false) (s : ℕ) (b : T (bit i s)) where
  abbrev held_by : ℕ → X → Bool
  held_by a x = some (λ t. k.holds t x) (members k.cands a)

  -- a point that s holds is held by another member
  still_held : (x : X) → Memᴰ x k.points → T (held_by s x) → T (held_by (s - 2 ^ i) x)
  unfolding sum_at sum_up_to
  still_held x m t = subst T (sum_held k.holds k.cands (s - 2 ^ i) x)
      (some_i (summand (s - 2 ^ i)) w.1 (and_i (value j) (bit j (s - 2 ^ i)) holds_it (without_others i j s b (and_r (value j) (bit j s) w.2) other)))
    where
      value : ℕ → Bool
      value j = get_or (values_at k.holds k.cands x) j false

      summand : ℕ → ℕ → Bool
      summand a j = value j && bit j a

      w : (j : ℕ) × Memᴰ j (below (length k.cands)) × T (summand s j)
      w = some_e (summand s) (below (length k.cands)) (subst⁻¹ T (sum_held k.holds k.cands s x) t)

      j : ℕ
      j = w.0

      holds_it : T (value j)
      holds_it = and_l (value j) (bit j s) w.2

      other : j ≢ i
      other e = subst T (ap value e ∙ idle x m) holds_it

  pub idle_unused : Irredundant k s → ⊥
  unfolding cover covers
  idle_unused r = r.tight (s - 2 ^ i) (without_within i s b) (λ e. omega (arith, bit_le i s b, pow_pos i, e))
      (every_i (held_by (s - 2 ^ i)) k.points (λ x m. still_held x m (every_e (held_by s) m r.covering)))

-- K10: of a block that has none of the vertices
pub no_vertex_unused : (b : Basis) (u : Block) → ((v : ℕ) → vertex_bit u v ≡ false) → (i : ℕ) → get_elem? b.cands i ≡ just (Candidate.block u) → (s : ℕ) → T (bit i s) → Irredundant (covering b) s → ⊥
unfolding block_holds
no_vertex_unused b u none i e s t = idle_unused (covering b) i nothing s t
  where
    nothing : (x : Cell) → Memᴰ x (on_cells b.table) → get_or (values_at candidate_holds b.cands x) i false ≡ false
    nothing x m = get_d_at_entry (λ c. candidate_holds c x) false b.cands i ∙ ap (at_entry (λ c. candidate_holds c x) false) e ∙ ap (λ (h : Bool). h && bit x.j u.outputs) (none x.v)
