-- The laws behind the lines of the candidates.
use Prim.Native.Nat.{ℕ, zero, suc, ◌+◌, ◌-◌, ◌*◌, ◌/◌, ◌%◌, ◌^◌, ◌≤◌, ◌<◌}
use native.Mathlib.Omega.{arith}
use native.Mathlib.Decide.{ℕ_discrete}
use mathlib.Core.Path.{◌≡◌, refl, sym, ap, ap₂, ◌∙◌, subst}
use mathlib.Core.Bool.{Bool, true, false, cond}
use mathlib.Core.List.{List, [], ◌∷◌, map}
use lib.Dec.{T}
use mir.Val.{bool_byte}
use lib.ListN.{get_or, length, set, replicate, length-set, length-map, length-take, length-replicate}
use lib.Pow.{pow_mono}
use lib.Seq.{get_or-set_same, get_or-set_other, get_or-take}
use Rattle.model.specs.declared.Term.{Term}
use Rattle.model.specs.declared.Block.{Block}
use Rattle.model.specs.declared.Prices.{Prices}
use Rattle.model.specs.Base.{bit, from}
use Rattle.model.specs.Table.{term}
use Rattle.model.specs.Blocks.{vertex_bit}
use Rattle.model.specs.Sets.{row_of}
use Rattle.model.specs.Ranges.{Range, between, fixed}
use Rattle.model.specs.Candidates.{Candidate, candidate_cost}
use Rattle.model.proofs.Matrix.{row_of_lt, from_length}
use Rattle.incidence.specs.Stored.{entry_of, is_block, block_at, BlocksAt}
use Rattle.incidence.proofs.Uses.{bit_row}
use Rattle.problem.specs.declared.Candidates.{Candidates}
use Rattle.problem.specs.Problems.{HoldsCands}
use Rattle.dump.specs.Shown.{candidate_at, range_at, in_set, vertex_byte, Vertices, ShownAs}

-- ---- a byte, from its last vertex down

-- a truth value as a bit
pub one_or_none : (b : Bool) → bool_byte b ≡ cond b 1 0
one_or_none true = refl
one_or_none false = refl

module _ (held : List ℕ) (i a : ℕ) where
  -- of eight vertices from a on, those from the k-th on are passed
  pub record PassedFrom (byte k : ℕ) : Type 0 where
    pub within : k ≤ 8
    pub bits : byte ≡ row_of (in_set held) (from (a + k) (8 - k)) i

module _ {held : List ℕ} {i a : ℕ} where
  pub passed_none : PassedFrom held i a 0 8
  unfolding row_of
  passed_none = record { within = omega arith; bits = refl }

  module _ {byte k : ℕ} (p : PassedFrom held i a byte k) where
    pub passed_room : 0 < k → byte * 2 + 1 < 256
    passed_room l =
        let small : byte < 2 ^ (8 - k) = subst (λ (n : ℕ). n < 2 ^ (8 - k)) (sym p.bits)
        (subst (λ (n : ℕ). row_of (in_set held) (from (a + k) (8 - k)) i < 2 ^ n) (from_length (a + k) (8 - k)) (row_of_lt (in_set held) (from (a + k) (8 - k)) i)) in
        let most : 2 ^ (8 - k) ≤ 2 ^ 7 = pow_mono {i = 8 - k} {j = 7} (omega arith) in
        omega arith

    pub passed_next : 0 < k → {h : Bool} {x : ℕ} → h ≡ in_set held (a + (k - 1)) i → x ≡ cond h 1 0 → PassedFrom held i a (byte * 2 + x) (k - 1)
    unfolding row_of
    passed_next l {h} {x} e z =
        let one : suc (8 - k) ≡ 8 - (k - 1) = omega (arith, p.within) in
        let next : a + k ≡ suc (a + (k - 1)) = omega arith in
        let before = p.bits ∙ ap (λ (n : ℕ). row_of (in_set held) (from n (8 - k)) i) next in
        record {
          within = omega (arith, p.within);
          bits = ap₂ (λ (y x : ℕ). y * 2 + x) before (z ∙ ap (λ (b : Bool). cond b 1 0) e) ∙ ap (λ (n : ℕ). row_of (in_set held) (from (a + (k - 1)) n) i) one;
        }

    pub passed_all : k ≤ 0 → byte ≡ row_of (in_set held) (from a 8) i
    passed_all l =
        let z : k ≡ 0 = omega arith in
        let first : a + 0 ≡ a = omega arith in
        p.bits ∙ ap (λ (n : ℕ). row_of (in_set held) (from (a + n) (8 - n)) i) z ∙ ap (λ (n : ℕ). row_of (in_set held) (from n 8) i) first

-- ---- the bytes of a block

module _ {held : List ℕ} {i : ℕ} where
  pub bytes_none : Vertices held i 0 (replicate 32 0)
  bytes_none = record { size = length-replicate {A = ℕ} 32 0; each = λ j l. absurd (omega arith) }

  pub bytes_next : {k x : ℕ} {bytes : List ℕ} → k < 32 → x ≡ vertex_byte held i k → Vertices held i k bytes → Vertices held i (k + 1) (set bytes k x)
  bytes_next {k} {x} {bytes} l e v = record { size = length-set bytes k x ∙ v.size; each = each }
    where
      each : (j : ℕ) → j < k + 1 → get_or (set bytes k x) j 0 ≡ vertex_byte held i j
      each j m = elim (ℕ_discrete j k) [
        | yes q ↦ rw q (get_or-set_same bytes k x 0 (omega (arith, v.size)) ∙ e)
        | no d ↦ get_or-set_other bytes k j x 0 d ∙ v.each j (omega (arith, d))
      ]

  pub bytes_all : {k : ℕ} {bytes : List ℕ} → 32 ≤ k → Vertices held i k bytes → Vertices held i 32 bytes
  bytes_all l v = record { size = v.size; each = λ j m. v.each j (omega arith) }

-- ---- the block of a line

-- candidate i of ks is a block
record BlockIn (w : Prices) (ks : List Candidate) (i : ℕ) : Type 0 where
  block : Block
  there : candidate_at ks i ≡ Candidate.block block
  entry : (d : Term) → get_or (map entry_of ks) i d ≡ term 0 0 block.outputs
  cost : get_or (map (candidate_cost w) ks) i 0 ≡ block.weight
  vertices : (v : ℕ) → get_or (map (λ c. block_at c v) ks) i false ≡ vertex_bit block v

block_in : (w : Prices) (ks : List Candidate) (i : ℕ) → get_or (map (λ c. is_block c 0) ks) i false ≡ true → BlockIn w ks i
block_in w [] i e = absurd (subst T (sym e) tt)
block_in w (Candidate.term t ∷ ks) zero e = absurd (subst T (sym e) tt)
block_in w (Candidate.block b ∷ ks) zero e = record { block = b; there = refl; entry = λ d. refl; cost = refl; vertices = λ v. refl }
block_in w (c ∷ ks) (suc i) e =
    let b = block_in w ks i e in
    record { block = b.block; there = b.there; entry = b.entry; cost = b.cost; vertices = b.vertices }

-- candidate i of ks is no block
term_in : (ks : List Candidate) (i : ℕ) (d : Term) → i < length ks → get_or (map (λ c. is_block c 0) ks) i false ≡ false → candidate_at ks i ≡ Candidate.term (get_or (map entry_of ks) i d)
term_in [] i d l e = absurd (omega arith)
term_in (Candidate.term t ∷ ks) zero d l e = refl
term_in (Candidate.block b ∷ ks) zero d l e = absurd (subst T e tt)
term_in (c ∷ ks) (suc i) d l e = term_in ks i d (omega arith) e

-- one of the numbers from a on
from_map : (f : ℕ → Bool) (a n k : ℕ) → k < n → get_or (map f (from a n)) k false ≡ f (a + k)
from_map f a zero k l = absurd (omega arith)
from_map f a (suc n) zero l = ap f (omega arith)
from_map f a (suc n) (suc k) l =
    let e : suc a + k ≡ a + suc k = omega arith in
    from_map f (suc a) n k (omega arith) ∙ ap f e

-- one end of range i
end_in : (f : Range → ℕ) (rs : List Range) (i : ℕ) → f (fixed 0) ≡ 0 → f (range_at rs i) ≡ get_or (map f rs) i 0
end_in f [] i e = e
end_in f (r ∷ rs) zero e = refl
end_in f (r ∷ rs) (suc i) e = end_in f rs i e

module _ {w : Prices} {cs : Candidates} {ks : List Candidate} {ws : List ℕ} {rs : List Range} (h : HoldsCands w cs ks ws rs) where
  pub count_few : cs.count ≤ 64
  count_few = omega (arith, h.entries.size, h.entries.counted, ap length h.entries.same, length-take cs.count cs.terms)

  pub range_shown : (i : ℕ) → i < cs.count → range_at rs i ≡ between (get_or cs.lows i 0) (get_or cs.highs i 0)
  range_shown i l = ap₂ between
      (end_in (λ r. r.low) rs i refl ∙ ap (λ (us : List ℕ). get_or us i 0) (sym h.lows.same) ∙ get_or-take cs.count cs.lows i 0 l)
      (end_in (λ r. r.high) rs i refl ∙ ap (λ (us : List ℕ). get_or us i 0) (sym h.highs.same) ∙ get_or-take cs.count cs.highs i 0 l)

  pub term_shown : (i : ℕ) (d : Term) → i < cs.count → bit i cs.blocks ≡ false → candidate_at ks i ≡ Candidate.term (get_or cs.terms i d)
  term_shown i d l e =
      term_in ks i d (omega (arith, h.entries.counted, length-map ks entry_of)) (sym (bit_row is_block ks 0 i) ∙ ap (bit i) (sym h.blocks) ∙ e)
      ∙ ap (λ (ts : List Term). Candidate.term (get_or ts i d)) (sym h.entries.same)
      ∙ ap Candidate.term (get_or-take cs.count cs.terms i d l)

  module _ {held : List ℕ} (at : BlocksAt ks held) {i : ℕ} (l : i < cs.count) (is : bit i cs.blocks ≡ true) where
    found : BlockIn w ks i
    found = block_in w ks i (sym (bit_row is_block ks 0 i) ∙ ap (bit i) (sym h.blocks) ∙ is)

    pub block_shown : {bytes : List ℕ} (d : Term) → Vertices held i 32 bytes → ShownAs ks i (record { outputs = (get_or cs.terms i d).outputs; vertices = bytes; weight = get_or cs.weights i 0 })
    unfolding vertex_bit
    block_shown {bytes} d b = record {
      block = found.block;
      there = found.there;
      outputs = ap (λ (t : Term). t.outputs) (sym (get_or-take cs.count cs.terms i d l) ∙ ap (λ (ts : List Term). get_or ts i d) h.entries.same ∙ found.entry d);
      vertices = λ v m.
          let byte = b.each (v / 8) (omega arith) in
          let split : 8 * (v / 8) + v % 8 ≡ v = omega arith in
          ap (bit (v % 8)) byte
          ∙ bit_row (in_set held) (from (8 * (v / 8)) 8) i (v % 8)
          ∙ from_map (λ u. in_set held u i) (8 * (v / 8)) 8 (v % 8) (omega arith)
          ∙ ap (λ (u : ℕ). in_set held u i) split
          ∙ ap (bit i) (at.sets v m)
          ∙ bit_row block_at ks v i
          ∙ found.vertices v;
      weight =
          sym (get_or-take cs.count cs.weights i 0 l) ∙ ap (λ (us : List ℕ). get_or us i 0) (h.weights.same ∙ h.weighed)
          ∙ found.cost;
    }
