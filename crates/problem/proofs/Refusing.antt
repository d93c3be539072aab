-- The laws behind the tests of operands.
use Prim.Native.Nat.{ℕ, ◌^◌, ◌≤◌, ◌<◌}
use native.Mathlib.Omega.{arith}
use native.Mathlib.Decide.{dec_lt}
use mathlib.Core.Path.{◌≡◌, refl, sym, ap, ◌∙◌, subst, subst⁻¹}
use mathlib.Core.Bool.{Bool, true, false, not, ◌||◌}
use mathlib.Core.List.{List, [], ◌∷◌}
use borrow.Author.Tests.{le-leb, leb-false}
use lib.Dec.{T, leb, ltb}
use lib.ListN.{get_or}
use lib.Pow.{pow_mono}
use Rattle.model.specs.declared.Term.{Term}
use Rattle.model.specs.declared.Block.{Block}
use Rattle.model.specs.Table.{Table, formed, holds_no_off}
use Rattle.model.specs.Blocks.{block_formed, block_holds_no_off}
use Rattle.model.specs.Commands as model
use Rattle.model.specs.Commands.{Context, Row, table_of}
use Rattle.model.specs.Refusals as model·refusals
use Rattle.model.specs.Refusals.{refuse, first_of, size, dear, bad_range, bad_row}
use Rattle.model.specs.Invariants.{Valid}
use Rattle.model.specs.Library.{bad_vertex}
use Rattle.model.proofs.Cubes.{formed_e}
use Rattle.table.specs.Cubes.{Allowed, TableBytes, MayOf, TellsFormed, TellsNoOff}
use Rattle.table.specs.Blocks.{TellsBlockFormed, TellsBlockNoOff}
use Rattle.table.proofs.Uses.{small_bytes, formed_outputs}
use Rattle.problem.specs.declared.Problem.{Problem}
use Rattle.problem.specs.Problems.{Sized, Holds}
use Rattle.problem.specs.Refusing.{is_taken, row_refusals, term_refusals, TermRefusal, block_refusals, BlockRefusal}

-- ---- rows

-- where neither applies the vertex is below 2^n, and so a byte
pub row_vertex : (n m : ℕ) (given : List ℕ) (v on dc : ℕ) → n ≤ 8 → 0 ≡ first_of (row_refusals n m given v on dc) → v < 256
unfolding is_taken
row_vertex n m given v on dc l e = go (leb (2 ^ n) v) refl e
  where
    go : (b : Bool) → leb (2 ^ n) v ≡ b → 0 ≡ first_of (refuse 7 (b || ltb 0 (get_or given v 0)) ∷ refuse 8 (bad_row m on dc) ∷ []) → v < 256
    go true q z = absurd (omega arith)
    go false q z = omega (arith, leb-false (2 ^ n) v q, pow_mono l)

-- in the problem that p holds; a vertex of 256 or more is none of it
pub row_refusal_lem : (p : Problem) (q : model.Problem) (w : Row) → Sized p → Holds p q
    → first_of (row_refusals p.settings.n p.settings.m p.rows.given w.vertex w.on w.dc) ≡ first_of (model·refusals.row_refusals q w)
unfolding is_taken
row_refusal_lem p q w z h = go (dec_lt w.vertex 256)
  where
    go : Dec (w.vertex < 256) → first_of (row_refusals p.settings.n p.settings.m p.rows.given w.vertex w.on w.dc) ≡ first_of (model·refusals.row_refusals q w)
    go (yes l) = rw (← h.settings.inputs, ← h.settings.outputs, h.rows.given w.vertex l)
    go (no l) = rw (← h.settings.inputs, le-leb (2 ^ p.settings.n) w.vertex (omega (arith, pow_mono z.inputs)))

-- ---- terms

-- the bytes of the table that p holds, where its rows are well formed
pub held_rows : (p : Problem) (q : model.Problem) → Sized p → Holds p q → ((v : ℕ) → v < 2 ^ q.settings.n → T (not (bad_vertex (table_of q) v)))
    → TableBytes (table_of q) p.settings.n p.rows.on p.rows.dc
held_rows p q z h g = record {
  inputs = sym h.settings.inputs;
  on_bytes = λ w l. h.rows.on_bytes w (small w l);
  dc_bytes = λ w l. h.rows.dc_bytes w (small w l);
  on_lt = λ w l. subst⁻¹ (λ (x : ℕ). x < 2 ^ q.settings.m) (h.rows.on_bytes w (small w l)) (bytes w l).0;
  dc_lt = λ w l. subst⁻¹ (λ (x : ℕ). x < 2 ^ q.settings.m) (h.rows.dc_bytes w (small w l)) (bytes w l).1;
}
  where
    small : (w : ℕ) → w < 2 ^ p.settings.n → w < 256
    small w l = omega (arith, pow_mono z.inputs)

    inputs_same : 2 ^ p.settings.n ≡ 2 ^ q.settings.n
    inputs_same = ap (λ (n : ℕ). 2 ^ n) h.settings.inputs

    bytes : (w : ℕ) → w < 2 ^ p.settings.n → (get_or q.rows.on w 0 < 2 ^ q.settings.m) × (get_or q.rows.dc w 0 < 2 ^ q.settings.m)
    bytes w l = small_bytes (table_of q) w (g w (omega (arith, inputs_same)))

pub held_bytes : (p : Problem) (q : model.Problem) → Sized p → Holds p q → Valid q → TableBytes (table_of q) p.settings.n p.rows.on p.rows.dc
held_bytes p q z h v = held_rows p q z h (λ w l. v.good w)

-- of a term and of a block: `no` where it is not well formed, then 10
module _ (no : ℕ) (well none_off : Table → Bool) (may : List ℕ) (n m : ℕ) where
  abbrev Told : ℕ → Type 0
  Told r = (p : Table) → Allowed p n may → p.m ≡ m → r ≡ first_of (refuse no (not (well p)) ∷ refuse 10 (not (none_off p)) ∷ [])

  abbrev Here : (Table → Bool) → Bool → Type 0
  Here g f = (p : Table) → Allowed p n may → p.m ≡ m → f ≡ g p

  off_or_not : (f : Bool) → Here well f → f ≡ true → (g : Bool) → Here none_off g → (g ≡ false → Told 10) × (g ≡ true → Told 0)
  off_or_not f w k g h = (λ i p a o. rw (← w p a o, k, ← h p a o, i), λ i p a o. rw (← w p a o, k, ← h p a o, i))

module _ (may : List ℕ) (n m : ℕ) (t : Term) (f : Bool) (formed_is : TellsFormed n m t f) where
  formed_here : (p : Table) → Allowed p n may → p.m ≡ m → f ≡ formed p t
  formed_here p a o = formed_is p a.inputs o

  module _ (g : Bool) (no_off : TellsNoOff may n t g) (k : f ≡ true) where
    term_told : (g ≡ false → TermRefusal may n m t 10) × (g ≡ true → TermRefusal may n m t 0)
    term_told = off_or_not 9 (λ p. formed p t) (λ p. holds_no_off p t) may n m f formed_here k g
        (λ p a o. no_off p a (formed_e p t (subst (λ (b : Bool). T b) (sym k ∙ formed_here p a o) tt)).outputs_lt)

    pub term_off : g ≡ false → TermRefusal may n m t 10
    term_off = term_told.0

    pub term_good : g ≡ true → TermRefusal may n m t 0
    term_good = term_told.1

module _ (may : List ℕ) (n m : ℕ) (b : Block) (f : Bool) (formed_is : TellsBlockFormed n m b f) where
  block_formed_here : (p : Table) → Allowed p n may → p.m ≡ m → f ≡ block_formed p b
  block_formed_here p a o = formed_is p a.inputs o

  module _ (g : Bool) (no_off : TellsBlockNoOff may n b g) (k : f ≡ true) where
    block_told : (g ≡ false → BlockRefusal may n m b 10) × (g ≡ true → BlockRefusal may n m b 0)
    block_told = off_or_not 18 (λ p. block_formed p b) (λ p. block_holds_no_off p b) may n m f block_formed_here k g
        (λ p a o. no_off p a (formed_outputs p b (subst (λ (c : Bool). T c) (sym k ∙ block_formed_here p a o) tt)))

    pub block_off : g ≡ false → BlockRefusal may n m b 10
    block_off = block_told.0

    pub block_good : g ≡ true → BlockRefusal may n m b 0
    block_good = block_told.1

-- in the problem that p holds
pub term_here : (p : Problem) (x : Context) (may : List ℕ) (t : Term) (r : ℕ) → Sized p → Holds p x.problem → Valid x.problem → MayOf p.rows.on p.rows.dc may
    → TermRefusal may p.settings.n p.settings.m t r → r ≡ first_of (term_refusals (table_of x.problem) t)
term_here p x may t r z h v of f = f (table_of x.problem) (of (table_of x.problem) p.settings.n z.inputs (held_bytes p x.problem z h v)) (sym h.settings.outputs)

pub block_here : (p : Problem) (x : Context) (may : List ℕ) (b : Block) (r : ℕ) → Sized p → Holds p x.problem → Valid x.problem → MayOf p.rows.on p.rows.dc may
    → BlockRefusal may p.settings.n p.settings.m b r → r ≡ first_of (block_refusals (table_of x.problem) b)
block_here p x may b r z h v of f = f (table_of x.problem) (of (table_of x.problem) p.settings.n z.inputs (held_bytes p x.problem z h v)) (sym h.settings.outputs)
