-- Legal candidates: the covers are the sets that hold every wanted cell and no off cell.
use Prim.Native.Nat.{ℕ, ◌/◌}
use mathlib.Core.Bool.{Bool, true, false, not, cond, ◌&&◌}
use mathlib.Core.List.{List, [], ◌∷◌, Memᴰ}
use lib.Dec.{T, T_not}
use Rattle.model.specs.Base.{bit, every, All}
use Rattle.model.specs.Table.{Table, Cell, cells, is_on, is_off, on_cells, holds, formed, holds_no_off, legal}
use Rattle.model.specs.Blocks.{block_holds, block_formed, block_holds_no_off}
use Rattle.model.specs.Sets.{members, cover, irredundants}
use Rattle.model.specs.Candidates.{Candidate, candidate_holds, candidate_legal, Basis, covering, HoldsExactly, LegalBasis}
use Rattle.model.proofs.Lists.{and_r, and_i, every_e, filter_e, filter_i, all_of, all_e}
use Rattle.model.proofs.Sets.{cover_e, cover_i, listed}

-- a member is one of the candidates
member_in : {A : Type 0} (ts : List A) (s : ℕ) {t : A} → Memᴰ t (members ts s) → Memᴰ t ts
member_in [] s m = m
member_in {A} (u ∷ us) s {t} m = go (bit 0 s) m (member_in us (s / 2))
  where
    one : (Memᴰ t (members us (s / 2)) → Memᴰ t us) → Memᴰ t (u ∷ members us (s / 2)) → Memᴰ t (u ∷ us)
    one r (Memᴰ.head e) = Memᴰ.head e
    one r (Memᴰ.tail h) = Memᴰ.tail (r h)

    go : (b : Bool) → Memᴰ t (cond b (u ∷ members us (s / 2)) (members us (s / 2))) → (Memᴰ t (members us (s / 2)) → Memᴰ t us) → Memᴰ t (u ∷ us)
    go true h r = one r h
    go false h r = Memᴰ.tail (r h)

-- what holds no off cell, of a term or a block
no_off_at_lem : (p : Table) (f : Cell → Bool) → T (every (λ c. not (f c && is_off p c)) (cells p)) → (c : Cell) → Memᴰ c (cells p) → T (is_off p c) → T (f c) → ⊥
no_off_at_lem p f l c m o h = T_not (f c && is_off p c) (every_e (λ c. not (f c && is_off p c)) m l) (and_i (f c) (is_off p c) h o)

legal_no_off : (p : Table) (k : Candidate) → T (candidate_legal p k) → (c : Cell) → Memᴰ c (cells p) → T (is_off p c) → T (candidate_holds k c) → ⊥
unfolding legal holds_no_off block_holds_no_off
legal_no_off p (Candidate.term t) l = no_off_at_lem p (holds t) (and_r (formed p t) (holds_no_off p t) l)
legal_no_off p (Candidate.block b) l = no_off_at_lem p (block_holds b) (and_r (block_formed p b) (block_holds_no_off p b) l)

pub legal_basis : (b : Basis) → All (λ k. T (candidate_legal b.table k)) b.cands → LegalBasis b
unfolding on_cells
legal_basis b l = record { legal_cands = l; covers = λ s. (to s, back s) }
  where
    p : Table
    p = b.table

    to : (s : ℕ) → T (cover (covering b) s) → HoldsExactly b s
    to s c = record {
      every_wanted = λ x m o. cover_e (covering b) s c (filter_i (is_on p) m o);
      no_off = λ x m o k i. legal_no_off p k (all_e (λ (k : Candidate). T (candidate_legal p k)) b.cands l (member_in b.cands s i)) x m o;
    }

    back : (s : ℕ) → HoldsExactly b s → T (cover (covering b) s)
    back s h = cover_i (covering b) s (λ x m. let q = filter_e (is_on p) (cells p) m in h.every_wanted x q.0 q.1)

-- so each irredundant cover does
pub all_exactly : (b : Basis) → LegalBasis b → All (HoldsExactly b) (irredundants (covering b))
all_exactly b l = all_of (HoldsExactly b) (irredundants (covering b)) (λ s m. (l.covers s).0 ((listed (covering b) s).0 m).covering)
