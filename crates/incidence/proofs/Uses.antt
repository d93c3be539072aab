-- What a caller has of the contracts.
--
--     put_front       a buffer after `rows`: its first entries are the rows
--     some_on_table   the contracts say something of every array of bytes: a table that it comes from is there
--     tells_cover     `presence` tells at every set whether it is a cover
--
-- Of the candidates in arrays, where one comes, one goes, or all are terms (of any row: `row_with`, `row_without` of proofs/Changes):
--
--     which_term, which_block, which_without, which_alone                  the set of the blocks
--     blocks_term, blocks_without, blocks_none, none_alone, blocks_alone   the sets by vertex, where `add` and `remove` have nothing to do
--     entries_alone                                                        terms are their own entries
--     stored_alone                                                         all of it, where there was no candidate and terms come
--     bit_row                                                              whether a candidate is in a row
use Prim.Native.Nat.{ℕ, zero, suc, ◌*◌, ◌+◌, ◌^◌, ◌<◌}
use native.Mathlib.Omega.{arith}
use mathlib.Core.Path.{◌≡◌, refl, sym, ap, ◌∙◌}
use mathlib.Core.List.{List, [], ◌∷◌, ◌++◌, map}
use mathlib.Core.Bool.{Bool, true, false, cond}
use lib.Bits.{bit_or}
use lib.ListN.{length, take, drop, get_or, replicate, length-replicate}
use lib.Seq.{take_at}
use Rattle.model.specs.declared.Term.{Term}
use Rattle.model.specs.declared.Block.{Block}
use Rattle.model.specs.Base.{bit, without}
use Rattle.model.specs.Table.{Table}
use Rattle.model.specs.Sets.{cover, row_of}
use Rattle.model.specs.Candidates.{Candidate, terms_alone, basis, covering}
use Rattle.model.proofs.Lists.{zero_at}
use Rattle.model.proofs.Presence.{presence_cover}
use Rattle.bits.specs.Bits.{digit, removed}
use Rattle.bits.proofs.Digits.{digit_of_zero, digit_ext}
use Rattle.bits.proofs.Removed.{removed_none}
use Rattle.incidence.specs.Stored.{entry_of, is_block, block_at, BlocksAt, Stored}
use Rattle.incidence.specs.Rows.{OnBytes, Put}
use Rattle.incidence.specs.Presence.{TellsPresence}
use Rattle.incidence.proofs.Candidates.{half, low, held_blocks}
use Rattle.incidence.proofs.Changes.{row_with, row_without}

pub put_front : (xs old new : List ℕ) (r : ℕ) → Put xs old new r → take r new ≡ xs
put_front xs old new r p = ap (take r) p.same ∙ take_at xs (drop (length xs) old) r (sym p.counted)

pub some_on_table : (on : List ℕ) (n m : ℕ) → OnBytes (record { n = n; m = m; on = on; dc = [] }) n m on
some_on_table on n m = record { inputs = refl; outputs = refl; bytes = λ v l. refl }

pub tells_cover : (on : List ℕ) (n m : ℕ) (ts : List Term) (blocks : ℕ) (held : List ℕ) (s : ℕ) (r : Bool) → TellsPresence on n m ts blocks held s r
    → (p : Table) (cs : List Candidate) → OnBytes p n m on → Stored cs ts blocks held → r ≡ cover (covering (basis p cs)) s
tells_cover on n m ts blocks held s r t p cs o q = t p cs o q ∙ presence_cover (covering (basis p cs)) s

-- ---- the set of the blocks

pub which_term : (cs : List Candidate) (t : Term) → row_of is_block (cs ++ (Candidate.term t ∷ [])) 0 ≡ row_of is_block cs 0
which_term cs t = row_with is_block cs (Candidate.term t) 0 (length cs) refl

pub which_block : (cs : List Candidate) (b : Block) (k : ℕ) → length cs ≡ k → row_of is_block (cs ++ (Candidate.block b ∷ [])) 0 ≡ bit_or (row_of is_block cs 0) (2 ^ k)
which_block cs b k e = row_with is_block cs (Candidate.block b) 0 k e

pub which_without : (k : ℕ) (cs : List Candidate) → k < length cs → row_of is_block (without k cs) 0 ≡ removed k (row_of is_block cs 0)
which_without k cs l = row_without is_block k cs 0 l

-- whether candidate i is one
pub bit_row : {A X : Type 0} (f : A → X → Bool) (cs : List A) (x : X) (i : ℕ) → bit i (row_of f cs x) ≡ get_or (map (λ c. f c x) cs) i false
unfolding row_of
bit_row f [] x zero = refl
bit_row f [] x (suc i) = bit_row f [] x i
bit_row f (c ∷ cs) x zero = go (f c x)
  where
    go : (b : Bool) → bit 0 (row_of f cs x * 2 + cond b 1 0) ≡ b
    go true = rw (low (row_of f cs x) true)
    go false = rw (low (row_of f cs x) false)
bit_row f (c ∷ cs) x (suc i) = ap (bit i) (half (row_of f cs x) (f c x)) ∙ bit_row f cs x i

-- ---- terms alone

-- a row that has no term
no_terms : (f : Candidate → ℕ → Bool) (x : ℕ) → ((t : Term) → f (Candidate.term t) x ≡ false) → (ts : List Term) → row_of f (terms_alone ts) x ≡ 0
unfolding row_of
no_terms f x e [] = refl
no_terms f x e (t ∷ ts) = rw (no_terms f x e ts, e t)

pub which_alone : (ts : List Term) → row_of is_block (terms_alone ts) 0 ≡ 0
which_alone ts = no_terms is_block 0 (λ t. refl) ts

pub entries_alone : (ts : List Term) → map entry_of (terms_alone ts) ≡ ts
entries_alone [] = refl
entries_alone (t ∷ ts) = ap (λ (us : List Term). t ∷ us) (entries_alone ts)

-- ---- the sets by vertex

pub blocks_term : {cs : List Candidate} {held : List ℕ} (t : Term) → BlocksAt cs held → BlocksAt (cs ++ (Candidate.term t ∷ [])) held
blocks_term {cs} t h = record { size = h.size; sets = λ v l. h.sets v l ∙ sym (row_with block_at cs (Candidate.term t) v (length cs) refl) }

pub blocks_none : {held : List ℕ} → BlocksAt [] held → (v : ℕ) → v < 256 → get_or held v 0 ≡ 0
unfolding row_of
blocks_none h v l = h.sets v l

-- one fewer, where none is a block
pub blocks_without : {cs : List Candidate} {held : List ℕ} (k : ℕ) → k < length cs → row_of is_block cs 0 ≡ 0 → BlocksAt cs held → BlocksAt (without k cs) held
blocks_without {cs} k l z h = record { size = h.size; sets = λ v i. h.sets v i ∙ none v ∙ sym (row_without block_at k cs v l ∙ ap (removed k) (none v) ∙ removed_none k) }
  where
    none : (v : ℕ) → row_of block_at cs v ≡ 0
    none v = digit_ext (row_of block_at cs v) 0 (λ i. omega (arith, held_blocks cs v i, ap (digit i) z, digit_of_zero i))

pub none_alone : {held : List ℕ} → BlocksAt [] held → (ts : List Term) → BlocksAt (terms_alone ts) held
none_alone h ts = record { size = h.size; sets = λ v l. blocks_none h v l ∙ sym (no_terms block_at v (λ t. refl) ts) }

pub blocks_alone : (ts : List Term) → BlocksAt (terms_alone ts) (replicate 256 0)
unfolding row_of
blocks_alone ts = none_alone (record { size = length-replicate {A = ℕ} 256 0; sets = λ v l. zero_at 256 v }) ts

pub stored_alone : {held : List ℕ} (ts : List Term) → BlocksAt [] held → Stored (terms_alone ts) ts 0 held
stored_alone ts h = record { entries = sym (entries_alone ts); which = sym (which_alone ts); at = none_alone h ts }
