-- One candidate more, and one fewer: the rows as sets, and the array that has the blocks by vertex; the laws behind `add` and `remove`.
use Prim.Native.Nat.{ℕ, zero, suc, ◌+◌, ◌*◌, ◌^◌, ◌≤◌, ◌<◌}
use native.Mathlib.Omega.{arith}
use native.Mathlib.Nat.{pow-suc}
use mathlib.Core.Path.{◌≡◌, refl, sym, ap, ap₂, ◌∙◌, subst}
use mathlib.Core.Bool.{Bool, true, false, cond}
use mathlib.Core.List.{List, [], ◌∷◌, ◌++◌}
use borrow.Author.Count.{below_more}
use lib.Bits.{bit_or, or_shifted_r}
use lib.ListN.{length, get_or, set, length-set}
use lib.Seq.{get_or-set_same, get_or-set_other}
use Rattle.model.specs.declared.Block.{Block}
use Rattle.model.specs.Base.{without}
use Rattle.model.specs.Blocks.{vertex_bit}
use Rattle.model.specs.Candidates.{Candidate}
use Rattle.model.specs.Sets.{row_of}
use Rattle.model.proofs.Matrix.{row_of_lt}
use Rattle.bits.specs.Bits.{removed}
use Rattle.bits.proofs.Removed.{removed_first, removed_next}
use Rattle.table.specs.Blocks.{vertex_in}
use Rattle.incidence.specs.Stored.{block_at, BlocksAt, Adds, Removes}
use Rattle.incidence.proofs.Candidates.{half, low}

-- ---- rows

module _ {A X : Type 0} (f : A → X → Bool) where
  row_append : (cs : List A) (c : A) (x : X) → row_of f (cs ++ (c ∷ [])) x ≡ row_of f cs x + cond (f c x) (2 ^ length cs) 0
  unfolding row_of
  row_append [] c x = go (f c x)
    where
      go : (b : Bool) → 0 * 2 + cond b 1 0 ≡ 0 + cond b (2 ^ 0) 0
      go true = refl
      go false = refl
  row_append (d ∷ cs) c x = go (f d x) (f c x) (row_append cs c x)
    where
      go : (a b : Bool) → row_of f (cs ++ (c ∷ [])) x ≡ row_of f cs x + cond b (2 ^ length cs) 0
          → row_of f (cs ++ (c ∷ [])) x * 2 + cond a 1 0 ≡ (row_of f cs x * 2 + cond a 1 0) + cond b (2 ^ suc (length cs)) 0
      go a true h = omega (arith, pow-suc 2 (length cs))
      go a false h = omega arith

  -- one candidate more, behind the others
  pub row_with : (cs : List A) (c : A) (x : X) (k : ℕ) → length cs ≡ k → row_of f (cs ++ (c ∷ [])) x ≡ cond (f c x) (bit_or (row_of f cs x) (2 ^ k)) (row_of f cs x)
  row_with cs c x k e = row_append cs c x ∙ go (f c x)
    where
      up : bit_or (row_of f cs x) (2 ^ k) ≡ row_of f cs x + 2 ^ length cs
      up =
          let l : row_of f cs x < 2 ^ k = subst (λ (n : ℕ). row_of f cs x < 2 ^ n) e (row_of_lt f cs x) in
          let o : 1 * 2 ^ k ≡ 2 ^ k = omega arith in
          ap (bit_or (row_of f cs x)) (sym o) ∙ or_shifted_r 1 k (row_of f cs x) l ∙ omega (arith, ap (λ (n : ℕ). 2 ^ n) e)

      go : (b : Bool) → row_of f cs x + cond b (2 ^ length cs) 0 ≡ cond b (bit_or (row_of f cs x) (2 ^ k)) (row_of f cs x)
      go true = sym up
      go false = omega arith

  -- one candidate fewer
  pub row_without : (k : ℕ) (cs : List A) (x : X) → k < length cs → row_of f (without k cs) x ≡ removed k (row_of f cs x)
  unfolding row_of
  row_without k [] x l = absurd (omega arith)
  row_without zero (c ∷ cs) x l = sym (removed_first (row_of f (c ∷ cs) x) ∙ half (row_of f cs x) (f c x))
  row_without (suc k) (c ∷ cs) x l =
      ap (λ (r : ℕ). r * 2 + cond (f c x) 1 0) (row_without k cs x (omega arith))
      ∙ sym (removed_next k (row_of f (c ∷ cs) x) ∙ ap₂ (λ (r b : ℕ). removed k r * 2 + b) (half (row_of f cs x) (f c x)) (low (row_of f cs x) (f c x)))

-- ---- an array that a loop changes entry by entry

module _ (f : ℕ → ℕ → ℕ) (old : List ℕ) where
  -- entry u becomes f u of it: so far those below v, the others are as they were
  pub record ChangedBelow (v : ℕ) (new : List ℕ) : Type 0 where
    pub size : length new ≡ length old
    pub done : (u : ℕ) → u < v → u < length old → get_or new u 0 ≡ f u (get_or old u 0)
    pub left : (u : ℕ) → v ≤ u → get_or new u 0 ≡ get_or old u 0

  pub changed_none : ChangedBelow 0 old
  changed_none = record { size = refl; done = λ u h. absurd (omega arith); left = λ u h. refl }

  pub changed_next : (v x : ℕ) (new : List ℕ) → x ≡ f v (get_or new v 0) → ChangedBelow v new → ChangedBelow (v + 1) (set new v x)
  changed_next v x new e c = record {
    size = length-set new v x ∙ c.size;
    done = below_more (λ u. u < length old → get_or (set new v x) u 0 ≡ f u (get_or old u 0)) v
        (λ u h i. get_or-set_other new v u x 0 (λ d. omega arith) ∙ c.done u h i)
        (λ i. get_or-set_same new v x 0 (omega (arith, c.size)) ∙ e ∙ ap (f v) (c.left v (omega arith)));
    left = λ u h. get_or-set_other new v u x 0 (λ d. omega arith) ∙ c.left u (omega arith);
  }

-- ---- the blocks by vertex

module _ {old new : List ℕ} (v : ℕ) (l : 256 ≤ v) where
  changed_at : {f : ℕ → ℕ → ℕ} → ChangedBelow f old v new → (cs ds : List Candidate) → ((u : ℕ) → f u (row_of block_at cs u) ≡ row_of block_at ds u) → BlocksAt cs old → BlocksAt ds new
  changed_at {f} c cs ds e h = record {
    size = c.size ∙ h.size;
    sets = λ u i. c.done u (omega arith) (omega (arith, h.size)) ∙ ap (f u) (h.sets u i) ∙ e u;
  }

  pub adds : {k member : ℕ} (b : Block) → member ≡ 2 ^ k → ChangedBelow (λ u s. cond (vertex_in b.vertices u) (bit_or s member) s) old v new → Adds k b old new
  unfolding vertex_bit
  adds {k} b e c cs h = changed_at c cs (cs ++ (Candidate.block b ∷ []))
      (λ u. ap (λ (m : ℕ). cond (vertex_in b.vertices u) (bit_or (row_of block_at cs u) m) (row_of block_at cs u)) e ∙ sym (row_with block_at cs (Candidate.block b) u k h))

  pub removes : {k : ℕ} → ChangedBelow (λ u s. removed k s) old v new → Removes k old new
  removes {k} c cs h = changed_at c cs (without k cs) (λ u. sym (row_without block_at k cs u h))
