-- What the unmet rows of each candidate have in common, row by row and entry by entry.
use Rattle.std.proofs.Common.{◌≡◌, refl, sym, ◌∙◌, subst, ⊎_elim, List, ℕ, ◌+◌, ◌^◌, ◌<◌, arith, below_more, length, get_or, set, length-set, get_or-set_same, get_or-set_other, bit_and}
use Rattle.bits.specs.Bits.{digit, Part, Minus, Member, Index}
use Rattle.cheapest_nodes.specs.Nodes.{Dominators, Restricted, Shared}
use Rattle.bits.proofs.Digits.{eq?}
use Rattle.bits.proofs.Members.{and_both, bit_here, has_bit}
use Rattle.bits.proofs.Parts.{members, part_self, part_trans, part_and_left, part_and_less}
use Rattle.bits.proofs.Steps.{Visited, visited_none, visited_more, visited_all}

-- ---- one row

-- the entries of the members of x that are not in rest have only what is in row
pub record Restricting (row x rest : ℕ) (old new : List ℕ) : Type 0 where
  pub size : length new ≡ length old
  pub less : (b : ℕ) → Part (get_or new b 0) (get_or old b 0)
  pub met : Visited (λ b. Part (get_or new b 0) row) x rest

pub restricting_none : (row x : ℕ) (old : List ℕ) → Restricting row x x old old
restricting_none row x old = record { size = omega arith; less = λ b. part_self (get_or old b 0); met = visited_none _ x }

module _ (row x rest m i rest' : ℕ) (old mid : List ℕ) (h : Restricting row x rest old mid) (is : Index m i) (d : Minus rest m rest') (lt : i < length mid) where
  new : List ℕ
  new = set mid i (bit_and (get_or mid i 0) row)

  here : get_or new i 0 ≡ bit_and (get_or mid i 0) row
  unfolding new
  here = get_or-set_same mid i (bit_and (get_or mid i 0) row) 0 lt

  there : (b : ℕ) → (b ≡ i → ⊥) → get_or new b 0 ≡ get_or mid b 0
  unfolding new
  there b n = get_or-set_other mid i b (bit_and (get_or mid i 0) row) 0 n

  less_mid : (b : ℕ) → Part (get_or new b 0) (get_or mid b 0)
  less_mid b =
      ⊎_elim
      (λ (e : b ≡ i). subst (λ (j : ℕ). Part (get_or new j 0) (get_or mid j 0)) (sym e)
      (subst (λ (v : ℕ). Part v (get_or mid i 0)) (sym here) (part_and_less (get_or mid i 0) row (get_or mid i 0) (part_self (get_or mid i 0)))))
      (λ (n : b ≡ i → ⊥). subst (λ (v : ℕ). Part v (get_or mid b 0)) (sym (there b n)) (part_self (get_or mid b 0)))
      (eq? b i)

  restricting_met : Visited (λ b. Part (get_or new b 0) row) x rest'
  unfolding Visited
  restricting_met =
      visited_more (λ b. Part (get_or new b 0) row) x rest m i rest' (λ b p n. part_trans (get_or new b 0) (get_or mid b 0) row (less_mid b) (h.met b p n)) is.is d
      (subst (λ (v : ℕ). Part v row) (sym here) (part_and_left (get_or mid i 0) row))

  pub restricting_more : Restricting row x rest' old (set mid i (bit_and (get_or mid i 0) row))
  unfolding new
  restricting_more = record {
    size = length-set mid i (bit_and (get_or mid i 0) row) ∙ h.size;
    less = λ b. part_trans (get_or new b 0) (get_or mid b 0) (get_or old b 0) (less_mid b) (h.less b);
    met = restricting_met;
  }

pub restricting_all : (row x rest : ℕ) (old new : List ℕ) → rest ≡ 0 → Restricting row x rest old new → Restricted row x old new
restricting_all row x rest old new z h = record { size = h.size; less = h.less; met = visited_all _ x rest h.met z }

-- ---- the rows passed

pub shared_none : (rows : List ℕ) (s free : ℕ) (common : List ℕ) → length common ≡ 64 → Shared rows 0 s free common
unfolding Dominators
shared_none rows s free common e = record { size = e; each = λ b m k lt. absurd (omega arith) }

module _ (rows : List ℕ) (n s free : ℕ) (old : List ℕ) (h : Shared rows n s free old) where
  pub shared_met : (bit_and (get_or rows n 0) s ≡ 0 → ⊥) → Shared rows (n + 1) s free old
  unfolding Dominators
  shared_met d = record { size = h.size; each = λ b m. below_more _ n (h.each b m) (λ z. absurd (d z)) }

  pub shared_more : (new : List ℕ) → Restricted (get_or rows n 0) (bit_and (get_or rows n 0) free) old new → Shared rows (n + 1) s free new
  unfolding Dominators
  shared_more new w = record {
    size = w.size ∙ h.size;
    each = λ b m. below_more (λ k. bit_and (get_or rows k 0) s ≡ 0 → (bit_and (get_or rows k 0) (2 ^ b) ≡ 0 → ⊥) → Part (get_or new b 0) (get_or rows k 0)) n
        (λ k lt z q. part_trans (get_or new b 0) (get_or old b 0) (get_or rows k 0) (w.less b) (h.each b m k lt z q))
        (λ z q. w.met b (and_both b (get_or rows n 0) free (has_bit b (2 ^ b) refl (get_or rows n 0) q) m));
  }

pub shared_all : (rows : List ℕ) (n s free : ℕ) (common : List ℕ) → n ≡ length rows → Shared rows n s free common → Shared rows (length rows) s free common
shared_all rows n s free common e h = subst (λ (m : ℕ). Shared rows m s free common) e h

-- the entry of one free candidate
pub shared_one : (rows : List ℕ) (s free rest m i : ℕ) (common : List ℕ) → Shared rows (length rows) s free common → Part rest free → Member rest m → Index m i
    → Dominators rows (length rows) s m (get_or common i 0)
shared_one rows s free rest m i common h p one is =
    let in_rest : digit i rest ≡ 1 = members m rest one.part i (bit_here i m is.is) in
    subst (λ (x : ℕ). Dominators rows (length rows) s x (get_or common i 0)) (sym is.is) (h.each i (members rest free p i in_rest))
