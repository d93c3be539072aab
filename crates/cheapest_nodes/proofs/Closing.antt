-- Free candidates in two parts that no unmet row links.
use Rattle.std.proofs.Common.{◌≡◌, subst, ◌⊎◌, inr, List, ℕ, ◌+◌, arith, below_more, length, get_or, bit_and}
use Rattle.bits.specs.Bits.{Part}
use Rattle.cheapest_nodes.specs.Nodes.{Closed, Component}
use Rattle.bits.proofs.Parts.{part_self, part_and_left, part_and_less}

module _ (rows : List ℕ) (n s free a : ℕ) (h : Closed rows n s free a) where
  pub closed_met : (bit_and (get_or rows n 0) s ≡ 0 → ⊥) → Closed rows (n + 1) s free a
  unfolding Closed
  closed_met d = below_more _ n h (λ z. absurd (d z))

  pub closed_more : (bit_and (bit_and (get_or rows n 0) free) a ≡ 0) ⊎ Part (bit_and (get_or rows n 0) free) a → Closed rows (n + 1) s free a
  unfolding Closed
  closed_more d = below_more _ n h (λ z. d)

pub closed_none : (rows : List ℕ) (s free a : ℕ) → Closed rows 0 s free a
unfolding Closed
closed_none rows s free a k lt = absurd (omega arith)

pub closed_all : (rows : List ℕ) (n s free a : ℕ) → n ≡ length rows → Closed rows n s free a → Closed rows (length rows) s free a
closed_all rows n s free a e h = subst (λ (j : ℕ). Closed rows j s free a) e h

-- all of free is closed
pub component_all : (rows : List ℕ) (s free : ℕ) → Component rows s free free
unfolding Closed
component_all rows s free = record {
  part = part_self free;
  closed = λ k lt z. inr (part_and_left (get_or rows k 0) free);
}

pub component_grown : (rows : List ℕ) (s free g : ℕ) → Closed rows (length rows) s free (bit_and free g) → Component rows s free (bit_and free g)
component_grown rows s free g h = record { part = part_and_less free g free (part_self free); closed = h }
