-- K6: what prices do not touch, and why a list of other terms is compared only at connection price 0.
use Prim.Native.Nat.{ℕ, ◌+◌, ◌*◌, ◌≤◌, ◌<◌}
use native.Mathlib.Omega.{arith}
use mathlib.Core.Path.{◌≡◌, refl, ap, subst}
use mathlib.Core.Logic.{◌↔◌}
use mathlib.Core.List.Memᴰ
use mathlib.Core.List.{List, [], ◌∷◌, Memᴰ}
use lib.Dec.{T}
use lib.Count.{ones, ones_in}
use Rattle.model.specs.Table.{Table, Term, is_on, is_dc, is_off, cells, on_cells, holds, formed, holds_no_off, legal, represents}
use Rattle.model.specs.Primes.{contains, same_term, contained_in, terms, prime, primes}
use Rattle.model.specs.Blocks.{Block}
use Rattle.model.specs.Sets.{covers, cover, coverable, redundant, irredundant, irredundants, cost, cheapest}
use Rattle.model.specs.Presence.{sum_up_to, sum_at, product_up_to, presence}
use Rattle.model.specs.Ranges.{Range, possibles}
use Rattle.model.specs.Candidates.{Candidate, terms_alone, Prices, literals_charged, term_cost, Basis, priced, covering, list_cost}
use Rattle.model.specs.Demand3.{covers_of, possibles_of, IsPrime, ArePrimes, NoCheaperList}
use Rattle.model.specs.Cases.{free_beside, at_its_primes, lone, Undercut}
use Rattle.model.proofs.Cubes.{primes_iff}

-- ---- the covers, whether there is one, and the presence function

module _ (w v : Prices) (p : Table) (cs : List Candidate) where
  pub listing_untouched : covers_of (priced w p cs) ≡ covers_of (priced v p cs)
  unfolding irredundants irredundant redundant cover
  listing_untouched = refl

  pub possibles_untouched : (rs : List Range) → possibles_of (priced w p cs) rs ≡ possibles_of (priced v p cs) rs
  unfolding possibles irredundants irredundant redundant cover
  possibles_untouched rs = refl

  pub coverable_untouched : coverable (covering (priced w p cs)) ≡ coverable (covering (priced v p cs))
  unfolding coverable
  coverable_untouched = refl

  pub presence_untouched : (s : ℕ) → presence (covering (priced w p cs)) s ≡ presence (covering (priced v p cs)) s
  unfolding presence product_up_to sum_at sum_up_to
  presence_untouched s = refl

-- ---- "a prime may drive more outputs than the rival pays for"

lone_cost : (w : Prices) → list_cost (at_its_primes w) lone ≡ w.term + w.connection
unfolding list_cost term_cost literals_charged ones ones_in
lone_cost w = omega arith

prime_cost : (w : Prices) → cost (covering (at_its_primes w)) (cheapest (covering (at_its_primes w))) ≡ w.term + w.connection * 2
unfolding irredundants irredundant redundant cover covers is_on on_cells cells holds cost cheapest term_cost literals_charged ones ones_in primes prime legal formed holds_no_off is_off is_dc contains same_term contained_in terms
prime_cost w = omega arith

-- the primes as candidates are the primes
pub only_primes : (p : Table) (c : Candidate) → IsPrime p c ↔ Memᴰ c (terms_alone (primes p))
only_primes p (Candidate.term t) = (λ h. Memᴰ.map Candidate.term ((primes_iff p t).0 h), λ m. (primes_iff p t).1 (term_among (primes p) m))
  where
    own : Candidate → Term
    own (Candidate.term u) = u
    own (Candidate.block b) = t

    term_among : (ts : List Term) → Memᴰ (Candidate.term t) (terms_alone ts) → Memᴰ t ts
    term_among [] x' = elim x' [ ]
    term_among (u ∷ us) (Memᴰ.head e) = Memᴰ.head (ap own e)
    term_among (u ∷ us) (Memᴰ.tail m) = Memᴰ.tail (term_among us m)
only_primes p (Candidate.block b) = (λ h. absurd h, λ m. none (primes p) m)
  where
    IsBlock : Candidate → Type 0
    IsBlock (Candidate.term u) = ⊥
    IsBlock (Candidate.block d) = Unit {0}

    none : (ts : List Term) → Memᴰ (Candidate.block b) (terms_alone ts) → ⊥
    none [] x' = elim x' [ ]
    none (u ∷ us) (Memᴰ.head e) = subst IsBlock e tt
    none (u ∷ us) (Memᴰ.tail m) = none us m

-- at every connection price but 0 a list that represents the table is cheaper than the cheapest set of its primes
pub condition_needed : (w : Prices) → 0 < w.connection → Undercut (at_its_primes w) lone
unfolding represents is_on on_cells cells holds legal formed holds_no_off is_off is_dc
condition_needed w h = record { all_primes = only_primes free_beside; representing = tt; cheaper = omega (arith, lone_cost w, prime_cost w) }

-- K10: he "is met only in jobs of primes alone": where a block stands among the candidates, they are not the primes
pub no_block_among : (b : Basis) (k : Block) → Memᴰ (Candidate.block k) b.cands → ArePrimes b → ⊥
no_block_among b k m a = (a (Candidate.block k)).1 m

-- ---- the rival is met at every price of a term and of a literal

pub rival_met : (w : Prices) → w.connection ≡ 0 → (p : Table) (cs : List Candidate) (c : ℕ) → NoCheaperList (priced w p cs) c → ArePrimes (priced w p cs)
    → (qs : List Term) → T (represents p qs) → c ≤ list_cost (priced w p cs) qs
rival_met w z p cs c n a = n z a
