-- K8's library call: what it hands back where it is accepted and where it is refused, and when it is told 17.
use Prim.Native.Nat.{ℕ, ◌≤◌}
use native.Mathlib.Decide.{ℕ_discrete}
use native.Mathlib.Omega.{arith}
use mathlib.Core.Path.{◌≡◌, refl, sym, ◌∙◌}
use mathlib.Core.Logic.{◌↔◌}
use mathlib.Core.Bool.{Bool, true, false, not, cond}
use mathlib.Core.List.{List, [], ◌∷◌, ◌++◌, map}
use lib.Dec.{T, eqb, eqb→eq, not_T}
use Rattle.model.specs.Base.{join, All}
use Rattle.model.specs.Table.{Table}
use Rattle.model.specs.Sets.{coverable, irredundants}
use Rattle.model.specs.Products.{has_too_many}
use Rattle.model.specs.Pages.{next_start}
use Rattle.model.specs.Candidates.{covering}
use Rattle.model.specs.Refusals.{Refusal, refuse, first_of}
use Rattle.model.specs.Library.{call_basis, refusals_of_word, call_refusals, list_covers, sets_of, joined_rows, right_room, multiply_refusals, multiply_covers}
use Rattle.model.proofs.Lists.{T_true, T_false, all_append}
use Rattle.model.proofs.Products.{products_irredundants}
use Rattle.model.proofs.Runs.{first_before, first_behind}
use Rattle.model.proofs.Library.{joined_last, call_numbered}

-- ---- the lister's numbers are all below 17

first_most : (n : ℕ) (rs : List Refusal) → All (λ r. r.no ≤ n) rs → first_of rs ≤ n
first_most n [] a = omega arith
first_most n (r ∷ rs) a = go r.applies (first_most n rs a.1)
  where
    go : (b : Bool) → first_of rs ≤ n → cond b r.no (first_of rs) ≤ n
    go true h = a.0
    go false h = h

words_most : (p : Table) (words : List ℕ) → All (λ r. r.no ≤ 12) (join (map (refusals_of_word p) words))
words_most p [] = tt
words_most p (w ∷ ws) = (omega arith, (omega arith, words_most p ws))

call_most : (p : Table) (words : List ℕ) → first_of (call_refusals p words) ≤ 12
unfolding call_refusals
call_most p words =
    let last = refuse 12 (not (coverable (covering (call_basis p words)))) ∷ [] in
    first_most 12 (call_refusals p words)
    (omega arith, (omega arith, (omega arith, all_append (λ (r : Refusal). r.no ≤ 12) (join (map (refusals_of_word p) words)) last (words_most p words) (omega arith, tt))))

module _ (p : Table) (words : List ℕ) (a b : ℕ) where
  abbrev first : ℕ
  first = first_of (multiply_refusals p words a b)

  abbrev lister : ℕ
  lister = first_of (call_refusals p words)

  abbrev many : Bool
  many = has_too_many (covering (call_basis p words))

  -- the call tells the first refusal that applies
  told : (multiply_covers p words a b).number ≡ first
  unfolding multiply_covers
  told = go (eqb first 0) refl
    where
      go : (x : Bool) → eqb first 0 ≡ x → (multiply_covers p words a b).number ≡ first
      go true e = rw e (sym (eqb→eq first 0 (rw e tt)))
      go false e = rw e

  -- ---- which that is

  -- 6 of the lent rows
  wrong_room : T (not (right_room a b)) → first ≡ 6
  unfolding multiply_refusals
  wrong_room r = rw (T_false {b = right_room a b} r)

  -- the lister's, and then 17
  by_lister : T (right_room a b) → (lister ≡ 0 → ⊥) → first ≡ lister
  unfolding multiply_refusals
  by_lister r d = rw (T_true {b = right_room a b} r) (first_before (call_refusals p words) (refuse 17 many ∷ []) d)

  by_products : T (right_room a b) → lister ≡ 0 → first ≡ cond many 17 0
  unfolding multiply_refusals
  by_products r z = rw (T_true {b = right_room a b} r) (first_behind (call_refusals p words) (refuse 17 many ∷ []) (call_numbered p words) z)

  -- 17 is told exactly where the lister would accept, the rows are right, and more than 1,024 products remain at some cell
  pub multiply_17 : ((multiply_covers p words a b).number ≡ 17) ↔ (T (right_room a b) × (first_of (call_refusals p words) ≡ 0) × T (has_too_many (covering (call_basis p words))))
  multiply_17 = (λ e. room (right_room a b) refl (sym told ∙ e), λ h. told ∙ by_products h.0 h.1 ∙ rw (T_true {b = many} h.2))
    where
      products : T (right_room a b) → lister ≡ 0 → (x : Bool) → many ≡ x → first ≡ 17 → T many
      products r z true m e = rw m tt
      products r z false m e = let f : first ≡ 0 = by_products r z ∙ rw m in absurd (omega (arith, e, f))

      call : T (right_room a b) → Dec (lister ≡ 0) → first ≡ 17 → T (right_room a b) × (lister ≡ 0) × T many
      call r (yes z) e = (r, z, products r z many refl e)
      call r (no d) e = absurd (omega (arith, call_most p words, by_lister r d, e))

      room : (x : Bool) → right_room a b ≡ x → first ≡ 17 → T (right_room a b) × (lister ≡ 0) × T many
      room true f e = call (rw f tt) (ℕ_discrete lister 0) e
      room false f e = absurd (omega (arith, wrong_room (rw f tt), e))

  -- where the call is accepted, the lister's is
  accepted_too : first ≡ 0 → lister ≡ 0
  accepted_too e = room (right_room a b) refl
    where
      call : T (right_room a b) → Dec (lister ≡ 0) → lister ≡ 0
      call r (yes z) = z
      call r (no d) = sym (by_lister r d) ∙ e

      room : (x : Bool) → right_room a b ≡ x → lister ≡ 0
      room true f = call (rw f tt) (ℕ_discrete lister 0)
      room false f = absurd (omega (arith, wrong_room (rw f tt), e))

  -- ---- what is handed back

  -- an accepted call hands back the irredundant covers, rising
  pub multiply_lists : (multiply_covers p words a b).number ≡ 0 → (multiply_covers p words a b).sets ≡ irredundants (covering (call_basis p words))
  unfolding multiply_covers
  multiply_lists e = rw (sym told ∙ e) (products_irredundants (covering (call_basis p words)))

  -- "It equals L's pages joined until no more is reported": rows of any lengths, the last of which is told that none stands above
  pub multiply_joined : (multiply_covers p words a b).number ≡ 0 → (olds : List (List ℕ)) (old : List ℕ)
      → T (not (list_covers p words (next_start (joined_rows p words [] olds)) old).above)
      → (multiply_covers p words a b).sets ≡ joined_rows p words [] olds ++ sets_of (list_covers p words (next_start (joined_rows p words [] olds)) old)
  multiply_joined e olds old t = multiply_lists e ∙ (joined_last p words (accepted_too (sym told ∙ e)) olds old).0 t

  -- "After a refusal the first row is handed back and the count is 0": no sets and no turns
  pub multiply_refused : ((multiply_covers p words a b).number ≡ 0 → ⊥) → ((multiply_covers p words a b).sets ≡ []) × ((multiply_covers p words a b).turns ≡ 0)
  unfolding multiply_covers
  multiply_refused d = rw (T_false {b = eqb first 0} (not_T (eqb first 0) (λ t. d (told ∙ eqb→eq first 0 t)))) (refl, refl)
