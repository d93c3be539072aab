-- Paper 01, "The lister" and the last lines of "When a job stops": the library call; and K8: that of the multiplication.
use Rattle.std.specs.Prelude.{ℕ, zero, suc, ◌/◌, ◌%◌, ◌^◌, Bool, false, not, cond, ◌&&◌, List, [], ◌∷◌, ◌++◌, map, ltb, eqb, get_or, length, take, drop}
use Rattle.model.specs.Base.{below, some, join}
use Rattle.model.specs.Table.{Table, Term, term, formed, holds_no_off}
use Rattle.model.specs.Sets.{coverable, irredundants}
use Rattle.model.specs.Products.{most_products, products, has_too_many}
use Rattle.model.specs.Pages.{page, more, next_start}
use Rattle.model.specs.Candidates.{terms_alone, Basis, basis, covering}
use Rattle.model.specs.Refusals.{Refusal, refuse, first_of, size, bad_row}

-- "the terms as 32-bit numbers (care + 256 × value + 65,536 × outputs)"
abbrev pub unpack : ℕ → Term
unpack w = term (w % 256) (w / 256 % 256) (w / 65536 % 256)

-- what a call stands on. K10: "the library calls take terms alone"
abbrev pub call_basis : Table → List ℕ → Basis
call_basis p words = basis p (terms_alone (map unpack words))

-- 8 at vertex v
abbrev pub bad_vertex : Table → ℕ → Bool
bad_vertex p v = bad_row p.m (get_or p.on v 0) (get_or p.dc v 0)

-- 9 and 10 of one term: "a top byte that is not 0 is malformed under 9"
abbrev pub refusals_of_word : Table → ℕ → List Refusal
refusals_of_word p w = refuse 9 (not (eqb (w / 2 ^ 24) 0 && formed p (unpack w))) ∷ refuse 10 (not (holds_no_off p (unpack w))) ∷ []

-- "the library call tries 6, 8 by rising vertex, 11, then 9 and 10 term by term, then 12". 6: n or m outside 1 to 8, or "a table row
-- not 2^n long"
unfoldable pub call_refusals : Table → List ℕ → List Refusal
call_refusals p words =
    (refuse 6 (not (size p.n && size p.m && (eqb (length p.on) (2 ^ p.n) && eqb (length p.dc) (2 ^ p.n))))
    ∷ refuse 8 (some (bad_vertex p) (below (2 ^ p.n)))
    ∷ refuse 11 (ltb 64 (length words))
    ∷ [])
    ++ (join (map (refusals_of_word p) words) ++ (refuse 12 (not (coverable (covering (call_basis p words)))) ∷ []))

-- what the call tells, and the caller's row after it
pub record Listed : Type 0 where
  pub number : ℕ
  pub filled : ℕ
  pub above : Bool
  pub row : List ℕ

-- "as many as fit; the rest of the row stays"; "a refusal gives its number, with 0 filled" and "none above"; "it changes no row entry on
-- refusal"
unfoldable pub list_covers : Table → List ℕ → ℕ → List ℕ → Listed
list_covers p words start old =
    let n = first_of (call_refusals p words) in
    let all = irredundants (covering (call_basis p words)) in
    let sets = page all start (length old) in
    let fine : Listed = record { number = 0; filled = length sets; above = more all start (length old); row = sets ++ drop (length sets) old } in
    cond (eqb n 0) fine (record { number = n; filled = 0; above = false; row = old })

-- ---- calls on one table and one list of terms, each from the next start on, a row for each: the pages joined

abbrev pub sets_of : Listed → List ℕ
sets_of l = take l.filled l.row

abbrev pub joined_rows : Table → List ℕ → List ℕ → List (List ℕ) → List ℕ
joined_rows p words g [] = g
joined_rows p words g (old ∷ olds) = joined_rows p words (g ++ sets_of (list_covers p words (next_start g) old)) olds

-- ---- K8: "The library call takes the lister's table and terms and two lent rows of 1,024 products"

-- lent rows of a and b entries are so long
abbrev pub right_room : ℕ → ℕ → Bool
right_room a b = eqb a most_products && eqb b most_products

-- "it tries the lister's refusals, then 17"; "A lent row of another length is refused under 6"
unfoldable pub multiply_refusals : Table → List ℕ → ℕ → ℕ → List Refusal
multiply_refusals p words a b =
    refuse 6 (not (right_room a b)) ∷ (call_refusals p words ++ (refuse 17 (has_too_many (covering (call_basis p words))) ∷ []))

-- what the call tells, the sets that stand first in the row handed back, "rising", and at how many cells the rows took turns
pub record Multiplied : Type 0 where
  pub number : ℕ
  pub sets : List ℕ
  pub turns : ℕ

-- "After a refusal the first row is handed back and the count is 0"
unfoldable pub multiply_covers : Table → List ℕ → ℕ → ℕ → Multiplied
multiply_covers p words a b =
    let n = first_of (multiply_refusals p words a b) in
    let all = covering (call_basis p words) in
    let fine : Multiplied = record { number = 0; sets = products all; turns = length all.points } in
    cond (eqb n 0) fine (record { number = n; sets = []; turns = 0 })

-- "which take turns at each wanted cell", "The first product stands in the first row": of two rows, the one that holds the products after i cells
abbrev pub turn : {R : Type 0} → ℕ → R → R → R
turn zero first second = first
turn (suc i) first second = turn i second first
