-- The library call: its row before and after, its pages joined, that what it accepts is legal, and that an L answers what it fills.
use Prim.Native.Nat.{ℕ, ◌+◌, ◌*◌, ◌/◌, ◌%◌, ◌^◌, ◌≤◌, ◌<◌}
use native.Mathlib.Omega.{arith}
use mathlib.Core.Path.{◌≡◌, refl, sym, ap, ap₂, ◌∙◌, subst, subst⁻¹}
use mathlib.Core.Logic.{◌↔◌}
use mathlib.Core.Bool.{Bool, true, false, not, ◌&&◌}
use mathlib.Core.List.{List, [], ◌∷◌, ◌++◌, map}
use lib.Dec.{T, ltb, eqb, eqb→eq, eqb_refl, not_T, T_not}
use lib.Arith.{le→nltb}
use lib.Seq.{take-append_seam, drop-append_seam}
use lib.ListN.{length, drop, length-take, length-append, length-drop, length-map}
use Rattle.model.specs.Base.{below, some, filter, join, All}
use Rattle.model.specs.Table.{Table, Term, formed, holds_no_off, legal}
use Rattle.model.specs.Sets.{coverable, irredundants}
use Rattle.model.specs.Pages.{Rising, at_or_above, page, more, next_start}
use Rattle.model.specs.Candidates.{Candidate, terms_alone, candidate_legal, Basis, usual, priced, basis, covering, HoldsExactly, LegalBasis}
use Rattle.model.specs.Commands.{begun, Kind, allowed, Problem, Context, start, count, covering_of, table_of, prices_of}
use Rattle.model.specs.Answers.{Answer, answer_for, answer}
use Rattle.model.specs.Refusals.{size, Refusal, refuse, first_of, refusals_of}
use Rattle.model.specs.Rules.{engine}
use Rattle.model.specs.Library.{unpack, call_basis, bad_vertex, refusals_of_word, call_refusals, Listed, list_covers, sets_of, joined_rows}
use Rattle.model.specs.Invariants.{Small, SmallCandidate, Valid}
use Rattle.model.proofs.Lists.{twice, not_not, T_false, and_l, and_r, and_i, some_e, all_append, all_left, all_unmap}
use Rattle.model.proofs.Pages.{rising, all_page, upto_got, step, more_iff}
use Rattle.model.proofs.Pricing.{listing_untouched, coverable_untouched}
use Rattle.model.proofs.Legal.{legal_basis, all_exactly}
use Rattle.model.proofs.Runs.{Numbered, first_none, NoneApplies, none_first, Passed}
use Rattle.model.proofs.Valid.{place_one}

page_fits : (all : List ℕ) (a c : ℕ) → length (page all a c) ≤ c
unfolding page
page_fits all a c = omega (arith, length-take c (at_or_above all a))

-- a page of one or more holds a set wherever one stands
page_some : (all : List ℕ) (a c : ℕ) → 1 ≤ c → 1 ≤ length (at_or_above all a) → 1 ≤ length (page all a c)
unfolding page
page_some all a c h k = omega (arith, length-take c (at_or_above all a))

-- what a call that is not refused tells and leaves, and what a refused one does
pub record Told (all : List ℕ) (a : ℕ) (old : List ℕ) (l : Listed) : Type 0 where
  pub number : l.number ≡ 0
  pub sets : sets_of l ≡ page all a (length old)
  pub above : l.above ≡ more all a (length old)
  pub fits : l.filled ≤ length old
  pub whole : length l.row ≡ length old
  pub rest : drop l.filled l.row ≡ drop l.filled old
  pub some : 1 ≤ length old → 1 ≤ length (at_or_above all a) → 1 ≤ l.filled

pub listed_told : (p : Table) (words : List ℕ) (a : ℕ) (old : List ℕ) → first_of (call_refusals p words) ≡ 0
    → Told (irredundants (covering (call_basis p words))) a old (list_covers p words a old)
unfolding list_covers
listed_told p words a old z = rw z (record {
  number = refl;
  sets = take-append_seam ss (drop (length ss) old);
  above = refl;
  fits = page_fits all a (length old);
  whole = length-append ss (drop (length ss) old) ∙ omega (arith, length-drop (length ss) old, page_fits all a (length old));
  rest = drop-append_seam ss (drop (length ss) old);
  some = page_some all a (length old);
})
  where
    all : List ℕ
    all = irredundants (covering (call_basis p words))

    ss : List ℕ
    ss = page all a (length old)

pub record Refused (old : List ℕ) (n : ℕ) (l : Listed) : Type 0 where
  pub number : l.number ≡ n
  pub filled : l.filled ≡ 0
  pub above : l.above ≡ false
  pub row : l.row ≡ old

pub listed_refused : (p : Table) (words : List ℕ) (a : ℕ) (old : List ℕ) → T (not (eqb (first_of (call_refusals p words)) 0)) → Refused old (first_of (call_refusals p words)) (list_covers p words a old)
unfolding list_covers
listed_refused p words a old n = rw (T_false {b = eqb (first_of (call_refusals p words)) 0} n) (record { number = refl; filled = refl; above = refl; row = refl })

module _ (p : Table) (words : List ℕ) (z : first_of (call_refusals p words) ≡ 0) where
  abbrev all : List ℕ
  all = irredundants (covering (call_basis p words))

  up : Rising 0 all
  up = rising (covering (call_basis p words))

  joined_part : (g left : List ℕ) (olds : List (List ℕ)) → all ≡ g ++ left → (rem : List ℕ) × (all ≡ joined_rows p words g olds ++ rem)
  joined_part g left [] e = (left, e)
  joined_part g left (old ∷ olds) e =
      let more : all ≡ (g ++ page all (next_start g) (length old)) ++ drop (length old) left = step all up g left (length old) e in
      joined_part (g ++ sets_of (list_covers p words (next_start g) old)) (drop (length old) left) olds
      (subst⁻¹ (λ (ss : List ℕ). all ≡ (g ++ ss) ++ drop (length old) left) (listed_told p words (next_start g) old z).sets more)

  -- the rows joined are the sets up to the last one joined
  pub joined_rows_lem : (olds : List (List ℕ)) → joined_rows p words [] olds ≡ filter (λ s. ltb s (next_start (joined_rows p words [] olds))) all
  joined_rows_lem olds =
      let q = joined_part [] all olds refl in
      sym (upto_got all up (joined_rows p words [] olds) q.0 q.1)

  -- one more row says "none above" exactly when none is missing
  pub joined_last : (olds : List (List ℕ)) (old : List ℕ) → let g = joined_rows p words [] olds in let l = list_covers p words (next_start g) old in
      T (not l.above) ↔ (all ≡ g ++ sets_of l)
  joined_last olds old =
      let q = joined_part [] all olds refl in
      let t = listed_told p words (next_start (joined_rows p words [] olds)) old z in
      rw (t.above, t.sets) (more_iff all up (joined_rows p words [] olds) q.0 (length old) q.1)

-- ---- what an accepted call was given

words_numbered : (p : Table) (words : List ℕ) → All Numbered (join (map (refusals_of_word p) words))
words_numbered p [] = tt
words_numbered p (w ∷ ws) = (omega arith, (omega arith, words_numbered p ws))

pub call_numbered : (p : Table) (words : List ℕ) → All Numbered (call_refusals p words)
unfolding call_refusals
call_numbered p words =
    let last = refuse 12 (not (coverable (covering (call_basis p words)))) ∷ [] in
    (omega arith, (omega arith, (omega arith, all_append Numbered (join (map (refusals_of_word p) words)) last (words_numbered p words) (omega arith, tt))))

words_legal : (p : Table) (words : List ℕ) → NoneApplies (join (map (refusals_of_word p) words)) → All (λ c. T (candidate_legal p c)) (terms_alone (map unpack words))
unfolding legal
words_legal p [] a = tt
words_legal p (w ∷ ws) a =
    let t = unpack w in
    let f = and_r (eqb (w / 2 ^ 24) 0) (formed p t) (twice (eqb (w / 2 ^ 24) 0 && formed p t) a.0) in
    (and_i (formed p t) (holds_no_off p t) f (twice (holds_no_off p t) a.1.0), words_legal p ws a.1.1)

none_told : (p : Table) (words : List ℕ) (a : ℕ) (old : List ℕ) → (list_covers p words a old).number ≡ 0 → first_of (call_refusals p words) ≡ 0
none_told p words a old z = go (eqb n 0) refl
  where
    n : ℕ
    n = first_of (call_refusals p words)

    go : (b : Bool) → eqb n 0 ≡ b → n ≡ 0
    go true e = eqb→eq n 0 (rw e tt)
    go false e = sym (listed_refused p words a old (rw e tt)).number ∙ z

-- an accepted call: its terms are legal, and each set that it fills holds every wanted cell and no off cell
pub listed_legal : (p : Table) (words : List ℕ) (a : ℕ) (old : List ℕ) → (list_covers p words a old).number ≡ 0
    → LegalBasis (call_basis p words) × All (HoldsExactly (call_basis p words)) (sets_of (list_covers p words a old))
unfolding call_refusals
listed_legal p words a old z = (fair, subst⁻¹ (All (HoldsExactly b)) (listed_told p words a old none).sets (all_page (HoldsExactly b) (irredundants (covering b)) a (length old) (all_exactly b fair)))
  where
    b : Basis
    b = call_basis p words

    none : first_of (call_refusals p words) ≡ 0
    none = none_told p words a old z

    last : List Refusal
    last = refuse 12 (not (coverable (covering b))) ∷ []

    fair : LegalBasis b
    fair =
        let h = first_none (call_refusals p words) (call_numbered p words) none in
        legal_basis b (words_legal p words (all_left (λ (r : Refusal). T (not r.applies)) (join (map (refusals_of_word p) words)) last h.1.1.1))

-- ---- the library call on what a job has

-- a term as a 32-bit number
abbrev pub pack : Term → ℕ
pack t = t.care + 256 * t.value + 65536 * t.outputs

low_byte : (x y : ℕ) → x < 256 → (x + 256 * y) % 256 ≡ x
low_byte x y h = omega arith

unpack_pack : (t : Term) → Small t → unpack (pack t) ≡ t
unpack_pack t s =
    let a : pack t % 256 ≡ t.care = omega (arith, s.0) in
    let h : pack t / 256 ≡ t.value + 256 * t.outputs = omega (arith, s.0) in
    let b : pack t / 256 % 256 ≡ t.value = ap (λ (x : ℕ). x % 256) h ∙ low_byte t.value t.outputs s.1 in
    let k : pack t / 65536 ≡ t.outputs + 256 * 0 = omega (arith, s.0, s.1) in
    let c : pack t / 65536 % 256 ≡ t.outputs = ap (λ (x : ℕ). x % 256) k ∙ low_byte t.outputs 0 s.2 in
    rw (a, b, c)

unpack_all : (ts : List Term) → All Small ts → map unpack (map pack ts) ≡ ts
unpack_all [] a = refl
unpack_all (t ∷ ts) a = ap₂ (λ (u : Term) (us : List Term). u ∷ us) (unpack_pack t a.0) (unpack_all ts a.1)

words_pass : (p : Table) (ts : List Term) → All Small ts → All (λ t. T (legal p t)) ts → All (λ r. T (not r.applies)) (join (map (refusals_of_word p) (map pack ts)))
unfolding legal
words_pass p [] s l = tt
words_pass p (t ∷ ts) s l =
    let top : pack t / 2 ^ 24 ≡ 0 = omega (arith, s.0.0, s.0.1, s.0.2) in
    let f = and_l (formed p t) (holds_no_off p t) l.0 in
    let h = and_r (formed p t) (holds_no_off p t) l.0 in
    (rw (top, unpack_pack t s.0) (not_not (formed p t) f), (rw (unpack_pack t s.0) (not_not (holds_no_off p t) h), words_pass p ts s.1 l.1))

-- no refusal of the library call applies where none applies to an L and the candidates are terms alone
module _ (q : Problem) (ts : List Term) (alone : q.cands ≡ terms_alone ts) (v : Valid q) where
  small_terms : All Small ts
  small_terms = all_unmap SmallCandidate Candidate.term ts (subst (All SmallCandidate) alone v.sound.small)

  library_passes : begun ≤ q.place → T (coverable (covering (basis (table_of q) (terms_alone ts)))) → first_of (call_refusals (table_of q) (map pack ts)) ≡ 0
  unfolding call_refusals
  library_passes o c = none_first (call_refusals p words) (not_not (size p.n && size p.m && (eqb (length p.on) (2 ^ p.n) && eqb (length p.dc) (2 ^ p.n))) shape, (clean, (few, rest)))
    where
      p : Table
      p = table_of q

      words : List ℕ
      words = map pack ts

      full : (xs : List ℕ) → length xs ≡ 2 ^ p.n → T (eqb (length xs) (2 ^ p.n))
      full xs e = rw e (eqb_refl (2 ^ p.n))

      shape : T (size p.n && size p.m && (eqb (length p.on) (2 ^ p.n) && eqb (length p.dc) (2 ^ p.n)))
      shape =
          and_i (size p.n && size p.m) (eqb (length p.on) (2 ^ p.n) && eqb (length p.dc) (2 ^ p.n)) (and_i (size p.n) (size p.m) (v.sizes o).0 (v.sizes o).1)
          (and_i (eqb (length p.on) (2 ^ p.n)) (eqb (length p.dc) (2 ^ p.n)) (full p.on (v.rows o).0) (full p.dc (v.rows o).1))

      clean : T (not (some (bad_vertex p) (below (2 ^ p.n))))
      clean = not_T (some (bad_vertex p) (below (2 ^ p.n))) (λ t. let e = some_e (bad_vertex p) (below (2 ^ p.n)) t in T_not (bad_vertex p e.0) (v.good e.0) e.2)

      few : T (not (ltb 64 (length words)))
      few = le→nltb 64 (length words) (omega (arith, length-map ts pack, length-map ts Candidate.term, ap length alone, v.sound.few))

      legal_terms : All (λ t. T (legal p t)) ts
      legal_terms = all_unmap (λ (c : Candidate). T (candidate_legal p c)) Candidate.term ts (subst (All (λ (c : Candidate). T (candidate_legal p c))) alone v.legal)

      last : List Refusal
      last = refuse 12 (not (coverable (covering (call_basis p words)))) ∷ []

      rest : NoneApplies (join (map (refusals_of_word p) words) ++ last)
      rest = all_append (λ (r : Refusal). T (not r.applies)) (join (map (refusals_of_word p) words)) last (words_pass p ts small_terms legal_terms)
          (subst⁻¹ (λ (us : List Term). T (not (not (coverable (covering (basis p (terms_alone us))))))) (unpack_all ts small_terms) (not_not (coverable (covering (basis p (terms_alone ts)))) c), tt)

-- an L answers what the library call fills into a row of `count` entries, where the candidates are terms alone
pub page_library : (t : Context) → t.kind ≡ Kind.L → Valid t.problem → Passed engine t → (ts : List Term) → t.problem.cands ≡ terms_alone ts → (old : List ℕ) → length old ≡ count t
    → let l = list_covers (table_of t.problem) (map pack ts) (start t) old in (l.number ≡ 0) × (answer t ≡ Answer.paged (sets_of l) l.above)
unfolding answer answer_for refusals_of
page_library t e v h ts alone old n =
    let a : T (allowed Kind.L t.problem.place) = subst (λ (k : Kind). T (allowed k t.problem.place)) e h.place in
    let w : NoneApplies (refusals_of t Kind.L) = subst (λ (k : Kind). NoneApplies (refusals_of t k)) e h.own in
    let p = table_of t.problem in
    let same = ap (λ (cs : List Candidate). irredundants (covering (priced (prices_of t.problem) p cs))) alone ∙ listing_untouched (prices_of t.problem) usual p (terms_alone ts) in
    let held = ap (λ (cs : List Candidate). coverable (covering (priced (prices_of t.problem) p cs))) alone ∙ coverable_untouched (prices_of t.problem) usual p (terms_alone ts) in
    let c = subst (λ (b : Bool). T b) held (twice (coverable (covering_of t)) w.0) in
    let z = library_passes t.problem ts alone v (place_one Kind.L t.problem.place tt a) c in
    let d = listed_told p (map pack ts) (start t) old z in
    (d.number, rw (e, d.sets, d.above, unpack_all ts (small_terms t.problem ts alone v), n, same))
