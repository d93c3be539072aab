-- The laws behind the library call.
use Prim.Native.Nat.{ℕ, zero, suc, ◌+◌, ◌-◌, ◌^◌, ◌≤◌, ◌<◌}
use native.Mathlib.Omega.{arith}
use native.Mathlib.Numerals.{add-one}
use mathlib.Core.Path.{◌≡◌, refl, sym, ap, ◌∙◌, subst, subst⁻¹}
use mathlib.Core.Bool.{Bool, true, false, not, ◌&&◌, ◌||◌}
use mathlib.Core.List.{List, [], ◌∷◌, ◌++◌, map}
use borrow.Author.Tests.{le-ltb, ne_eqb}
use lib.Dec.{T, leb, eqb, leb→le, eqb→eq, not_T}
use lib.ListN.{get_or, length, take, drop, replicate, length-map, length-replicate, drop_of_length-le}
use lib.Seq.{drop-cons, get_or-drop}
use Rattle.model.specs.Base.{from, below, some, join, All}
use Rattle.model.specs.declared.Term.{Term}
use Rattle.model.specs.Table.{Table}
use Rattle.model.specs.Sets.{coverable}
use Rattle.model.specs.declared.Prices.{Prices}
use Rattle.model.specs.Ranges.{fixed}
use Rattle.model.specs.Candidates.{Candidate, terms_alone, usual, term_cost, candidate_cost, covering}
use Rattle.model.specs.Commands as model
use Rattle.model.specs.Commands.{table_of}
use Rattle.model.specs.Refusals.{Refusal, refuse, first_of, size, bad_row}
use Rattle.std.specs.Prelude.{Result, Ok, Err}
use Rattle.model.specs.declared.reason.Reason.{Reason}
use Rattle.model.specs.declared.reason.Reason.TheVariants.{UnheldCell}
use Rattle.model.specs.Reasons.{number_of}
use Rattle.model.specs.Library.{unpack, call_basis, bad_vertex, refusals_of_word, call_refusals, list_covers}
use Rattle.model.proofs.Lists.{zero_at, T_true, and_l, and_r, some_i, below_i, all_append}
use Rattle.model.proofs.Runs.{Numbered, first_before, first_behind}
use Rattle.model.proofs.Library.{listed_refused}
use Rattle.model.proofs.Reasons.{has_number}
use Rattle.bits.specs.Lists.{Filled}
use Rattle.table.specs.Cubes.{Allowed, MayOf}
use Rattle.incidence.proofs.Uses.{blocks_alone}
use Rattle.rows.specs.Covers.{row_covers}
use Rattle.lister.specs.Lister.{Paged}
use Rattle.answers.proofs.Bytes.{same_long}
use Rattle.problem.specs.declared.Problem.{Problem}
use Rattle.problem.specs.declared.matrix.Matrix.{Matrix}
use Rattle.problem.specs.Problems.{alone, Sized, HoldsCands, Holds}
use Rattle.problem.specs.Matrix.{RowsOf, Prepares}
use Rattle.problem.proofs.Keeping.{none_given, holds_alone, held_count}
use Rattle.problem.proofs.Refusing.{held_rows}
use Rattle.problem.proofs.Preparing.{rows_listed}
use Rattle.lister.specs.declared.cursor.PageFill.{PageFill}
use Rattle.library.specs.Library.{Answers, called_table, right_sizes, some_bad, table_refusals, Admitted, TableRefusal, problem_of, Padded, WordRefusal, WordsRefusal}
use Rattle.library.specs.Library.{TellsCovered, RowFilled}

-- ---- 6

pub size_le : (k : ℕ) (r : Bool) → r ≡ size k → r ≡ true → k ≤ 8
size_le k r e t = leb→le k 8 (and_r (leb 1 k) (leb k 8) (subst (λ (b : Bool). T b) (sym t ∙ e) tt))

pub sizes_are : (n m on dc : ℕ) (r : Bool) → r ≡ right_sizes n m on dc → r ≡ true → (n ≤ 8) × (m ≤ 8) × (on ≡ 2 ^ n) × (dc ≡ 2 ^ n)
sizes_are n m on dc r e t = (
  size_le n (size n) refl (T_true sizes_n),
  size_le m (size m) refl (T_true sizes_m),
  eqb→eq on (2 ^ n) (and_l (eqb on (2 ^ n)) (eqb dc (2 ^ n)) rows),
  eqb→eq dc (2 ^ n) (and_r (eqb on (2 ^ n)) (eqb dc (2 ^ n)) rows),
)
  where
    all : T (right_sizes n m on dc)
    all = subst (λ (b : Bool). T b) (sym t ∙ e) tt

    rows : T (eqb on (2 ^ n) && eqb dc (2 ^ n))
    rows = and_r (size n && size m) (eqb on (2 ^ n) && eqb dc (2 ^ n)) all

    sizes_n : T (size n)
    sizes_n = and_l (size n) (size m) (and_l (size n && size m) (eqb on (2 ^ n) && eqb dc (2 ^ n)) all)

    sizes_m : T (size m)
    sizes_m = and_r (size n) (size m) (and_l (size n && size m) (eqb on (2 ^ n) && eqb dc (2 ^ n)) all)

-- ---- 8

module _ (m : ℕ) (on dc : List ℕ) where
  abbrev bad_at : ℕ → Bool
  bad_at v = bad_row m (get_or on v 0) (get_or dc v 0)

  -- no vertex below v is bad: what is left decides
  pub record GoodBelow (v : ℕ) : Type 0 where
    pub within : v ≤ length on
    pub left : some_bad m on dc ≡ some bad_at (from v (length on - v))

  next_of : (v : ℕ) → v < length on → GoodBelow v → some_bad m on dc ≡ (bad_at v || some bad_at (from (suc v) (length on - suc v)))
  next_of v l g = let e : length on - v ≡ suc (length on - suc v) = omega arith in g.left ∙ ap (λ (k : ℕ). some bad_at (from v k)) e

  pub good_next : (v : ℕ) (b : Bool) → v < length on → b ≡ bad_at v → b ≡ false → GoodBelow v → GoodBelow (v + 1)
  good_next v b l e t g = rw (add-one v) record { within = l; left = next_of v l g ∙ ap (λ (x : Bool). x || some bad_at (from (suc v) (length on - suc v))) (sym e ∙ t) }

-- ---- 6, 8 and 11 in their order

module _ (p : Table) (count : ℕ) (a : Bool) (e : a ≡ right_sizes p.n p.m (length p.on) (length p.dc)) where
  module _ (t : a ≡ true) (b : Bool) (g : b ≡ some_bad p.m p.on p.dc) where
    right : (p.n ≤ 8) × (p.m ≤ 8) × (length p.on ≡ 2 ^ p.n) × (length p.dc ≡ 2 ^ p.n)
    right = sizes_are p.n p.m (length p.on) (length p.dc) a e t

    vertices : b ≡ some (bad_vertex p) (below (2 ^ p.n))
    vertices = g ∙ ap (λ (k : ℕ). some (bad_vertex p) (below k)) right.2

    good : b ≡ false → (v : ℕ) → v < 2 ^ p.n → T (not (bad_vertex p v))
    good f v l = not_T (bad_vertex p v) (λ h. absurd (subst (λ (x : Bool). T x) (sym vertices ∙ f) (some_i (bad_vertex p) (below_i l) h)))

    pub passed_all : b ≡ false → count < 65 → TableRefusal p count 0
    passed_all f l = record {
      first = rw (← e, t, ← vertices, f, le-ltb 64 count (omega arith));
      admitted = λ z. record { inputs = right.0; outputs = right.1; on_size = right.2; dc_size = right.3; good = good f; few = omega arith };
    }

-- ---- the problem of a call

before_zeros : (xs zs : List ℕ) → ((w : ℕ) → get_or zs w 0 ≡ 0) → (v : ℕ) → get_or (xs ++ zs) v 0 ≡ get_or xs v 0
before_zeros [] zs z v = z v
before_zeros (x ∷ xs) zs z zero = refl
before_zeros (x ∷ xs) zs z (suc v) = before_zeros xs zs z v

padded_at : (row all : List ℕ) → Padded row all → (v : ℕ) → get_or all v 0 ≡ get_or row v 0
padded_at row all f v = ap (λ (l : List ℕ). get_or l v 0) f.bytes
    ∙ before_zeros row (drop (length row) (replicate 256 0)) (λ w. get_or-drop (length row) (replicate 256 0) w 0 ∙ zero_at 256 (length row + w)) v

padded_size : (row all : List ℕ) → length row ≤ 256 → Padded row all → length all ≡ 256
padded_size row all h f = same_long row (replicate 256 0) all (length row) f (omega (arith, length-replicate {A = ℕ} 256 0)) ∙ length-replicate {A = ℕ} 256 0

pub call_holds : (words : List ℕ) {n m : ℕ} {prices : Prices} {on dc on' dc' : List ℕ} {terms : List Term} {weights : List ℕ} → prices ≡ usual → length on ≤ 256 → length dc ≤ 256 → Padded on on'
    → Padded dc dc' → Filled 64 (map unpack words) terms (length words) → Filled 64 (map (term_cost prices) (take (length words) terms)) weights (length words)
    → Holds (record {
      place = model.queried;
      settings = record { n = n; m = m; prices = prices };
      rows = record { on = on'; dc = dc'; given = replicate 256 0 };
      candidates = alone terms weights (length words);
    }) (problem_of
    (called_table n m on dc) words)
call_holds words {n} {m} {prices} {on} {dc} {on'} {dc'} {terms} {weights} e h k f g t w = record {
  place = refl;
  settings = record { inputs = refl; outputs = refl; prices = e };
  rows = record {
    on_size = padded_size on on' h f;
    dc_size = padded_size dc dc' k g;
    given_size = length-replicate {A = ℕ} 256 0;
    on_bytes = λ v l. padded_at on on' f v;
    dc_bytes = λ v l. padded_at dc dc' g v;
    given = λ v l. none_given v;
  };
  cands =
      let ks = terms_alone (map unpack words) in
      subst (λ (v : Prices). HoldsCands prices (alone terms weights (length words)) ks (map (candidate_cost v) ks) (map fixed (map (candidate_cost v) ks))) e
      (holds_alone prices t (subst (λ (ts : List Term). Filled 64 (map (term_cost prices) ts) weights (length words)) t.same w));
}

pub call_sized : (words : List ℕ) {r : Problem} {p : Table} → Admitted p (length words) → Holds r (problem_of p words) → Sized r
call_sized words {r} {p} a h = record {
  inputs = omega (arith, h.settings.inputs, a.inputs);
  outputs = omega (arith, h.settings.outputs, a.outputs);
  few = omega (arith, held_count r (problem_of p words) h, length-map (map unpack words) Candidate.term, length-map words unpack, a.few);
}

-- ---- 9 and 10

abbrev pub refusals_of_words : Table → List ℕ → List Refusal
refusals_of_words p words = join (map (refusals_of_word p) words)

word_numbered : (p : Table) (w : ℕ) → All Numbered (refusals_of_word p w)
word_numbered p w = (omega arith, (omega arith, tt))

pub words_numbered : (p : Table) (words : List ℕ) → All Numbered (refusals_of_words p words)
words_numbered p [] = tt
words_numbered p (w ∷ words) = all_append Numbered (refusals_of_word p w) (refusals_of_words p words) (word_numbered p w) (words_numbered p words)

module _ (may : List ℕ) (n m : ℕ) (words : List ℕ) where
  -- the first i words are passed: what is left decides
  pub record PassedBelow (i : ℕ) : Type 0 where
    pub within : i ≤ length words
    pub left : (p : Table) → Allowed p n may → p.m ≡ m → first_of (refusals_of_words p words) ≡ first_of (refusals_of_words p (drop i words))

module _ {may : List ℕ} {n m : ℕ} {words : List ℕ} where
  pub passed_first : PassedBelow may n m words 0
  passed_first = record { within = omega arith; left = λ p a o. refl }

  module _ {i r : ℕ} (l : i < length words) (w : WordRefusal may n m (get_or words i 0) r) (b : PassedBelow may n m words i) where
    here : (p : Table) → Allowed p n may → p.m ≡ m → first_of (refusals_of_words p words) ≡ first_of (refusals_of_word p (get_or words i 0) ++ refusals_of_words p (drop (suc i) words))
    here p a o = b.left p a o ∙ ap (λ (ws : List ℕ). first_of (refusals_of_words p ws)) (drop-cons words i 0 l)

    pub word_refused : (r ≡ 0 → ⊥) → (p : Table) → Allowed p n may → p.m ≡ m → r ≡ first_of (refusals_of_words p words)
    word_refused d p a o = w p a o ∙ sym (here p a o ∙ first_before (refusals_of_word p (get_or words i 0)) (refusals_of_words p (drop (suc i) words)) (λ z. d (w p a o ∙ z)))

    pub passed_next : r ≡ 0 → PassedBelow may n m words (i + 1)
    passed_next z = rw (add-one i) record {
      within = l;
      left = λ p a o. here p a o ∙ first_behind (refusals_of_word p (get_or words i 0)) (refusals_of_words p (drop (suc i) words)) (word_numbered p (get_or words i 0)) (sym (w p a o) ∙ z);
    }

  pub passed_words : {i : ℕ} → length words ≤ i → PassedBelow may n m words i → (p : Table) → Allowed p n may → p.m ≡ m → 0 ≡ first_of (refusals_of_words p words)
  passed_words {i} l b p a o = sym (b.left p a o ∙ ap (λ (ws : List ℕ). first_of (refusals_of_words p ws)) (drop_of_length-le words l))

-- in the table that p holds
pub words_here : (words : List ℕ) {p : Problem} {may : List ℕ} {r : ℕ} → Sized p → MayOf p.rows.on p.rows.dc may
    → ((t : Table) → Allowed t p.settings.n may → t.m ≡ p.settings.m → r ≡ first_of (join (map (refusals_of_word t) words))) → WordsRefusal p words r
words_here words {p} {may} {r} z of f q h g = f (table_of q) (of (table_of q) p.settings.n z.inputs (held_rows p q z h g)) (sym h.settings.outputs)

-- ---- the sets

module _ {p : Problem} {out : List ℕ} {m : Matrix} (d : Prepares p (replicate 256 0) out m) where
  told : (b : Bool) → m.covered ≡ b → TellsCovered p b
  told b e t words h = sym e ∙ (d.matrix (problem_of t words) h (blocks_alone (map unpack words))).told

  pub row_filled : {rows : List ℕ} {n start : ℕ} {f : PageFill} {old new : List ℕ} → m.covered ≡ true → rows ≡ take m.count out → n ≡ p.candidates.count
      → Paged (row_covers n rows) start old new f → RowFilled p start old new (Ok f)
  row_filled {rows} {n} {start} {f} {old} {new} c e i w = (
    told true c,
    λ t words h.
        let q = problem_of t words in
        let r : RowsOf (call_basis t words) rows = subst⁻¹ (λ (l : List ℕ). RowsOf (call_basis t words) l) e (d.matrix q h (blocks_alone (map unpack words))).rows_of in
        subst (λ (all : List ℕ). Paged all start old new f) (rows_listed p q rows n h r i) w,
  )

  pub row_refused : (start : ℕ) {old : List ℕ} → m.covered ≡ false → RowFilled p start old old (Err UnheldCell)
  row_refused start c = (told false c, refl, refl)

-- ---- the answer

abbrev pub last_refusal : Table → List ℕ → List Refusal
last_refusal p words = refuse 12 (not (coverable (covering (call_basis p words)))) ∷ []

module _ (p : Table) (words : List ℕ) (start : ℕ) (old : List ℕ) where
  call_refused : (y : Reason) → number_of y ≡ first_of (call_refusals p words) → Answers (list_covers p words start old) (Err y) old
  call_refused y e =
      let l = listed_refused p words start old (rw (ne_eqb (first_of (call_refusals p words)) 0 (λ z. has_number y (e ∙ z))) tt) in
      let n : number_of y ≡ (list_covers p words start old).number = e ∙ sym l.number in
      record { answer = sym n; number = n; filled = sym l.filled; above = sym l.above; row = sym l.row }

  pub call_table : (y : Reason) → TableRefusal p (length words) (number_of y) → Answers (list_covers p words start old) (Err y) old
  unfolding call_refusals
  call_table y f = call_refused y (f.first ∙ sym (first_before (table_refusals p (length words)) (refusals_of_words p words ++ last_refusal p words) (λ z. has_number y (f.first ∙ z))))

  -- behind 6, 8 and 11
  module _ (f : TableRefusal p (length words) 0) {q : Problem} (h : Holds q (problem_of p words)) {w : ℕ} (g : WordsRefusal q words w) where
    behind_table : first_of (call_refusals p words) ≡ first_of (refusals_of_words p words ++ last_refusal p words)
    unfolding call_refusals
    behind_table = first_behind (table_refusals p (length words)) (refusals_of_words p words ++ last_refusal p words) (omega arith, (omega arith, (omega arith, tt))) (sym f.first)

    words_first : w ≡ first_of (refusals_of_words p words)
    words_first = g (problem_of p words) h (f.admitted refl).good

    pub call_words : (y : Reason) → number_of y ≡ w → Answers (list_covers p words start old) (Err y) old
    call_words y e =
        let first : number_of y ≡ first_of (refusals_of_words p words) = e ∙ words_first in
        call_refused y (first ∙ sym (behind_table ∙ first_before (refusals_of_words p words) (last_refusal p words) (λ i. has_number y (first ∙ i))))

    behind_words : w ≡ 0 → (c : Bool) → TellsCovered q c → first_of (call_refusals p words) ≡ first_of (refuse 12 (not c) ∷ [])
    behind_words i c t = behind_table ∙ first_behind (refusals_of_words p words) (last_refusal p words) (words_numbered p words) (sym words_first ∙ i) ∙ rw (← t p words h)

    pub call_row : w ≡ 0 → (r : Result PageFill Reason) {new : List ℕ} → RowFilled q start old new r → Answers (list_covers p words start old) r new
    unfolding list_covers
    call_row i (Ok f) {new} o =
        let a = o.1 p words h in
        rw (behind_words i true o.0) record { answer = (refl, rw (a.count, a.more)); number = refl; filled = a.count; above = a.more; row = a.row }
    call_row i (Err y) {new} o = rw (o.2, o.1) (call_refused UnheldCell (sym (behind_words i false o.0)))
