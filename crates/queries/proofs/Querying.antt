-- The laws behind L, V, C and N.
use Prim.Native.Nat.{ℕ, zero, suc, ◌/◌, ◌≤◌}
use native.Mathlib.Omega.{arith}
use Rattle.std.specs.Prelude.{Some, None}
use mathlib.Core.Path.{◌≡◌, refl, sym, ap, ap₂, ◌∙◌, subst, subst⁻¹}
use mathlib.Core.Bool.{Bool, true, false, not, cond}
use mathlib.Core.List.{List, [], ◌∷◌, map, append-nil, Memᴰ}
use lib.Dec.{T, T_not}
use lib.ListN.{get_or, length, take, drop, replicate, length-take, length-append, length-map}
use denote.Ref.{MutBor}
use lib.Seq.{take_at}
use Rattle.model.specs.Base.{bit}
use Rattle.model.specs.Sets.{Covering, members, Best, cover, coverable, cheapest, cost, of_rows}
use Rattle.model.specs.Products.{products, has_too_many}
use Rattle.model.specs.Pages.{page, at_or_above}
use Rattle.model.specs.Ranges.{Range, Ranged, possibles}
use Rattle.model.specs.declared.Prices.{Prices}
use Rattle.model.specs.Candidates.{candidate_cost, weigh}
use Rattle.model.specs.Commands as model
use Rattle.model.specs.Commands.{Context, is_query_kind, basis_of, covering_of, start, count, problem_after}
use Rattle.model.specs.Answers.{Answer, bytes_of, answer_for}
use Rattle.model.specs.Refusals.{first_of, refusals_of}
use Rattle.model.proofs.Demand3.{many_at, refusals_query}
use Rattle.model.proofs.Sets.{covers_more}
use Rattle.model.proofs.Cheapest.{best_cheapest}
use Rattle.model.proofs.Ranges.{possibles_same}
use Rattle.model.proofs.Matrix.{rows_cost}
use Rattle.lister.specs.declared.cursor.PageFill.{PageFill}
use Rattle.rows.specs.Covers.{row_covers}
use Rattle.lister.specs.Lister.{Paged}
use Rattle.cheapest.specs.Optimum.{Incumbent, Optimal}
use Rattle.ranges.specs.Listed.{ranges, row_possibles}
use Rattle.incidence.specs.Stored.{BlocksAt}
use Rattle.model.specs.declared.reason.Reason.{Reason}
use Rattle.model.specs.Reasons.{number_of}
use Rattle.answers.specs.Writers.{Replied}
use Rattle.problem.specs.declared.Problem.{Problem}
use Rattle.problem.specs.Problems.{at_place, Holds, Reached}
use Rattle.problem.specs.Matrix.{RowsOf, Multiplies}
use Rattle.std.proofs.Common.{Result, Ok, Err}
use Rattle.problem.proofs.Keeping.{after_query}
use Rattle.problem.proofs.Preparing.{rows_listed}
use Rattle.commands.specs.Effects.{Outcome, refused_as, replied_as, answer_bytes, page_bytes, possible_bytes, Handled, Found, HandlesL, HandlesV, HandlesC, HandlesN}
use Rattle.commands.proofs.Handling.{late_own, handled_refused, handled_written, handled_long}

-- ---- covers by all candidates, and costs without rows

members_among : {A : Type 0} (ts : List A) (s : ℕ) {t : A} → Memᴰ t (members ts s) → Memᴰ t ts
members_among [] s m = m
members_among (u ∷ us) s {t} m = go (bit 0 s) m (members_among us (s / 2))
  where
    later : (Memᴰ t (members us (s / 2)) → Memᴰ t us) → Memᴰ t (u ∷ members us (s / 2)) → Memᴰ t (u ∷ us)
    later r (Memᴰ.head e) = Memᴰ.head e
    later r (Memᴰ.tail h) = Memᴰ.tail (r h)

    go : (b : Bool) → Memᴰ t (cond b (u ∷ members us (s / 2)) (members us (s / 2))) → (Memᴰ t (members us (s / 2)) → Memᴰ t us) → Memᴰ t (u ∷ us)
    go true h r = later r h
    go false h r = Memᴰ.tail (r h)

cover_coverable : {A X : Type 0} (k : Covering A X) (s : ℕ) → T (cover k s) → T (coverable k)
unfolding cover coverable
cover_coverable k s c = covers_more k.holds k.points (members k.cands s) k.cands (λ t m. members_among k.cands s m) c

rows_cost_any : {A X : Type 0} (k : Covering A X) (rows : List ℕ) (s : ℕ) → cost (of_rows (map k.weight k.cands) rows) s ≡ cost k s
unfolding cost
rows_cost_any k rows s = rows_cost k s

-- ---- a page

module _ (all : List ℕ) (s : ℕ) (old new : List ℕ) (f : PageFill) (p : Paged all s old new f) where
  page_front : take f.count new ≡ page all s (length old)
  page_front = ap (take f.count) p.row ∙ take_at (page all s (length old)) (drop (length (page all s (length old))) old) f.count (sym p.count)

  pub page_within : (f.count ≤ length old) × (f.count ≤ length new)
  unfolding page
  page_within =
      let a = length-take (length old) (at_or_above all s) in
      (omega (arith, p.count, a), omega (arith, p.count, ap length p.row, length-append (page all s (length old)) (drop (length (page all s (length old))) old)))

  pub page_answer : (free free' : List ℕ) (r : Result ℕ Reason) → Replied (bytes_of (Answer.paged (take f.count new) f.more)) free free' r → Replied (page_bytes all s (length old)) free free' r
  page_answer free free' r w = subst (λ (a : Answer). Replied (bytes_of a) free free' r) (ap₂ Answer.paged page_front p.more) w

  pub possible_answer : (free free' : List ℕ) (r : Result ℕ Reason) → Replied (bytes_of (Answer.possible_paged (take f.count new) f.more)) free free' r
      → Replied (possible_bytes all s (length old)) free free' r
  possible_answer free free' r w = subst (λ (a : Answer). Replied (bytes_of a) free free' r) (ap₂ Answer.possible_paged page_front p.more) w

-- ---- queries by their replies

module _ (x : Context) (k : model.Kind) (p : Problem) (old new : List ℕ) (r : Result ℕ Reason) (w : Replied (answer_bytes x k) old new r)
    (f : x.free ≡ length old) (o : 0 ≡ first_of (refusals_of x k)) (g : Holds p x.problem) (h : Holds (at_place model.queried p) (problem_after x k)) where
  pub handled_reply : (e : Outcome) → e ≡ replied_as p r → Handled x k old new e
  handled_reply e q = subst⁻¹ (Handled x k old new) q (go r refl)
    where
      go : (s : Result ℕ Reason) → r ≡ s → Handled x k old new (replied_as p s)
      go (Ok n) i = handled_written x k old new (at_place model.queried p) r n i f w o h
      go (Err y) i = handled_long x k old new p r y (refused_as p (number_of y)) g i refl f w o

-- ---- 12 and 17, of any query

module _ (p : Problem) (b : Bool) (x : Context) (k : model.Kind) (q : T (is_query_kind k)) (f : Found p x) (d : b ≡ coverable (covering_of x)) where
  own_query : first_of (refusals_of x k) ≡ cond (not b) 12 (cond (many_at x k) 17 0)
  own_query = ap first_of (sym (append-nil (refusals_of x k))) ∙ refusals_query x [] k q ∙ rw (← d)

  query_uncovered : (old : List ℕ) (e : Outcome) → b ≡ false → e ≡ refused_as p 12 → Handled x k old old e
  query_uncovered old e z w =
      let own : 12 ≡ first_of (refusals_of x k) = rw (own_query, z) in
      handled_refused x k old p 12 e f.holds w (late_own x k 12 own (λ n. omega (arith, n))) (λ n. omega (arith, n))

  query_covered : b ≡ true → many_at x k ≡ false → 0 ≡ first_of (refusals_of x k)
  query_covered z m = rw (own_query, z, m)

  query_many : (old : List ℕ) (e : Outcome) → b ≡ true → many_at x k ≡ true → e ≡ refused_as p 17 → Handled x k old old e
  query_many old e z m w =
      let own : 17 ≡ first_of (refusals_of x k) = rw (own_query, z, m) in
      handled_refused x k old p 17 e f.holds w (late_own x k 17 own (λ n. omega (arith, n))) (λ n. omega (arith, n))

-- ---- L

module _ (p : Problem) (rows : List ℕ) (b : Bool) (s k : ℕ) where
  pub list_uncovered : (old : List ℕ) (e : Outcome) → b ≡ false → e ≡ refused_as p 12 → HandlesL p rows b s k old old e
  list_uncovered old e z q x f d i j l = query_uncovered p b x model.Kind.L tt f d.told old e z q

  pub list_answered : (n c : ℕ) (old new : List ℕ) (r : Result ℕ Reason) (e : Outcome) → b ≡ true → n ≡ p.candidates.count → c ≡ k → Replied (page_bytes (row_covers n rows) s c) old new r → e ≡ replied_as p r
      → HandlesL p rows b s k old new e
  unfolding answer_for
  list_answered n c old new r e z m v w q x f d i j l =
      handled_reply x model.Kind.L p old new r
      (subst (λ (all : List ℕ). Replied (page_bytes all (start x) (count x)) old new r) (rows_listed p x.problem rows n f.holds d.rows_of m) (rw (i, j, ← v) w))
      l (query_covered p b x model.Kind.L tt f d.told z refl) f.holds (after_query x p model.Kind.L tt f.holds) e q

-- ---- V

-- the ends of ranges, taken apart and put together again
ranges_back : (rs : List Range) → ranges (map (λ r. r.low) rs) (map (λ r. r.high) rs) ≡ rs
ranges_back [] = refl
ranges_back (r ∷ rs) = ap (λ (qs : List Range). r ∷ qs) (ranges_back rs)

ends_ordered : (rs : List Range) → Ranged rs → (i : ℕ) → get_or (map (λ r. r.low) rs) i 0 ≤ get_or (map (λ r. r.high) rs) i 0
ends_ordered [] a i = omega arith
ends_ordered (r ∷ rs) a zero = a.0
ends_ordered (r ∷ rs) a (suc i) = ends_ordered rs a.1 i

-- the ends that stand in the record
module _ (p : Problem) (lows highs : List ℕ) (l : lows ≡ take p.candidates.count p.candidates.lows) (h : highs ≡ take p.candidates.count p.candidates.highs) where
  lows_of : (q : model.Problem) → Holds p q → lows ≡ map (λ r. r.low) q.ranges
  lows_of q g = l ∙ g.cands.lows.same

  highs_of : (q : model.Problem) → Holds p q → highs ≡ map (λ r. r.high) q.ranges
  highs_of q g = h ∙ g.cands.highs.same

  pub ends_sized : Reached p → (length lows ≤ 64) × (length highs ≡ length lows)
  ends_sized r =
      let q = r.problem in
      let a = ap length (lows_of q r.holds) ∙ length-map q.ranges (λ r. r.low) in
      let b = ap length (highs_of q r.holds) ∙ length-map q.ranges (λ r. r.high) in
      (omega (arith, a, r.valid.sound.each_range, r.valid.sound.few), omega (arith, a, b))

  pub ends_rise : Reached p → (i : ℕ) → get_or lows i 0 ≤ get_or highs i 0
  ends_rise r i =
      let q = r.problem in
      subst⁻¹ (λ (x : List ℕ). get_or x i 0 ≤ get_or highs i 0) (lows_of q r.holds)
      (subst⁻¹ (λ (y : List ℕ). get_or (map (λ r. r.low) q.ranges) i 0 ≤ get_or y i 0) (highs_of q r.holds) (ends_ordered q.ranges r.valid.sound.ranged i))

  possibles_of_lem : (rows : List ℕ) (x : Context) → Found p x → RowsOf (basis_of x.problem) rows → row_possibles (length lows) rows lows highs ≡ possibles (covering_of x) x.problem.ranges
  unfolding row_possibles
  possibles_of_lem rows x f d =
      let q = x.problem in
      let rs = q.ranges in
      let n : length lows ≡ length q.cands = ap length (lows_of q f.holds) ∙ length-map rs (λ r. r.low) ∙ f.valid.sound.each_range in
      ap (λ (i : ℕ). possibles (of_rows (replicate i 0) rows) (ranges lows highs)) n
      ∙ ap (possibles (of_rows (replicate (length q.cands) 0) rows)) (ap₂ ranges (lows_of q f.holds) (highs_of q f.holds) ∙ ranges_back rs)
      ∙ sym (possibles_same (covering_of x) rs (of_rows (replicate (length q.cands) 0) rows) d.listed)

  module _ (rows : List ℕ) (b : Bool) (s k : ℕ) where
    pub possible_answered : (c : ℕ) (old new : List ℕ) (r : Result ℕ Reason) (e : Outcome) → b ≡ true → c ≡ k → Replied (possible_bytes (row_possibles (length lows) rows lows highs) s c) old new r
        → e ≡ replied_as p r → HandlesV p rows b s k old new e
    unfolding answer_for
    possible_answered c old new r e z v w q x f d i j l =
        handled_reply x model.Kind.«V» p old new r
        (subst (λ (all : List ℕ). Replied (possible_bytes all (start x) (count x)) old new r) (possibles_of_lem rows x f d.rows_of) (rw (i, j, ← v) w))
        l (query_covered p b x model.Kind.«V» tt f d.told z refl) f.holds (after_query x p model.Kind.«V» tt f.holds) e q

pub possible_uncovered : (p : Problem) (rows : List ℕ) (b : Bool) (s k : ℕ) (old : List ℕ) (e : Outcome) → b ≡ false → e ≡ refused_as p 12 → HandlesV p rows b s k old old e
possible_uncovered p rows b s k old e z q x f d i j l = query_uncovered p b x model.Kind.«V» tt f d.told old e z q

-- ---- C

module _ (p : Problem) (rows costs : List ℕ) (b : Bool) (weights_are : costs ≡ take p.candidates.count p.candidates.weights) where
  costs_here : (x : Context) → Found p x → costs ≡ map (weigh (basis_of x.problem)) x.problem.cands
  costs_here x f =
      weights_are ∙ f.holds.cands.weights.same ∙ f.holds.cands.weighed
      ∙ ap (λ (w : Prices). map (candidate_cost w) x.problem.cands) f.holds.settings.prices

  -- where each on cell is held there is a cover
  pub cheapest_none : (old : List ℕ) (e : Outcome) → b ≡ true → Optimal rows costs None → HandlesC p rows b old old e
  unfolding Optimal
  cheapest_none old e z h x f d l = absurd (T_not (coverable (of_rows costs rows)) h yes)
    where
      yes : T (coverable (of_rows costs rows))
      yes = subst (λ (v : Bool). T v) (sym z ∙ d.told ∙ d.rows_of.covered ∙ ap (λ (cs : List ℕ). coverable (of_rows cs rows)) (sym (costs_here x f))) tt

  module _ (found : Incumbent) (h : Optimal rows costs (Some found)) where
    abbrev s : ℕ
    s = found.set

    abbrev c : ℕ
    c = found.cost

    best : Best (of_rows costs rows) c s
    unfolding Optimal
    best = h.0

    covered : T (coverable (of_rows costs rows))
    covered = cover_coverable (of_rows costs rows) s best.tight.covering

    pub cheapest_answered : (old new : List ℕ) (r : Result ℕ Reason) (e : Outcome) → b ≡ true → Replied (bytes_of (Answer.cheapest_is c s)) old new r → e ≡ replied_as p r → HandlesC p rows b old new e
    unfolding answer_for
    cheapest_answered old new r e y w q x f d l =
        handled_reply x model.Kind.C p old new r (subst (λ (a : Answer). Replied (bytes_of a) old new r) (ap₂ Answer.cheapest_is cost_same set_same) w) l
        (query_covered p b x model.Kind.C tt f d.told y refl) f.holds (after_query x p model.Kind.C tt f.holds) e q
      where
        pair : (c ≡ cost (of_rows costs rows) (cheapest (of_rows costs rows))) × (s ≡ cheapest (of_rows costs rows))
        pair = best_cheapest (of_rows costs rows) c s covered best

        set_same : s ≡ cheapest (covering_of x)
        set_same = pair.1 ∙ ap (λ (cs : List ℕ). cheapest (of_rows cs rows)) (costs_here x f) ∙ sym d.rows_of.cheapest

        cost_same : c ≡ cost (covering_of x) (cheapest (covering_of x))
        cost_same = pair.0 ∙ ap (cost (of_rows costs rows)) (sym pair.1 ∙ set_same) ∙ ap
            (λ (cs : List ℕ). cost (of_rows cs rows) (cheapest (covering_of x))) (costs_here x f) ∙ rows_cost_any (covering_of x) rows (cheapest (covering_of x))

pub cheapest_uncovered : (p : Problem) (rows : List ℕ) (b : Bool) (old : List ℕ) (e : Outcome) → b ≡ false → e ≡ refused_as p 12 → HandlesC p rows b old old e
cheapest_uncovered p rows b old e z q x f d l = query_uncovered p b x model.Kind.C tt f d.told old e z q

-- ---- N

pub products_uncovered : (p : Problem) (held : List ℕ) (b : Bool) (old : List ℕ) (e : Outcome) → b ≡ false → e ≡ refused_as p 12 → HandlesN p held b old old e
products_uncovered p held b old e z q x f h d l = query_uncovered p b x model.Kind.N tt f d old e z q

-- they are too many: 17
pub products_refused : {p : Problem} {held : List ℕ} {first second row : MutBor (List ℕ)} {many : _} → Multiplies p held first second row (Err many) → (b : Bool) → b ≡ true
    → (old : List ℕ) (e : Outcome) → e ≡ refused_as p 17 → HandlesN p held b old old e
products_refused {p} m b z old e q x f h c l = query_many p b x model.Kind.N tt f c old e z (m x.problem f.holds h).told q

pub products_answered : {p : Problem} {held : List ℕ} {first second row : MutBor (List ℕ)} {count : ℕ} → Multiplies p held first second row (Ok count) → (b : Bool) → b ≡ true
    → (old new : List ℕ) (r : Result ℕ Reason) (e : Outcome) → Replied (bytes_of (Answer.products_are (take count row.now))) old new r → e ≡ replied_as p r → HandlesN p held b old new e
unfolding answer_for
products_answered {p} m b z old new r e w q x f h c l =
    let o = m x.problem f.holds h in
    handled_reply x model.Kind.N p old new r (subst (λ (ss : List ℕ). Replied (bytes_of (Answer.products_are ss)) old new r) o.sets w) l
    (query_covered p b x model.Kind.N tt f c z o.told) f.holds (after_query x p model.Kind.N tt f.holds) e q
