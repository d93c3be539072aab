-- K9: what a caller reads from two calls that meet their contract, the job of the second that of the first with its T commands in another order.
use Prim.Native.Nat.{ℕ}
use native.Mathlib.Omega.{arith}
use mathlib.Core.Path.{◌≡◌, refl, sym, ap, ap₂, ◌∙◌, subst, subst⁻¹}
use mathlib.Core.Bool.{Bool, true, false, not, cond, and-true}
use mathlib.Core.List.{List, [], ◌∷◌, ◌++◌, map, map-append, append_assoc, nil≢cons, cons≢nil}
use lib.Dec.{T}
use lib.Seq.{get_or-take, take-take}
use lib.ListN.{get_or, length, take}
use Rattle.model.specs.Base.{filter, All, Pointwise}
use Rattle.model.specs.Sets.{irredundants, cost, cheapest}
use Rattle.model.specs.Pages.{page, more, Page, joined_sets}
use Rattle.model.specs.Candidates.{Basis, covering}
use Rattle.model.specs.Commands.{at_start, Kind, is, is_query_kind, allowed, Context, number, start, count, basis_of, covering_of}
use Rattle.model.specs.Answers.{Answer, answer_for, answer}
use Rattle.model.specs.Rules.{engine, refusal}
use Rattle.model.specs.Calls.{Call, ran, Met, number_of}
use Rattle.model.specs.Exchanges.{Exchange, answers}
use Rattle.model.specs.Demand3.{is_query, is_asked, covers_of}
use Rattle.model.specs.Standing.{Command, command_of, standing}
use Rattle.model.specs.Renumbered.{Renumbering, SameCovers}
use Rattle.model.specs.Reordered.{holds_no_d, Reordered, queries_in, AllPages, SameQuery, InAnyOrder}
use Rattle.model.proofs.Lists.{T_true, all_right}
use Rattle.model.proofs.Codes.{is_kind}
use Rattle.model.proofs.Pages.{rising, first_alike}
use Rattle.model.proofs.Products.{products_irredundants}
use Rattle.model.proofs.Sound.{engine_lawful}
use Rattle.model.proofs.Caller.{caller}
use Rattle.model.proofs.Exchanges.{reply_to, reply_answered, with_reply, read_replied}
use Rattle.model.proofs.Demand3.{query_kind, has_bytes_lem, demand_3}
use Rattle.model.proofs.Runs.{passed, judged}
use Rattle.model.proofs.Standing.{stands}
use Rattle.model.proofs.Orders.{has_renumbering}
use Rattle.model.proofs.Accepted.{Orderly, kinds_in, None, ReadWhole, read_whole, query_ends_terms}
use Rattle.model.proofs.Outlines.{hidden, seen}
use Rattle.model.proofs.Reordered.{cut, none_d, same_outline, covers_behind}

-- ---- the queries of a call

-- the commands that answer, without those that are no queries
asked_replied : (xs : List Context) → filter is_asked (map (with_reply engine) (filter (answers engine) xs)) ≡ map (with_reply engine) (filter is_query xs)
unfolding answer
asked_replied [] = refl
asked_replied (x ∷ xs) = go (answers engine x) refl (is_query x) refl (asked_replied xs)
  where
    es : List Exchange
    es = map (with_reply engine) (filter (answers engine) xs)

    go : (c : Bool) → answers engine x ≡ c → (d : Bool) → is_query x ≡ d → filter is_asked es ≡ map (with_reply engine) (filter is_query xs)
        → filter is_asked (map (with_reply engine) (cond c (x ∷ filter (answers engine) xs) (filter (answers engine) xs))) ≡ map (with_reply engine) (cond d (x ∷ filter is_query xs) (filter is_query xs))
    go true e true f h = rw f (ap (λ (fs : List Exchange). with_reply engine x ∷ fs) h)
    go true e false f h = rw f h
    go false e true f h = absurd (subst T e (has_bytes_lem x x.kind (query_kind x (rw f tt))))
    go false e false f h = h

queries_replied : (c : Call) → Met c → queries_in c ≡ map (with_reply engine) (filter is_query (ran c).contexts)
queries_replied c m = ap (filter is_asked) (read_replied engine engine_lawful c m) ∙ asked_replied (ran c).contexts

-- ---- all pages

-- in order until 'no more' they are the whole list
all_pages : (b : Basis) (ps : List Page) → AllPages b ps → joined_sets ps ≡ covers_of b
all_pages b ps a =
    let g = ((demand_3 b a.calls a.met).bytes a.exchanges a.read a.stand).pages in
    subst (λ (qs : List Page). joined_sets qs ≡ covers_of b) a.pages
    (((g.joined (rw a.pages a.in_order)).last (λ z. rw (sym a.pages ∙ z) at a.no_more)).0 (rw a.pages a.no_more))

-- ---- one query

module _ (x : Context) (z : refusal x ≡ 0) where
  -- behind I, so that it is a query where its kind is one
  query_is : is_query x ≡ is_query_kind x.kind
  query_is = rw (T_true {b = allowed x.kind x.problem.place} (passed engine engine_lawful x z).place) (and-true (is_query_kind x.kind))

  cost_replied : T (is x.kind Kind.C) → reply_to engine x ≡ Answer.cheapest_is (cost (covering_of x) (cheapest (covering_of x))) (cheapest (covering_of x))
  unfolding answer answer_for
  cost_replied k = reply_answered engine x z ∙ rw (is_kind x.kind Kind.C k) refl

  products_replied : T (is x.kind Kind.N) → reply_to engine x ≡ Answer.products_are (irredundants (covering_of x))
  unfolding answer answer_for
  products_replied k = reply_answered engine x z ∙ rw (is_kind x.kind Kind.N k) (ap Answer.products_are (products_irredundants (covering_of x)))

  page_replied : T (is x.kind Kind.L) → reply_to engine x
      ≡ Answer.paged (page (irredundants (covering_of x)) (start x) (count x)) (more (irredundants (covering_of x)) (start x) (count x))
  unfolding answer answer_for
  page_replied k = reply_answered engine x z ∙ rw (is_kind x.kind Kind.L k) refl

-- the operands of an L, by its command
page_operands : (x y : Context) → command_of x ≡ command_of y → T (is x.kind Kind.L) → (start x ≡ start y) × (count x ≡ count y)
page_operands x y e k = (
  (by_command x k).0 ∙ ap (λ (o : Command). number (take 8 o.operands)) e ∙ sym (by_command y own).0,
  (by_command x k).1 ∙ ap (λ (o : Command). get_or o.operands 8 0) e ∙ sym (by_command y own).1,
)
  where
    own : T (is y.kind Kind.L)
    own = subst (λ (o : Command). T (is o.kind Kind.L)) e k

    by_command : (x : Context) → T (is x.kind Kind.L) → (start x ≡ number (take 8 (command_of x).operands)) × (count x ≡ get_or (command_of x).operands 8 0)
    by_command x k = rw (is_kind x.kind Kind.L k) (ap number (sym (take-take 8 9 x.rest (omega arith))), sym (get_or-take 9 x.rest 8 0 (omega arith)))

-- the same command in both, with the covers of what they find
same_query : (r : Renumbering) (x y : Context) → refusal x ≡ 0 → refusal y ≡ 0 → command_of x ≡ command_of y → SameCovers r (covering_of x) (covering_of y)
    → SameQuery r (with_reply engine x) (with_reply engine y)
same_query r x y zx zy e h = record {
  command = e;
  covers = h;
  cost = λ k. (
    cost (covering_of x) (cheapest (covering_of x)),
    cheapest (covering_of x),
    cheapest (covering_of y),
    cost_replied x zx k,
    cost_replied y zy (subst (λ (j : Kind). T (is j Kind.C)) kind k) ∙ ap (λ (c : ℕ). Answer.cheapest_is c (cheapest (covering_of y))) (sym h.cheapest_costs),
  );
  products = λ k. (
    irredundants (covering_of x),
    irredundants (covering_of y),
    products_replied x zx k,
    products_replied y zy (subst (λ (j : Kind). T (is j Kind.N)) kind k),
    h.irredundant_covers,
  );
  first_page = λ k z.
      let o = page_operands x y e k in
      let same = first_alike (irredundants (covering_of x)) (irredundants (covering_of y)) (count x) (rising (covering_of x)) (rising (covering_of y)) h.irredundant_covers.as_many in (
        page (irredundants (covering_of x)) 0 (count x),
        page (irredundants (covering_of y)) 0 (count x),
        more (irredundants (covering_of x)) 0 (count x),
        page_replied x zx k ∙ rw z refl,
        page_replied y zy (subst (λ (j : Kind). T (is j Kind.L)) kind k) ∙ rw (← o.0, ← o.1, z, same.1) refl,
        same.0,
      );
  pages = λ ps qs a b. rw (all_pages (basis_of x.problem) ps a, all_pages (basis_of y.problem) qs b) h.irredundant_covers;
}
  where
    kind : x.kind ≡ y.kind
    kind = ap (λ (c : Command). c.kind) e

-- ---- two calls

-- the commands of a job that is accepted, which are those of its bytes
module _ (c : Call) (m : Met c) (z : number_of c ≡ 0) where
  whole : ReadWhole at_start c.job (ran c).contexts
  whole = read_whole c.job (length c.before) (sym (caller engine engine_lawful c m).number ∙ z)

  none_refused : All (λ x. refusal x ≡ 0) (ran c).contexts
  none_refused =
      let n : (ran c).number ≡ 0 = sym (caller engine engine_lawful c m).number ∙ z in
      (judged engine engine_lawful c.job (length c.before)).answered (omega (arith, n))

  module _ (before : List Context) (x : Context) (after : List Context) (g : (ran c).contexts ≡ before ++ (x ∷ after)) where
    passes : refusal x ≡ 0
    passes = (all_right (λ y. refusal y ≡ 0) before (x ∷ after) (subst (All (λ y. refusal y ≡ 0)) g none_refused)).0

    found : basis_of x.problem ≡ standing (map command_of before)
    found = stands c.job (length c.before) before x (after, g)

    split : cut c.job ≡ map command_of before ++ map command_of (x ∷ after)
    split = sym whole.commands ∙ ap (map command_of) g ∙ map-append command_of before (x ∷ after)

module _ (r : Renumbering) (c d : Call) (mc : Met c) (md : Met d) (zc : number_of c ≡ 0) (zd : number_of d ≡ 0) (no_d : T (holds_no_d c.job)) (h : Reordered r c.job d.job) where
  orderly : Orderly at_start (kinds_in (cut c.job))
  orderly = subst (λ (cs : List Command). Orderly at_start (kinds_in cs)) (whole c mc zc).commands (whole c mc zc).orderly

  -- two commands behind the same but for the operands of T
  module _ (before : List Context) (x : Context) (after : List Context) (before' : List Context) (y : Context) (after' : List Context)
      (g : (ran c).contexts ≡ before ++ (x ∷ after)) (g' : (ran d).contexts ≡ before' ++ (y ∷ after'))
      (same : map hidden (map command_of before) ≡ map hidden (map command_of before')) (here : hidden (command_of x) ≡ hidden (command_of y)) where
    zx : refusal x ≡ 0
    zx = passes c mc zc before x after g

    zy : refusal y ≡ 0
    zy = passes d md zd before' y after' g'

    both_queries : is_query x ≡ is_query y
    both_queries = query_is x zx ∙ ap (λ (o : Command). is_query_kind o.kind) here ∙ sym (query_is y zy)

    at_query : T (is_query x) → SameQuery r (with_reply engine x) (with_reply engine y)
    at_query q = same_query r x y zx zy command
        (subst⁻¹ (λ (b : Basis). SameCovers r (covering b) (covering_of y)) (found c mc zc before x after g)
        (subst⁻¹ (λ (b : Basis). SameCovers r (covering (standing (map command_of before))) (covering b)) (found d md zd before' y after' g') covers))
      where
        no_t : None Kind.T (kinds_in (map command_of (x ∷ after)))
        no_t =
            query_ends_terms at_start (kinds_in (map command_of before)) x.kind (kinds_in (map command_of after))
            (subst (Orderly at_start) (ap kinds_in (split c mc zc before x after g) ∙ map-append (λ o. o.kind) (map command_of before) (map command_of (x ∷ after))) orderly)
            (query_kind x q)

        command : command_of x ≡ command_of y
        command = sym (seen (command_of x) no_t.0) ∙ here ∙ seen (command_of y) (subst (λ (o : Command). T (not (is o.kind Kind.T))) here no_t.0)

        covers : SameCovers r (covering (standing (map command_of before))) (covering (standing (map command_of before')))
        covers =
            covers_behind r c.job d.job h (map command_of before) (map command_of (x ∷ after)) (map command_of before') (map command_of (y ∷ after'))
            (split c mc zc before x after g) (split d md zd before' y after' g') same no_t orderly (none_d c.job no_d)

  one_more : (before : List Context) (x : Context) (before' : List Context) (y : Context) → map hidden (map command_of before) ≡ map hidden (map command_of before')
      → hidden (command_of x) ≡ hidden (command_of y) → map hidden (map command_of (before ++ (x ∷ []))) ≡ map hidden (map command_of (before' ++ (y ∷ [])))
  one_more before x before' y same here = parts before x ∙ ap₂ (λ (cs : List Command) (o : Command). cs ++ (o ∷ [])) same here ∙ sym (parts before' y)
    where
      parts : (before : List Context) (x : Context) → map hidden (map command_of (before ++ (x ∷ []))) ≡ map hidden (map command_of before) ++ (hidden (command_of x) ∷ [])
      parts before x = ap (map hidden) (map-append command_of before (x ∷ [])) ∙ map-append hidden (map command_of before) (command_of x ∷ [])

  -- from the first command on
  walk : (before xs before' ys : List Context) → (ran c).contexts ≡ before ++ xs → (ran d).contexts ≡ before' ++ ys → map hidden (map command_of before) ≡ map hidden (map command_of before')
      → map hidden (map command_of xs) ≡ map hidden (map command_of ys) → Pointwise (SameQuery r) (map (with_reply engine) (filter is_query xs)) (map (with_reply engine) (filter is_query ys))
  walk before [] before' [] g g' same rest = tt
  walk before [] before' (y ∷ ys) g g' same rest = absurd (nil≢cons rest)
  walk before (x ∷ xs) before' [] g g' same rest = absurd (cons≢nil rest)
  walk before (x ∷ xs) before' (y ∷ ys) g g' same rest =
      go (is_query x) refl (is_query y) (sym (both_queries before x xs before' y ys g g' same here))
      (walk (before ++ (x ∷ [])) xs (before' ++ (y ∷ [])) ys (g ∙ sym (append_assoc before (x ∷ []) xs))
      (g' ∙ sym (append_assoc before' (y ∷ []) ys)) (one_more before x before' y same here) (cc rest))
    where
      here : hidden (command_of x) ≡ hidden (command_of y)
      here = cc rest

      go : (s : Bool) → is_query x ≡ s → (t : Bool) → t ≡ is_query x → Pointwise (SameQuery r) (map (with_reply engine) (filter is_query xs)) (map (with_reply engine) (filter is_query ys))
          → Pointwise (SameQuery r) (map (with_reply engine) (cond s (x ∷ filter is_query xs) (filter is_query xs))) (map (with_reply engine) (cond t (y ∷ filter is_query ys) (filter is_query ys)))
      go true e true f more = (at_query before x xs before' y ys g g' same here (rw e tt), more)
      go true e false f more = absurd (subst T (sym e ∙ sym f) tt)
      go false e true f more = absurd (subst T (f ∙ e) tt)
      go false e false f more = more

  every_query : Pointwise (SameQuery r) (queries_in c) (queries_in d)
  every_query = rw (queries_replied c mc, queries_replied d md)
      (walk [] (ran c).contexts [] (ran d).contexts refl refl refl
      (ap (map hidden) (whole c mc zc).commands ∙ same_outline c.job d.job h.same ∙ ap (map hidden) (sym (whole d md zd).commands)))

pub in_any_order : InAnyOrder
in_any_order c d mc md zc zd n h = record { some_renumbering = has_renumbering c.job d.job h; at_each = λ r k. every_query r c d mc md zc zd n k }
