-- Demand 3, proved for every list of calls, and every choice among their L, V, C and N.
use Prim.Native.Nat.{ℕ}
use native.Mathlib.Omega.{arith}
use mathlib.Core.Path.{◌≡◌, refl, sym, ap, ◌∙◌, subst, subst⁻¹}
use mathlib.Core.Logic.{◌↔◌}
use mathlib.Core.Bool.{Bool, true, false, not, cond, ◌&&◌}
use mathlib.Core.List.{List, [], ◌∷◌, ◌++◌}
use lib.Dec.{T, ltb, eqb, eqb→eq, nltb→le}
use lib.Arith.{le→nltb}
use lib.ListN.{length}
use Rattle.model.specs.Base.{some, All}
use Rattle.model.specs.Sets.{coverable, cost, cheapest, Best}
use Rattle.model.specs.Products.{has_too_many}
use Rattle.model.specs.Pages.{Page, PageOf, is_last}
use Rattle.model.specs.Ranges.{Range}
use Rattle.model.specs.Candidates.{Candidate, Basis, covering, HoldsExactly, LegalBasis}
use Rattle.model.specs.Commands.{Kind, is, is_query_kind, width, allowed, prices_of, basis_of, Context, start, count, covering_of}
use Rattle.model.specs.Answers.{Answer, has_bytes, answer_for, answer, bytes_of}
use Rattle.model.specs.Refusals.{Refusal, refuse, first_of, refusals_of}
use Rattle.model.specs.Rules.{engine, refusals_by, refusal_by, refusal}
use Rattle.model.specs.Invariants.{Valid}
use Rattle.model.specs.Exchanges.{Exchange, page_in, pages_of, Gives, EqualsPages}
use Rattle.model.specs.Demand3.{is_query, HasBasis, StandsOn, covers_of, possibles_of, FindsRanges, NoCheaperList, sets_in, Correct, Acceptable, CorrectExchange, Demand, Demand3}
use Rattle.model.proofs.Lists.{and_l, and_r, T_true, all_to, all_both}
use Rattle.model.proofs.Sets.{listed, cheapest_irredundant}
use Rattle.model.proofs.Pages.{rising, all_page}
use Rattle.model.proofs.Products.{products_irredundants}
use Rattle.model.proofs.Ranges.{possible_listed, possibles_rising, all_possible}
use Rattle.model.proofs.Cheapest.{cheapest_best}
use Rattle.model.proofs.Costs.{cost_dearer}
use Rattle.model.proofs.Representations.{no_cheaper_list}
use Rattle.model.proofs.Codes.{is_kind, any_query}
use Rattle.model.proofs.Legal.{legal_basis, all_exactly}
use Rattle.model.proofs.Sound.{engine_lawful}
use Rattle.model.proofs.Valid.{valid}
use Rattle.model.proofs.Exchanges.{reply_refused, reply_answered, Replied, RepliedIn, claim, Lists, gives}

-- ---- refused exactly where a listed refusal applies

module _ (x : Context) (i : T (is_query x)) where
  pub query_kind : T (is_query_kind x.kind)
  query_kind = and_l (is_query_kind x.kind) (allowed x.kind x.problem.place) i

  pub query_place : T (allowed x.kind x.problem.place)
  query_place = and_r (is_query_kind x.kind) (allowed x.kind x.problem.place) i

named_query : (k : Kind) → T (is_query_kind k) → is k Kind.none ≡ false
named_query = any_query (λ k. is k Kind.none ≡ false) (refl, (refl, (refl, (refl, tt))))

-- 17 applies to a command of kind k
abbrev pub many_at : Context → Kind → Bool
many_at x k = is k Kind.N && has_too_many (covering_of x)

-- 12, then 17 of an N, then what follows
pub refusals_query : (x : Context) (rs : List Refusal) (k : Kind) → T (is_query_kind k)
    → first_of (refusals_of x k ++ rs) ≡ cond (not (coverable (covering_of x))) 12 (cond (many_at x k) 17 (first_of rs))
unfolding refusals_of
refusals_query x rs =
    any_query (λ k. first_of (refusals_of x k ++ rs) ≡ cond (not (coverable (covering_of x))) 12 (cond (many_at x k) 17 (first_of rs))) (refl, (refl, (refl, (refl, tt))))

short : Context → Bool
short x = ltb (length x.rest) (width x.kind)

tight : Context → Bool
tight x = ltb x.free (length (bytes_of (answer x)))

abbrev which : Bool → Bool → Bool → Bool → ℕ
which x y m z = cond x 5 (cond (not y) 12 (cond m 17 (cond z 14 0)))

refusal_query : (x : Context) → T (is_query_kind x.kind) → T (allowed x.kind x.problem.place)
    → refusal x ≡ which (short x) (coverable (covering_of x)) (many_at x x.kind) (tight x)
unfolding refusal_by refusals_by short tight
refusal_query x a b = rw (named_query x.kind a, T_true {b = allowed x.kind x.problem.place} b, refusals_query x (refuse 14 (tight x) ∷ []) x.kind a)

none_of : (x y m z : Bool) → (which x y m z ≡ 0) ↔ (T (not x) × T y × T (not m) × T (not z))
none_of true y m z = (λ e. absurd (omega arith), λ h. absurd h.0)
none_of false true true z = (λ e. absurd (omega arith), λ h. absurd h.2)
none_of false true false true = (λ e. absurd (omega arith), λ h. absurd h.3)
none_of false true false false = (λ e. (tt, tt, tt, tt), λ h. refl)
none_of false false m z = (λ e. absurd (omega arith), λ h. absurd h.1)

-- 17 does not apply: where it is an N, the products are few enough
few_to : (x : Context) (k : Kind) → T (not (many_at x k)) → T (is k Kind.N) → T (not (has_too_many (covering_of x)))
few_to x k n i = subst (λ (b : Bool). T (not (b && has_too_many (covering_of x)))) (T_true {b = is k Kind.N} i) n

few_from : (x : Context) (k : Kind) → (T (is k Kind.N) → T (not (has_too_many (covering_of x)))) → T (not (many_at x k))
few_from x k h = go (is k Kind.N) h
  where
    go : (b : Bool) → (T b → T (not (has_too_many (covering_of x)))) → T (not (b && has_too_many (covering_of x)))
    go true f = f tt
    go false f = tt

-- none of them applies
abbrev NoneApplies : Context → Type 0
NoneApplies x = T (not (short x)) × T (coverable (covering_of x)) × T (not (many_at x x.kind)) × T (not (tight x))

pub acceptable_iff : (b : Basis) (x : Context) → T (is_query_kind x.kind) → T (allowed x.kind x.problem.place) → HasBasis b x → (refusal x ≡ 0) ↔ Acceptable b x
unfolding short tight
acceptable_iff b x a p s = (λ e. to (n.0 (sym (refusal_query x a p) ∙ e)), λ h. refusal_query x a p ∙ n.1 (back h))
  where
    same : coverable (covering_of x) ≡ coverable (covering b)
    same = ap (λ (b : Basis). coverable (covering b)) s

    many_same : has_too_many (covering_of x) ≡ has_too_many (covering b)
    many_same = ap (λ (b : Basis). has_too_many (covering b)) s

    n : (which (short x) (coverable (covering_of x)) (many_at x x.kind) (tight x) ≡ 0) ↔ NoneApplies x
    n = none_of (short x) (coverable (covering_of x)) (many_at x x.kind) (tight x)

    to : NoneApplies x → Acceptable b x
    to h = record {
      operands = nltb→le (length x.rest) (width x.kind) h.0;
      coverable = subst (λ (y : Bool). T y) same h.1;
      few_products = λ i. subst (λ (y : Bool). T (not y)) many_same (few_to x x.kind h.2 i);
      room = nltb→le x.free (length (bytes_of (answer x))) h.3;
    }

    back : Acceptable b x → NoneApplies x
    back h = (
      le→nltb (length x.rest) (width x.kind) h.operands,
      subst⁻¹ (λ (y : Bool). T y) same h.coverable,
      few_from x x.kind (λ i. subst⁻¹ (λ (y : Bool). T (not y)) many_same (h.few_products i)),
      le→nltb x.free (length (bytes_of (answer x))) h.room,
    )

-- ---- what each L, V, C and N is answered

correct : (b : Basis) (x : Context) → HasBasis b x → T (coverable (covering b)) → Correct b x (answer x)
unfolding answer answer_for
correct b x s h = subst (λ (z : Basis). T (coverable (covering z)) → Correct z x (answer x)) s own h
  where
    best : T (coverable (covering_of x)) → x.kind ≡ Kind.C → (c : ℕ) × (s : ℕ) × (answer x ≡ Answer.cheapest_is c s) × Best (covering_of x) c s × NoCheaperList (basis_of x.problem) c
    best c e =
        let s = cheapest (covering_of x) in
        (cost (covering_of x) s, s, rw e, cheapest_best (covering_of x) c, λ n f. no_cheaper_list (basis_of x.problem) (cost_dearer (prices_of x.problem) n) (λ u. (f (Candidate.term u)).0))

    all : x.kind ≡ Kind.N → answer x ≡ Answer.products_are (covers_of (basis_of x.problem))
    all e = rw e (ap Answer.products_are (products_irredundants (covering_of x)))

    own : T (coverable (covering_of x)) → Correct (basis_of x.problem) x (answer x)
    own c = record {
      possible = λ l. rw (is_kind x.kind Kind.«V» l);
      page = λ l. rw (is_kind x.kind Kind.L l);
      cheapest = λ k. best c (is_kind x.kind Kind.C k);
      products = λ k. all (is_kind x.kind Kind.N k);
    }

pub has_bytes_lem : (x : Context) (k : Kind) → T (is_query_kind k) → T (has_bytes (answer_for x k))
unfolding answer_for
has_bytes_lem x = any_query (λ k. T (has_bytes (answer_for x k))) (tt, (tt, (tt, (tt, tt))))

-- each set of the answer holds every wanted cell and no off cell
sets_exactly : (b : Basis) (x : Context) → HasBasis b x → LegalBasis b → T (coverable (covering b)) → (k : Kind) → T (is_query_kind k) → All (HoldsExactly b) (sets_in (answer_for x k))
unfolding answer_for
sets_exactly b x s l c = subst (λ (z : Basis). LegalBasis z → T (coverable (covering z)) → (k : Kind) → T (is_query_kind k) → All (HoldsExactly z) (sets_in (answer_for x k))) s own l c
  where
    z : Basis
    z = basis_of x.problem

    rs : List Range
    rs = x.problem.ranges

    own : LegalBasis z → T (coverable (covering z)) → (k : Kind) → T (is_query_kind k) → All (HoldsExactly z) (sets_in (answer_for x k))
    own l c = any_query (λ k. All (HoldsExactly z) (sets_in (answer_for x k))) (
      all_page (HoldsExactly z) (covers_of z) (start x) (count x) (all_exactly z l),
      (
        all_page (HoldsExactly z) (possibles_of z rs) (start x) (count x) (all_possible (covering z) rs (HoldsExactly z) (all_exactly z l)),
        (
          ((l.covers (cheapest (covering z))).0 (cheapest_irredundant (covering z) c).covering, tt),
          (subst⁻¹ (All (HoldsExactly z)) (products_irredundants (covering z)) (all_exactly z l), tt),
        ),
      ),
    )

-- the candidates of a valid problem are legal
abbrev pub Fine : Context → Type 0
Fine x = Valid x.problem

pub correct_exchange : (b : Basis) (e : Exchange) → RepliedIn engine Fine e → StandsOn b e → CorrectExchange b e
unfolding answer
correct_exchange b e r s = go (eqb (refusal x) 0) refl
  where
    x : Context
    x = e.context

    a : T (is_query_kind x.kind)
    a = query_kind x s.0

    iff : (refusal x ≡ 0) ↔ Acceptable b x
    iff = acceptable_iff b x a (query_place x s.0) s.1

    lawful : LegalBasis b
    lawful = subst LegalBasis s.1 (legal_basis (basis_of x.problem) r.2.legal)

    go : (c : Bool) → eqb (refusal x) 0 ≡ c → CorrectExchange b e
    go true c =
        let z = eqb→eq (refusal x) 0 (rw c tt) in
        let y : e.reply ≡ answer x = r.0 ∙ reply_answered engine x z in
        record {
          legal = lawful;
          ranged = r.2.sound.ranged;
          each_range = r.2.sound.each_range ∙ ap (λ (z : Basis). length z.cands) s.1;
          exactly = subst⁻¹ (λ (u : Answer). All (HoldsExactly b) (sets_in u)) y (sets_exactly b x s.1 lawful (iff.0 z).coverable x.kind a);
          answered = (λ h. iff.0 z, λ h. subst⁻¹ (λ (u : Answer). T (has_bytes u)) y (has_bytes_lem x x.kind a));
          correct = λ h. subst⁻¹ (Correct b x) y (correct b x s.1 h.coverable);
        }
    go false c =
        let n : T (not (eqb (refusal x) 0)) = rw c tt in
        let y : e.reply ≡ Answer.nothing = r.0 ∙ reply_refused engine x n in
        record {
          legal = lawful;
          ranged = r.2.sound.ranged;
          each_range = r.2.sound.each_range ∙ ap (λ (z : Basis). length z.cands) s.1;
          exactly = subst⁻¹ (λ (u : Answer). All (HoldsExactly b) (sets_in u)) y tt;
          answered = (λ h. absurd (subst (λ (u : Answer). T (has_bytes u)) y h), λ h. absurd (no n (iff.1 h)));
          correct = λ h. absurd (no n (iff.1 h));
        }
      where
        no : T (not (eqb (refusal x) 0)) → refusal x ≡ 0 → ⊥
        no n z = rw z at n

all_correct : (b : Basis) (es : List Exchange) → All (RepliedIn engine Fine) es → All (StandsOn b) es → All (CorrectExchange b) es
all_correct b [] r s = tt
all_correct b (e ∷ es) r s = (correct_exchange b e r.0 s.0, all_correct b es r.1 s.1)

-- ---- the irredundant covers

pub lists_covers : (b : Basis) (x : Context) → HasBasis b x → Lists engine Kind.L (covers_of b) x
unfolding answer answer_for
lists_covers b x s i z = subst (λ (y : Basis). All (PageOf (covers_of y)) (page_in x (answer x))) s (rw (is_kind x.kind Kind.L i) ((refl, refl), tt))

-- ---- K11: those that V lists

pub lists_possibles : (b : Basis) (rs : List Range) (x : Context) → HasBasis b x → (T (is x.kind Kind.«V») → x.problem.ranges ≡ rs) → Lists engine Kind.«V» (possibles_of b rs) x
unfolding answer answer_for
lists_possibles b rs x s f i z =
    subst (λ (y : Basis). All (PageOf (possibles_of y rs)) (page_in x (answer x))) s
    (subst (λ (l : List Range). All (PageOf (possibles_of (basis_of x.problem) l)) (page_in x (answer x))) (f i) (rw (is_kind x.kind Kind.«V» i) ((refl, refl), tt)))

-- ---- "It equals L's pages joined until no more is reported"

-- of an exchange that is right, where the pages give the list that N is answered
pub equals_pages : (list : List ℕ) (es : List Exchange) → Gives Kind.L list es → (b : Basis) → covers_of b ≡ list → (e : Exchange) → CorrectExchange b e → EqualsPages (pages_of Kind.L es) e
equals_pages list es g b same e c n h o l =
    (c.correct (c.answered.0 h)).products n ∙ ap Answer.products_are (same ∙ sym (((g.joined o).last (λ z. subst (λ (ps : List Page). T (some is_last ps)) z l)).0 l))

demand : (b : Basis) (es : List Exchange) → All (RepliedIn engine Fine) es → All (StandsOn b) es → Demand b es
demand b es r s = record {
  listed = listed (covering b);
  each = each;
  pages = pages;
  products = all_to (CorrectExchange b) (EqualsPages (pages_of Kind.L es)) (equals_pages (covers_of b) es pages b refl) es each;
  possible_listed = λ rs h. possible_listed (covering b) rs h;
  possible_pages = possible_pages;
}
  where
    each : All (CorrectExchange b) es
    each = all_correct b es r s

    replied : All (Replied engine) es
    replied = all_to (RepliedIn engine Fine) (Replied engine) (λ e h. h.0) es r

    possible_pages : (rs : List Range) → All (FindsRanges rs) es → Gives Kind.«V» (possibles_of b rs) es
    possible_pages rs f =
        gives engine Kind.«V» (possibles_of b rs) (λ e. StandsOn b e × FindsRanges rs e) (λ e h. lists_possibles b rs e.context h.0.1 h.1)
        (possibles_rising (covering b) rs) es replied (all_both (StandsOn b) (FindsRanges rs) es s f)

    pages : Gives Kind.L (covers_of b) es
    pages =
        gives engine Kind.L (covers_of b) (StandsOn b) (λ e h. lists_covers b e.context h.1) (rising (covering b)) es
        replied s

pub demand_3 : Demand3
demand_3 b = claim engine engine_lawful Fine valid (StandsOn b) (Demand b) (demand b)
