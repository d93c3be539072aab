-- K6: what a caller reads from two calls whose jobs differ in W's operands alone, and demand 3 at any prices.
use Prim.Native.Nat.{ℕ}
use native.Mathlib.Omega.{arith}
use mathlib.Core.Path.{◌≡◌, refl, sym, ap, ap₂, ◌∙◌, subst, subst⁻¹}
use mathlib.Core.Bool.{Bool, true, false, not, cond, ◌&&◌}
use mathlib.Core.List.{List, [], ◌∷◌, ◌++◌, map}
use lib.Dec.{T}
use lib.ListN.{length, length-append}
use Rattle.model.specs.Base.{every, filter, join, All}
use Rattle.model.specs.Table.{Table}
use Rattle.model.specs.Ranges.{Range}
use Rattle.model.specs.Candidates.{Candidate, Prices, usual, priced, basis, covering}
use Rattle.model.specs.Commands.{Kind, is, Context}
use Rattle.model.specs.Commands.{basis_of}
use Rattle.model.specs.Answers.{Answer, bytes_of, has_bytes}
use Rattle.model.specs.Rules.{engine}
use Rattle.model.specs.Job.{run, written, buffer_after}
use Rattle.model.specs.Pages.{Page}
use Rattle.model.specs.Calls.{Call, ran, Met, number_of, replies, Reads}
use Rattle.model.specs.Exchanges.{Exchange, answers, pair, read_in, pages_of, Gives, EqualsPages}
use Rattle.model.specs.Demand3.{StandsOn, covers_of, possibles_of, CorrectExchange, FindsRanges}
use Rattle.model.specs.Standing.{Command, command_of}
use Rattle.model.specs.Pricing.{uncosted, asked_of, listing, SameListing}
use Rattle.model.specs.Pricing.{SameButPrices, no_v, SamePages, UntouchedRead, StandsAtAnyPrices, DemandAtAnyPrices, AtAnyPrices, is_cheapest}
use Rattle.model.proofs.Lists.{and_l, and_r, all_to, all_both}
use Rattle.model.proofs.Sound.{engine_lawful}
use Rattle.model.proofs.Valid.{valid}
use Rattle.model.proofs.Pages.{rising}
use Rattle.model.proofs.Pricing.{listing_untouched, possibles_untouched}
use Rattle.model.proofs.Ranges.{possibles_rising}
use Rattle.model.proofs.Caller.{written_is, caller}
use Rattle.model.proofs.Exchanges.{Replied, RepliedIn, claim, Lists, gives}
use Rattle.model.proofs.Demand3.{Fine, correct_exchange, lists_covers, lists_possibles, equals_pages}
use Rattle.model.proofs.ExpandedCall.{page_told, page_told_lem}
use Rattle.model.proofs.Unpriced.{uncosted_length, uncosted_bytes}
use Rattle.model.proofs.Listing.{untouched}

-- ---- what a caller reads

filter_uncosted : (rs : List Answer) → map uncosted (filter has_bytes rs) ≡ filter has_bytes (map uncosted rs)
filter_uncosted [] = refl
filter_uncosted (a ∷ rs) = rw (uncosted_bytes a) (go (has_bytes a) (filter_uncosted rs))
  where
    go : (b : Bool) → map uncosted (filter has_bytes rs) ≡ filter has_bytes (map uncosted rs)
        → map uncosted (cond b (a ∷ filter has_bytes rs) (filter has_bytes rs)) ≡ cond b (uncosted a ∷ filter has_bytes (map uncosted rs)) (filter has_bytes (map uncosted rs))
    go true e = ap (λ (later : List Answer). uncosted a ∷ later) e
    go false e = e

places_uncosted : (rs : List Answer) → map (λ a. length (bytes_of a)) rs ≡ map (λ a. length (bytes_of a)) (map uncosted rs)
places_uncosted [] = refl
places_uncosted (a ∷ rs) = ap₂ (λ (n : ℕ) (ns : List ℕ). n ∷ ns) (sym (uncosted_length a)) (places_uncosted rs)

total_uncosted : (rs : List Answer) → length (join (map bytes_of rs)) ≡ length (join (map bytes_of (map uncosted rs)))
total_uncosted [] = refl
total_uncosted (a ∷ rs) =
    let e = total_uncosted rs in
    let one = length-append (bytes_of a) (join (map bytes_of rs)) in
    let other = length-append (bytes_of (uncosted a)) (join (map bytes_of (map uncosted rs))) in
    omega (arith, uncosted_length a)

-- an answer that is no C's is as it was
pub uncosted_other : (a : Answer) → T (not (is_cheapest a)) → uncosted a ≡ a
uncosted_other Answer.nothing n = refl
uncosted_other (Answer.primes_are ts) n = refl
uncosted_other (Answer.paged ss m) n = refl
uncosted_other (Answer.possible_paged ss m) n = refl
uncosted_other (Answer.cheapest_is c s) n = absurd n
uncosted_other (Answer.products_are ss) n = refl
uncosted_other Answer.ended n = refl

none_uncosted : (rs : List Answer) → T (every (λ a. not (is_cheapest a)) rs) → map uncosted rs ≡ rs
none_uncosted [] t = refl
none_uncosted (a ∷ rs) t =
    let other = not (is_cheapest a) in
    let later = every (λ a. not (is_cheapest a)) rs in
    ap₂ (λ (b : Answer) (bs : List Answer). b ∷ bs) (uncosted_other a (and_l other later t)) (none_uncosted rs (and_r other later t))

-- a C's answer has bytes, so none is among the answers where none is among those with bytes
none_among : (rs : List Answer) → T (every (λ a. not (is_cheapest a)) (filter has_bytes rs)) → T (every (λ a. not (is_cheapest a)) rs)
none_among [] t = tt
none_among (Answer.nothing ∷ rs) t = none_among rs t
none_among (Answer.primes_are ts ∷ rs) t = none_among rs t
none_among (Answer.possible_paged ss m ∷ rs) t = none_among rs t
none_among (Answer.paged ss m ∷ rs) t = none_among rs t
none_among (Answer.cheapest_is c s ∷ rs) t = absurd t
none_among (Answer.products_are ss ∷ rs) t = none_among rs t
none_among (Answer.ended ∷ rs) t = none_among rs t

-- and an answer that is none stays so
none_there : (rs ss : List Answer) → map uncosted rs ≡ map uncosted ss → T (every (λ a. not (is_cheapest a)) rs) → T (every (λ a. not (is_cheapest a)) ss)
none_there rs ss e t = subst (λ (b : Bool). T b) (kinds_of rs ∙ ap (every (λ (a : Answer). not (is_cheapest a))) e ∙ sym (kinds_of ss)) t
  where
    one : (a : Answer) → is_cheapest a ≡ is_cheapest (uncosted a)
    one Answer.nothing = refl
    one (Answer.primes_are ts) = refl
    one (Answer.paged ss m) = refl
    one (Answer.possible_paged ss m) = refl
    one (Answer.cheapest_is c s) = refl
    one (Answer.products_are ss) = refl
    one Answer.ended = refl

    kinds_of : (qs : List Answer) → every (λ a. not (is_cheapest a)) qs ≡ every (λ a. not (is_cheapest a)) (map uncosted qs)
    kinds_of [] = refl
    kinds_of (a ∷ qs) = ap₂ (λ (x y : Bool). not x && y) (one a) (kinds_of qs)

-- the pages of commands with their replies, by the operands
abbrev pages_by : List Command → List Answer → List Page
pages_by [] rs = []
pages_by (c ∷ cs) [] = cond (is c.kind Kind.L) (page_told c Answer.nothing) [] ++ pages_by cs []
pages_by (c ∷ cs) (r ∷ rs) = cond (is c.kind Kind.L) (page_told c r) [] ++ pages_by cs rs

page_uncosted : (c : Command) (a : Answer) → page_told c a ≡ page_told c (uncosted a)
page_uncosted c Answer.nothing = refl
page_uncosted c (Answer.primes_are ts) = refl
page_uncosted c (Answer.paged ss m) = refl
page_uncosted c (Answer.possible_paged ss m) = refl
page_uncosted c (Answer.cheapest_is k s) = refl
page_uncosted c (Answer.products_are ss) = refl
page_uncosted c Answer.ended = refl

pages_pair : (xs : List Context) (rs : List Answer) → pages_of Kind.L (pair xs rs) ≡ pages_by (map (λ t. t.0) (map asked_of xs)) (map uncosted rs)
pages_pair [] rs = refl
pages_pair (x ∷ xs) [] = ap₂ (λ (a b : List Page). a ++ b) (page_told_lem x Answer.nothing) (pages_pair xs [])
pages_pair (x ∷ xs) (r ∷ rs) =
    ap₂ (λ (a b : List Page). a ++ b) (page_told_lem x r ∙ ap (λ (ps : List Page). cond (is x.kind Kind.L) ps []) (page_uncosted (command_of x) r)) (pages_pair xs rs)

pages_read : (c : Call) → pages_of Kind.L (read_in engine c) ≡ pages_by (map (λ t. t.0) (listing (ran c))) (map uncosted (replies c))
unfolding read_in
pages_read c = pages_pair (filter (answers engine) (ran c).contexts) (replies c)

module _ (c d : Call) (mc : Met c) (md : Met d) (same : SameButPrices c.job d.job) (vc : T (no_v (ran c))) (vd : T (no_v (ran d))) (room : length c.before ≡ length d.before) (nc : number_of c ≡ 16 → ⊥) (nd : number_of d ≡ 16 → ⊥) where
  first : Reads c
  first = caller engine engine_lawful c mc

  second : Reads d
  second = caller engine engine_lawful d md

  runs : SameListing (ran c) (ran d)
  runs = subst (λ (k : ℕ). SameListing (ran c) (run d.job k)) room
      (untouched c.job d.job (length c.before) same vc (subst⁻¹ (λ (k : ℕ). T (no_v (run d.job k))) room vd) (λ e. nc (first.number ∙ e)) (λ e. nd (second.number ∙ ap (λ (k : ℕ). (run d.job k).number) (sym room) ∙ e)))

  same_replies : map uncosted (replies c) ≡ map uncosted (replies d)
  same_replies =
      ap (map uncosted) first.answers ∙ filter_uncosted (ran c).answers ∙ ap (filter has_bytes) runs.answers ∙ sym (filter_uncosted (ran d).answers)
      ∙ sym (ap (map uncosted) second.answers)

  same_written : length (written (ran c)) ≡ length (written (ran d))
  unfolding written
  same_written = total_uncosted (ran c).answers ∙ ap (λ (rs : List Answer). length (join (map bytes_of rs))) runs.answers ∙ sym (total_uncosted (ran d).answers)

  ends : c.before ≡ d.before → T (every (λ a. not (is_cheapest a)) (replies c)) → c.after ≡ d.after
  unfolding written buffer_after
  ends e t =
      let here = none_among (ran c).answers (subst (λ (rs : List Answer). T (every (λ a. not (is_cheapest a)) rs)) first.answers t) in
      let there = none_there (ran c).answers (ran d).answers runs.answers here in
      let same_answers : (ran c).answers ≡ (ran d).answers = sym (none_uncosted (ran c).answers here) ∙ runs.answers ∙ none_uncosted (ran d).answers there in
      mc.after ∙ rw (same_answers, e) refl ∙ sym md.after

  same_pages : SamePages c d
  same_pages = record {
    number = first.number ∙ runs.number ∙ sym second.number;
    offset = first.offset ∙ runs.offset ∙ sym second.offset;
    written = written_is engine engine_lawful c mc ∙ same_written ∙ sym (written_is engine engine_lawful d md);
    answers = same_replies;
    places = places_uncosted (replies c) ∙ ap (map (λ (a : Answer). length (bytes_of a))) same_replies ∙ sym (places_uncosted (replies d));
    after = λ e t. ends e t;
    pages = pages_read c ∙ ap₂ pages_by (ap (map (λ (t : Command × Table × List Candidate). t.0)) runs.asked) same_replies ∙ sym (pages_read d);
  }

pub untouched_read : UntouchedRead
untouched_read c d mc md same vc vd room nc nd = same_pages c d mc md same vc vd room nc nd

-- ---- at any prices

lists_at_any : (p : Table) (cs : List Candidate) (e : Exchange) → StandsAtAnyPrices p cs e → Lists engine Kind.L (covers_of (basis p cs)) e.context
lists_at_any p cs e s =
    let w = s.1.0 in
    subst (λ (sets : List ℕ). Lists engine Kind.L sets e.context) (listing_untouched w usual p cs) (lists_covers (priced w p cs) e.context s.1.1)

possibles_at_any : (p : Table) (cs : List Candidate) (rs : List Range) (e : Exchange) → StandsAtAnyPrices p cs e → FindsRanges rs e → Lists engine Kind.«V» (possibles_of (basis p cs) rs) e.context
possibles_at_any p cs rs e s f =
    let w = s.1.0 in
    subst (λ (sets : List ℕ). Lists engine Kind.«V» sets e.context) (possibles_untouched w usual p cs rs) (lists_possibles (priced w p cs) rs e.context s.1.1 f)

-- what stands on a table and candidates at one setting of prices stands so at any
pub stands_at_any : (w : Prices) (p : Table) (cs : List Candidate) (e : Exchange) → StandsOn (priced w p cs) e → StandsAtAnyPrices p cs e
stands_at_any w p cs e s = (s.0, (w, s.1))

each_at_any : (p : Table) (cs : List Candidate) (es : List Exchange) → All (RepliedIn engine Fine) es → All (StandsAtAnyPrices p cs) es
    → All (λ e. CorrectExchange (basis_of e.context.problem) e) es
each_at_any p cs [] r s = tt
each_at_any p cs (e ∷ es) r s = (correct_exchange (basis_of e.context.problem) e r.0 (s.0.0, refl), each_at_any p cs es r.1 s.1)

-- N is no more touched than the pages are
equal_at_any : (p : Table) (cs : List Candidate) (es : List Exchange) → Gives Kind.L (covers_of (basis p cs)) es → (us : List Exchange)
    → All (λ e. CorrectExchange (basis_of e.context.problem) e) us → All (StandsAtAnyPrices p cs) us → All (EqualsPages (pages_of Kind.L es)) us
equal_at_any p cs es g [] c s = tt
equal_at_any p cs es g (e ∷ us) c s =
    let w = s.0.1.0 in
    let same = ap covers_of s.0.1.1 ∙ listing_untouched w usual p cs in
    (equals_pages (covers_of (basis p cs)) es g (basis_of e.context.problem) same e c.0, equal_at_any p cs es g us c.1 s.1)

demand_at_any : (p : Table) (cs : List Candidate) (es : List Exchange) → All (RepliedIn engine Fine) es → All (StandsAtAnyPrices p cs) es → DemandAtAnyPrices p cs es
demand_at_any p cs es r s = record { each = each; pages = pages; products = equal_at_any p cs es pages es each s; possible_pages = possible_pages }
  where
    possible_pages : (rs : List Range) → All (FindsRanges rs) es → Gives Kind.«V» (possibles_of (basis p cs) rs) es
    possible_pages rs f =
        gives engine Kind.«V» (possibles_of (basis p cs) rs) (λ e. StandsAtAnyPrices p cs e × FindsRanges rs e) (λ e h. possibles_at_any p cs rs e h.0 h.1)
        (possibles_rising (covering (basis p cs)) rs) es (all_to (RepliedIn engine Fine) (Replied engine) (λ e h. h.0) es r)
        (all_both (StandsAtAnyPrices p cs) (FindsRanges rs) es s f)

    each : All (λ e. CorrectExchange (basis_of e.context.problem) e) es
    each = each_at_any p cs es r s

    pages : Gives Kind.L (covers_of (basis p cs)) es
    pages =
        gives engine Kind.L (covers_of (basis p cs)) (StandsAtAnyPrices p cs) (lists_at_any p cs) (rising (covering (basis p cs))) es
        (all_to (RepliedIn engine Fine) (Replied engine) (λ e h. h.0) es r) s

pub at_any_prices : AtAnyPrices
at_any_prices p cs = claim engine engine_lawful Fine valid (StandsAtAnyPrices p cs) (DemandAtAnyPrices p cs) (demand_at_any p cs)
