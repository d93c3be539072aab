-- Demand 3 is not vacuous: two calls on the paper's table and terms. The first gives a page of two sets and refuses a second, which the
-- buffer does not hold; the second, in a further job, gives the cheapest, the rest and the whole by N. What the calls return and leave is written out;
-- the hypotheses hold by computation.
use Prim.Native.Nat.{ℕ, ◌+◌, ◌*◌, ◌^◌}
use mathlib.Core.Path.{◌≡◌, refl}
use mathlib.Core.List.{List, [], ◌∷◌, ◌++◌, map}
use mathlib.Core.Bool.{Bool, true, not, ◌&&◌}
use lib.Dec.{T, eqb, eqb→eq}
use lib.Count.{ones, ones_in}
use lib.ListN.{replicate}
use Rattle.model.specs.Base.{implies, non_empty, some, filter, join, All}
use Rattle.model.specs.Table.{is_on, on_cells, is_dc, is_off, cells, holds, formed, holds_no_off, legal}
use Rattle.model.specs.Sets.{irredundants, irredundant, redundant, covers, cover, coverable, cost, cheapest}
use Rattle.model.specs.Products.{contains_no_other, holders, joined, kept, products_up_to, products, has_too_many}
use Rattle.model.specs.Pages.{page, more, at_or_above, next_start, Page, is_last, joined_sets, InOrder, Joined}
use Rattle.model.specs.Candidates.{terms_alone, literals_charged, term_cost, basis}
use Rattle.model.specs.Commands.{Kind, is, kind_of, low, problem_after}
use Rattle.model.specs.Answers.{has_bytes, answer, answer_for}
use Rattle.model.specs.Refusals.{refusals_of}
use Rattle.model.specs.Rules.{engine, refusal_by, refusals_by}
use Rattle.model.specs.Job.{run_by, packed, written, buffer_after}
use Rattle.model.specs.Calls.{Call, Met, decoded, read}
use Rattle.model.specs.Exchanges.{Exchange, read_in, all_read, pages_of, EqualsPages}
use Rattle.model.specs.Demand3.{StandsOn, covers_of, Demand, is_asked}
use Rattle.model.specs.Reordered.{AllPages}
use Rattle.model.specs.Cases.{example, six_terms, example_head}
use Rattle.model.proofs.Lists.{implies_e, and_l, and_r, sublist_filter}
use Rattle.model.proofs.Demand3.{demand_3}

-- a list of pages as a test of the hypothesis, which then holds by computation
abbrev in_order : List ℕ → List Page → Bool
in_order g [] = true
in_order g (p ∷ ps) = eqb p.start (next_start g) && (implies (is_last p) (not (non_empty ps)) && in_order (g ++ p.sets) ps)

none_left : (ps : List Page) → T (not (non_empty ps)) → ps ≡ []
none_left [] n = refl
none_left (p ∷ ps) n = absurd n

in_order_e : (g : List ℕ) (ps : List Page) → T (in_order g ps) → InOrder g ps
in_order_e g [] f = tt
in_order_e g (p ∷ ps) f =
    let a = eqb p.start (next_start g) in
    let b = implies (is_last p) (not (non_empty ps)) in
    let c = in_order (g ++ p.sets) ps in (
      eqb→eq p.start (next_start g) (and_l a (b && c) f),
      (λ t. none_left ps (implies_e (is_last p) (not (non_empty ps)) (and_l b c (and_r a (b && c) f)) t)),
      in_order_e (g ++ p.sets) ps (and_r b c (and_r a (b && c) f)),
    )

abbrev first : Call
first = record {
  job = example_head ++ (0x4c ∷ 0 ∷ 0 ∷ 0 ∷ 0 ∷ 0 ∷ 0 ∷ 0 ∷ 0 ∷ 2 ∷ 0x4c ∷ 23 ∷ 0 ∷ 0 ∷ 0 ∷ 0 ∷ 0 ∷ 0 ∷ 0 ∷ 2 ∷ []);
  before = replicate 21 0xff;
  returned = 14 * 2 ^ 32 + 53 * 2 ^ 16 + 19;
  after = 0x6c ∷ 2 ∷ 1 ∷ 11 ∷ 0 ∷ 0 ∷ 0 ∷ 0 ∷ 0 ∷ 0 ∷ 0 ∷ 22 ∷ 0 ∷ 0 ∷ 0 ∷ 0 ∷ 0 ∷ 0 ∷ 0 ∷ 0xff ∷ 0xff ∷ [];
}

abbrev second : Call
second = record {
  job = example_head ++ (0x43 ∷ 0x4c ∷ 23 ∷ 0 ∷ 0 ∷ 0 ∷ 0 ∷ 0 ∷ 0 ∷ 0 ∷ 9 ∷ 0x4e ∷ 0x45 ∷ []);
  before = replicate 99 0xff;
  returned = 56 * 2 ^ 16 + 98;
  after = 0x63 ∷ 3 ∷ 0 ∷ 41 ∷ 0 ∷ 0 ∷ 0 ∷ 0 ∷ 0 ∷ 0 ∷ 0
      ∷ 0x6c ∷ 4 ∷ 0 ∷ 26 ∷ 0 ∷ 0 ∷ 0 ∷ 0 ∷ 0 ∷ 0 ∷ 0 ∷ 41 ∷ 0 ∷ 0 ∷ 0 ∷ 0 ∷ 0 ∷ 0 ∷ 0 ∷ 52 ∷ 0 ∷ 0 ∷ 0 ∷ 0 ∷ 0 ∷ 0 ∷ 0 ∷ 56 ∷ 0 ∷ 0 ∷ 0 ∷ 0 ∷ 0 ∷ 0 ∷ 0
      ∷ (0x6e ∷ 6 ∷ 0 ∷ (join (map (low 8) (11 ∷ 22 ∷ 26 ∷ 41 ∷ 52 ∷ 56 ∷ [])) ++ (0x65 ∷ 0xff ∷ [])));
}

abbrev calls : List Call
calls = first ∷ second ∷ []

-- the L, V, C and N among what their bytes hold, and the pages among those
abbrev exchanges : List Exchange
exchanges = filter is_asked (all_read engine calls)

abbrev pages : List Page
pages = pages_of Kind.L exchanges

met : All Met calls
unfolding irredundants irredundant redundant covers cover coverable cost cheapest page more at_or_above is_on on_cells is_dc is_off cells holds formed holds_no_off legal literals_charged term_cost ones ones_in run_by kind_of packed written buffer_after refusal_by refusals_by refusals_of answer answer_for problem_after products has_too_many products_up_to kept joined holders contains_no_other
met = (record { returned = refl; after = refl }, (record { returned = refl; after = refl }, tt))

stands : All (StandsOn (basis example (terms_alone six_terms))) exchanges
unfolding irredundants irredundant redundant covers cover coverable cost cheapest page more at_or_above is_on on_cells is_dc is_off cells holds formed holds_no_off legal literals_charged term_cost ones ones_in run_by kind_of refusal_by refusals_by refusals_of answer answer_for problem_after decoded read read_in products has_too_many products_up_to kept joined holders contains_no_other
stands = ((tt, refl), ((tt, refl), ((tt, refl), ((tt, refl), ((tt, refl), tt)))))

in_order_lem : T (in_order [] pages)
unfolding irredundants irredundant redundant covers cover coverable cost cheapest page more at_or_above is_on on_cells is_dc is_off cells holds formed holds_no_off legal literals_charged term_cost ones ones_in run_by kind_of refusal_by refusals_by refusals_of answer answer_for problem_after decoded read read_in products has_too_many products_up_to kept joined holders contains_no_other
in_order_lem = tt

pub joined_are : joined_sets pages ≡ 11 ∷ 22 ∷ 26 ∷ 41 ∷ 52 ∷ 56 ∷ []
unfolding irredundants irredundant redundant covers cover coverable cost cheapest page more at_or_above is_on on_cells is_dc is_off cells holds formed holds_no_off legal literals_charged term_cost ones ones_in run_by kind_of refusal_by refusals_by refusals_of answer answer_for problem_after decoded read read_in products has_too_many products_up_to kept joined holders contains_no_other
joined_are = refl

pub all_right : Demand (basis example (terms_alone six_terms)) exchanges
all_right = (demand_3 (basis example (terms_alone six_terms)) calls met).bytes exchanges (sublist_filter is_asked (all_read engine calls)) stands

pub all_joined : Joined (covers_of (basis example (terms_alone six_terms))) pages
all_joined = all_right.pages.joined (in_order_e [] pages in_order_lem)

-- and an N that is answered has their sets: there is one, and the last page has more 0
pub all_multiplied : All (EqualsPages pages) exchanges
all_multiplied = all_right.products

pub one_multiplied : T (some (λ e. is e.context.kind Kind.N && has_bytes e.reply) exchanges && some is_last pages)
unfolding irredundants irredundant redundant covers cover coverable cost cheapest page more at_or_above is_on on_cells is_dc is_off cells holds formed holds_no_off legal literals_charged term_cost ones ones_in run_by kind_of refusal_by refusals_by refusals_of answer answer_for problem_after decoded read read_in products has_too_many products_up_to kept joined holders contains_no_other
one_multiplied = tt

-- K9: they are all pages of this table and these terms
pub all_pages : AllPages (basis example (terms_alone six_terms)) pages
unfolding irredundants irredundant redundant covers cover coverable cost cheapest page more at_or_above is_on on_cells is_dc is_off cells holds formed holds_no_off legal literals_charged term_cost ones ones_in run_by kind_of refusal_by refusals_by refusals_of answer answer_for problem_after decoded read read_in products has_too_many products_up_to kept joined holders contains_no_other
all_pages = record {
  calls = calls;
  met = met;
  exchanges = exchanges;
  read = sublist_filter is_asked (all_read engine calls);
  stand = stands;
  pages = refl;
  in_order = in_order_e [] pages in_order_lem;
  no_more = tt;
}
