-- K2: what each command of a job finds is what the commands before it set, its place the highest that they raise the job to; the queries
-- among them may be left out. So demand 3 of all L, V, C and N behind the same commands.
use Prim.Native.Nat.{ℕ, ◌≤◌, ◌<◌, max}
use native.Mathlib.Omega.{arith}
use mathlib.Core.Path.{◌≡◌, refl, sym, ap, ap₂, ◌∙◌, subst, subst⁻¹}
use mathlib.Core.Logic.{◌↔◌}
use mathlib.Core.Bool.{Bool, true, false, not, cond, ◌&&◌}
use mathlib.Core.List.{List, [], ◌∷◌, ◌++◌, map}
use lib.Dec.{T, leb, leb→le, le→leb, nleb→lt}
use lib.Seq.{get_or-take}
use lib.ListN.{length}
use Rattle.model.specs.Base.{some, filter, All}
use Rattle.model.specs.Blocks.{Block}
use Rattle.model.specs.Candidates.{Candidate, Basis, priced}
use Rattle.model.specs.Commands.{at_start, begun, among_rows, in_candidates, queried, Kind, form_of, is, kinds, width, is_query_kind, allowed, empty}
use Rattle.model.specs.Commands.{Problem, table_of, prices_of, basis_of, Context, operand, operand_number, Row, rows_of_b, problem_after}
use Rattle.model.specs.Refusals.{refusals_of}
use Rattle.model.specs.Rules.{engine}
use Rattle.model.specs.Demand3.{HasBasis}
use Rattle.model.specs.Standing.{Command, command_of, operand_of, rows_set, sets_to, set_from, standing, FindsStanding, TakenOut, TakesOut, raises}
use Rattle.model.specs.Standing.{highest, Placed, none_came, Places, adds_or_removes, SameBetween, SetBy, AskedBehind, StandingDemand3}
use Rattle.model.proofs.Lists.{T_true, bool_ext, and_l, and_r, and_i, length_without, entry_before, entry_without, all_e}
use Rattle.model.proofs.Codes.{is_kind, kind_among, any_query, query_keeps}
use Rattle.model.proofs.Runs.{NoneApplies, Passed, passed}
use Rattle.model.proofs.RowByRow.{rows_set_lem, same_rows}
use Rattle.model.proofs.Sound.{engine_lawful}
use Rattle.model.proofs.Valid.{place_one, place_last, allowed_from}
use Rattle.model.proofs.Exchanges.{claim_where}
use Rattle.model.proofs.Demand3.{query_kind, demand_3}
use Rattle.model.proofs.Behind.{not_nil, behind_ind}
use Rattle.model.proofs.BlockBytes.{same_block}

-- ---- the table, the prices and the candidates

-- what a command leaves, wherever its operands are all that it reads
sets_by : (x : Context) (k : Kind) → ((i : ℕ) → i < width k → operand_of (command_of x) i ≡ operand x i) → basis_of (problem_after x k) ≡ sets_to (command_of x) k (basis_of x.problem)
unfolding problem_after sets_to
sets_by x Kind.I g = rw (g 0 (omega arith), g 1 (omega arith))
sets_by x Kind.W g = rw (g 0 (omega arith), g 1 (omega arith), g 2 (omega arith))
sets_by x Kind.R g = rw (g 0 (omega arith), g 1 (omega arith), g 2 (omega arith))
sets_by x Kind.B g = rows_set_lem (rows_of_b x.rest) x.problem
    ∙ ap (λ (ws : List Row). priced (prices_of x.problem) (rows_set (table_of x.problem) ws) x.problem.cands) (sym (same_rows (command_of x).operands x.rest g))
sets_by x Kind.T g = rw (g 0 (omega arith), g 1 (omega arith), g 2 (omega arith))
sets_by x Kind.F g = ap (λ (b : Block). priced (prices_of x.problem) (table_of x.problem) (x.problem.cands ++ (Candidate.block b ∷ []))) (sym (same_block (command_of x).operands x.rest g))
sets_by x Kind.P g = refl
sets_by x Kind.A g = rw (g 0 (omega arith), g 1 (omega arith), g 2 (omega arith))
sets_by x Kind.D g = rw (g 0 (omega arith))
sets_by x Kind.G g = refl
sets_by x Kind.L g = refl
sets_by x Kind.«V» g = refl
sets_by x Kind.C g = refl
sets_by x Kind.N g = refl
sets_by x Kind.E g = refl
sets_by x Kind.none g = refl

pub sets_to_lem : (x : Context) → basis_of (problem_after x x.kind) ≡ sets_to (command_of x) x.kind (basis_of x.problem)
sets_to_lem x = sets_by x x.kind (λ i. get_or-take (width x.kind) x.rest i 0)

abbrev Found : Problem → List Context → Context → Type 0
Found q before x = basis_of x.problem ≡ set_from (basis_of q) (map command_of before)

pub stands : FindsStanding
stands = behind_ind engine engine_lawful Found (λ x. refl) (λ y h ys x e. e ∙ ap (λ (b : Basis). set_from b (map command_of ys)) (sets_to_lem y))

-- ---- D, entry by entry

taken : (x : Context) → NoneApplies (refusals_of x Kind.D) → TakenOut (operand_number x) x.problem.cands (problem_after x Kind.D).cands
unfolding refusals_of problem_after
taken x a =
    let k = operand_number x in
    let ts = x.problem.cands in
    record {
      fewer = length_without k ts (nleb→lt (length ts) k a.0);
      before = λ i. entry_before k i ts;
      behind = λ i. entry_without k i ts;
    }

pub taken_out : TakesOut
taken_out x i z = subst (λ (k : Kind). TakenOut (operand_number x) x.problem.cands (problem_after x k).cands) (sym e) (taken x (subst (λ (k : Kind). NoneApplies (refusals_of x k)) e h.own))
  where
    e : x.kind ≡ Kind.D
    e = is_kind x.kind Kind.D i

    h : Passed engine x
    h = passed engine engine_lawful x z

-- ---- the place

pub raised : (x : Context) (k : Kind) → T (allowed k x.problem.place) → (problem_after x k).place ≡ max (raises k) x.problem.place
unfolding problem_after rows_of_b
raised x Kind.I a = omega (arith, place_last Kind.I x.problem.place a)
raised x Kind.W a = omega (arith, place_last Kind.W x.problem.place a)
raised x Kind.R a = omega (arith, place_last Kind.R x.problem.place a)
raised x Kind.B a = omega (arith, place_last Kind.B x.problem.place a)
raised x Kind.T a = omega arith
raised x Kind.F a = omega arith
raised x Kind.P a = omega (arith, place_last Kind.P x.problem.place a)
raised x Kind.A a = omega arith
raised x Kind.D a = omega (arith, place_one Kind.D x.problem.place tt a)
raised x Kind.G a = omega (arith, place_last Kind.G x.problem.place a)
raised x Kind.«V» a = omega (arith, place_last Kind.«V» x.problem.place a)
raised x Kind.L a = omega (arith, place_last Kind.L x.problem.place a)
raised x Kind.C a = omega (arith, place_last Kind.C x.problem.place a)
raised x Kind.N a = omega (arith, place_last Kind.N x.problem.place a)
raised x Kind.E a = omega arith
raised x Kind.none a = omega arith

pub query_raises : (k : Kind) → T (is_query_kind k) → raises k ≡ queried
query_raises = any_query (λ k. raises k ≡ queried) (refl, (refl, (refl, (refl, tt))))

abbrev At : Problem → List Context → Context → Type 0
At q before x = x.problem.place ≡ max (highest before) q.place

at_next : (y : Context) → Passed engine y → (ys : List Context) (x : Context) → At (problem_after y y.kind) ys x → At y.problem (y ∷ ys) x
at_next y h ys x e = omega (arith, raised y y.kind h.place)

pub placed : Placed
placed job room before x g = omega (arith, behind_ind engine engine_lawful At (λ x. omega arith) at_next job room before x g)

-- K3: B "stands where R may stand", at every place, and the others stand behind it as behind an R
pub where_r_may : (place : ℕ) → allowed Kind.B place ≡ allowed Kind.R place
where_r_may place = refl

pub raises_as_r : raises Kind.B ≡ raises Kind.R
raises_as_r = refl

-- in the paper's words: which kinds raise the place beyond that of I, of a row, and of a term

beyond_start : (k : Kind) → leb (raises k) begun ≡ not (some (is k) (Kind.W ∷ Kind.R ∷ Kind.B ∷ Kind.T ∷ Kind.F ∷ Kind.A ∷ Kind.P ∷ Kind.G ∷ Kind.L ∷ Kind.«V» ∷ Kind.C ∷ Kind.N ∷ []))
beyond_start k = all_e (λ (k : Kind). leb (raises k) begun ≡ not (some (is k) (Kind.W ∷ Kind.R ∷ Kind.B ∷ Kind.T ∷ Kind.F ∷ Kind.A ∷ Kind.P ∷ Kind.G ∷ Kind.L ∷ Kind.«V» ∷ Kind.C ∷ Kind.N ∷ []))) (Kind.none ∷ kinds)
    (refl, (refl, (refl, (refl, (refl, (refl, (refl, (refl, (refl, (refl, (refl, (refl, (refl, (refl, (refl, (refl, tt)))))))))))))))) (kind_among k)

beyond_rows : (k : Kind) → leb (raises k) among_rows ≡ not (some (is k) (Kind.T ∷ Kind.F ∷ Kind.A ∷ Kind.P ∷ Kind.G ∷ Kind.L ∷ Kind.«V» ∷ Kind.C ∷ Kind.N ∷ []))
beyond_rows k = all_e (λ (k : Kind). leb (raises k) among_rows ≡ not (some (is k) (Kind.T ∷ Kind.F ∷ Kind.A ∷ Kind.P ∷ Kind.G ∷ Kind.L ∷ Kind.«V» ∷ Kind.C ∷ Kind.N ∷ []))) (Kind.none ∷ kinds)
    (refl, (refl, (refl, (refl, (refl, (refl, (refl, (refl, (refl, (refl, (refl, (refl, (refl, (refl, (refl, (refl, tt)))))))))))))))) (kind_among k)

beyond_terms : (k : Kind) → leb (raises k) in_candidates ≡ not (some (is k) (Kind.P ∷ Kind.G ∷ Kind.L ∷ Kind.«V» ∷ Kind.C ∷ Kind.N ∷ []))
beyond_terms k = all_e (λ (k : Kind). leb (raises k) in_candidates ≡ not (some (is k) (Kind.P ∷ Kind.G ∷ Kind.L ∷ Kind.«V» ∷ Kind.C ∷ Kind.N ∷ []))) (Kind.none ∷ kinds)
    (refl, (refl, (refl, (refl, (refl, (refl, (refl, (refl, (refl, (refl, (refl, (refl, (refl, (refl, (refl, (refl, tt)))))))))))))))) (kind_among k)

max_leb : (a b m : ℕ) → leb (max a b) m ≡ leb a m && leb b m
max_leb a b m = bool_ext (leb (max a b) m) (leb a m && leb b m)
    (λ t. let l = leb→le (max a b) m t in and_i (leb a m) (leb b m) (le→leb a m (omega arith)) (le→leb b m (omega arith)))
    (λ t. le→leb (max a b) m (let u = leb→le a m (and_l (leb a m) (leb b m) t) in let v = leb→le b m (and_r (leb a m) (leb b m) t) in omega arith))

module _ (k : Kind) (barred : List Kind) (beyond : (y : Kind) → leb (raises y) (form_of k).last ≡ not (some (is y) barred)) where
  none_beyond : (before : List Context) → leb (highest before) (form_of k).last ≡ none_came barred before
  none_beyond [] = T_true {b = leb at_start (form_of k).last} (le→leb at_start (form_of k).last (omega arith))
  none_beyond (y ∷ ys) = max_leb (raises y.kind) (highest ys) (form_of k).last ∙ ap₂ (λ (b c : Bool). b && c) (beyond y.kind) (none_beyond ys)

  -- behind I it may stand where none of these came
  place_in_words : (before : List Context) (place : ℕ) → place ≡ highest before → begun ≤ place → T (allowed k place) ↔ T (none_came barred before)
  place_in_words before place e l =
      let same : leb place (form_of k).last ≡ none_came barred before = ap (λ (p : ℕ). leb p (form_of k).last) e ∙ none_beyond before in (
        λ a. subst (λ (b : Bool). T b) same (le→leb place (form_of k).last (place_last k place a)),
        λ t. allowed_from k place l (leb→le place (form_of k).last (subst⁻¹ (λ (b : Bool). T b) same t)),
      )

pub places : Places
places job room before x g l =
    let e = placed job room before x g in
    record {
      prices = place_in_words Kind.W (Kind.W ∷ Kind.R ∷ Kind.B ∷ Kind.T ∷ Kind.F ∷ Kind.A ∷ Kind.P ∷ Kind.G ∷ Kind.L ∷ Kind.«V» ∷ Kind.C ∷ Kind.N ∷ []) beyond_start before x.problem.place e l;
      row = place_in_words Kind.R (Kind.T ∷ Kind.F ∷ Kind.A ∷ Kind.P ∷ Kind.G ∷ Kind.L ∷ Kind.«V» ∷ Kind.C ∷ Kind.N ∷ []) beyond_rows before x.problem.place e l;
      rows = place_in_words Kind.B (Kind.T ∷ Kind.F ∷ Kind.A ∷ Kind.P ∷ Kind.G ∷ Kind.L ∷ Kind.«V» ∷ Kind.C ∷ Kind.N ∷ []) beyond_rows before x.problem.place e l;
      primes = place_in_words Kind.P (Kind.T ∷ Kind.F ∷ Kind.A ∷ Kind.P ∷ Kind.G ∷ Kind.L ∷ Kind.«V» ∷ Kind.C ∷ Kind.N ∷ []) beyond_rows before x.problem.place e l;
      term = place_in_words Kind.T (Kind.P ∷ Kind.G ∷ Kind.L ∷ Kind.«V» ∷ Kind.C ∷ Kind.N ∷ []) beyond_terms before x.problem.place e l;
      block = place_in_words Kind.F (Kind.P ∷ Kind.G ∷ Kind.L ∷ Kind.«V» ∷ Kind.C ∷ Kind.N ∷ []) beyond_terms before x.problem.place e l;
    }

-- ---- no A and no D between

-- behind a query no other command sets anything
settled : (x : Context) (k : Kind) → queried ≤ x.problem.place → T (allowed k x.problem.place) → T (not (adds_or_removes k)) → basis_of (problem_after x k) ≡ basis_of x.problem
unfolding problem_after
settled x Kind.A p a n = elim n [ ]
settled x Kind.D p a n = elim n [ ]
settled x Kind.I p a n = absurd (omega (arith, place_last Kind.I x.problem.place a))
settled x Kind.W p a n = absurd (omega (arith, place_last Kind.W x.problem.place a))
settled x Kind.R p a n = absurd (omega (arith, place_last Kind.R x.problem.place a))
settled x Kind.B p a n = absurd (omega (arith, place_last Kind.B x.problem.place a))
settled x Kind.T p a n = absurd (omega (arith, place_last Kind.T x.problem.place a))
settled x Kind.F p a n = absurd (omega (arith, place_last Kind.F x.problem.place a))
settled x Kind.P p a n = absurd (omega (arith, place_last Kind.P x.problem.place a))
settled x Kind.G p a n = refl
settled x Kind.L p a n = refl
settled x Kind.«V» p a n = refl
settled x Kind.C p a n = refl
settled x Kind.N p a n = refl
settled x Kind.E p a n = refl
settled x Kind.none p a n = refl

abbrev Steady : Context → Type 0
Steady x = T (not (adds_or_removes x.kind))

-- a command finds what the problem at its beginning has, where that is behind a query, and what a query before it finds
record Keeps (q : Problem) (before : List Context) (y : Context) : Type 0 where
  from_here : queried ≤ q.place → All Steady before → basis_of y.problem ≡ basis_of q
  from_query : (pre : List Context) (x : Context) (between : List Context) → before ≡ pre ++ (x ∷ between) → T (is_query_kind x.kind) → All Steady between
      → basis_of y.problem ≡ basis_of x.problem

keeps_next : (z : Context) → Passed engine z → (zs : List Context) (y : Context) → Keeps (problem_after z z.kind) zs y → Keeps z.problem (z ∷ zs) y
keeps_next z h zs y k = record {
  from_here = λ p s. k.from_here (omega (arith, raised z z.kind h.place)) s.1 ∙ settled z z.kind p h.place s.0;
  from_query = query;
}
  where
    query : (pre : List Context) (x : Context) (between : List Context) → z ∷ zs ≡ pre ++ (x ∷ between) → T (is_query_kind x.kind) → All Steady between → basis_of y.problem ≡ basis_of x.problem
    query [] x between e t s =
        let here : z ≡ x = cc in
        let rest : zs ≡ between = cc in
        let asks = subst⁻¹ (λ (u : Context). T (is_query_kind u.kind)) here t in
        k.from_here (omega (arith, raised z z.kind h.place, query_raises z.kind asks)) (subst⁻¹ (All Steady) rest s)
        ∙ query_keeps z z.kind asks ∙ ap (λ (u : Context). basis_of u.problem) here
    query (p ∷ pre) x between e t s = k.from_query pre x between (cc) t s

keeps_none : (x : Context) → Keeps x.problem [] x
keeps_none x = record { from_here = λ p s. refl; from_query = λ pre y between e t s. absurd (not_nil pre y between e) }

pub same_between : SameBetween
same_between job room before x between y g q s =
    (behind_ind engine engine_lawful Keeps keeps_none keeps_next job room (before ++ (x ∷ between)) y g).from_query before x between refl (query_kind x q) s

-- ---- the same commands

pub query_sets : (c : Command) (b : Basis) (k : Kind) → T (is_query_kind k) → sets_to c k b ≡ b
unfolding sets_to
query_sets c b = any_query (λ k. sets_to c k b ≡ b) (refl, (refl, (refl, (refl, tt))))

abbrev pub no_query : Command → Bool
no_query c = not (is_query_kind c.kind)

-- the queries may be left out
setters : (b : Basis) (cs : List Command) → set_from b cs ≡ set_from b (filter no_query cs)
setters b [] = refl
setters b (c ∷ cs) = go (is_query_kind c.kind) refl (setters (sets_to c c.kind b) cs)
  where
    rest : List Command
    rest = filter no_query cs

    then : Basis
    then = sets_to c c.kind b

    go : (d : Bool) → is_query_kind c.kind ≡ d → set_from then cs ≡ set_from then rest → set_from then cs ≡ set_from b (cond (not d) (c ∷ rest) rest)
    go true e h = h ∙ ap (λ (s : Basis). set_from s rest) (query_sets c b c.kind (rw e tt))
    go false e h = h

pub same_set : (cs : List Command) (x : Context) → SetBy cs x → HasBasis (standing cs) x
same_set cs x s = stands s.job s.room s.before x s.behind ∙ setters (basis_of empty) (map command_of s.before) ∙ ap standing s.same

-- in one job or two
pub same_found : (cs : List Command) (x y : Context) → SetBy cs x → SetBy cs y → basis_of x.problem ≡ basis_of y.problem
same_found cs x y s t = same_set cs x s ∙ sym (same_set cs y t)

pub standing_demand_3 : StandingDemand3
standing_demand_3 cs calls m = claim_where (AskedBehind cs) (λ e s. (s.0, same_set cs e.context s.1)) (demand_3 (standing cs) calls m)
