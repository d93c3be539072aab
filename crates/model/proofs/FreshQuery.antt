-- K2: the rest of a fresh job, behind I, W and the rows: a T or an F for each candidate, the query and E.
use Prim.Native.Nat.{ℕ, suc, ◌+◌, ◌≤◌, ◌<◌}
use native.Mathlib.Omega.{arith}
use mathlib.Core.Path.{◌≡◌, refl, sym, ap, ap₂, ◌∙◌, subst, subst⁻¹}
use mathlib.Core.Bool.{not}
use mathlib.Core.List.{List, [], ◌∷◌, ◌++◌, append_assoc, append-nil}
use lib.Dec.{T, T_not}
use lib.Arith.{lt→nleb}
use lib.Seq.{take_at, take-take}
use lib.ListN.{length, take, length-append, length-take}
use Rattle.model.specs.Base.{All}
use Rattle.model.specs.Table.{formed, holds_no_off, legal}
use Rattle.model.specs.Blocks.{Block, block_formed, block_holds_no_off}
use Rattle.model.specs.Sets.{irredundants, cost, cheapest}
use Rattle.model.specs.Products.{products}
use Rattle.model.specs.Pages.{page, more}
use Rattle.model.specs.Ranges.{Range, possibles}
use Rattle.model.specs.Candidates.{Candidate, candidate_legal, Basis, covering}
use Rattle.model.specs.Commands.{begun, in_candidates, queried, Kind, form_of, is, is_query_kind, width, allowed, Problem, at_place, with_cands, add_candidate, add_block, basis_of}
use Rattle.model.specs.Commands.{table_of, Context, number, operand_term, operand_block, start, count, problem_after}
use Rattle.model.specs.Answers.{Answer, bytes_of, answer_for, answer}
use Rattle.model.specs.Refusals.{term_refusals, block_refusals, refusals_of}
use Rattle.model.specs.Rules.{engine, refusal}
use Rattle.model.specs.Invariants.{SmallCandidate, Valid}
use Rattle.model.specs.Demand3.{is_query, HasBasis, Acceptable}
use Rattle.model.specs.Standing.{command_of, command_bytes, adding_command, added_again}
use Rattle.model.proofs.Lists.{not_not, and_l, and_r}
use Rattle.model.proofs.Codes.{any_query}
use Rattle.model.proofs.Runs.{NoneApplies, not_refused}
use Rattle.model.proofs.Valid.{place_one, allowed_from}
use Rattle.model.proofs.BlockBytes.{block_long, read_block}
use Rattle.model.proofs.Demand3.{query_kind, query_place, acceptable_iff, has_bytes_lem}
use Rattle.model.proofs.Replay.{reads, full_of, same_operand, GivesFrom, silent, ending, last_answer}
use Rattle.model.proofs.RowByRow.{bare}
use Rattle.model.proofs.FreshRows.{From}

abbrev pub tail_of : Context → List ℕ
tail_of x = added_again x.problem.cands ++ (command_bytes (command_of x) ++ ending)

-- ---- a T or an F for each candidate

term_passes : (x : Context) → T (legal (table_of x.problem) (operand_term x)) → length x.problem.cands < 64 → NoneApplies (term_refusals x)
unfolding legal
term_passes x g l =
    let f = formed (table_of x.problem) (operand_term x) in
    let h = holds_no_off (table_of x.problem) (operand_term x) in
    (not_not f (and_l f h g), (not_not h (and_r f h g), (lt→nleb 64 (length x.problem.cands) l, tt)))

block_passes : (q : Problem) (b : Block) → T (candidate_legal (table_of q) (Candidate.block b)) → length q.cands < 64 → NoneApplies (block_refusals q b)
block_passes q b g l =
    let f = block_formed (table_of q) b in
    let h = block_holds_no_off (table_of q) b in
    (not_not f (and_l f h g), (not_not h (and_r f h g), (lt→nleb 64 (length q.cands) l, tt)))

-- the command that adds c, read where it may stand, is accepted, adds it, and is silent
record AddsAgain (q : Problem) (c : Candidate) (bs : List ℕ) (room : ℕ) : Type 0 where
  full : length (adding_command c).operands ≡ width (adding_command c).kind
  passes : refusal (reads q (adding_command c) bs room) ≡ 0
  goes : T (not (is (adding_command c).kind Kind.E))
  nothing : answer (reads q (adding_command c) bs room) ≡ Answer.nothing
  after : problem_after (reads q (adding_command c) bs room) (adding_command c).kind ≡ add_candidate q c

adds_again : (q : Problem) (c : Candidate) (bs : List ℕ) (room : ℕ) → begun ≤ q.place → q.place ≤ in_candidates → SmallCandidate c → T (candidate_legal (table_of q) c)
    → length q.cands < 64 → AddsAgain q c bs room
unfolding refusals_of problem_after answer answer_for
adds_again q (Candidate.term t) bs room l m s g h =
    let y = reads q (adding_command (Candidate.term t)) bs room in
    record {
      full = refl;
      passes = not_refused engine y (record { named = tt; place = allowed_from Kind.T q.place l m; operands = omega arith; own = term_passes y g h; room = omega arith });
      goes = tt;
      nothing = refl;
      after = refl;
    }
adds_again q (Candidate.block b) bs room l m s g h =
    let y = reads q (adding_command (Candidate.block b)) bs room in
    let same : operand_block y ≡ b = read_block b s bs in
    let fair = subst⁻¹ (λ (u : Block). NoneApplies (block_refusals q u)) same (block_passes q b g h) in
    let operands = length-append (adding_command (Candidate.block b)).operands bs in
    record {
      full = block_long b s;
      passes = not_refused engine y (record { named = tt; place = allowed_from Kind.F q.place l m; operands = omega (arith, operands, block_long b s); own = fair; room = omega arith });
      goes = tt;
      nothing = refl;
      after = ap (add_block q) same;
    }

-- from any place where a T may stand, then bytes that give an answer behind them
module _ (a : Answer) (room : ℕ) (bs : List ℕ) where
  cands_given : (cs : List Candidate) (q : Problem) → begun ≤ q.place → q.place ≤ in_candidates → All SmallCandidate cs → All (λ c. T (candidate_legal (table_of q) c)) cs
      → length q.cands + length cs ≤ 64 → ((p : ℕ) (ws : List ℕ) (rs : List Range) → begun ≤ p → p ≤ in_candidates → GivesFrom a room bs (at_place p (with_cands (q.cands ++ cs) ws rs q)))
      → GivesFrom a room (added_again cs ++ bs) q
  cands_given [] q l m s g n f = subst (λ (ds : List Candidate). GivesFrom a room bs (with_cands ds q.weights q.ranges q)) (append-nil q.cands) (f q.place q.weights q.ranges l m)
  cands_given (c ∷ cs) q l m s g n f =
      let again = adds_again q c rest room l m s.0 g.0 (omega arith) in
      let later = cands_given cs (add_candidate q c) (omega arith) (omega arith) s.1 g.1 (omega (arith, length-append q.cands (c ∷ [])))
      (λ p ws rs b h. subst⁻¹ (λ (ds : List Candidate). GivesFrom a room bs (at_place p (with_cands ds ws rs q))) (append_assoc q.cands (c ∷ []) cs) (f p ws rs b h)) in
      subst⁻¹ (λ (ds : List ℕ). GivesFrom a room ds q) (append_assoc (command_bytes (adding_command c)) (added_again cs) bs)
      (silent a room (adding_command c) rest q again.full again.passes again.goes again.nothing (subst⁻¹ (GivesFrom a room rest) again.after later))
    where
      rest : List ℕ
      rest = added_again cs ++ bs

-- ---- the query

-- it answers by table, candidates and operands alone, a V by the ranges too
pub same_answer : (x y : Context) → HasBasis (basis_of x.problem) y → (k : Kind) → T (is_query_kind k) → (T (is k Kind.«V») → y.problem.ranges ≡ x.problem.ranges)
    → take (width k) y.rest ≡ take (width k) x.rest → answer_for y k ≡ answer_for x k
unfolding answer_for
same_answer x y s =
    any_query (λ k. (T (is k Kind.«V») → y.problem.ranges ≡ x.problem.ranges) → take (width k) y.rest ≡ take (width k) x.rest → answer_for y k ≡ answer_for x k)
    (λ r. page_same, (λ r. possible_same (r tt), (λ r. cheapest_same, (λ r. products_same, tt))))
  where
    page_at : Basis → ℕ → ℕ → Answer
    page_at b from many = Answer.paged (page (irredundants (covering b)) from many) (more (irredundants (covering b)) from many)

    page_same : take 9 y.rest ≡ take 9 x.rest → page_at (basis_of y.problem) (start y) (count y) ≡ page_at (basis_of x.problem) (start x) (count x)
    page_same e =
        let low = sym (take-take 8 9 y.rest (omega arith)) ∙ ap (take 8) e ∙ take-take 8 9 x.rest (omega arith) in
        ap (λ (b : Basis). page_at b (start y) (count y)) s ∙ ap₂ (page_at (basis_of x.problem)) (ap number low) (same_operand Kind.L x y e 8 (omega arith))

    possible_at : Basis → List Range → ℕ → ℕ → Answer
    possible_at b rs from many = Answer.possible_paged (page (possibles (covering b) rs) from many) (more (possibles (covering b) rs) from many)

    possible_same : y.problem.ranges ≡ x.problem.ranges → take 9 y.rest ≡ take 9 x.rest
        → possible_at (basis_of y.problem) y.problem.ranges (start y) (count y) ≡ possible_at (basis_of x.problem) x.problem.ranges (start x) (count x)
    possible_same r e =
        let low = sym (take-take 8 9 y.rest (omega arith)) ∙ ap (take 8) e ∙ take-take 8 9 x.rest (omega arith) in
        ap₂ (λ (b : Basis) (rs : List Range). possible_at b rs (start y) (count y)) s r
        ∙ ap₂ (possible_at (basis_of x.problem) x.problem.ranges) (ap number low) (same_operand Kind.«V» x y e 8 (omega arith))

    cheapest_same : take 0 y.rest ≡ take 0 x.rest → answer_for y Kind.C ≡ answer_for x Kind.C
    cheapest_same e = ap (λ (b : Basis). Answer.cheapest_is (cost (covering b) (cheapest (covering b))) (cheapest (covering b))) s

    products_same : take 0 y.rest ≡ take 0 x.rest → answer_for y Kind.N ≡ answer_for x Kind.N
    products_same e = ap (λ (b : Basis). Answer.products_are (products (covering b))) s

-- what the queries have in common
record QueryForm (k : Kind) : Type 0 where
  last : (form_of k).last ≡ queried
  first : T (not (is k Kind.I))
  goes : T (not (is k Kind.E))
  short : width k ≤ 9
  after : (x : Context) → (problem_after x k).place ≡ queried

query_form : (k : Kind) → T (is_query_kind k) → QueryForm k
unfolding problem_after
query_form = any_query QueryForm (
  record { last = refl; first = tt; goes = tt; short = omega arith; after = λ x. refl },
  (
    record { last = refl; first = tt; goes = tt; short = omega arith; after = λ x. refl },
    (
      record { last = refl; first = tt; goes = tt; short = omega arith; after = λ x. refl },
      (record { last = refl; first = tt; goes = tt; short = omega arith; after = λ x. refl }, tt),
    ),
  ),
)

module _ (x : Context) (i : T (is_query x)) where
  query : QueryForm x.kind
  query = query_form x.kind (query_kind x i)

  -- it comes behind I
  pub query_begun : begun ≤ x.problem.place
  query_begun = place_one x.kind x.problem.place query.first (query_place x i)

  pub query_goes : T (not (is x.kind Kind.E))
  query_goes = query.goes

  pub query_short : length (command_bytes (command_of x)) ≤ 10
  query_short = omega (arith, query.short, length-take (width x.kind) x.rest)

-- a query that is answered, and room for its answer and E's
module _ (x : Context) (i : T (is_query x)) (v : T (not (is x.kind Kind.«V»))) (z : refusal x ≡ 0) (room : ℕ) (l : suc (length (bytes_of (answer x))) ≤ room) where
  accepted : Acceptable (basis_of x.problem) x
  accepted = (acceptable_iff (basis_of x.problem) x (query_kind x i) (query_place x i) refl).0 z

  -- read again with its table and candidates, and E behind it
  query_given : (q : Problem) → basis_of q ≡ basis_of x.problem → begun ≤ q.place → q.place ≤ in_candidates → GivesFrom (answer x) room (command_bytes (command_of x) ++ ending) q
  unfolding answer
  query_given q s b m =
      last_answer (answer x) room (command_of x) q full ((acceptable_iff (basis_of x.problem) y (query_kind x i) place s).1 good) (query x i).goes same
      (has_bytes_lem x x.kind (query_kind x i)) ((query x i).after y) l
    where
      y : Context
      y = reads q (command_of x) ending room

      operands : List ℕ
      operands = take (width x.kind) x.rest

      full : length operands ≡ width x.kind
      full = full_of x accepted.operands

      place : T (allowed x.kind q.place)
      place = allowed_from x.kind q.place b (omega (arith, (query x i).last))

      same : answer y ≡ answer x
      same = same_answer x y s x.kind (query_kind x i) (λ t. absurd (T_not (is x.kind Kind.«V») v t)) (take_at operands ending (width x.kind) full)

      good : Acceptable (basis_of x.problem) y
      good = record {
        operands = omega (arith, full, length-append operands ending);
        coverable = accepted.coverable;
        few_products = accepted.few_products;
        room = subst⁻¹ (λ (a : Answer). length (bytes_of a) ≤ room) same (omega arith);
      }

  -- and a T or an F for each candidate before it
  pub tail_given : Valid x.problem → From (answer x) room (tail_of x) x.problem
  tail_given v p b m =
      let o = query_begun x i in
      cands_given (answer x) room (command_bytes (command_of x) ++ ending) x.problem.cands (bare p x.problem) (omega arith) (omega arith)
      v.sound.small v.legal (omega (arith, v.sound.few))
      (λ p' ws rs. query_given (at_place p' (with_cands x.problem.cands ws rs x.problem)) refl)
