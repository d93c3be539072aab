-- The engine's rules are lawful: the sizes that every problem of a job keeps, and so every answer: each fits its bytes.
use Prim.Native.Nat.{ℕ, zero, suc, ◌*◌, ◌/◌, ◌^◌, ◌≤◌, ◌<◌}
use native.Mathlib.Omega.{arith}
use native.Mathlib.Nat.{mul-suc, le_refl}
use mathlib.Core.Path.{◌≡◌, refl, ◌∙◌, subst, subst⁻¹}
use mathlib.Core.Bool.{Bool, true, false, not, cond, ◌&&◌, ◌||◌}
use mathlib.Core.List.{List, [], ◌∷◌, map}
use lib.Dec.{T, leb, ltb, leb→le, ltb→lt, nleb→lt, nltb→le}
use lib.Pow.{pow_mono}
use lib.ListN.{get_or, length, length-take, length-append, length-map, length-set}
use Rattle.model.specs.Base.{bit, below, join, sum, All, Bytes}
use Rattle.model.specs.Table.{Table, Term, formed}
use Rattle.model.specs.Primes.{primes}
use Rattle.model.specs.Blocks.{Block, vertices_below, block_formed}
use Rattle.model.specs.Sets.{Covering, members, coverable, irredundant, irredundants, cost, cheapest}
use Rattle.model.specs.Products.{most_products, products}
use Rattle.model.specs.Pages.{at_or_above, page, more}
use Rattle.model.specs.Ranges.{Range, fixed, Ranged, possible, possibles}
use Rattle.model.specs.Candidates.{Candidate, terms_alone, Prices, usual, candidate_cost, weigh}
use Rattle.model.specs.Commands.{queried, Kind, kind_of, width, Problem, empty, at_place, Context, low, operand, operand_term, operand_block, operand_number, range_of_g, operand_prices}
use Rattle.model.specs.Commands.{start, count, covering_of, Row, row_of_r, rows_of_b, add_row, add_candidate, problem_after, table_of, prices_of, basis_of}
use Rattle.model.specs.Answers.{Answer, bytes_of, answer_for, answer}
use Rattle.model.specs.Refusals.{size, dear, term_refusals, block_refusals, refusals_of}
use Rattle.model.specs.Rules.{Rules, engine}
use Rattle.model.specs.Job.{run_by, written}
use Rattle.model.specs.Invariants.{Small, SmallCandidate, Moderate, Sound}
use Rattle.model.proofs.Lists.{twice, not_or_l, not_or_r, and_l, and_r, below_e, length_without, all_append, all_filter, all_drop, all_without, all_set, all_of, all_to, all_map}
use Rattle.model.proofs.Bits.{within_le}
use Rattle.model.proofs.Sets.{cheapest_irredundant}
use Rattle.model.proofs.Pages.{all_page}
use Rattle.model.proofs.Products.{products_irredundants}
use Rattle.model.proofs.Remaining.{few_products}
use Rattle.model.proofs.Costs.{weight_small}
use Rattle.model.proofs.Cubes.{Formed, formed_e, legal_formed, prime_e, primes_e}
use Rattle.model.proofs.Codes.{is_kind}
use Rattle.model.proofs.Runs.{Numbered, NoneApplies, Lawful, context, OnRuns, IfEnds, IfGoes, run_ind}
use Rattle.model.proofs.RowByRow.{rows_keep, rows_numbered}
use Rattle.model.proofs.Read.{Fits}

-- ---- terms

formed_small : (p : Table) (t : Term) → p.n ≤ 8 → p.m ≤ 8 → Formed p t → Small t
formed_small p t n m f =
    let a = pow_mono n in
    let b = pow_mono m in
    (omega (arith, f.care_lt), omega (arith, f.care_lt, within_le t.value t.care f.value_in), omega (arith, f.outputs_lt))

primes_small : (p : Table) → p.n ≤ 8 → p.m ≤ 8 → All Small (primes p)
primes_small p n m = all_of Small (primes p) (λ t i. formed_small p t n m (legal_formed p t (prime_e p t (primes_e p t i)).0))

-- ---- blocks

pub record FormedBlock (p : Table) (b : Block) : Type 0 where
  pub some_output : 0 < b.outputs
  pub outputs_lt : b.outputs < 2 ^ p.m
  pub vertices : T (vertices_below (2 ^ p.n) b)
  pub light : b.weight ≤ 850

pub formed_block : (p : Table) (b : Block) → T (block_formed p b) → FormedBlock p b
unfolding block_formed
formed_block p b f =
    let none = ltb 0 b.outputs in
    let low = ltb b.outputs (2 ^ p.m) in
    let inside = vertices_below (2 ^ p.n) b in
    let light = leb b.weight 850 in
    let rest = and_r none (low && (inside && light)) f in
    let last = and_r low (inside && light) rest in
    record {
      some_output = ltb→lt 0 b.outputs (and_l none (low && (inside && light)) f);
      outputs_lt = ltb→lt b.outputs (2 ^ p.m) (and_l low (inside && light) rest);
      vertices = and_l inside light last;
      light = leb→le b.weight 850 (and_r inside light last);
    }

-- ---- bytes

pub low_bytes : (w x : ℕ) → Bytes (low w x)
low_bytes zero x = tt
low_bytes (suc w) x = (omega arith, low_bytes w (x / 256))

sets_bytes : (ss : List ℕ) → Bytes (join (map (low 8) ss))
sets_bytes [] = tt
sets_bytes (s ∷ ss) = all_append (λ (b : ℕ). b < 256) (low 8 s) (join (map (low 8) ss)) (low_bytes 8 s) (sets_bytes ss)

terms_bytes : (ts : List Term) → All Small ts → Bytes (join (map (λ t. t.care ∷ t.value ∷ t.outputs ∷ []) ts))
terms_bytes [] a = tt
terms_bytes (t ∷ ts) a = (a.0.0, (a.0.1, (a.0.2, terms_bytes ts a.1)))

flag_byte : (m : Bool) → cond m 1 0 < 256
flag_byte true = omega arith
flag_byte false = omega arith

pub get_d_byte : (bs : List ℕ) (i : ℕ) → Bytes bs → get_or bs i 0 < 256
get_d_byte [] i a = omega arith
get_d_byte (b ∷ bs) zero a = a.0
get_d_byte (b ∷ bs) (suc i) a = get_d_byte bs i a.1

-- ---- answers

-- an answer that fits its bytes, of a command with these bytes behind it
abbrev pub FitsBehind : List ℕ → Answer → Type 0
FitsBehind rest a = Fits a × (Bytes rest → Bytes (bytes_of a))

-- a page of any list of 64-bit sets
pub page_fits : (t : Context) (list : List ℕ) (m : Bool) → All (λ s. s < 2 ^ 64) list → FitsBehind t.rest (Answer.paged (page list (start t) (count t)) m)
unfolding page
page_fits t list m a = (
  all_page (λ (s : ℕ). s < 2 ^ 64) list (start t) (count t) a,
  λ b. (omega arith, (omega (arith, length-take (count t) (at_or_above list (start t)), get_d_byte t.rest 8 b), (flag_byte m, sets_bytes (page list (start t) (count t))))),
)

pub listed_small : {A X : Type 0} (k : Covering A X) → length k.cands ≤ 64 → All (λ s. s < 2 ^ 64) (irredundants k)
unfolding irredundants
listed_small k l =
    let sets = below (2 ^ length k.cands) in
    let h = pow_mono l in
    all_filter (λ (s : ℕ). s < 2 ^ 64) (irredundant k) sets (all_of (λ (s : ℕ). s < 2 ^ 64) sets (λ s m. omega (arith, h, below_e (2 ^ length k.cands) m)))

pub possible_page_fits : (t : Context) (list : List ℕ) (m : Bool) → All (λ s. s < 2 ^ 64) list → FitsBehind t.rest (Answer.possible_paged (page list (start t) (count t)) m)
possible_page_fits t list m a = let f = page_fits t list m a in (f.0, λ b. (omega arith, (f.1 b).1))

pub possibles_small : {A X : Type 0} (k : Covering A X) (rs : List Range) → length k.cands ≤ 64 → All (λ s. s < 2 ^ 64) (possibles k rs)
unfolding possibles
possibles_small k rs l = all_filter (λ (s : ℕ). s < 2 ^ 64) (possible rs (irredundants k)) (irredundants k) (listed_small k l)

cheapest_fits : (rest : List ℕ) (c s : ℕ) → c < 2 ^ 16 → s < 2 ^ 64 → FitsBehind rest (Answer.cheapest_is c s)
cheapest_fits rest c s h l = ((h, l), λ b. (omega arith, all_append (λ (b : ℕ). b < 256) (low 2 c) (low 8 s) (low_bytes 2 c) (low_bytes 8 s)))

-- a set of candidates that cost no more than `most` each
sum_small : {A : Type 0} (w : A → ℕ) (most : ℕ) (ts : List A) (s : ℕ) → All (λ t. w t ≤ most) ts → sum w (members ts s) ≤ most * length ts
sum_small w most [] s a = omega arith
sum_small w most (t ∷ ts) s a = go (bit 0 s) (sum_small w most ts (s / 2) a.1)
  where
    go : (b : Bool) → sum w (members ts (s / 2)) ≤ most * length ts → sum w (cond b (t ∷ members ts (s / 2)) (members ts (s / 2))) ≤ most * suc (length ts)
    go true h = omega (arith, a.0, mul-suc most (length ts))
    go false h = omega (arith, mul-suc most (length ts))

costs_small : (w : Prices) → Moderate w → (cs : List Candidate) → All SmallCandidate cs → All (λ c. candidate_cost w c ≤ 850) cs
costs_small w m cs = all_to SmallCandidate (λ c. candidate_cost w c ≤ 850) (weight_small w m) cs

-- ---- prices

pub usual_moderate : Moderate usual
usual_moderate = record { term = omega arith; literal = omega arith; connection = omega arith }

moderate : (w : Prices) → T (not (dear w)) → Moderate w
moderate w n =
    let term = ltb 50 w.term in
    let literal = ltb 50 w.literal in
    let connection = ltb 50 w.connection in
    let others = not_or_r term (literal || connection) n in
    record {
      term = nltb→le 50 w.term (not_or_l term (literal || connection) n);
      literal = nltb→le 50 w.literal (not_or_l literal connection others);
      connection = nltb→le 50 w.connection (not_or_r literal connection others);
    }

-- ---- the engine's rules, command by command

record LawfulAt (t : Context) (k : Kind) : Type 0 where
  numbered : All Numbered (refusals_of t k)
  sound : NoneApplies (refusals_of t k) → Sound t.problem → Sound (problem_after t k)
  fits : NoneApplies (refusals_of t k) → Sound t.problem → FitsBehind t.rest (answer_for t k)

sound_at : (place : ℕ) (q : Problem) → Sound q → Sound (at_place place q)
sound_at place q s = record { inputs = s.inputs; outputs = s.outputs; prices = s.prices; few = s.few; small = s.small; each_range = s.each_range; ranged = s.ranged; most = s.most }

pub sound_row : (q : Problem) (w : Row) → Sound q → Sound (add_row q w)
sound_row q w s = record { inputs = s.inputs; outputs = s.outputs; prices = s.prices; few = s.few; small = s.small; each_range = s.each_range; ranged = s.ranged; most = s.most }

sound_i : (t : Context) → NoneApplies (refusals_of t Kind.I) → Sound (problem_after t Kind.I)
unfolding refusals_of problem_after
sound_i t a =
    let h = twice (size (operand t 0) && size (operand t 1)) a.0 in
    record {
      inputs = leb→le (operand t 0) 8 (and_r (leb 1 (operand t 0)) (leb (operand t 0) 8) (and_l (size (operand t 0)) (size (operand t 1)) h));
      outputs = leb→le (operand t 1) 8 (and_r (leb 1 (operand t 1)) (leb (operand t 1) 8) (and_r (size (operand t 0)) (size (operand t 1)) h));
      prices = usual_moderate;
      few = omega arith;
      small = tt;
      each_range = refl;
      ranged = tt;
      most = tt;
    }

-- one candidate more
sound_more : (q : Problem) (c : Candidate) → T (not (leb 64 (length q.cands))) → SmallCandidate c → Sound q → Sound (add_candidate q c)
sound_more q c l a s = record {
  inputs = s.inputs;
  outputs = s.outputs;
  prices = s.prices;
  few = omega (arith, nleb→lt 64 (length q.cands) l, length-append q.cands (c ∷ []));
  small = all_append SmallCandidate q.cands (c ∷ []) s.small (a, tt);
  each_range = omega (arith, length-append q.cands (c ∷ []), length-append q.ranges (fixed w ∷ []), s.each_range);
  ranged = all_append (λ (r : Range). r.low ≤ r.high) q.ranges (fixed w ∷ []) s.ranged (le_refl w, tt);
  most = all_append (λ (r : Range). r.high ≤ 850) q.ranges (fixed w ∷ []) s.most (weight_small (prices_of q) s.prices c a, tt);
}
  where
    w : ℕ
    w = candidate_cost (prices_of q) c

-- T and A
sound_term : (t : Context) → NoneApplies (term_refusals t) → Sound t.problem → Sound (add_candidate t.problem (Candidate.term (operand_term t)))
sound_term t a s =
    let p = table_of t.problem in
    let u = operand_term t in
    sound_more t.problem (Candidate.term u) a.1.1.0 (formed_small p u s.inputs s.outputs (formed_e p u (twice (formed p u) a.0))) s

sound_block : (t : Context) → NoneApplies (block_refusals t.problem (operand_block t)) → Sound t.problem → Sound (add_candidate t.problem (Candidate.block (operand_block t)))
sound_block t a s =
    let p = table_of t.problem in
    let b = operand_block t in
    let f = formed_block p b (twice (block_formed p b) a.0) in
    let m = pow_mono s.outputs in
    sound_more t.problem (Candidate.block b) a.1.1.0 (record { outputs = omega (arith, f.outputs_lt); vertices = refl; weight = f.light }) s

fits_p : (t : Context) → NoneApplies (refusals_of t Kind.P) → Sound t.problem → FitsBehind t.rest (answer_for t Kind.P)
unfolding refusals_of answer_for
fits_p t a s =
    let p = table_of t.problem in
    (tt, λ b. (omega arith, (omega (arith, nltb→le 64 (length (primes p)) a.0), terms_bytes (primes p) (primes_small p s.inputs s.outputs))))

fits_c : (t : Context) → NoneApplies (refusals_of t Kind.C) → Sound t.problem → FitsBehind t.rest (answer_for t Kind.C)
unfolding refusals_of answer_for cost
fits_c t a s =
    let i = cheapest_irredundant (covering_of t) (twice (coverable (covering_of t)) a.0) in
    let h = pow_mono s.few in
    let c = sum_small (weigh (basis_of t.problem)) 850 t.problem.cands (cheapest (covering_of t)) (costs_small (prices_of t.problem) s.prices t.problem.cands s.small) in
    cheapest_fits t.rest (cost (covering_of t) (cheapest (covering_of t))) (cheapest (covering_of t)) (omega (arith, c, s.few)) (omega (arith, i.among))

products_fit : (rest ss : List ℕ) → length ss ≤ most_products → All (λ s. s < 2 ^ 64) ss → FitsBehind rest (Answer.products_are ss)
products_fit rest ss l a = ((omega arith, a), λ b. (omega arith, all_append (λ (b : ℕ). b < 256) (low 2 (length ss)) (join (map (low 8) ss)) (low_bytes 2 (length ss)) (sets_bytes ss)))

fits_n : (t : Context) → NoneApplies (refusals_of t Kind.N) → Sound t.problem → FitsBehind t.rest (answer_for t Kind.N)
unfolding refusals_of answer_for
fits_n t a s =
    let k = covering_of t in
    products_fit t.rest (products k) (few_products k a.1.0) (subst⁻¹ (All (λ s. s < 2 ^ 64)) (products_irredundants k) (listed_small k s.few))

abbrev primes_found : Context → List Candidate
primes_found t = terms_alone (primes (table_of t.problem))

primes_are_small : (t : Context) → Sound t.problem → All SmallCandidate (primes_found t)
primes_are_small t s =
    let p = table_of t.problem in
    all_map SmallCandidate Candidate.term (primes p) (primes_small p s.inputs s.outputs)

fixed_ranged : (ws : List ℕ) → Ranged (map fixed ws)
fixed_ranged [] = tt
fixed_ranged (w ∷ ws) = (le_refl w, fixed_ranged ws)

sound_g : (t : Context) → NoneApplies (refusals_of t Kind.G) → Sound t.problem → Sound (problem_after t Kind.G)
unfolding refusals_of problem_after
sound_g t a s =
    let r = range_of_g t.rest in
    let k = operand_number t in
    let rs = t.problem.ranges in
    record {
      inputs = s.inputs;
      outputs = s.outputs;
      prices = s.prices;
      few = s.few;
      small = s.small;
      each_range = length-set rs k r ∙ s.each_range;
      ranged = all_set (λ (r : Range). r.low ≤ r.high) k r rs (nltb→le r.high r.low (not_or_l (ltb r.high r.low) (ltb 850 r.high) a.1.0)) s.ranged;
      most = all_set (λ (r : Range). r.high ≤ 850) k r rs (nltb→le 850 r.high (not_or_r (ltb r.high r.low) (ltb 850 r.high) a.1.0)) s.most;
    }

lawful_at : (t : Context) (k : Kind) → LawfulAt t k
unfolding refusals_of problem_after answer_for
lawful_at t Kind.I = record { numbered = (omega arith, tt); sound = λ a s. sound_i t a; fits = λ a s. (tt, λ b. tt) }
lawful_at t Kind.W = record {
  numbered = (omega arith, tt);
  sound = λ a s. record { inputs = s.inputs; outputs = s.outputs; prices = moderate (operand_prices t) a.0; few = s.few; small = s.small; each_range = s.each_range; ranged = s.ranged; most = s.most };
  fits = λ a s. (tt, λ b. tt);
}
lawful_at t Kind.R = record { numbered = (omega arith, (omega arith, tt)); sound = λ a s. sound_row t.problem (row_of_r t.rest) s; fits = λ a s. (tt, λ b. tt) }
lawful_at t Kind.B = record {
  numbered = rows_numbered (rows_of_b t.rest) t.problem;
  sound = rows_keep Sound (λ q w a s. sound_row q w s) (rows_of_b t.rest) t.problem;
  fits = λ a s. (tt, λ b. tt);
}
lawful_at t Kind.T = record { numbered = (omega arith, (omega arith, (omega arith, tt))); sound = sound_term t; fits = λ a s. (tt, λ b. tt) }
lawful_at t Kind.F = record { numbered = (omega arith, (omega arith, (omega arith, tt))); sound = sound_block t; fits = λ a s. (tt, λ b. tt) }
lawful_at t Kind.P = record {
  numbered = (omega arith, tt);
  sound = λ a s. record {
    inputs = s.inputs;
    outputs = s.outputs;
    prices = s.prices;
    few = omega (arith, length-map (primes (table_of t.problem)) Candidate.term, nltb→le 64 (length (primes (table_of t.problem))) a.0);
    small = primes_are_small t s;
    each_range = length-map (map (weigh (basis_of t.problem)) (primes_found t)) fixed ∙ length-map (primes_found t) (weigh (basis_of t.problem));
    ranged = fixed_ranged (map (weigh (basis_of t.problem)) (primes_found t));
    most = all_map (λ (r : Range). r.high ≤ 850) fixed (map (weigh (basis_of t.problem)) (primes_found t))
        (all_map (λ (w : ℕ). w ≤ 850) (weigh (basis_of t.problem)) (primes_found t) (costs_small (prices_of t.problem) s.prices (primes_found t) (primes_are_small t s)));
  };
  fits = fits_p t;
}
lawful_at t Kind.A = record { numbered = (omega arith, (omega arith, (omega arith, tt))); sound = sound_term t; fits = λ a s. (tt, λ b. tt) }
lawful_at t Kind.D = record {
  numbered = (omega arith, tt);
  sound = λ a s. record {
    inputs = s.inputs;
    outputs = s.outputs;
    prices = s.prices;
    few = omega (arith, length_without (operand_number t) t.problem.cands (nleb→lt (length t.problem.cands) (operand_number t) a.0), s.few);
    small = all_without SmallCandidate (operand_number t) t.problem.cands s.small;
    each_range =
        let lt = nleb→lt (length t.problem.cands) (operand_number t) a.0 in
        omega (
          arith,
          length_without (operand_number t) t.problem.cands lt,
          length_without (operand_number t) t.problem.ranges (omega (arith, lt, s.each_range)),
          s.each_range,
        );
    ranged = all_without (λ (r : Range). r.low ≤ r.high) (operand_number t) t.problem.ranges s.ranged;
    most = all_without (λ (r : Range). r.high ≤ 850) (operand_number t) t.problem.ranges s.most;
  };
  fits = λ a s. (tt, λ b. tt);
}
lawful_at t Kind.G = record { numbered = (omega arith, (omega arith, tt)); sound = sound_g t; fits = λ a s. (tt, λ b. tt) }
lawful_at t Kind.«V» = record {
  numbered = (omega arith, tt);
  sound = λ a s. sound_at queried t.problem s;
  fits = λ a s.
      let all = possibles (covering_of t) t.problem.ranges in
      possible_page_fits t all (more all (start t) (count t)) (possibles_small (covering_of t) t.problem.ranges s.few);
}
lawful_at t Kind.L = record {
  numbered = (omega arith, tt);
  sound = λ a s. sound_at queried t.problem s;
  fits = λ a s. page_fits t (irredundants (covering_of t)) (more (irredundants (covering_of t)) (start t) (count t)) (listed_small (covering_of t) s.few);
}
lawful_at t Kind.C = record { numbered = (omega arith, tt); sound = λ a s. sound_at queried t.problem s; fits = fits_c t }
lawful_at t Kind.N = record { numbered = (omega arith, (omega arith, tt)); sound = λ a s. sound_at queried t.problem s; fits = fits_n t }
lawful_at t Kind.E = record { numbered = (omega arith, tt); sound = λ a s. s; fits = λ a s. (tt, λ b. (omega arith, tt)) }
lawful_at t Kind.none = record { numbered = tt; sound = λ a s. s; fits = λ a s. (tt, λ b. tt) }

pub refusals_of_no : (t : Context) (k : Kind) → All Numbered (refusals_of t k)
refusals_of_no t k = (lawful_at t k).numbered

pub after_sound : (t : Context) (k : Kind) → NoneApplies (refusals_of t k) → Sound t.problem → Sound (problem_after t k)
after_sound t k = (lawful_at t k).sound

-- 13: no byte is left behind an E
none_behind : (t : Context) → NoneApplies (refusals_of t Kind.E) → length t.rest ≡ 0
unfolding refusals_of
none_behind t a = omega (arith, nltb→le 0 (length t.rest) a.0)

pub engine_lawful : Lawful engine
unfolding answer
engine_lawful = record {
  numbered = λ x. refusals_of_no x x.kind;
  last = λ x e a. none_behind x (subst (λ (k : Kind). NoneApplies (refusals_of x k)) (is_kind x.kind Kind.E e) a);
  sound = λ x. after_sound x x.kind;
  fits = λ x. (lawful_at x x.kind).fits;
}

-- ---- whole jobs, by any rules

abbrev Fine : OnRuns
Fine q bs free at r = Sound q → All Fits r.answers × (Bytes bs → Bytes (join (map bytes_of r.answers)))

module _ (rules : Rules) (law : Lawful rules) where
  fine_ends : IfEnds rules Fine
  fine_ends q b bs free at h z e s =
      let x = context q b bs free in
      let o = law.fits x h.own s in
      ((o.0, tt), λ y. all_append (λ (b : ℕ). b < 256) (bytes_of (rules.answer x)) [] (o.1 y.1) tt)

  fine_goes : IfGoes rules Fine
  fine_goes q b bs free at h z e r f s =
      let x = context q b bs free in
      let o = law.fits x h.own s in
      let g = f (law.sound x h.own s) in (
        (o.0, g.0),
        λ y. all_append (λ (b : ℕ). b < 256) (bytes_of (rules.answer x)) (join (map bytes_of r.answers)) (o.1 y.1) (g.1 (all_drop (λ (b : ℕ). b < 256) (width (kind_of b)) bs y.1)),
      )

  fine : (job : List ℕ) (room : ℕ) → All Fits (run_by rules job room).answers × (Bytes job → Bytes (join (map bytes_of (run_by rules job room).answers)))
  fine job room = run_ind rules law Fine (λ q free at s. (tt, λ y. tt)) (λ q b bs free at n s. (tt, λ y. tt)) fine_ends fine_goes
      (λ r. All Fits r.answers × (Bytes job → Bytes (join (map bytes_of r.answers)))) job room (λ l. (tt, λ y. tt)) (λ l m r f. f none)
    where
      none : Sound empty
      none = record { inputs = omega arith; outputs = omega arith; prices = usual_moderate; few = omega arith; small = tt; each_range = refl; ranged = tt; most = tt }

  pub run_fits : (job : List ℕ) (room : ℕ) → All Fits (run_by rules job room).answers
  run_fits job room = (fine job room).0

  -- what a job of bytes writes is bytes
  pub run_bytes : (job : List ℕ) (room : ℕ) → Bytes job → Bytes (written (run_by rules job room))
  unfolding written
  run_bytes job room b = (fine job room).1 b
