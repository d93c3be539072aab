-- What every problem of a job keeps: its rows are well formed and its candidates legal.
use Prim.Native.Nat.{ℕ, ◌^◌, ◌≤◌, ◌<◌, min, max}
use native.Mathlib.Omega.{arith}
use native.Mathlib.Decide.{ℕ_discrete}
use mathlib.Core.Path.{◌≡◌, refl, ap, ◌∙◌, subst, subst⁻¹}
use mathlib.Core.Bool.{Bool, true, false, not, cond, ◌&&◌, ◌||◌}
use mathlib.Core.List.{List, [], ◌∷◌, ◌++◌}
use lib.Dec.{T, leb, eqb, leb→le, le→leb, nleb→lt}
use lib.Bits.{and_zero_r}
use lib.Pow.{pow_pos}
use lib.Seq.{get_or-set_same, get_or-set_other}
use lib.ListN.{length, length-set, length-replicate}
use Rattle.model.specs.Base.{some, without, All}
use Rattle.model.specs.Table.{Table, Term, formed, holds_no_off, legal}
use Rattle.model.specs.Primes.{primes}
use Rattle.model.specs.Blocks.{block_formed, block_holds_no_off}
use Rattle.model.specs.Ranges.{Range}
use Rattle.model.specs.Candidates.{Candidate, terms_alone, candidate_legal}
use Rattle.model.specs.Commands.{at_start, begun, among_rows, in_candidates, queried, Kind, form_of, is, allowed, Problem, Context, operand, operand_term, operand_block}
use Rattle.model.specs.Commands.{operand_number, Row, row_of_r, rows_of_b, with_row, with_rows, at_place, with_cands, add_row, add_rows, add_candidate, problem_after, empty, table_of}
use Rattle.model.specs.Refusals.{size, bad_row, row_refusals, rows_refusals, term_refusals, block_refusals, refusals_of}
use Rattle.model.specs.Rules.{Rules, engine}
use Rattle.model.specs.Job.{run, run_by}
use Rattle.model.specs.Library.{bad_vertex}
use Rattle.model.specs.Invariants.{Sound, Valid}
use Rattle.model.proofs.Lists.{zero_at, twice, not_or_l, and_l, and_r, and_i, all_append, all_without, all_of, all_map}
use Rattle.model.proofs.Cubes.{prime_e, primes_e}
use Rattle.model.proofs.Runs.{NoneApplies, Lawful, context, OnRuns, run_ind}
use Rattle.model.proofs.RowByRow.{rows_keep}
use Rattle.model.proofs.Sound.{usual_moderate, sound_row, after_sound, engine_lawful}

-- ---- rows

zeros_good : (m : ℕ) → T (not (bad_row m 0 0))
zeros_good m = rw (and_zero_r 0) (go (leb (2 ^ m) 0) refl)
  where
    go : (b : Bool) → leb (2 ^ m) 0 ≡ b → T (not (b || b))
    go true e = absurd (omega (arith, pow_pos m, leb→le (2 ^ m) 0 (rw e tt)))
    go false e = tt

set_good : (q : Problem) (u x y : ℕ) → u < length q.rows.on → u < length q.rows.dc → T (not (bad_row q.settings.m x y)) → ((v : ℕ) → T (not (bad_vertex (table_of q) v)))
    → (v : ℕ) → T (not (bad_vertex (table_of (with_rows (with_row q.rows u x y) q)) v))
set_good q u x y h k g f v = go (ℕ_discrete v u)
  where
    go : Dec (v ≡ u) → T (not (bad_vertex (table_of (with_rows (with_row q.rows u x y) q)) v))
    go (yes e) = rw (e, get_or-set_same q.rows.on u x 0 h, get_or-set_same q.rows.dc u y 0 k) g
    go (no d) = rw (get_or-set_other q.rows.on u v x 0 d, get_or-set_other q.rows.dc u v y 0 d) (f v)

-- ---- one command

pub place_one : (k : Kind) (n : ℕ) → T (not (is k Kind.I)) → T (allowed k n) → begun ≤ n
place_one k n i a = leb→le begun n (subst (λ (b : Bool). T (leb (cond b at_start begun) n)) (no (is k Kind.I) i) (and_l (leb (cond (is k Kind.I) at_start begun) n) _ a))
  where
    no : (b : Bool) → T (not b) → b ≡ false
    no true t = absurd t
    no false t = refl

pub place_last : (k : Kind) (n : ℕ) → T (allowed k n) → n ≤ (form_of k).last
place_last k n a = leb→le n (form_of k).last (and_r (leb (cond (is k Kind.I) at_start begun) n) (leb n (form_of k).last) a)

abbrev first_place : Kind → ℕ
first_place k = cond (is k Kind.I) at_start begun

allowed_i : (k : Kind) (n : ℕ) → first_place k ≤ n → n ≤ (form_of k).last → T (allowed k n)
allowed_i k n l m = and_i (leb (first_place k) n) (leb n (form_of k).last) (le→leb (first_place k) n l) (le→leb n (form_of k).last m)

first_le : (k : Kind) → first_place k ≤ begun
first_le k = go (is k Kind.I)
  where
    go : (b : Bool) → cond b at_start begun ≤ begun
    go true = omega arith
    go false = omega arith

pub allowed_from : (k : Kind) (n : ℕ) → begun ≤ n → n ≤ (form_of k).last → T (allowed k n)
allowed_from k n l m = allowed_i k n (omega (arith, first_le k)) m

-- and at a lower place, but behind I if it was
pub allowed_below : (k : Kind) (n p : ℕ) → T (allowed k n) → min begun n ≤ p → p ≤ n → T (allowed k p)
allowed_below k n p a l m =
    let first = leb→le (first_place k) n (and_l (leb (first_place k) n) (leb n (form_of k).last) a) in
    allowed_i k p (omega (arith, first_le k)) (omega (arith, place_last k n a))

valid_i : (t : Context) → NoneApplies (refusals_of t Kind.I) → Valid t.problem → Valid (problem_after t Kind.I)
unfolding refusals_of problem_after
valid_i t a s =
    let h = twice (size (operand t 0) && size (operand t 1)) a.0 in
    record {
      sound = after_sound t Kind.I a s.sound;
      sizes = λ l. (and_l (size (operand t 0)) (size (operand t 1)) h, and_r (size (operand t 0)) (size (operand t 1)) h);
      rows = λ l. (length-replicate (2 ^ operand t 0) 0, length-replicate (2 ^ operand t 0) 0);
      good = λ v. rw (zero_at (2 ^ operand t 0) v) (zeros_good (operand t 1));
      early = λ l. refl;
      legal = tt;
    }

-- W, behind I alone
valid_w : (t : Context) → T (allowed Kind.W t.problem.place) → NoneApplies (refusals_of t Kind.W) → Valid t.problem → Valid (problem_after t Kind.W)
unfolding problem_after
valid_w t p a s =
    let o = place_one Kind.W t.problem.place tt p in
    let none = s.early (omega (arith, place_last Kind.W t.problem.place p)) in
    record { sound = after_sound t Kind.W a s.sound; sizes = λ l. s.sizes o; rows = λ l. s.rows o; good = s.good; early = λ l. none; legal = s.legal }

-- a row, while rows may come
pub valid_row : (q : Problem) (w : Row) → begun ≤ q.place → q.place ≤ among_rows → NoneApplies (row_refusals q w) → Valid q → Valid (add_row q w)
valid_row q w o m a s =
    let none = s.early m in
    record {
      sound = sound_row q w s.sound;
      sizes = λ l. s.sizes o;
      rows = λ l. (length-set q.rows.on w.vertex w.on ∙ (s.rows o).0, length-set q.rows.dc w.vertex w.dc ∙ (s.rows o).1);
      good = set_good q w.vertex w.on w.dc (omega (arith, within, (s.rows o).0)) (omega (arith, within, (s.rows o).1)) a.1.0 s.good;
      early = λ l. none;
      legal = subst⁻¹ (All (λ c. T (candidate_legal (table_of (add_row q w)) c))) none tt;
    }
  where
    within : w.vertex < 2 ^ q.settings.n
    within =
        let high = leb (2 ^ q.settings.n) w.vertex in
        nleb→lt (2 ^ q.settings.n) w.vertex (not_or_l high (some (eqb w.vertex) q.rows.given) a.0)

abbrev InRows : Problem → Type 0
InRows q = (begun ≤ q.place) × (q.place ≤ among_rows) × Valid q

valid_rows : (q : Problem) (ws : List Row) → begun ≤ q.place → q.place ≤ among_rows → NoneApplies (rows_refusals q ws) → Valid q → Valid (add_rows q ws)
valid_rows q ws o m a s = (rows_keep InRows (λ r w b v. (omega arith, omega arith, valid_row r w v.0 v.1 b v.2)) ws q a (o, m, s)).2

-- other candidates, behind the rows
valid_cands : (q : Problem) (place : ℕ) (cs : List Candidate) (ws : List ℕ) (rs : List Range) → in_candidates ≤ place → begun ≤ q.place → Valid q → All (λ c. T (candidate_legal (table_of q) c)) cs
    → Sound (at_place place (with_cands cs ws rs q)) → Valid (at_place place (with_cands cs ws rs q))
valid_cands q place cs ws rs i o v l s = record { sound = s; sizes = λ h. v.sizes o; rows = λ h. v.rows o; good = v.good; early = λ h. absurd (omega (arith, h)); legal = l }

legal_term : (t : Context) → NoneApplies (term_refusals t) → T (legal (table_of t.problem) (operand_term t))
unfolding legal
legal_term t a =
    let p = table_of t.problem in
    and_i (formed p (operand_term t)) (holds_no_off p (operand_term t)) (twice (formed p (operand_term t)) a.0) (twice (holds_no_off p (operand_term t)) a.1.0)

legal_block : (t : Context) → NoneApplies (block_refusals t.problem (operand_block t)) → T (candidate_legal (table_of t.problem) (Candidate.block (operand_block t)))
legal_block t a =
    let p = table_of t.problem in
    let b = operand_block t in
    and_i (block_formed p b) (block_holds_no_off p b) (twice (block_formed p b) a.0) (twice (block_holds_no_off p b) a.1.0)

-- one candidate more: T, F and A
valid_more : (q : Problem) (c : Candidate) → begun ≤ q.place → T (candidate_legal (table_of q) c) → Valid q → Sound (add_candidate q c) → Valid (add_candidate q c)
valid_more q c o l s = valid_cands q (max q.place in_candidates) (q.cands ++ (c ∷ [])) _ _ (omega arith) o s
    (all_append (λ (c : Candidate). T (candidate_legal (table_of q) c)) q.cands (c ∷ []) s.legal (l, tt))

primes_legal : (p : Table) → All (λ u. T (legal p u)) (primes p)
primes_legal p = all_of (λ (u : Term). T (legal p u)) (primes p) (λ u m. (prime_e p u (primes_e p u m)).0)

pub after_valid : (t : Context) (k : Kind) → T (allowed k t.problem.place) → NoneApplies (refusals_of t k) → Valid t.problem → Valid (problem_after t k)
unfolding refusals_of problem_after
after_valid t Kind.I p a s = valid_i t a s
after_valid t Kind.W p a s = valid_w t p a s
after_valid t Kind.R p a s = valid_row t.problem (row_of_r t.rest) (place_one Kind.R t.problem.place tt p) (place_last Kind.R t.problem.place p) a s
after_valid t Kind.B p a s = valid_rows t.problem (rows_of_b t.rest) (place_one Kind.B t.problem.place tt p) (place_last Kind.B t.problem.place p) a s
after_valid t Kind.T p a s = valid_more t.problem (Candidate.term (operand_term t)) (place_one Kind.T t.problem.place tt p) (legal_term t a) s (after_sound t Kind.T a s.sound)
after_valid t Kind.F p a s = valid_more t.problem (Candidate.block (operand_block t)) (place_one Kind.F t.problem.place tt p) (legal_block t a) s (after_sound t Kind.F a s.sound)
after_valid t Kind.P i a s =
    let p = table_of t.problem in
    let ts = primes p in
    valid_cands t.problem queried (terms_alone ts) _ _ (omega arith) (place_one Kind.P t.problem.place tt i) s
    (all_map (λ (c : Candidate). T (candidate_legal p c)) Candidate.term ts (primes_legal p)) (after_sound t Kind.P a s.sound)
after_valid t Kind.A p a s = valid_more t.problem (Candidate.term (operand_term t)) (place_one Kind.A t.problem.place tt p) (legal_term t a) s (after_sound t Kind.A a s.sound)
after_valid t Kind.D p a s = record {
  sound = after_sound t Kind.D a s.sound;
  sizes = s.sizes;
  rows = s.rows;
  good = s.good;
  early = λ l. ap (without (operand_number t)) (s.early l);
  legal = all_without (λ (c : Candidate). T (candidate_legal (table_of t.problem) c)) (operand_number t) t.problem.cands s.legal;
}
after_valid t Kind.G p a s = valid_cands t.problem queried t.problem.cands _ _ (omega arith) (place_one Kind.G t.problem.place tt p) s s.legal (after_sound t Kind.G a s.sound)
after_valid t Kind.«V» p a s = valid_cands t.problem queried t.problem.cands _ _ (omega arith) (place_one Kind.«V» t.problem.place tt p) s s.legal (after_sound t Kind.«V» a s.sound)
after_valid t Kind.L p a s = valid_cands t.problem queried t.problem.cands _ _ (omega arith) (place_one Kind.L t.problem.place tt p) s s.legal (after_sound t Kind.L a s.sound)
after_valid t Kind.N p a s = valid_cands t.problem queried t.problem.cands _ _ (omega arith) (place_one Kind.N t.problem.place tt p) s s.legal (after_sound t Kind.N a s.sound)
after_valid t Kind.C p a s = valid_cands t.problem queried t.problem.cands _ _ (omega arith) (place_one Kind.C t.problem.place tt p) s s.legal (after_sound t Kind.C a s.sound)
after_valid t Kind.E p a s = s
after_valid t Kind.none p a s = s

-- ---- whole jobs

pub valid_empty : Valid empty
valid_empty = record {
  sound = record { inputs = omega arith; outputs = omega arith; prices = usual_moderate; few = omega arith; small = tt; each_range = refl; ranged = tt; most = tt };
  sizes = λ l. absurd (omega (arith, l));
  rows = λ l. absurd (omega (arith, l));
  good = λ v. zeros_good 0;
  early = λ l. refl;
  legal = tt;
}

abbrev Keeps : OnRuns
Keeps q bs free at r = Valid q → All (λ x. Valid x.problem) r.contexts

-- every command of a job finds a valid problem, by rules that keep it so
pub valid_by : (rules : Rules) → Lawful rules → ((x : Context) → T (allowed x.kind x.problem.place) → NoneApplies (rules.own x) → Valid x.problem → Valid (rules.after x))
    → (job : List ℕ) (room : ℕ) → All (λ x. Valid x.problem) (run_by rules job room).contexts
valid_by rules law keeps job room = run_ind rules law Keeps (λ q free at v. tt) (λ q b bs free at n v. (v, tt)) (λ q b bs free at h z e v. (v, tt))
    (λ q b bs free at h z e r f v. (v, f (keeps (context q b bs free) h.place h.own v)))
    (λ r. All (λ x. Valid x.problem) r.contexts) job room (λ l. tt) (λ l m r f. f valid_empty)

pub valid : (job : List ℕ) (room : ℕ) → All (λ x. Valid x.problem) (run job room).contexts
valid = valid_by engine engine_lawful (λ x. after_valid x x.kind)
