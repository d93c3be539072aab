-- The laws behind the commands: a refusal, an answer of no bytes, an answer that is written, and one that is too long.
use Prim.Native.Nat.{ℕ, ◌^◌, ◌≤◌, ◌<◌, max}
use native.Mathlib.Omega.{arith}
use native.Mathlib.Decide.{ℕ_discrete}
use mathlib.Core.Path.{◌≡◌, refl, sym, ap, ◌∙◌, subst, subst⁻¹}
use mathlib.Core.Bool.{true, false, not, ◌&&◌}
use mathlib.Core.List.{List, [], ◌∷◌, ◌++◌}
use borrow.Author.Tests.{lt-ltb, le-ltb, le-leb, lt-leb}
use lib.Dec.{ltb, leb}
use lib.ListN.{length, drop, take, length-take}
use Rattle.model.specs.declared.Term.{Term}
use Rattle.model.specs.declared.Block.{Block}
use Rattle.model.specs.declared.Prices.{Prices}
use Rattle.model.specs.declared.reason.Reason.{Reason}
use Rattle.model.specs.Reasons.{number_of}
use Rattle.std.specs.Prelude.{Result, Ok, Err, IsErrAnd}
use Rattle.model.specs.Base.{without, All}
use Rattle.model.specs.Candidates.{Candidate}
use Rattle.model.specs.Primes.{primes}
use Rattle.model.specs.Ranges.{Range, between}
use Rattle.model.specs.Commands as model
use Rattle.model.specs.Commands.{Context, table_of, operand, Row, row_of_r, operand_term, operand_block, operand_number, range_of_g, operand_prices, add_block, problem_after}
use Rattle.model.specs.Answers.{Answer, bytes_of, answer_for}
use Rattle.model.specs.Refusals as model·refusals
use Rattle.model.specs.Refusals.{Refusal, refuse, first_of, refusals_of, size, dear, bad_range}
use Rattle.model.proofs.Runs.{Numbered, first_none, first_before, first_behind}
use Rattle.model.proofs.Sound.{refusals_of_no}
use Rattle.primes.specs.declared.prime_list.PrimeList.{PrimeList}
use Rattle.bits.specs.Lists.{Filled}
use Rattle.table.specs.Cubes.{MayOf}
use Rattle.incidence.specs.Stored.{BlocksAt, Adds, TakesOut}
use Rattle.primes.specs.Primes.{FirstTerms, AllPrimes}
use Rattle.primes.proofs.Uses.{whole_list}
use Rattle.answers.specs.Writers.{Replied}
use Rattle.problem.specs.declared.Problem.{Problem}
use Rattle.problem.specs.Problems.{started_with, at_place, with_prices, with_candidates, term_put, block_put, candidate_taken, range_put, WithPrimes, Sized, Holds, Reached}
use Rattle.problem.specs.Refusing.{row_refusals, term_refusals, TermRefusal, block_refusals, BlockRefusal}
use Rattle.problem.proofs.Refusing.{row_refusal_lem, held_bytes, term_here, block_here}
use Rattle.problem.proofs.Keeping.{after_i, after_w, with_row, after_row, row_within, held_count, after_term, after_block, after_p, after_d, after_g}
use Rattle.commands.specs.declared.Effect.{Effect}
use Rattle.commands.specs.Effects.{Outcome, refused_as, outcome, answer_bytes, late_refusal, Handled, Found, HandlesI, HandlesW, HandlesR, RefusesTerm}
use Rattle.commands.specs.Effects.{RefusesBlock, HandlesTerm, HandlesF, HandlesP, HandlesD, HandlesG, HandlesE}

-- a refusal that a `?` passes on
pub passed_on : (p : Problem) (r : Result Effect Reason) (y : Reason) → IsErrAnd r (λ e. e ≡ y) → outcome p r ≡ refused_as p (number_of y)
passed_on p (Ok e) y h = absurd h
passed_on p (Err e) y h = ap (λ (x : Reason). refused_as p (number_of x)) h

-- ---- 14 stands behind the command's own refusals

module _ (x : Context) (k : model.Kind) where
  pub late_own : (r : ℕ) → r ≡ first_of (refusals_of x k) → (r ≡ 0 → ⊥) → r ≡ late_refusal x k
  late_own r e n = e ∙ sym (first_before (refusals_of x k) (refuse 14 (ltb x.free (length (answer_bytes x k))) ∷ []) (λ z. n (e ∙ z)))

  late_last : first_of (refusals_of x k) ≡ 0 → late_refusal x k ≡ first_of (refuse 14 (ltb x.free (length (answer_bytes x k))) ∷ [])
  late_last e = first_behind (refusals_of x k) (refuse 14 (ltb x.free (length (answer_bytes x k))) ∷ []) (refusals_of_no x k) e

  late_long : 0 ≡ first_of (refusals_of x k) → x.free < length (answer_bytes x k) → 14 ≡ late_refusal x k
  late_long e l = sym (late_last (sym e) ∙ (rw (lt-ltb x.free (length (answer_bytes x k)) l)))

  late_none : 0 ≡ first_of (refusals_of x k) → length (answer_bytes x k) ≤ x.free → 0 ≡ late_refusal x k
  late_none e l = sym (late_last (sym e) ∙ (rw (le-ltb x.free (length (answer_bytes x k)) l)))

  -- a command that answers nothing has no other
  pub late_silent : answer_bytes x k ≡ [] → late_refusal x k ≡ first_of (refusals_of x k)
  late_silent a = go (ℕ_discrete (first_of (refusals_of x k)) 0)
    where
      go : Dec (first_of (refusals_of x k) ≡ 0) → late_refusal x k ≡ first_of (refusals_of x k)
      go (yes z) = sym (late_none (sym z) (omega (arith, ap length a))) ∙ sym z
      go (no n) = sym (late_own (first_of (refusals_of x k)) refl n)

  -- ---- effects

  pub handled_refused : (old : List ℕ) (p : Problem) (n : ℕ) (e : Outcome) → Holds p x.problem → e ≡ refused_as p n → n ≡ late_refusal x k → (n ≡ 0 → ⊥) → Handled x k old old e
  handled_refused old p n e h q l d = rw q record { number = l; refused = λ i. record { bytes = refl; problem = h }; answered = λ z. absurd (d z) }

  pub handled_silent : (old : List ℕ) (q : Problem) → answer_bytes x k ≡ [] → 0 ≡ first_of (refusals_of x k) → Holds q (problem_after x k)
      → Handled x k old old (record { number = 0; written = 0; problem = q })
  handled_silent old q a e h = record {
    number = late_none e (omega (arith, ap length a));
    refused = λ n. absurd (n refl);
    answered = λ z. record { written = sym (ap length a); bytes = rw a; problem = h };
  }

  pub handled_written : (old new : List ℕ) (q : Problem) (r : Result ℕ Reason) (n : ℕ) → r ≡ Ok n → x.free ≡ length old
      → Replied (answer_bytes x k) old new r → 0 ≡ first_of (refusals_of x k) → Holds q (problem_after x k)
      → Handled x k old new (record { number = 0; written = n; problem = q })
  handled_written old new q r n s f w e h =
      let w' : Replied (answer_bytes x k) old new (Ok n) = subst (Replied (answer_bytes x k) old new) s w in
      record {
        number = late_none e (omega (arith, w'.0, w'.1));
        refused = λ d. absurd (d refl);
        answered = λ z. record { written = w'.0; bytes = w'.2 ∙ ap (λ (i : ℕ). answer_bytes x k ++ drop i old) w'.0; problem = h };
      }

  pub handled_long : (old new : List ℕ) (p : Problem) (r : Result ℕ Reason) (y : Reason) (e : Outcome) → Holds p x.problem → r ≡ Err y → e ≡ refused_as p (number_of y) → x.free ≡ length old
      → Replied (answer_bytes x k) old new r → 0 ≡ first_of (refusals_of x k) → Handled x k old new e
  handled_long old new p r y e h s q f w o =
      let w' : Replied (answer_bytes x k) old new (Err y) = subst (Replied (answer_bytes x k) old new) s w in
      rw (q, w'.0) record { number = late_long o (omega (arith, w'.1)); refused = λ d. record { bytes = w'.2; problem = h }; answered = λ z. absurd (omega (arith, z)) }

-- ---- I, W and R

pub init_refused : (p : Problem) (n m r : ℕ) (e : Outcome) → r ≡ first_of (refuse 6 (not (size n && size m)) ∷ []) → (r ≡ 0 → ⊥) → e ≡ refused_as p r → HandlesI p n m e
unfolding refusals_of
init_refused p n m r e o d q x free h a b = handled_refused x model.Kind.I free p r e h q (late_own x model.Kind.I r (rw (a, b) o) d) d

pub init_good : (p : Problem) (n m r : ℕ) (q : Problem) → r ≡ first_of (refuse 6 (not (size n && size m)) ∷ []) → r ≡ 0 → q ≡ started_with n m model.begun
    → HandlesI p n m (record { number = 0; written = 0; problem = q })
unfolding refusals_of answer_for
init_good p n m r q o z s x free h a b = handled_silent x model.Kind.I free q refl (rw (a, b) (sym z ∙ o)) (subst⁻¹ (λ (y : Problem). Holds y (problem_after x model.Kind.I)) s (after_i x n m a b))

module _ (p : Problem) (w : Prices) (r : ℕ) (o : r ≡ first_of (refuse 16 (dear w) ∷ [])) where
  prices_here : (x : Context) → operand_prices x ≡ w → r ≡ first_of (refusals_of x model.Kind.W)
  unfolding refusals_of
  prices_here x a = o ∙ ap (λ (v : Prices). first_of (refuse 16 (dear v) ∷ [])) (sym a)

  pub prices_refused : (e : Outcome) → (r ≡ 0 → ⊥) → e ≡ refused_as p r → HandlesW p w e
  prices_refused e d q x free f l a = handled_refused x model.Kind.W free p r e f.holds q (late_own x model.Kind.W r (prices_here x a) d) d

  pub prices_kept : (q : Problem) → r ≡ 0 → q ≡ at_place model.in_prices (with_prices w p) → HandlesW p w (record { number = 0; written = 0; problem = q })
  unfolding answer_for
  prices_kept q z s x free f l a =
      let none = f.valid.early (omega (arith, l)) in
      handled_silent x model.Kind.W free q refl (sym z ∙ prices_here x a) (subst⁻¹ (λ (y : Problem). Holds y (problem_after x model.Kind.W)) s (after_w x p w f.holds none a))

-- a row: the vertex is that of a context's R, or of a row of its B
module _ (p : Problem) (sizes : Sized p) (v on dc r : ℕ) (o : r ≡ first_of (row_refusals p.settings.n p.settings.m p.rows.given v on dc)) where
  abbrev as_row : Row
  as_row = record { vertex = v; on = on; dc = dc }

  row_here : (x : Context) → Found p x → operand x 0 ≡ v → operand x 1 ≡ on → operand x 2 ≡ dc → r ≡ first_of (refusals_of x model.Kind.R)
  unfolding refusals_of
  row_here x f a b c = rw (a, b, c) (o ∙ row_refusal_lem p x.problem as_row sizes f.holds)

  pub row_refused : (e : Outcome) → (r ≡ 0 → ⊥) → e ≡ refused_as p r → HandlesR p v on dc e
  row_refused e d q x free f a b c = handled_refused x model.Kind.R free p r e f.holds q (late_own x model.Kind.R r (row_here x f a b c) d) d

  row_holds : (x : Context) → Found p x → operand x 0 ≡ v → operand x 1 ≡ on → operand x 2 ≡ dc → 0 ≡ first_of (refusals_of x model.Kind.R) → Holds (with_row as_row p) (problem_after x model.Kind.R)
  unfolding refusals_of problem_after
  row_holds x f a b c own =
      let none = first_none (refusals_of x model.Kind.R) (refusals_of_no x model.Kind.R) (sym own) in
      rw (a, b, c) (after_row p x.problem as_row f.holds f.valid f.begun (subst (λ (u : ℕ). u < 2 ^ x.problem.settings.n) a (row_within x.problem (row_of_r x.rest) none)))

  pub row_kept : (q : Problem) → r ≡ 0 → q ≡ with_row as_row p → HandlesR p v on dc (record { number = 0; written = 0; problem = q })
  unfolding answer_for
  row_kept q z s x free f a b c =
      let own : 0 ≡ first_of (refusals_of x model.Kind.R) = sym z ∙ row_here x f a b c in
      handled_silent x model.Kind.R free q refl own (subst⁻¹ (λ (y : Problem). Holds y (problem_after x model.Kind.R)) s (row_holds x f a b c own))

-- ---- T and A, and F

pub refuses_term : (p : Problem) (may : List ℕ) (t : Term) (r : ℕ) → Sized p → MayOf p.rows.on p.rows.dc may → TermRefusal may p.settings.n p.settings.m t r → RefusesTerm p t r
refuses_term p may t r z of f x d = term_here p x may t r z d.holds d.valid of f

pub refuses_block : (p : Problem) (may : List ℕ) (b : Block) (r : ℕ) → Sized p → MayOf p.rows.on p.rows.dc may → BlockRefusal may p.settings.n p.settings.m b r → RefusesBlock p b r
refuses_block p may b r z of f x d = block_here p x may b r z d.holds d.valid of f

-- a command that adds a candidate: 11 stands behind the two refusals of its operands, of which r is the first
module _ (p : Problem) (k : model.Kind) (x : Context) (f : Found p x) (two : List Refusal) (numbered : All Numbered two)
    (own : refusals_of x k ≡ two ++ (refuse 11 (leb 64 (length x.problem.cands)) ∷ [])) (r : ℕ) (o : r ≡ first_of two) where
  candidate_refused : (free : List ℕ) (e : Outcome) → (r ≡ 0 → ⊥) → e ≡ refused_as p r → Handled x k free free e
  candidate_refused free e d q =
      let first : r ≡ first_of (refusals_of x k) = sym (ap first_of own ∙ first_before two (refuse 11 (leb 64 (length x.problem.cands)) ∷ []) (λ z. d (o ∙ z)) ∙ sym o) in
      handled_refused x k free p r e f.holds q (late_own x k r first d) d

  behind : r ≡ 0 → first_of (refusals_of x k) ≡ first_of (refuse 11 (leb 64 (length x.problem.cands)) ∷ [])
  behind z = ap first_of own ∙ first_behind two (refuse 11 (leb 64 (length x.problem.cands)) ∷ []) numbered (sym o ∙ z)

  candidate_many : (free : List ℕ) (e : Outcome) → r ≡ 0 → 64 ≤ p.candidates.count → e ≡ refused_as p 11 → Handled x k free free e
  candidate_many free e z l q =
      let full : 11 ≡ first_of (refusals_of x k) = sym (behind z ∙ rw (le-leb 64 (length x.problem.cands) (omega (arith, held_count p x.problem f.holds)))) in
      handled_refused x k free p 11 e f.holds q (late_own x k 11 full (λ n. omega (arith, n))) (λ n. omega (arith, n))

  candidate_kept : (free : List ℕ) (q : Problem) → r ≡ 0 → p.candidates.count < 64 → answer_bytes x k ≡ [] → Holds q (problem_after x k)
      → Handled x k free free (record { number = 0; written = 0; problem = q })
  candidate_kept free q z l silent h =
      let room : 0 ≡ first_of (refusals_of x k) = sym (behind z ∙ rw (lt-leb 64 (length x.problem.cands) (omega (arith, held_count p x.problem f.holds)))) in
      handled_silent x k free q silent room h

-- an A is refused as a T is, answers nothing too, and leaves the same problem
both : (x : Context) (free : List ℕ) (e : Outcome) → Handled x model.Kind.T free free e → Handled x model.Kind.T free free e × Handled x model.Kind.A free free e
unfolding refusals_of answer_for problem_after
both x free e h = (
  h,
  record {
    number = h.number;
    refused = h.refused;
    answered = λ z. let a = h.answered z in record { written = a.written; bytes = a.bytes; problem = a.problem };
  },
)

module _ (p : Problem) (t : Term) (r : ℕ) (o : RefusesTerm p t r) where
  term_own : (x : Context) → operand_term x ≡ t → refusals_of x model.Kind.T ≡ term_refusals (table_of x.problem) t ++ (refuse 11 (leb 64 (length x.problem.cands)) ∷ [])
  unfolding refusals_of
  term_own x e = rw e

  pub term_refused : (e : Outcome) → (r ≡ 0 → ⊥) → e ≡ refused_as p r → HandlesTerm p t e
  term_refused e d q x free f a = both x free e (candidate_refused p model.Kind.T x f (term_refusals (table_of x.problem) t) (omega arith, (omega arith, tt)) (term_own x a) r (o x f) free e d q)

  pub term_many : (e : Outcome) → r ≡ 0 → 64 ≤ p.candidates.count → e ≡ refused_as p 11 → HandlesTerm p t e
  term_many e z l q x free f a = both x free e (candidate_many p model.Kind.T x f (term_refusals (table_of x.problem) t) (omega arith, (omega arith, tt)) (term_own x a) r (o x f) free e z l q)

  pub term_kept : (q : Problem) → r ≡ 0 → p.candidates.count < 64 → q ≡ at_place (max p.place model.in_candidates) (with_candidates (term_put p.settings.prices p.candidates t) p)
      → HandlesTerm p t (record { number = 0; written = 0; problem = q })
  unfolding answer_for problem_after
  term_kept q z l s x free f a = both x free (record { number = 0; written = 0; problem = q })
      (candidate_kept p model.Kind.T x f (term_refusals (table_of x.problem) t) (omega arith, (omega arith, tt)) (term_own x a) r (o x f) free q z l refl
      (subst⁻¹ (λ (y : Problem). Holds y (problem_after x model.Kind.T)) s (rw a (after_term p x.problem t f.holds l))))

module _ (p : Problem) (b : Block) (r : ℕ) (o : RefusesBlock p b r) where
  block_own : (x : Context) → operand_block x ≡ b → refusals_of x model.Kind.F ≡ block_refusals (table_of x.problem) b ++ (refuse 11 (leb 64 (length x.problem.cands)) ∷ [])
  unfolding refusals_of
  block_own x e = ap (model·refusals.block_refusals x.problem) e

  pub block_refused : (held : List ℕ) (e : Outcome) → (r ≡ 0 → ⊥) → e ≡ refused_as p r → HandlesF p b held held e
  block_refused held e d q x free f h a = record {
    handled = candidate_refused p model.Kind.F x f (block_refusals (table_of x.problem) b) (omega arith, (omega arith, tt)) (block_own x a) r (o x f) free e d q;
    left = λ n. refl;
    blocks = λ z. absurd (d (sym (ap (λ (e : Outcome). e.number) q) ∙ z));
  }

  pub block_many : (held : List ℕ) (e : Outcome) → r ≡ 0 → 64 ≤ p.candidates.count → e ≡ refused_as p 11 → HandlesF p b held held e
  block_many held e z l q x free f h a = record {
    handled = candidate_many p model.Kind.F x f (block_refusals (table_of x.problem) b) (omega arith, (omega arith, tt)) (block_own x a) r (o x f) free e z l q;
    left = λ n. refl;
    blocks = λ n. absurd (omega (arith, n, ap (λ (e : Outcome). e.number) q));
  }

  pub block_kept : (q : Problem) (old new : List ℕ) → r ≡ 0 → p.candidates.count < 64 → Adds p.candidates.count b old new
      → q ≡ at_place (max p.place model.in_candidates) (with_candidates (block_put p.candidates b) p) → HandlesF p b old new (record { number = 0; written = 0; problem = q })
  unfolding answer_for problem_after
  block_kept q old new z l g s x free f h a = let then = at_place (max p.place model.in_candidates) (with_candidates (block_put p.candidates b) p) in record {
    handled = candidate_kept p model.Kind.F x f (block_refusals (table_of x.problem) b) (omega arith, (omega arith, tt)) (block_own x a) r (o x f) free q z l refl
        (subst⁻¹ (λ (y : Problem). Holds y (problem_after x model.Kind.F)) s (subst⁻¹ (λ (u : Block). Holds then (add_block x.problem u)) a (after_block p x.problem b f.holds l)));
    left = λ n. absurd (n refl);
    blocks = λ n. subst⁻¹ (λ (u : Block). BlocksAt (x.problem.cands ++ (Candidate.block u ∷ [])) new) a (g x.problem.cands (sym (held_count p x.problem f.holds)) h);
  }

-- ---- P

module _ (p : Problem) (z : Sized p) (may : List ℕ) (of : MayOf p.rows.on p.rows.dc may) (list : PrimeList) (all : AllPrimes may p.settings.n list) where
  primes_here : (x : Context) → Found p x → FirstTerms (primes (table_of x.problem)) list
  primes_here x f = all (table_of x.problem) (of (table_of x.problem) p.settings.n z.inputs (held_bytes p x.problem z f.holds f.valid))

  pub few_primes : Reached p → list.count ≤ 64
  few_primes r =
      let l = all (table_of r.problem) (of (table_of r.problem) p.settings.n z.inputs (held_bytes p r.problem z r.holds r.valid)) in
      omega (arith, l.stored.counted, length-take 64 (primes (table_of r.problem)))

  pub primes_many : (old : List ℕ) (e : Outcome) → list.full ≡ true → e ≡ refused_as p 11 → HandlesP p old old e
  unfolding refusals_of
  primes_many old e g q x f s =
      handled_refused x model.Kind.P old p 11 e f.holds q
      (late_own x model.Kind.P 11 (rw (← (primes_here x f).more, g)) (λ n. omega (arith, n))) (λ n. omega (arith, n))

  module _ (old new : List ℕ) (r : Result ℕ Reason) (g : list.full ≡ false) (w : Replied (bytes_of (Answer.primes_are (take list.count list.terms))) old new r) where
    own_none : (x : Context) → Found p x → 0 ≡ first_of (refusals_of x model.Kind.P)
    unfolding refusals_of
    own_none x f = rw (← (primes_here x f).more, g)

    whole : (x : Context) → Found p x → Filled 64 (primes (table_of x.problem)) list.terms list.count
    whole x f = whole_list (primes (table_of x.problem)) list (primes_here x f) g

    replied : (x : Context) → Found p x → Replied (answer_bytes x model.Kind.P) old new r
    unfolding answer_for
    replied x f = subst (λ (ts : List Term). Replied (bytes_of (Answer.primes_are ts)) old new r) (whole x f).same w

    pub primes_long : (e : Outcome) (y : Reason) → r ≡ Err y → e ≡ refused_as p (number_of y) → HandlesP p old new e
    primes_long e y s q x f l = handled_long x model.Kind.P old new p r y e f.holds s q l (replied x f) (own_none x f)

    pub primes_kept : (q : Problem) (n : ℕ) → r ≡ Ok n → WithPrimes p list q → HandlesP p old new (record { number = 0; written = n; problem = q })
    primes_kept q n s w x f l = handled_written x model.Kind.P old new q r n s l (replied x f) (own_none x f) (after_p x p list q f.holds (whole x f) w)

-- ---- D

pub number_gone : (p : Problem) (k i : ℕ) (held : List ℕ) (e : Outcome) → i ≡ k → p.candidates.count ≤ i → e ≡ refused_as p 15 → HandlesD p k held held e
unfolding refusals_of
number_gone p k i held e j l q x free f h a =
    let own : leb (length x.problem.cands) (operand_number x) ≡ true = le-leb (length x.problem.cands) (operand_number x) (omega (arith, held_count p x.problem f.holds, a)) in
    record {
      handled = handled_refused x model.Kind.D free p 15 e f.holds q (late_own x model.Kind.D 15 (rw own) (λ n. omega (arith, n))) (λ n. omega (arith, n));
      left = λ n. refl;
      blocks = λ n. absurd (omega (arith, n, ap (λ (e : Outcome). e.number) q));
    }

pub number_taken : (p : Problem) (k i : ℕ) (old new : List ℕ) (q : Problem) → Sized p → i ≡ k → i < p.candidates.count → TakesOut p.candidates.blocks i old new
    → q ≡ with_candidates (candidate_taken p.candidates i) p → HandlesD p k old new (record { number = 0; written = 0; problem = q })
unfolding refusals_of answer_for problem_after
number_taken p k i old new q z j l t s x free f h a =
    let n = held_count p x.problem f.holds in
    let own : leb (length x.problem.cands) (operand_number x) ≡ false = lt-leb (length x.problem.cands) (operand_number x) (omega (arith, n, a)) in
    record {
      handled = handled_silent x model.Kind.D free q refl (rw own)
          (subst⁻¹ (λ (y : Problem). Holds y (problem_after x model.Kind.D)) s (after_d x p i f.holds (a ∙ sym j) l z.few));
      left = λ n. absurd (n refl);
      blocks = λ e. subst⁻¹ (λ (u : ℕ). BlocksAt (without u x.problem.cands) new) (a ∙ sym j) (t x.problem.cands (omega (arith, n)) f.holds.cands.blocks h);
    }

-- ---- G

module _ (p : Problem) (k i low high : ℕ) (j : i ≡ k) where
  pub range_gone : (e : Outcome) → p.candidates.count ≤ i → e ≡ refused_as p 15 → HandlesG p k low high e
  unfolding refusals_of
  range_gone e l q x free f a g =
      let own : leb (length x.problem.cands) (operand_number x) ≡ true = le-leb (length x.problem.cands) (operand_number x) (omega (arith, held_count p x.problem f.holds, a)) in
      handled_refused x model.Kind.G free p 15 e f.holds q (late_own x model.Kind.G 15 (rw own) (λ n. omega (arith, n))) (λ n. omega (arith, n))

  module _ (r : ℕ) (l : i < p.candidates.count) (o : r ≡ first_of (refuse 19 (bad_range (between low high)) ∷ [])) where
    range_here : (x : Context) → Found p x → operand_number x ≡ k → range_of_g x.rest ≡ between low high → r ≡ first_of (refusals_of x model.Kind.G)
    unfolding refusals_of
    range_here x f a g =
        let n = held_count p x.problem f.holds in
        let own : leb (length x.problem.cands) (operand_number x) ≡ false = lt-leb (length x.problem.cands) (operand_number x) (omega (arith, n, a)) in
        rw own (o ∙ ap (λ (s : Range). first_of (refuse 19 (bad_range s) ∷ [])) (sym g))

    pub range_refused : (e : Outcome) → (r ≡ 0 → ⊥) → e ≡ refused_as p r → HandlesG p k low high e
    range_refused e d q x free f a g = handled_refused x model.Kind.G free p r e f.holds q (late_own x model.Kind.G r (range_here x f a g) d) d

    pub range_kept : (q : Problem) → r ≡ 0 → q ≡ at_place model.queried (with_candidates (range_put p.candidates i low high) p)
        → HandlesG p k low high (record { number = 0; written = 0; problem = q })
    unfolding answer_for
    range_kept q z s x free f a g = handled_silent x model.Kind.G free q refl (sym z ∙ range_here x f a g)
        (subst⁻¹ (λ (y : Problem). Holds y (problem_after x model.Kind.G)) s (after_g x p i low high f.holds (a ∙ sym j) g l))

-- ---- E

pub end_early : (p : Problem) (rest : ℕ) (old : List ℕ) (e : Outcome) → 0 < rest → e ≡ refused_as p 13 → HandlesE p rest old old e
unfolding refusals_of
end_early p rest old e l q x h r f =
    handled_refused x model.Kind.E old p 13 e h q (late_own x model.Kind.E 13 (rw (r, lt-ltb 0 rest l)) (λ n. omega (arith, n))) (λ n. omega (arith, n))

end_none : (x : Context) (rest : ℕ) → rest ≤ 0 → length x.rest ≡ rest → 0 ≡ first_of (refusals_of x model.Kind.E)
unfolding refusals_of
end_none x rest l r = rw (r, le-ltb 0 rest l)

module _ (p : Problem) (rest : ℕ) (old new : List ℕ) (r : Result ℕ Reason) (l : rest ≤ 0) (w : Replied (bytes_of Answer.ended) old new r) where
  pub end_long : (e : Outcome) (y : Reason) → r ≡ Err y → e ≡ refused_as p (number_of y) → HandlesE p rest old new e
  unfolding answer_for
  end_long e y s q x h i f = handled_long x model.Kind.E old new p r y e h s q f w (end_none x rest l i)

  pub end_written : (n : ℕ) → r ≡ Ok n → HandlesE p rest old new (record { number = 0; written = n; problem = p })
  unfolding answer_for problem_after
  end_written n s x h i f = handled_written x model.Kind.E old new p r n s f w (end_none x rest l i) h
