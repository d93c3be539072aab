-- Paper 01, "Job stream": the exported call, and what its caller reads from the result and the bytes of the buffer.
use Rattle.std.specs.Prelude.{ℕ, zero, suc, ◌-◌, ◌/◌, ◌%◌, ◌^◌, ◌≤◌, ◌<◌, ◌≡◌, cond, List, [], ◌∷◌, eqb, get_or, length, take, drop}
use Rattle.model.specs.Base.{filter, Bytes}
use Rattle.model.specs.Table.{Term, term}
use Rattle.model.specs.Commands.{number}
use Rattle.model.specs.Answers.{Answer, bytes_of, has_bytes}
use Rattle.model.specs.Refusals.{largest_number}
use Rattle.model.specs.Rules.{Rules, engine}
use Rattle.model.specs.Job.{Run, run_by, written, packed, buffer_after}

-- ---- a decoder of answer bytes

abbrev pub read_terms : ℕ → List ℕ → List Term
read_terms zero bs = []
read_terms (suc k) bs = term (get_or bs 0 0) (get_or bs 1 0) (get_or bs 2 0) ∷ read_terms k (drop 3 bs)

abbrev pub read_sets : ℕ → List ℕ → List ℕ
read_sets zero bs = []
read_sets (suc k) bs = number (take 8 bs) ∷ read_sets k (drop 8 bs)

-- the answer that begins with byte b, with these bytes behind it: 0x70 a P's, 0x6C an L's, 0x76 a V's, 0x63 a C's, 0x6E an N's, 0x65 an E's
unfoldable pub decoded : ℕ → List ℕ → Answer
decoded b bs =
    let primes = Answer.primes_are (read_terms (get_or bs 0 0) (drop 1 bs)) in
    let page = Answer.paged (read_sets (get_or bs 0 0) (drop 2 bs)) (eqb (get_or bs 1 0) 1) in
    let cheapest = Answer.cheapest_is (number (take 2 bs)) (number (take 8 (drop 2 bs))) in
    let products = Answer.products_are (read_sets (number (take 2 bs)) (drop 2 bs)) in
    let possible = Answer.possible_paged (read_sets (get_or bs 0 0) (drop 2 bs)) (eqb (get_or bs 1 0) 1) in
    let e = cond (eqb b 0x65) Answer.ended (cond (eqb b 0x76) possible Answer.nothing) in
    let c = cond (eqb b 0x63) cheapest (cond (eqb b 0x6e) products e) in
    let l = cond (eqb b 0x6c) page c in
    cond (eqb b 0x70) primes l

-- the answers in some bytes, one behind the other; k bounds how many
abbrev pub read_up_to : ℕ → List ℕ → List Answer
read_up_to zero bs = []
read_up_to (suc k) [] = []
read_up_to (suc k) (b ∷ bs) = let a = decoded b bs in a ∷ read_up_to k (drop (length (bytes_of a) - 1) bs)

unfoldable pub read : List ℕ → List Answer
read bs = read_up_to (length bs) bs

-- ---- one call

-- "on two byte buffers, job and answers": the answer buffer before and after, and what the call returned
pub record Call : Type 0 where
  pub job : List ℕ
  pub before : List ℕ
  pub returned : ℕ
  pub after : List ℕ

-- "number × 2^32 + offset × 2^16 + written" taken apart
abbrev pub number_of : Call → ℕ
number_of c = c.returned / 2 ^ 32

abbrev pub offset_of : Call → ℕ
offset_of c = c.returned / 2 ^ 16 % 2 ^ 16

abbrev pub written_of : Call → ℕ
written_of c = c.returned % 2 ^ 16

-- the answers that the buffer holds
abbrev pub replies : Call → List Answer
replies c = read (take (written_of c) c.after)

-- ---- its contract, and what its caller may rely on

module _ (rules : Rules) where
  -- what the rules make of its job
  abbrev pub ran_by : Call → Run
  ran_by c = run_by rules c.job (length c.before)

  -- the contract of an exported call: what it returned, and every byte of the buffer after it
  pub record MetBy (c : Call) : Type 0 where
    pub returned : c.returned ≡ packed (ran_by c)
    pub after : c.after ≡ buffer_after (ran_by c) c.before

  -- what a caller may rely on (law `caller`): what it reads is what the definitions say
  pub record ReadsBy (c : Call) : Type 0 where
    pub number : number_of c ≡ (ran_by c).number
    pub offset : offset_of c ≡ (ran_by c).offset
    pub answers : replies c ≡ filter has_bytes (ran_by c).answers
    -- the bytes up to `written`, and "no later byte has changed"
    pub bytes : take (written_of c) c.after ≡ written (ran_by c)
    pub rest : drop (written_of c) c.after ≡ drop (written_of c) c.before
    pub whole : length c.after ≡ length c.before
    pub small : Bytes c.job → Bytes c.before → Bytes c.after
    -- demand 1: an accepted result, or one numbered refusal with its offset
    pub numbered : number_of c ≤ largest_number
    pub accepted : number_of c ≡ 0 → offset_of c ≡ length c.job
    pub too_long : number_of c ≡ 1 → (offset_of c ≡ 0) × (written_of c ≡ 0)
    pub cut : number_of c ≡ 2 → offset_of c ≡ length c.job
    pub refused : 3 ≤ number_of c → offset_of c < length c.job

-- the engine's
abbrev pub ran : Call → Run
ran c = ran_by engine c

abbrev pub Met : Call → Type 0
Met c = MetBy engine c

abbrev pub Reads : Call → Type 0
Reads c = ReadsBy engine c
