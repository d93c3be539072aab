-- K6: a job with zeros for W's operands, command by command, and a command that finds its problem without prices, weights and ranges.
use Prim.Native.Nat.{ℕ, ◌≤◌}
use native.Mathlib.Omega.{arith}
use mathlib.Core.Path.{◌≡◌, refl, sym, ap, ◌∙◌}
use mathlib.Core.Logic.{◌⊎◌, inl, inr}
use mathlib.Core.Bool.{Bool, true, false, not, cond}
use mathlib.Core.List.{List, [], ◌∷◌, ◌++◌, append-nil}
use lib.Dec.{T}
use lib.Seq.{take_all, take_at, drop_at, length-take-le}
use lib.ListN.{length, take, drop, replicate, length-replicate, length-append, length-drop, length-take, drop_of_length-le}
use Rattle.model.specs.Products.{holders, joined, kept, products_up_to, products, has_too_many}
use Rattle.model.specs.Sets.{coverable, cover, redundant, irredundant, irredundants}
use Rattle.model.specs.Candidates.{usual}
use Rattle.model.specs.Commands.{Kind, is, kind_of, width, Problem, Context, Row, rows_of_b, add_row, add_rows, with_prices, with_cands, problem_after}
use Rattle.model.specs.Answers.{Answer, bytes_of, has_bytes, answer_for}
use Rattle.model.specs.Refusals.{Refusal, row_refusals, rows_refusals, refusals_of}
use Rattle.model.specs.Pieces.{reach, pieces}
use Rattle.model.specs.Pricing.{unpriced, uncosted}
use Rattle.model.proofs.Lists.{T_false}
use Rattle.model.proofs.Pieces.{later, pieces_step, pieces_ind, Within, reach_width, all_or_within}

-- ---- the job with zeros, command by command

pub unpriced_none : unpriced [] ≡ []
unfolding unpriced pieces
unpriced_none = refl

-- the operands of a command there, and what stands behind its byte
abbrev zeroed : ℕ → List ℕ → List ℕ
zeroed b bs = let own = take (reach (kind_of b) bs) bs in cond (is (kind_of b) Kind.W) (replicate (length own) 0) own

abbrev pub behind : ℕ → List ℕ → List ℕ
behind b bs = zeroed b bs ++ unpriced (later b bs)

pub unpriced_step : (b : ℕ) (bs : List ℕ) → unpriced (b ∷ bs) ≡ b ∷ behind b bs
unfolding unpriced
unpriced_step b bs = rw (pieces_step b bs)

zeroed_length : (b : ℕ) (bs : List ℕ) → length (zeroed b bs) ≡ length (take (reach (kind_of b) bs) bs)
zeroed_length b bs = go (is (kind_of b) Kind.W) (take (reach (kind_of b) bs) bs)
  where
    go : (w : Bool) (own : List ℕ) → length (cond w (replicate (length own) 0) own) ≡ length own
    go true own = length-replicate (length own) 0
    go false own = refl

-- it is as long
pub unpriced_length : (job : List ℕ) → length (unpriced job) ≡ length job
unpriced_length = pieces_ind (λ job. length (unpriced job) ≡ length job) (ap length unpriced_none) (λ b bs h.
    let n = reach (kind_of b) bs in
    omega (arith, h, ap length (unpriced_step b bs), length-append (zeroed b bs) (unpriced (later b bs)), zeroed_length b bs, length-take n bs, length-drop n bs))

pub behind_length : (b : ℕ) (bs : List ℕ) → length (behind b bs) ≡ length bs
behind_length b bs = let e = ap length (unpriced_step b bs) in omega (arith, e, unpriced_length (b ∷ bs))

-- behind a command with all its operands that is not E, the rest with zeros
pub behind_drop : (b : ℕ) (bs : List ℕ) → Within b bs → drop (width (kind_of b)) (behind b bs) ≡ unpriced (drop (width (kind_of b)) bs)
behind_drop b bs i =
    let e = reach_width b bs i bs in
    let n = length-take-le (width (kind_of b)) bs i.operands in
    drop_at (zeroed b bs) (unpriced (later b bs)) (width (kind_of b)) (zeroed_length b bs ∙ ap (λ (k : ℕ). length (take k bs)) e ∙ n) ∙ ap (λ (k : ℕ). unpriced (drop k bs)) e

-- a command that is no W has its operands
pub behind_own : (b : ℕ) (bs : List ℕ) → T (not (is (kind_of b) Kind.W)) → take (width (kind_of b)) (behind b bs) ≡ take (width (kind_of b)) bs
behind_own b bs n = rw (T_false {b = is (kind_of b) Kind.W} n) (go (all_or_within b bs))
  where
    w : ℕ
    w = width (kind_of b)

    own : List ℕ
    own = take (reach (kind_of b) bs) bs

    go : (length bs ≤ reach (kind_of b) bs) ⊎ Within b bs → take w (own ++ unpriced (later b bs)) ≡ take w bs
    go (inl h) = ap (take w) (rw (take_all (reach (kind_of b) bs) bs h, drop_of_length-le bs h, unpriced_none) (append-nil bs))
    go (inr i) =
        let e = reach_width b bs i bs in
        rw e (take_at (take w bs) (unpriced (drop w bs)) w (length-take-le w bs i.operands))

-- ---- a problem without its prices, weights and ranges

abbrev pub erased : Problem → Problem
erased q = with_prices usual (with_cands q.cands [] [] q)

-- a command that finds it so
abbrev pub plain : Context → Context
plain x = record { problem = erased x.problem; kind = x.kind; rest = x.rest; free = x.free }

rows_refused : (ws : List Row) (q : Problem) → rows_refusals (erased q) ws ≡ rows_refusals q ws
rows_refused [] q = refl
rows_refused (w ∷ ws) q = ap (λ (rs : List Refusal). row_refusals q w ++ rs) (rows_refused ws (add_row q w))

rows_same : (ws : List Row) (q : Problem) → erased (add_rows (erased q) ws) ≡ erased (add_rows q ws)
rows_same [] q = refl
rows_same (w ∷ ws) q = rows_same ws (add_row q w)

-- a command of kind k answers the same but for what the cheapest costs, and leaves the same but for prices, weights and ranges
pub record Unpriced (x : Context) (k : Kind) : Type 0 where
  pub refusals : refusals_of (plain x) k ≡ refusals_of x k
  pub answer : uncosted (answer_for (plain x) k) ≡ uncosted (answer_for x k)
  pub after : erased (problem_after (plain x) k) ≡ erased (problem_after x k)

pub unpriced_by : (x : Context) (k : Kind) → T (not (is k Kind.«V»)) → Unpriced x k
unfolding refusals_of answer_for problem_after coverable irredundants irredundant redundant cover products has_too_many products_up_to kept joined holders
unpriced_by x Kind.I n = record { refusals = refl; answer = refl; after = refl }
unpriced_by x Kind.W n = record { refusals = refl; answer = refl; after = refl }
unpriced_by x Kind.R n = record { refusals = refl; answer = refl; after = refl }
unpriced_by x Kind.B n = record { refusals = rows_refused (rows_of_b x.rest) x.problem; answer = refl; after = rows_same (rows_of_b x.rest) x.problem }
unpriced_by x Kind.T n = record { refusals = refl; answer = refl; after = refl }
unpriced_by x Kind.F n = record { refusals = refl; answer = refl; after = refl }
unpriced_by x Kind.P n = record { refusals = refl; answer = refl; after = refl }
unpriced_by x Kind.A n = record { refusals = refl; answer = refl; after = refl }
unpriced_by x Kind.D n = record { refusals = refl; answer = refl; after = refl }
unpriced_by x Kind.G n = record { refusals = refl; answer = refl; after = refl }
unpriced_by x Kind.«V» n = absurd n
unpriced_by x Kind.L n = record { refusals = refl; answer = refl; after = refl }
unpriced_by x Kind.C n = record { refusals = refl; answer = refl; after = refl }
unpriced_by x Kind.N n = record { refusals = refl; answer = refl; after = refl }
unpriced_by x Kind.E n = record { refusals = refl; answer = refl; after = refl }
unpriced_by x Kind.none n = record { refusals = refl; answer = refl; after = refl }

-- its answer is as long
pub uncosted_length : (a : Answer) → length (bytes_of (uncosted a)) ≡ length (bytes_of a)
uncosted_length Answer.nothing = refl
uncosted_length (Answer.primes_are ts) = refl
uncosted_length (Answer.paged ss m) = refl
uncosted_length (Answer.possible_paged ss m) = refl
uncosted_length (Answer.cheapest_is c s) = refl
uncosted_length (Answer.products_are ss) = refl
uncosted_length Answer.ended = refl

pub uncosted_bytes : (a : Answer) → has_bytes (uncosted a) ≡ has_bytes a
uncosted_bytes Answer.nothing = refl
uncosted_bytes (Answer.primes_are ts) = refl
uncosted_bytes (Answer.paged ss m) = refl
uncosted_bytes (Answer.possible_paged ss m) = refl
uncosted_bytes (Answer.cheapest_is c s) = refl
uncosted_bytes (Answer.products_are ss) = refl
uncosted_bytes Answer.ended = refl

pub same_length : (a b : Answer) → uncosted a ≡ uncosted b → length (bytes_of a) ≡ length (bytes_of b)
same_length a b e = sym (uncosted_length a) ∙ ap (λ (c : Answer). length (bytes_of c)) e ∙ uncosted_length b

pub same_bytes : (a b : Answer) → uncosted a ≡ uncosted b → has_bytes a ≡ has_bytes b
same_bytes a b e = sym (uncosted_bytes a) ∙ ap has_bytes e ∙ uncosted_bytes b
