-- K2: the I, W, R and B commands of a job, read again with nothing between them: they set the same table and prices, and are short.
use Prim.Native.Nat.{ℕ, zero, suc, ◌+◌, ◌*◌, ◌^◌, ◌≤◌, ◌<◌, min}
use native.Mathlib.Omega.{arith}
use mathlib.Core.Path.{◌≡◌, refl, ap, ◌∙◌, subst, subst⁻¹}
use mathlib.Core.Logic.{◌⊎◌, inl, inr}
use mathlib.Core.Bool.{not, ◌||◌}
use mathlib.Core.List.{List, ◌∷◌, ◌++◌, map, append_assoc, Memᴰ}
use lib.Dec.{T, leb, eqb, nleb→lt}
use lib.Pow.{pow_mono}
use lib.Seq.{take_at}
use lib.ListN.{length, take, length-append}
use Rattle.model.specs.Base.{from, below, some, filter, join, All, Ordered}
use Rattle.model.specs.Commands.{begun, in_prices, among_rows, Kind, is, width, allowed, Problem, empty, Context, operand, Row, row_of_r, row_of_b, rows_of_b, add_row, add_rows, problem_after}
use Rattle.model.specs.Answers.{Answer, answer_for, answer}
use Rattle.model.specs.Refusals.{row_refusals, rows_refusals, refusals_of}
use Rattle.model.specs.Rules.{engine}
use Rattle.model.specs.Job.{run}
use Rattle.model.specs.Standing.{command_of, command_bytes, Behind, raises, sets_up}
use Rattle.model.proofs.Lists.{yes_or_no, not_or_l, not_or_r, T_true, T_false, not_some, below_i, all_to, distinct_among}
use Rattle.model.proofs.Matrix.{from_length}
use Rattle.model.proofs.Runs.{NoneApplies, Passed, not_refused}
use Rattle.model.proofs.RowByRow.{rows_keep, rows_given, rows_place, bare, rows_refused_bare, rows_bare, same_rows, rows_eight}
use Rattle.model.proofs.Sound.{engine_lawful}
use Rattle.model.proofs.Valid.{place_one, place_last, allowed_below}
use Rattle.model.proofs.Behind.{behind_ind}
use Rattle.model.proofs.Standing.{raised}
use Rattle.model.proofs.Replay.{reads, full_of, same_operand, GivesFrom, silent}

-- their bytes
abbrev pub rows_of : List Context → List ℕ
rows_of before = join (map command_bytes (filter (λ c. sets_up c.kind) (map command_of before)))

rows_row : (y : Context) (ys : List Context) → T (sets_up y.kind) → rows_of (y ∷ ys) ≡ command_bytes (command_of y) ++ rows_of ys
rows_row y ys t = rw (T_true {b = sets_up y.kind} t)

rows_other : (y : Context) (ys : List Context) → T (not (sets_up y.kind)) → rows_of (y ∷ ys) ≡ rows_of ys
rows_other y ys n = rw (T_false {b = sets_up y.kind} n)

-- ---- one command

-- all others come behind I, and leave the table, the rows and the prices
behind_i : (x : Context) → Passed engine x → T (not (sets_up x.kind)) → begun ≤ x.problem.place
behind_i x h n = place_one x.kind x.problem.place (not_or_l (is x.kind Kind.I) (is x.kind Kind.W || (is x.kind Kind.R || is x.kind Kind.B)) n) h.place

others_keep : (x : Context) (k : Kind) → T (not (sets_up k)) → (p : ℕ) → bare p (problem_after x k) ≡ bare p x.problem
unfolding problem_after
others_keep x Kind.I n p = elim n [ ]
others_keep x Kind.W n p = elim n [ ]
others_keep x Kind.R n p = elim n [ ]
others_keep x Kind.B n p = elim n [ ]
others_keep x Kind.T n p = refl
others_keep x Kind.F n p = refl
others_keep x Kind.P n p = refl
others_keep x Kind.A n p = refl
others_keep x Kind.D n p = refl
others_keep x Kind.G n p = refl
others_keep x Kind.L n p = refl
others_keep x Kind.«V» n p = refl
others_keep x Kind.C n p = refl
others_keep x Kind.N n p = refl
others_keep x Kind.E n p = refl
others_keep x Kind.none n p = refl

-- an I, W, R or B read again: it meets the same refusals, sets the same, and is silent
record Again (k : Kind) (x y : Context) : Type 0 where
  refusals : refusals_of y k ≡ refusals_of x k
  after : problem_after y k ≡ bare (raises k) (problem_after x k)
  silent : answer_for y k ≡ Answer.nothing
  goes : T (not (is k Kind.E))
  named : T (not (is k Kind.none))
  places : (begun ≤ raises k) × (raises k ≤ among_rows)

eight_bare : (bs : List ℕ) (p : ℕ) (q : Problem) → add_rows (bare p q) (rows_of_b bs) ≡ bare among_rows (add_rows q (rows_of_b bs))
unfolding rows_of_b
eight_bare bs p q = rows_bare (row_of_b bs 0) (map (row_of_b bs) (from 1 7)) p q

row_again : (x : Context) (p : ℕ) (bs : List ℕ) (room : ℕ) (k : Kind) → T (sets_up k) → let y = reads (bare p x.problem) (command_of x) bs room in
    ((i : ℕ) → i < width k → operand y i ≡ operand x i) → Again k x y
unfolding refusals_of problem_after answer_for
row_again x p bs room Kind.T t g = elim t [ ]
row_again x p bs room Kind.F t g = elim t [ ]
row_again x p bs room Kind.P t g = elim t [ ]
row_again x p bs room Kind.A t g = elim t [ ]
row_again x p bs room Kind.D t g = elim t [ ]
row_again x p bs room Kind.G t g = elim t [ ]
row_again x p bs room Kind.L t g = elim t [ ]
row_again x p bs room Kind.V t g = elim t [ ]
row_again x p bs room Kind.C t g = elim t [ ]
row_again x p bs room Kind.N t g = elim t [ ]
row_again x p bs room Kind.E t g = elim t [ ]
row_again x p bs room Kind.none t g = elim t [ ]
row_again x p bs room Kind.I t g =
    let a = g 0 (omega arith) in
    let b = g 1 (omega arith) in
    record { refusals = rw (a, b); after = rw (a, b); silent = refl; goes = tt; named = tt; places = omega arith }
row_again x p bs room Kind.W t g =
    let a = g 0 (omega arith) in
    let b = g 1 (omega arith) in
    let c = g 2 (omega arith) in
    record { refusals = rw (a, b, c); after = rw (a, b, c); silent = refl; goes = tt; named = tt; places = omega arith }
row_again x p bs room Kind.R t g =
    let a = g 0 (omega arith) in
    let b = g 1 (omega arith) in
    let c = g 2 (omega arith) in
    record { refusals = rw (a, b, c); after = rw (a, b, c); silent = refl; goes = tt; named = tt; places = omega arith }
row_again x p bs room Kind.B t g =
    let q = x.problem in
    let e = same_rows ((command_of x).operands ++ bs) x.rest g in
    record {
      refusals = ap (rows_refusals (bare p q)) e ∙ rows_refused_bare (rows_of_b x.rest) p q;
      after = ap (add_rows (bare p q)) e ∙ eight_bare x.rest p q;
      silent = refl;
      goes = tt;
      named = tt;
      places = omega arith;
    }

-- ---- the commands read again, then bytes that give an answer

module _ (a : Answer) (room : ℕ) where
  -- wherever an I, W, R or B of the job stood, with no candidate, these bytes give the answer
  abbrev pub From : List ℕ → Problem → Type 0
  From bs q = (p : ℕ) → min begun q.place ≤ p → p ≤ min among_rows q.place → GivesFrom a room bs (bare p q)

  row_step : (y : Context) → Passed engine y → T (sets_up y.kind) → (bs : List ℕ) → From bs (problem_after y y.kind) → From (command_bytes (command_of y) ++ bs) y.problem
  unfolding answer
  row_step y h t bs f p l m =
      silent a room (command_of y) bs (bare p y.problem) full (not_refused engine z passes) w.goes w.silent
      (subst⁻¹ (GivesFrom a room bs) w.after (f (raises y.kind) (omega (arith, w.places)) (omega (arith, w.places, raised y y.kind h.place))))
    where
      z : Context
      z = reads (bare p y.problem) (command_of y) bs room

      full : length (take (width y.kind) y.rest) ≡ width y.kind
      full = full_of y h.operands

      w : Again y.kind y z
      w = row_again y p bs room y.kind t (same_operand y.kind y z (take_at (take (width y.kind) y.rest) bs (width y.kind) full))

      passes : Passed engine z
      passes = record {
        named = w.named;
        place = allowed_below y.kind y.problem.place p h.place l (omega arith);
        operands = omega (arith, full, length-append (take (width y.kind) y.rest) bs);
        own = subst⁻¹ NoneApplies w.refusals h.own;
        room = rw w.silent (omega arith);
      }

  other_step : (y : Context) → Passed engine y → T (not (sets_up y.kind)) → (bs : List ℕ) → From bs (problem_after y y.kind) → From bs y.problem
  other_step y h n bs f p l m =
      let o = behind_i y h n in
      let r = raised y y.kind h.place in
      subst (GivesFrom a room bs) (others_keep y y.kind n p) (f p (omega (arith, r, o)) (omega (arith, r)))

  pub rows_replayed : (bs job : List ℕ) (free : ℕ) (before : List Context) (x : Context) → Behind (run job free) before x → From bs x.problem → GivesFrom a room (rows_of before ++ bs) empty
  rows_replayed bs job free before x g f =
      behind_ind engine engine_lawful (λ q before x. From bs x.problem → From (rows_of before ++ bs) q) (λ x f. f) next job free before x g f 0 (omega arith) (omega arith)
    where
      next : (y : Context) → Passed engine y → (ys : List Context) (x : Context) → (From bs x.problem → From (rows_of ys ++ bs) (problem_after y y.kind))
          → From bs x.problem → From (rows_of (y ∷ ys) ++ bs) y.problem
      next y h ys x r f = go (yes_or_no (sets_up y.kind))
        where
          go : T (sets_up y.kind) ⊎ T (not (sets_up y.kind)) → From (rows_of (y ∷ ys) ++ bs) y.problem
          go (inl t) =
              let all = ap (λ (rows : List ℕ). rows ++ bs) (rows_row y ys t) ∙ append_assoc (command_bytes (command_of y)) (rows_of ys) bs in
              subst⁻¹ (λ (bytes : List ℕ). From bytes y.problem) all (row_step y h t (rows_of ys ++ bs) (r f))
          go (inr n) = rw (rows_other y ys n) (other_step y h n (rows_of ys ++ bs) (r f))

-- ---- a vertex has one row

-- those that have one are vertices, each once
abbrev Given : Problem → Type 0
Given q = Ordered (λ v w. T (not (eqb v w))) q.rows.given × All (λ v. v < 2 ^ q.settings.n) q.rows.given

given_row : (q : Problem) (w : Row) → NoneApplies (row_refusals q w) → Given q → Given (add_row q w)
given_row q w a g =
    let high = leb (2 ^ q.settings.n) w.vertex in
    let there = some (eqb w.vertex) q.rows.given in
    ((not_some (eqb w.vertex) q.rows.given (not_or_r high there a.0), g.0), (nleb→lt (2 ^ q.settings.n) w.vertex (not_or_l high there a.0), g.1))

row_given : (x : Context) (k : Kind) → T (sets_up k) → NoneApplies (refusals_of x k) → Given x.problem → Given (problem_after x k)
unfolding refusals_of problem_after
row_given x Kind.T t a g = elim t [ ]
row_given x Kind.F t a g = elim t [ ]
row_given x Kind.P t a g = elim t [ ]
row_given x Kind.A t a g = elim t [ ]
row_given x Kind.D t a g = elim t [ ]
row_given x Kind.G t a g = elim t [ ]
row_given x Kind.L t a g = elim t [ ]
row_given x Kind.V t a g = elim t [ ]
row_given x Kind.C t a g = elim t [ ]
row_given x Kind.N t a g = elim t [ ]
row_given x Kind.E t a g = elim t [ ]
row_given x Kind.none t a g = elim t [ ]
row_given x Kind.I t a g = (tt, tt)
row_given x Kind.W t a g = g
row_given x Kind.R t a g = given_row x.problem (row_of_r x.rest) a g
row_given x Kind.B t a g = rows_keep Given given_row (rows_of_b x.rest) x.problem a g

given_next : (x : Context) → Passed engine x → Given x.problem → Given (problem_after x x.kind)
given_next x h g = go (yes_or_no (sets_up x.kind))
  where
    go : T (sets_up x.kind) ⊎ T (not (sets_up x.kind)) → Given (problem_after x x.kind)
    go (inl t) = row_given x x.kind t h.own g
    go (inr n) = subst⁻¹ Given (others_keep x x.kind n 0) g

-- ---- the length of I, W and the rows

-- what I, W and R commands for so many rows take at most, by the place: a B takes less than its eight R
abbrev row_bytes : ℕ → ℕ → ℕ
row_bytes zero rows = 0
row_bytes (suc zero) rows = 3 + 4 * rows
row_bytes (suc (suc place)) rows = 7 + 4 * rows

abbrev taken : Problem → ℕ
taken q = row_bytes q.place (length q.rows.given)

behind_w : (place rows : ℕ) → in_prices ≤ place → row_bytes place rows ≡ 7 + 4 * rows
behind_w zero rows l = absurd (omega arith)
behind_w (suc zero) rows l = absurd (omega arith)
behind_w (suc (suc place)) rows l = refl

at_most : (place rows : ℕ) → row_bytes place rows ≤ 7 + 4 * rows
at_most zero rows = omega arith
at_most (suc zero) rows = omega arith
at_most (suc (suc place)) rows = omega arith

-- a later place allows for more
later_more : (place later rows : ℕ) → place ≤ later → row_bytes place rows ≤ row_bytes later rows
later_more zero later rows l = omega arith
later_more (suc place) zero rows l = absurd (omega arith)
later_more (suc zero) (suc zero) rows l = omega arith
later_more (suc zero) (suc (suc later)) rows l = omega arith
later_more (suc (suc place)) (suc zero) rows l = absurd (omega arith)
later_more (suc (suc place)) (suc (suc later)) rows l = omega arith

row_taken : (x : Context) (k : Kind) → T (sets_up k) → T (allowed k x.problem.place) → suc (width k) + taken x.problem ≤ taken (problem_after x k)
unfolding problem_after
row_taken x Kind.T t a = elim t [ ]
row_taken x Kind.F t a = elim t [ ]
row_taken x Kind.P t a = elim t [ ]
row_taken x Kind.A t a = elim t [ ]
row_taken x Kind.D t a = elim t [ ]
row_taken x Kind.G t a = elim t [ ]
row_taken x Kind.L t a = elim t [ ]
row_taken x Kind.V t a = elim t [ ]
row_taken x Kind.C t a = elim t [ ]
row_taken x Kind.N t a = elim t [ ]
row_taken x Kind.E t a = elim t [ ]
row_taken x Kind.none t a = elim t [ ]
row_taken x Kind.I t a = let z : x.problem.place ≡ 0 = omega (arith, place_last Kind.I x.problem.place a) in rw z (omega arith)
row_taken x Kind.W t a =
    let one = place_one Kind.W x.problem.place tt a in
    let e : x.problem.place ≡ begun = omega (arith, one, place_last Kind.W x.problem.place a) in
    rw e (omega arith)
row_taken x Kind.R t a = omega (arith, at_most x.problem.place (length x.problem.rows.given))
row_taken x Kind.B t a =
    let ws = rows_of_b x.rest in
    let n = length x.problem.rows.given in
    let all = add_rows x.problem ws in
    let rows = behind_w all.place (length all.rows.given) (omega (arith, rows_place x.rest x.problem)) in
    omega (arith, at_most x.problem.place n, rows, rows_given ws x.problem, rows_eight x.rest)

other_taken : (x : Context) → Passed engine x → T (not (sets_up x.kind)) → taken x.problem ≤ taken (problem_after x x.kind)
other_taken x h n =
    let q = problem_after x x.kind in
    let same : length q.rows.given ≡ length x.problem.rows.given = ap (λ (r : Problem). length r.rows.given) (others_keep x x.kind n 0) in
    rw same (later_more x.problem.place q.place (length x.problem.rows.given) (omega (arith, raised x x.kind h.place)))

abbrev Long : Problem → List Context → Context → Type 0
Long q before x = length (rows_of before) + taken q ≤ taken x.problem

long_next : (y : Context) → Passed engine y → (ys : List Context) (x : Context) → Long (problem_after y y.kind) ys x → Long y.problem (y ∷ ys) x
long_next y h ys x e = go (yes_or_no (sets_up y.kind))
  where
    go : T (sets_up y.kind) ⊎ T (not (sets_up y.kind)) → Long y.problem (y ∷ ys) x
    go (inl t) =
        let operands = take (width y.kind) y.rest in
        omega (arith, ap length (rows_row y ys t), length-append operands (rows_of ys), full_of y h.operands, row_taken y y.kind t h.place)
    go (inr n) = omega (arith, ap length (rows_other y ys n), other_taken y h n)

module _ (job : List ℕ) (room : ℕ) (before : List Context) (x : Context) (g : Behind (run job room) before x) where
  few_rows : length x.problem.rows.given ≤ 2 ^ x.problem.settings.n
  few_rows =
      let k = 2 ^ x.problem.settings.n in
      let vs = x.problem.rows.given in
      let h = behind_ind engine engine_lawful (λ q before x. Given q → Given x.problem) (λ x i. i) (λ y h ys x f i. f (given_next y h i)) job room before x g (tt, tt) in
      omega (arith, from_length 0 k, distinct_among vs (below k) h.0 (all_to (λ (v : ℕ). v < k) (λ v. Memᴰ v (below k)) (λ v l. below_i l) vs h.1))

  -- 3 bytes of I, 4 of W, and 4 for each of 256 rows
  pub rows_short : x.problem.settings.n ≤ 8 → length (rows_of before) ≤ 1031
  rows_short l =
      let n = length x.problem.rows.given in
      omega (arith, behind_ind engine engine_lawful Long (λ x. omega arith) long_next job room before x g, at_most x.problem.place n, few_rows, pow_mono l)
