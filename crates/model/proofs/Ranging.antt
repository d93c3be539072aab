-- K11: the ranges that each command of a job finds are those that the commands before it set; V with equal ends, and C's answer on V's list.
use Prim.Native.Nat.{ℕ, ◌+◌, ◌/◌, ◌≤◌, ◌<◌}
use native.Mathlib.Omega.{arith}
use native.Mathlib.Nat.{le_refl}
use native.Mathlib.Decide.{ℕ_discrete}
use mathlib.Core.Path.{◌≡◌, refl, sym, ap, ap₂, ◌∙◌, subst}
use mathlib.Core.Bool.{Bool, true, false, not, cond}
use mathlib.Core.List.{List, [], ◌∷◌, ◌++◌, map, map-append}
use lib.Dec.{T, nleb→lt}
use lib.Seq.{get_or-take}
use lib.ListN.{get_or, length, set}
use Rattle.model.specs.Base.{bit, sum, some, filter, without}
use Rattle.model.specs.Table.{Cell}
use Rattle.model.specs.Blocks.{Block}
use Rattle.model.specs.Sets.{Covering, members, Irredundant, cost, cheapest}
use Rattle.model.specs.Ranges.{Range, fixed, Ranged, Choice, cost_at, Possible}
use Rattle.model.specs.Candidates.{Candidate, Basis, weigh, covering, candidate_cost}
use Rattle.model.specs.Commands.{Kind, is, width, is_query_kind, Problem, prices_of, basis_of, empty, Context, operand, operand_term, operand_block, operand_number, Row, rows_of_b, add_row, add_rows, range_of_g, problem_after}
use Rattle.model.specs.Refusals.{refusals_of}
use Rattle.model.specs.Rules.{engine}
use Rattle.model.specs.Job.{run}
use Rattle.model.specs.Invariants.{Valid}
use Rattle.model.specs.Demand3.{FindsRanges}
use Rattle.model.specs.Standing.{Command, command_of, operand_of, sets_to, none_came, TakenOut, AskedBehind}
use Rattle.model.specs.Ranging.{weights_of, fixed_at, ranges_to, ranges_from, standing_ranges, FindsStandingRanges, WithoutG, TakesRangeOut, SameRanges, StandingPossible, LeastCosting, EqualEnds, CheapestPossible}
use Rattle.model.proofs.Lists.{and_l, and_r, not_or_l, map_without, length_without, entry_before, entry_without, all_to}
use Rattle.model.proofs.Sets.{cheapest_irredundant, cheapest_le}
use Rattle.model.proofs.Ranges.{possible_listed}
use Rattle.model.proofs.Codes.{is_kind, any_query}
use Rattle.model.proofs.Runs.{NoneApplies, Passed, passed}
use Rattle.model.proofs.Sound.{engine_lawful}
use Rattle.model.proofs.Valid.{valid}
use Rattle.model.proofs.Exchanges.{claim_gives}
use Rattle.model.proofs.Behind.{behind_ind, all_here}
use Rattle.model.proofs.BlockBytes.{same_block}
use Rattle.model.proofs.Standing.{sets_to_lem, query_sets, no_query, standing_demand_3}

-- ---- the ranges set

-- rows leave them
rows_ranges : (ws : List Row) (q : Problem) → (add_rows q ws).ranges ≡ q.ranges
rows_ranges [] q = refl
rows_ranges (w ∷ ws) q = rows_ranges ws (add_row q w)

-- a range is told by G's operands
same_range : (bs cs : List ℕ) → ((i : ℕ) → i < 5 → get_or bs i 0 ≡ get_or cs i 0) → range_of_g bs ≡ range_of_g cs
same_range bs cs g = rw (g 1 (omega arith), g 2 (omega arith), g 3 (omega arith), g 4 (omega arith))

-- what a command leaves, wherever its operands are all that it reads
ranges_by : (x : Context) (k : Kind) → ((i : ℕ) → i < width k → operand_of (command_of x) i ≡ operand x i)
    → (problem_after x k).ranges ≡ ranges_to (command_of x) k (basis_of x.problem) x.problem.ranges
unfolding problem_after ranges_to
ranges_by x Kind.I g = refl
ranges_by x Kind.W g = refl
ranges_by x Kind.R g = refl
ranges_by x Kind.B g = rows_ranges (rows_of_b x.rest) x.problem
ranges_by x Kind.T g = rw (g 0 (omega arith), g 1 (omega arith), g 2 (omega arith))
ranges_by x Kind.F g = ap (λ (b : Block). x.problem.ranges ++ (fixed_at (basis_of x.problem) (Candidate.block b) ∷ [])) (sym (same_block (command_of x).operands x.rest g))
ranges_by x Kind.P g = refl
ranges_by x Kind.A g = rw (g 0 (omega arith), g 1 (omega arith), g 2 (omega arith))
ranges_by x Kind.D g = ap (λ (k : ℕ). without k x.problem.ranges) (sym (g 0 (omega arith)))
ranges_by x Kind.G g = ap₂ (set x.problem.ranges) (sym (g 0 (omega arith))) (sym (same_range (command_of x).operands x.rest g))
ranges_by x Kind.L g = refl
ranges_by x Kind.«V» g = refl
ranges_by x Kind.C g = refl
ranges_by x Kind.N g = refl
ranges_by x Kind.E g = refl
ranges_by x Kind.none g = refl

pub ranges_to_lem : (x : Context) → (problem_after x x.kind).ranges ≡ ranges_to (command_of x) x.kind (basis_of x.problem) x.problem.ranges
ranges_to_lem x = ranges_by x x.kind (λ i. get_or-take (width x.kind) x.rest i 0)

abbrev Found : Problem → List Context → Context → Type 0
Found q before x = x.problem.ranges ≡ ranges_from (basis_of q) q.ranges (map command_of before)

pub ranges_stand : FindsStandingRanges
ranges_stand = behind_ind engine engine_lawful Found (λ x. refl)
    (λ y h ys x e. e ∙ ap₂ (λ (b : Basis) (rs : List Range). ranges_from b rs (map command_of ys)) (sets_to_lem y) (ranges_to_lem y))

-- ---- without a G

abbrev Fixed : Problem → Type 0
Fixed q = q.ranges ≡ map fixed q.weights

fixed_rows : (ws : List Row) (q : Problem) → Fixed q → Fixed (add_rows q ws)
fixed_rows [] q e = e
fixed_rows (w ∷ ws) q e = fixed_rows ws (add_row q w) e

fixed_more : (q : Problem) (c : Candidate) → Fixed q → let w = candidate_cost (prices_of q) c in q.ranges ++ (fixed w ∷ []) ≡ map fixed (q.weights ++ (w ∷ []))
fixed_more q c e =
    let w = candidate_cost (prices_of q) c in
    ap (λ (rs : List Range). rs ++ (fixed w ∷ [])) e ∙ sym (map-append fixed q.weights (w ∷ []))

fixed_after : (x : Context) (k : Kind) → T (not (is k Kind.G)) → Fixed x.problem → Fixed (problem_after x k)
unfolding problem_after
fixed_after x Kind.G n e = elim n [ ]
fixed_after x Kind.I n e = refl
fixed_after x Kind.W n e = e
fixed_after x Kind.R n e = e
fixed_after x Kind.B n e = fixed_rows (rows_of_b x.rest) x.problem e
fixed_after x Kind.T n e = fixed_more x.problem (Candidate.term (operand_term x)) e
fixed_after x Kind.F n e = fixed_more x.problem (Candidate.block (operand_block x)) e
fixed_after x Kind.P n e = refl
fixed_after x Kind.A n e = fixed_more x.problem (Candidate.term (operand_term x)) e
fixed_after x Kind.D n e = let k = operand_number x in ap (without k) e ∙ sym (map_without fixed k x.problem.weights)
fixed_after x Kind.L n e = e
fixed_after x Kind.«V» n e = e
fixed_after x Kind.C n e = e
fixed_after x Kind.N n e = e
fixed_after x Kind.E n e = e
fixed_after x Kind.none n e = e

abbrev StillFixed : Problem → List Context → Context → Type 0
StillFixed q before x = T (none_came (Kind.G ∷ []) before) → Fixed q → Fixed x.problem

pub without_g : WithoutG
without_g job room before x g t = behind_ind engine engine_lawful StillFixed (λ x t e. e) next job room before x g t refl
  where
    next : (y : Context) → Passed engine y → (ys : List Context) (x : Context) → StillFixed (problem_after y y.kind) ys x → StillFixed y.problem (y ∷ ys) x
    next y h ys x f t e =
        let other = not (some (is y.kind) (Kind.G ∷ [])) in
        f (and_r other (none_came (Kind.G ∷ []) ys) t) (fixed_after y y.kind (not_or_l (is y.kind Kind.G) false (and_l other (none_came (Kind.G ∷ []) ys) t)) e)

-- ---- D, entry by entry

-- a job's record has a range for each candidate, so that the range goes where the candidate does
taken : (x : Context) → length x.problem.ranges ≡ length x.problem.cands → NoneApplies (refusals_of x Kind.D)
    → TakenOut (operand_number x) x.problem.ranges (problem_after x Kind.D).ranges
unfolding refusals_of problem_after
taken x e a =
    let k = operand_number x in
    let rs = x.problem.ranges in
    record {
      fewer = length_without k rs (omega (arith, e, nleb→lt (length x.problem.cands) k a.0));
      before = λ i. entry_before k i rs;
      behind = λ i. entry_without k i rs;
    }

pub range_taken_out : TakesRangeOut
range_taken_out job room before x g i z =
    subst (λ (k : Kind). TakenOut (operand_number x) x.problem.ranges (problem_after x k).ranges) (sym e)
    (taken x fair.sound.each_range (subst (λ (k : Kind). NoneApplies (refusals_of x k)) e (passed engine engine_lawful x z).own))
  where
    e : x.kind ≡ Kind.D
    e = is_kind x.kind Kind.D i

    fair : Valid x.problem
    fair = all_here (λ (y : Context). Valid y.problem) (run job room) before x g (valid job room)

-- ---- the same commands

query_ranges : (c : Command) (b : Basis) (rs : List Range) (k : Kind) → T (is_query_kind k) → ranges_to c k b rs ≡ rs
unfolding ranges_to
query_ranges c b rs = any_query (λ k. ranges_to c k b rs ≡ rs) (refl, (refl, (refl, (refl, tt))))

-- the queries may be left out
setters : (b : Basis) (rs : List Range) (cs : List Command) → ranges_from b rs cs ≡ ranges_from b rs (filter no_query cs)
setters b rs [] = refl
setters b rs (c ∷ cs) = go (is_query_kind c.kind) refl (setters then later cs)
  where
    rest : List Command
    rest = filter no_query cs

    then : Basis
    then = sets_to c c.kind b

    later : List Range
    later = ranges_to c c.kind b rs

    go : (d : Bool) → is_query_kind c.kind ≡ d → ranges_from then later cs ≡ ranges_from then later rest → ranges_from then later cs ≡ ranges_from b rs (cond (not d) (c ∷ rest) rest)
    go true e h = h ∙ ap₂ (λ (s : Basis) (r : List Range). ranges_from s r rest) (query_sets c b c.kind (rw e tt)) (query_ranges c b rs c.kind (rw e tt))
    go false e h = h

pub same_ranges : SameRanges
same_ranges cs x s = ranges_stand s.job s.room s.before x s.behind ∙ setters (basis_of empty) [] (map command_of s.before) ∙ ap standing_ranges s.same

pub standing_possible : StandingPossible
standing_possible cs calls m =
    claim_gives _ (λ es a d. d.possible_pages (standing_ranges cs) (all_to (AskedBehind cs) (FindsRanges (standing_ranges cs)) (λ e s t. same_ranges cs e.context s.1) es a))
    (standing_demand_3 cs calls m)

-- ---- V and C

-- what a set costs by the weights in a list
cost_by : {X : Type 0} (w : X → ℕ) (cs : List X) (s : ℕ) → cost_at (map w cs) s ≡ sum w (members cs s)
unfolding cost_at
cost_by w [] s = refl
cost_by {X = X} w (c ∷ cs) s = go (bit 0 s) (members (map w cs) (s / 2)) (members cs (s / 2)) (cost_by w cs (s / 2))
  where
    go : (b : Bool) (ws : List ℕ) (less : List X) → sum (λ v. v) ws ≡ sum w less → sum (λ v. v) (cond b (w c ∷ ws) ws) ≡ sum w (cond b (c ∷ less) less)
    go true ws less e = ap (λ (n : ℕ). w c + n) e
    go false ws less e = e

-- equal ends leave one choice
choice_fixed : (ws : List ℕ) → Choice (map fixed ws) ws
choice_fixed [] = tt
choice_fixed (w ∷ ws) = (le_refl w, le_refl w, choice_fixed ws)

fixed_choice : (ws vs : List ℕ) → Choice (map fixed ws) vs → vs ≡ ws
fixed_choice [] [] c = refl
fixed_choice [] (v ∷ vs) c = absurd c
fixed_choice (w ∷ ws) [] c = absurd c
fixed_choice (w ∷ ws) (v ∷ vs) c = ap₂ (λ (x : ℕ) (xs : List ℕ). x ∷ xs) (omega (arith, c.0, c.1)) (fixed_choice ws vs c.2)

choice_ranged : (rs : List Range) (ws : List ℕ) → Choice rs ws → Ranged rs
choice_ranged [] [] c = tt
choice_ranged [] (w ∷ ws) c = absurd c
choice_ranged (r ∷ rs) [] c = absurd c
choice_ranged (r ∷ rs) (w ∷ ws) c = (omega (arith, c.0, c.1), choice_ranged rs ws c.2)

module _ (b : Basis) where
  abbrev k : Covering Candidate Cell
  k = covering b

  weighed : (s : ℕ) → cost_at (weights_of b) s ≡ cost k s
  unfolding cost
  weighed s = cost_by (weigh b) b.cands s

  -- a set that costs no more than every irredundant cover, by the weights, is on the list where they are a choice
  least_possible : (rs : List Range) → Choice rs (weights_of b) → (s : ℕ) → LeastCosting b s → Possible k rs s
  least_possible rs c s h = record {
    tight = h.0;
    weights = weights_of b;
    choice = c;
    least = λ t i n. omega (arith, weighed s, weighed t, h.1 t i);
  }

  possible_least : (s : ℕ) → Possible k (map fixed (weights_of b)) s → LeastCosting b s
  possible_least s p = (p.tight, λ t i. go t i (ℕ_discrete t s))
    where
      same : (t : ℕ) → cost_at p.weights t ≡ cost k t
      same t = ap (λ (ws : List ℕ). cost_at ws t) (fixed_choice (weights_of b) p.weights p.choice) ∙ weighed t

      go : (t : ℕ) → Irredundant k t → Dec (t ≡ s) → cost k s ≤ cost k t
      go t i (yes e) = omega (arith, ap (cost k) e)
      go t i (no n) = omega (arith, same s, same t, p.least t i n)

pub equal_ends : EqualEnds
equal_ends b s =
    let ws = weights_of b in
    let l = possible_listed (covering b) (map fixed ws) (choice_ranged (map fixed ws) ws (choice_fixed ws)) s in
    (λ m. possible_least b s (l.0 m), λ h. l.1 (least_possible b (map fixed ws) (choice_fixed ws) s h))

pub cheapest_possible : CheapestPossible
cheapest_possible b rs c h =
    let k = covering b in
    let i = cheapest_irredundant k h in
    (possible_listed k rs (choice_ranged rs (weights_of b) c) (cheapest k)).1
    (least_possible b rs c (cheapest k) (i, λ t j. cheapest_le k t j.among j.covering))
