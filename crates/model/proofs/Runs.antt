-- Jobs by any rules: what an answered command has passed, induction over the commands, and where a job stops.
use Prim.Native.Nat.{ℕ, zero, suc, ◌+◌, ◌-◌, ◌≤◌, ◌<◌}
use native.Mathlib.Omega.{arith}
use native.Mathlib.Nat.{le_refl}
use mathlib.Core.Path.{◌≡◌, refl, sym, ap, ◌∙◌, subst}
use mathlib.Core.Logic.{◌⊎◌, inl, inr}
use mathlib.Core.Bool.{Bool, true, false, not, cond, ◌||◌}
use mathlib.Core.List.{List, [], ◌∷◌, ◌++◌, map}
use lib.Dec.{T, ltb, eqb, eqb→eq, nltb→le}
use lib.Arith.{le→nltb}
use lib.Seq.{drop-drop}
use lib.ListN.{length, drop, length-drop, length-append}
use Rattle.model.specs.Base.{join, All, Bytes}
use Rattle.model.specs.Commands.{Kind, is, kind_of, width, allowed, Problem, Context, empty}
use Rattle.model.specs.Answers.{bytes_of}
use Rattle.model.specs.Refusals.{largest_number, Refusal, refuse, first_of}
use Rattle.model.specs.Rules.{Rules, refusals_by, refusal_by}
use Rattle.model.specs.Job.{Run, stop, answer_then, commands, run_by, RefusedAt, Judged, written}
use Rattle.model.specs.Invariants.{Sound}
use Rattle.model.proofs.Read.{Fits}
use Rattle.model.proofs.Lists.{twice, not_not, T_true, T_false, all_append, all_left, all_right}

-- ---- what an answered command has passed

-- the numbers that a command can be refused by
abbrev pub Numbered : Refusal → Type 0
Numbered r = (3 ≤ r.no) × (r.no ≤ largest_number)

pub first_none : (rs : List Refusal) → All Numbered rs → first_of rs ≡ 0 → All (λ r. T (not r.applies)) rs
first_none [] a e = tt
first_none (r ∷ rs) a e = go r.applies e (first_none rs a.1)
  where
    go : (b : Bool) → cond b r.no (first_of rs) ≡ 0 → (first_of rs ≡ 0 → All (λ r. T (not r.applies)) rs) → T (not b) × All (λ r. T (not r.applies)) rs
    go true e h = absurd (omega (arith, a.0.0))
    go false e h = (tt, h e)

first_ge : (rs : List Refusal) → All Numbered rs → (first_of rs ≡ 0) ⊎ (3 ≤ first_of rs)
first_ge [] a = inl refl
first_ge (r ∷ rs) a = go r.applies (first_ge rs a.1)
  where
    go : (b : Bool) → (first_of rs ≡ 0) ⊎ (3 ≤ first_of rs) → (cond b r.no (first_of rs) ≡ 0) ⊎ (3 ≤ cond b r.no (first_of rs))
    go true h = inr a.0.0
    go false h = h

first_le : (rs : List Refusal) → All Numbered rs → first_of rs ≤ largest_number
first_le [] a = omega arith
first_le (r ∷ rs) a = go r.applies (first_le rs a.1)
  where
    go : (b : Bool) → first_of rs ≤ largest_number → cond b r.no (first_of rs) ≤ largest_number
    go true h = a.0.1
    go false h = h

-- one list behind another
pub first_before : (rs qs : List Refusal) → (first_of rs ≡ 0 → ⊥) → first_of (rs ++ qs) ≡ first_of rs
first_before [] qs n = absurd (n refl)
first_before (r ∷ rs) qs n = go r.applies n (first_before rs qs)
  where
    go : (b : Bool) → (cond b r.no (first_of rs) ≡ 0 → ⊥) → ((first_of rs ≡ 0 → ⊥) → first_of (rs ++ qs) ≡ first_of rs) → cond b r.no (first_of (rs ++ qs)) ≡ cond b r.no (first_of rs)
    go true n h = refl
    go false n h = h n

pub first_behind : (rs qs : List Refusal) → All Numbered rs → first_of rs ≡ 0 → first_of (rs ++ qs) ≡ first_of qs
first_behind [] qs a e = refl
first_behind (r ∷ rs) qs a e = go r.applies e (first_behind rs qs a.1)
  where
    go : (b : Bool) → cond b r.no (first_of rs) ≡ 0 → (first_of rs ≡ 0 → first_of (rs ++ qs) ≡ first_of qs) → cond b r.no (first_of (rs ++ qs)) ≡ first_of qs
    go true e h = absurd (omega (arith, a.0.0))
    go false e h = h e

-- none of them applies
abbrev pub NoneApplies : List Refusal → Type 0
NoneApplies rs = All (λ r. T (not r.applies)) rs

pub none_first : (rs : List Refusal) → NoneApplies rs → first_of rs ≡ 0
none_first [] a = refl
none_first (r ∷ rs) a = go r.applies a.0 (none_first rs a.1)
  where
    go : (b : Bool) → T (not b) → first_of rs ≡ 0 → cond b r.no (first_of rs) ≡ 0
    go true t e = absurd t
    go false t e = e

-- a command that no refusal stops
pub record Passed (rules : Rules) (x : Context) : Type 0 where
  pub named : T (not (is x.kind Kind.none))
  pub place : T (allowed x.kind x.problem.place)
  pub operands : width x.kind ≤ length x.rest
  pub own : NoneApplies (rules.own x)
  pub room : length (bytes_of (rules.answer x)) ≤ x.free

pub not_refused : (rules : Rules) (x : Context) → Passed rules x → refusal_by rules x ≡ 0
unfolding refusal_by refusals_by
not_refused rules x h =
    let answer = bytes_of (rules.answer x) in
    none_first (refusals_by rules x) (
      h.named,
      (
        not_not (allowed x.kind x.problem.place) h.place,
        (
          le→nltb (length x.rest) (width x.kind) h.operands,
          all_append (λ (r : Refusal). T (not r.applies)) (rules.own x) (refuse 14 (ltb x.free (length answer)) ∷ []) h.own (le→nltb x.free (length answer) h.room, tt),
        ),
      ),
    )

-- what rules keep: the numbers of their refusals, 13, and the sizes of problems and answers
pub record Lawful (rules : Rules) : Type 0 where
  pub numbered : (x : Context) → All Numbered (rules.own x)
  pub last : (x : Context) → T (is x.kind Kind.E) → NoneApplies (rules.own x) → length x.rest ≡ 0
  pub sound : (x : Context) → NoneApplies (rules.own x) → Sound x.problem → Sound (rules.after x)
  pub fits : (x : Context) → NoneApplies (rules.own x) → Sound x.problem → Fits (rules.answer x) × (Bytes x.rest → Bytes (bytes_of (rules.answer x)))

-- "tried in this order": a command at a wrong place is refused by 4, its operands missing or not
pub place_first : (rules : Rules) (x : Context) → T (not (is x.kind Kind.none)) → T (not (allowed x.kind x.problem.place)) → refusal_by rules x ≡ 4
unfolding refusal_by refusals_by
place_first rules x n a = rw (T_false {b = is x.kind Kind.none} n, T_false {b = allowed x.kind x.problem.place} a)

-- where it may stand, with its operands there and no answer, its own refusals decide
pub own_refusal : (rules : Rules) (x : Context) → T (not (is x.kind Kind.none)) → T (allowed x.kind x.problem.place) → width x.kind ≤ length x.rest → bytes_of (rules.answer x) ≡ []
    → refusal_by rules x ≡ first_of (rules.own x)
unfolding refusal_by refusals_by
own_refusal rules x n a l e =
    rw (
      T_false {b = is x.kind Kind.none} n,
      T_true {b = allowed x.kind x.problem.place} a,
      T_false {b = ltb (length x.rest) (width x.kind)} (le→nltb (length x.rest) (width x.kind) l),
      e,
    )
    (without_room (rules.own x))
  where
    without_room : (rs : List Refusal) → first_of (rs ++ (refuse 14 (ltb x.free 0) ∷ [])) ≡ first_of rs
    without_room [] = rw (T_false {b = ltb x.free 0} (le→nltb x.free 0 (omega arith)))
    without_room (r ∷ rs) = ap (λ (n : ℕ). cond r.applies r.no n) (without_room rs)

module _ (rules : Rules) (law : Lawful rules) where
  all_numbered : (x : Context) → All Numbered (refusals_by rules x)
  unfolding refusals_by
  all_numbered x =
      let last = refuse 14 (ltb x.free (length (bytes_of (rules.answer x)))) ∷ [] in
      (omega arith, (omega arith, (omega arith, all_append Numbered (rules.own x) last (law.numbered x) (omega arith, tt))))

  refusal_le : (x : Context) → refusal_by rules x ≤ largest_number
  unfolding refusal_by
  refusal_le x = first_le (refusals_by rules x) (all_numbered x)

  -- a refusal at a command has a number of 3 or more
  refusal_ge : (x : Context) → T (not (eqb (refusal_by rules x) 0)) → 3 ≤ refusal_by rules x
  unfolding refusal_by
  refusal_ge x n = go (first_ge (refusals_by rules x) (all_numbered x))
    where
      go : (first_of (refusals_by rules x) ≡ 0) ⊎ (3 ≤ first_of (refusals_by rules x)) → 3 ≤ first_of (refusals_by rules x)
      go (inl e) = absurd (rw e at n)
      go (inr h) = h

  pub passed : (x : Context) → refusal_by rules x ≡ 0 → Passed rules x
  unfolding refusal_by refusals_by
  passed x e =
      let h = first_none (refusals_by rules x) (all_numbered x) e in
      let last = refuse 14 (ltb x.free (length (bytes_of (rules.answer x)))) ∷ [] in
      record {
        named = h.0;
        place = twice (allowed x.kind x.problem.place) h.1.0;
        operands = nltb→le (length x.rest) (width x.kind) h.1.1.0;
        own = all_left (λ (r : Refusal). T (not r.applies)) (rules.own x) last h.1.1.1;
        room = nltb→le x.free (length (bytes_of (rules.answer x))) (all_right (λ (r : Refusal). T (not r.applies)) (rules.own x) last h.1.1.1).0;
      }

-- ---- induction

-- what the command at byte b finds
abbrev pub context : Problem → ℕ → List ℕ → ℕ → Context
context q b bs free = record { problem = q; kind = kind_of b; rest = bs; free = free }

-- one step of a run
module _ (rules : Rules) (k : ℕ) (q : Problem) (b : ℕ) (bs : List ℕ) (free at : ℕ) where
  -- a refused command ends it
  pub step_refused : let x = context q b bs free in T (not (eqb (refusal_by rules x) 0)) → commands rules (suc k) q (b ∷ bs) free at ≡ stop (refusal_by rules x) at (x ∷ [])
  step_refused n = rw (T_false {b = eqb (refusal_by rules (context q b bs free)) 0} n)

  pub step_ends : let x = context q b bs free in refusal_by rules x ≡ 0 → T (is (kind_of b) Kind.E) → commands rules (suc k) q (b ∷ bs) free at ≡ answer_then rules x (stop 0 (at + 1) [])
  step_ends z e = rw (z, T_true {b = is (kind_of b) Kind.E} e)

  pub step_goes : let x = context q b bs free in refusal_by rules x ≡ 0 → T (not (is (kind_of b) Kind.E))
      → commands rules (suc k) q (b ∷ bs) free at
      ≡ answer_then rules x (commands rules k (rules.after x) (drop (width (kind_of b)) bs) (free - length (bytes_of (rules.answer x))) (at + 1 + width (kind_of b)))
  step_goes z n = rw (z, T_false {b = is (kind_of b) Kind.E} n)

-- at the "offset of the command's first byte"
pub refused_here : (rules : Rules) (k : ℕ) (q : Problem) (b : ℕ) (bs : List ℕ) (free at : ℕ) → T (not (eqb (refusal_by rules (context q b bs free)) 0))
    → (commands rules (suc k) q (b ∷ bs) free at).offset ≡ at
refused_here rules k q b bs free at n = ap (λ (r : Run). r.offset) (step_refused rules k q b bs free at n)

-- a claim on the run of some bytes from a problem, a free part and an offset on; and what it asks where the first command is refused,
-- where it is the last, and where others follow
abbrev pub OnRuns : Type 1
OnRuns = Problem → List ℕ → ℕ → ℕ → Run → Type 0

module _ (rules : Rules) (P : OnRuns) where
  abbrev pub IfShort : Type 0
  IfShort = (q : Problem) (free at : ℕ) → P q [] free at (stop 2 at [])

  abbrev pub IfRefused : Type 0
  IfRefused = (q : Problem) (b : ℕ) (bs : List ℕ) (free at : ℕ) → let x = context q b bs free in T (not (eqb (refusal_by rules x) 0)) → P q (b ∷ bs) free at (stop (refusal_by rules x) at (x ∷ []))

  abbrev pub IfEnds : Type 0
  IfEnds = (q : Problem) (b : ℕ) (bs : List ℕ) (free at : ℕ) → let x = context q b bs free in Passed rules x → refusal_by rules x ≡ 0 → T (is (kind_of b) Kind.E)
      → P q (b ∷ bs) free at (answer_then rules x (stop 0 (at + 1) []))

  abbrev pub IfGoes : Type 0
  IfGoes = (q : Problem) (b : ℕ) (bs : List ℕ) (free at : ℕ) → let x = context q b bs free in Passed rules x → refusal_by rules x ≡ 0 → T (not (is (kind_of b) Kind.E))
      → (r : Run) → P (rules.after x) (drop (width (kind_of b)) bs) (free - length (bytes_of (rules.answer x))) (at + 1 + width (kind_of b)) r → P q (b ∷ bs) free at (answer_then rules x r)

module _ (rules : Rules) (law : Lawful rules) (P : OnRuns) (short : IfShort rules P) (refused : IfRefused rules P) (ends : IfEnds rules P) (goes : IfGoes rules P) where
  commands_ind : (k : ℕ) (q : Problem) (bs : List ℕ) (free at : ℕ) → length bs < k → P q bs free at (commands rules k q bs free at)
  commands_ind zero q bs free at l = absurd (omega arith)
  commands_ind (suc k) q [] free at l = short q free at
  commands_ind (suc k) q (b ∷ bs) free at l =
      go (eqb (refusal_by rules x) 0) refl (is x.kind Kind.E) refl
      (commands_ind k (rules.after x) (drop w bs) (free - length (bytes_of (rules.answer x))) (at + 1 + w) (omega (arith, length-drop w bs)))
    where
      x : Context
      x = context q b bs free

      w : ℕ
      w = width x.kind

      on : Run
      on = commands rules k (rules.after x) (drop w bs) (free - length (bytes_of (rules.answer x))) (at + 1 + w)

      go : (c : Bool) → eqb (refusal_by rules x) 0 ≡ c → (d : Bool) → is x.kind Kind.E ≡ d → P (rules.after x) (drop w bs) (free - length (bytes_of (rules.answer x))) (at + 1 + w) on
          → P q (b ∷ bs) free at (cond c (answer_then rules x (cond d (stop 0 (at + 1) []) on)) (stop (refusal_by rules x) at (x ∷ [])))
      go true e true f h = let z = eqb→eq (refusal_by rules x) 0 (rw e tt) in ends q b bs free at (passed rules law x z) z (rw f tt)
      go true e false f h = let z = eqb→eq (refusal_by rules x) 0 (rw e tt) in goes q b bs free at (passed rules law x z) z (rw f tt) on h
      go false e d f h = refused q b bs free at (rw e tt)

  -- and for a whole job, or one that is too long
  pub run_ind : (Q : Run → Type 0) (job : List ℕ) (room : ℕ) → (T (ltb 32768 (length job) || ltb 32768 room) → Q (stop 1 0 []))
      → (length job ≤ 32768 → room ≤ 32768 → (r : Run) → P empty job room 0 r → Q r) → Q (run_by rules job room)
  unfolding run_by
  run_ind Q job room a b = go (ltb 32768 (length job)) refl (ltb 32768 room) refl
    where
      r : Run
      r = commands rules (suc (length job)) empty job room 0

      go : (c : Bool) → ltb 32768 (length job) ≡ c → (d : Bool) → ltb 32768 room ≡ d → Q (cond (c || d) (stop 1 0 []) r)
      go true e d f = a (rw e tt)
      go false e true f = a (rw (e, f) tt)
      go false e false f = b (nltb→le 32768 (length job) (rw e tt)) (nltb→le 32768 room (rw f tt)) r (commands_ind (suc (length job)) empty job room 0 (le_refl (suc (length job))))

-- a job that is not too long, in a buffer that is not
pub run_is : (rules : Rules) (job : List ℕ) (room : ℕ) → length job ≤ 32768 → room ≤ 32768 → run_by rules job room ≡ commands rules (suc (length job)) empty job room 0
unfolding run_by
run_is rules job room l m = rw (T_false {b = ltb 32768 (length job)} (le→nltb 32768 (length job) l), T_false {b = ltb 32768 room} (le→nltb 32768 room m))

-- and one that is too long, or in a buffer that is
pub run_long : (rules : Rules) (job : List ℕ) (room : ℕ) → T (ltb 32768 (length job) || ltb 32768 room) → run_by rules job room ≡ stop 1 0 []
unfolding run_by
run_long rules job room t = rw (T_true {b = ltb 32768 (length job) || ltb 32768 room} t)

-- ---- where a job stops, and how much it writes

-- with `end` where the job's bytes end
record Stops (end free : ℕ) (r : Run) : Type 0 where
  accepted : r.number ≡ 0 → r.offset ≡ end
  cut : r.number ≡ 2 → r.offset ≡ end
  refused : 3 ≤ r.number → r.offset < end
  numbers : (r.number ≡ 0) ⊎ (2 ≤ r.number)
  number_le : r.number ≤ largest_number
  fits : length (join (map bytes_of r.answers)) ≤ free

abbrev Where : OnRuns
Where q bs free at r = Stops (at + length bs) free r

module _ (rules : Rules) (law : Lawful rules) where
  stops_refused : IfRefused rules Where
  stops_refused q b bs free at n =
      let g = refusal_ge rules law (context q b bs free) n in
      record {
        accepted = λ e. absurd (omega (arith, g, e));
        cut = λ e. absurd (omega (arith, g, e));
        refused = λ h. omega arith;
        numbers = inr (omega (arith, g));
        number_le = refusal_le rules law (context q b bs free);
        fits = omega arith;
      }

  stops_ends : IfEnds rules Where
  stops_ends q b bs free at h z i = record {
    accepted = λ e. omega (arith, law.last (context q b bs free) i h.own);
    cut = λ e. absurd (omega (arith, e));
    refused = λ g. absurd (omega (arith, g));
    numbers = inl refl;
    number_le = omega arith;
    fits = omega (arith, h.room, length-append (bytes_of (rules.answer (context q b bs free))) []);
  }

  stops_goes : IfGoes rules Where
  stops_goes q b bs free at h z i r s = record {
    accepted = λ e. omega (arith, same, s.accepted e);
    cut = λ e. omega (arith, same, s.cut e);
    refused = λ g. omega (arith, same, s.refused g);
    numbers = s.numbers;
    number_le = s.number_le;
    fits = omega (arith, s.fits, h.room, length-append (bytes_of (rules.answer (context q b bs free))) (join (map bytes_of r.answers)));
  }
    where
      same : at + 1 + width (kind_of b) + length (drop (width (kind_of b)) bs) ≡ at + suc (length bs)
      same = omega (arith, h.operands, length-drop (width (kind_of b)) bs)

not_one : (n : ℕ) → (n ≡ 0) ⊎ (2 ≤ n) → n ≡ 1 → ⊥
not_one n (inl e) f = omega arith
not_one n (inr h) f = omega arith

pub record Ends (job : List ℕ) (room : ℕ) (r : Run) : Type 0 where
  pub accepted : r.number ≡ 0 → r.offset ≡ length job
  pub too_long : r.number ≡ 1 → (r.offset ≡ 0) × (length (written r) ≡ 0)
  pub cut : r.number ≡ 2 → r.offset ≡ length job
  pub refused : 3 ≤ r.number → r.offset < length job
  pub fits : length (written r) ≤ room
  pub number_small : r.number ≤ largest_number
  pub offset_small : r.offset ≤ 32768
  pub written_small : length (written r) ≤ 32768

module _ (rules : Rules) (law : Lawful rules) where
  pub ends : (job : List ℕ) (room : ℕ) → Ends job room (run_by rules job room)
  unfolding written
  ends job room = run_ind rules law Where stops_short (stops_refused rules law) (stops_ends rules law) (stops_goes rules law) (Ends job room) job room
      (λ l. none)
      (λ l m r s. record {
        accepted = λ e. omega (arith, s.accepted e);
        too_long = λ e. absurd (not_one r.number s.numbers e);
        cut = λ e. omega (arith, s.cut e);
        refused = λ g. omega (arith, s.refused g);
        fits = s.fits;
        number_small = s.number_le;
        offset_small = offs r s l;
        written_small = omega (arith, s.fits);
      })
    where
      stops_short : IfShort rules Where
      stops_short q free at = record {
        accepted = λ e. absurd (omega (arith, e));
        cut = λ e. omega arith;
        refused = λ g. absurd (omega (arith, g));
        numbers = inr (omega arith);
        number_le = omega arith;
        fits = omega arith;
      }

      none : Ends job room (stop 1 0 [])
      none = record {
        accepted = λ e. absurd (omega (arith, e));
        too_long = λ e. (refl, refl);
        cut = λ e. absurd (omega (arith, e));
        refused = λ g. absurd (omega (arith, g));
        fits = omega arith;
        number_small = omega arith;
        offset_small = omega arith;
        written_small = omega arith;
      }

      offs : (r : Run) → Where empty job room 0 r → length job ≤ 32768 → r.offset ≤ 32768
      offs r s l = go r.number s.numbers (λ e. omega (arith, s.accepted e)) (λ e. omega (arith, s.cut e)) (λ g. omega (arith, s.refused g))
        where
          go : (n : ℕ) → (n ≡ 0) ⊎ (2 ≤ n) → (n ≡ 0 → r.offset ≡ length job) → (n ≡ 2 → r.offset ≡ length job) → (3 ≤ n → r.offset < length job) → r.offset ≤ 32768
          go zero n a c f = omega (arith, a refl)
          go (suc zero) n a c f = absurd (not_one 1 n refl)
          go (suc (suc zero)) n a c f = omega (arith, c refl)
          go (suc (suc (suc n))) m a c f = omega (arith, f (omega arith))

-- ---- the command that is refused

module _ (rules : Rules) where
  -- of bytes from `at` on
  record JudgedFrom (at : ℕ) (bs : List ℕ) (r : Run) : Type 0 where
    answered : r.number < 3 → All (λ x. refusal_by rules x ≡ 0) r.contexts
    refused : 3 ≤ r.number → (at ≤ r.offset) × RefusedAt rules bs r.contexts r.number (r.offset - at)

  abbrev Judges : OnRuns
  Judges q bs free at r = JudgedFrom at bs r

module _ (rules : Rules) (law : Lawful rules) where
  judged_refused : IfRefused rules (Judges rules)
  judged_refused q b bs free at n = record {
    answered = λ l. absurd (omega (arith, refusal_ge rules law x n, l));
    refused = λ g. (le_refl at, record { before = []; refused = x; byte = b; read = refl; answered = tt; first = refl; there = ap (λ (i : ℕ). drop i (b ∷ bs)) none; kind = refl });
  }
    where
      x : Context
      x = context q b bs free

      none : at - at ≡ 0
      none = omega arith

  judged_goes : IfGoes rules (Judges rules)
  judged_goes q b bs free at h z n r j = record { answered = λ l. (z, j.answered l); refused = λ g. let f = j.refused g in (omega (arith, f.0), up f.0 f.1) }
    where
      x : Context
      x = context q b bs free

      w : ℕ
      w = width (kind_of b)

      up : at + 1 + w ≤ r.offset → RefusedAt rules (drop w bs) r.contexts r.number (r.offset - (at + 1 + w)) → RefusedAt rules (b ∷ bs) (x ∷ r.contexts) r.number (r.offset - at)
      up l f = record {
        before = x ∷ f.before;
        refused = f.refused;
        byte = f.byte;
        read = ap (λ (xs : List Context). x ∷ xs) f.read;
        answered = (z, f.answered);
        first = f.first;
        there = ap (λ (i : ℕ). drop i (b ∷ bs)) far ∙ sym (drop-drop (r.offset - (at + 1 + w)) w bs) ∙ f.there;
        kind = f.kind;
      }
        where
          far : r.offset - at ≡ suc (w + (r.offset - (at + 1 + w)))
          far = omega (arith, l)

  -- every job: what its number and offset say of its commands
  pub judged : (job : List ℕ) (room : ℕ) → let r = run_by rules job room in Judged rules job r.contexts r.number r.offset
  judged job room = run_ind rules law (λ q bs free at r. Judges rules q bs free at r × ((r.number ≡ 0) ⊎ (2 ≤ r.number)))
      (λ q free at. (record { answered = λ l. tt; refused = λ g. absurd (omega (arith, g)) }, inr (omega arith)))
      (λ q b bs free at n. (judged_refused q b bs free at n, inr (omega (arith, refusal_ge rules law (context q b bs free) n))))
      (λ q b bs free at h z e. (record { answered = λ l. (z, tt); refused = λ g. absurd (omega (arith, g)) }, inl refl))
      (λ q b bs free at h z n r j. (judged_goes q b bs free at h z n r j.0, j.1))
      (λ r. Judged rules job r.contexts r.number r.offset) job room
      (λ l. record { answered = λ l. tt; unread = λ e. refl; refused = λ g. absurd (omega (arith, g)) })
      (λ l m r j. record {
        answered = j.0.answered;
        unread = λ e. absurd (not_one r.number j.1 e);
        refused = λ g. subst (RefusedAt rules job r.contexts r.number) (all_of_it r) (j.0.refused g).1;
      })
    where
      all_of_it : (r : Run) → r.offset - 0 ≡ r.offset
      all_of_it r = omega arith
