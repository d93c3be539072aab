-- K2: an L, C or N that is answered is answered the same in a fresh job with the standing candidates.
use Prim.Native.Nat.{ℕ, suc, ◌-◌, ◌*◌, ◌≤◌}
use native.Mathlib.Omega.{arith}
use mathlib.Core.Path.{◌≡◌, refl, sym, ap, ◌∙◌, subst⁻¹}
use mathlib.Core.Bool.{not}
use mathlib.Core.List.Memᴰ
use mathlib.Core.List.{List, [], ◌∷◌, ◌++◌, map, Memᴰ}
use lib.Dec.{T, T_not}
use lib.ListN.{length, length-append}
use Rattle.model.specs.Base.{All}
use Rattle.model.specs.Candidates.{Candidate, Basis}
use Rattle.model.specs.Commands.{Kind, is, Context}
use Rattle.model.specs.Answers.{bytes_of, answer_for, answer}
use Rattle.model.specs.Rules.{engine, refusal}
use Rattle.model.specs.Job.{Run, run}
use Rattle.model.specs.Calls.{ran, Reads}
use Rattle.model.specs.Invariants.{SmallCandidate, Valid}
use Rattle.model.specs.Demand3.{is_query}
use Rattle.model.specs.Standing.{command_of, command_bytes, Behind, adding_command, added_again, fresh_job, by_basis, GivesAlone, Fresh, FreshAnswered, FreshRead}
use Rattle.model.proofs.Lists.{and_l, and_r, all_to}
use Rattle.model.proofs.Codes.{is_kind}
use Rattle.model.proofs.Runs.{context, OnRuns, IfEnds, IfGoes, run_ind, run_is, judged}
use Rattle.model.proofs.Sound.{engine_lawful}
use Rattle.model.proofs.Valid.{valid}
use Rattle.model.proofs.Caller.{caller}
use Rattle.model.proofs.Exchanges.{reply_read}
use Rattle.model.proofs.Demand3.{query_kind, has_bytes_lem}
use Rattle.model.proofs.Behind.{all_here}
use Rattle.model.proofs.BlockBytes.{block_long}
use Rattle.model.proofs.Standing.{stands}
use Rattle.model.proofs.Replay.{ending}
use Rattle.model.proofs.FreshRows.{rows_of, rows_replayed, rows_short}
use Rattle.model.proofs.FreshQuery.{tail_of, query_goes, query_short, tail_given}

-- ---- room for the answers

-- room for a command's answer and E's
abbrev Holds : ℕ → Context → Type 0
Holds free x = T (not (is x.kind Kind.E)) → suc (length (bytes_of (answer x))) ≤ free

abbrev Rooms : OnRuns
Rooms q bs free at r = r.number ≡ 0 → (1 ≤ free) × All (Holds free) r.contexts

end_byte : (x : Context) → T (is x.kind Kind.E) → length (bytes_of (answer x)) ≡ 1
unfolding answer answer_for
end_byte x i = rw (is_kind x.kind Kind.E i)

rooms_ends : IfEnds engine Rooms
rooms_ends q b bs free at h z i e =
    let x = context q b bs free in
    (omega (arith, h.room, end_byte x i), ((λ n. absurd (T_not (is x.kind Kind.E) n i)), tt))

rooms_goes : IfGoes engine Rooms
rooms_goes q b bs free at h z i r f e =
    let left = free - length (bytes_of (answer (context q b bs free))) in
    (omega (arith, (f e).0), ((λ n. omega (arith, (f e).0, h.room)), all_to (Holds left) (Holds free) (λ y s n. omega (arith, s n)) r.contexts (f e).1))

rooms : (job : List ℕ) (room : ℕ) → (run job room).number ≡ 0 → All (Holds room) (run job room).contexts
rooms job room = run_ind engine engine_lawful Rooms (λ q free at e. absurd (omega (arith, e))) (λ q b bs free at n e. absurd (rw e at n)) rooms_ends rooms_goes
    (λ r. r.number ≡ 0 → All (Holds room) r.contexts) job room (λ l e. absurd (omega (arith, e))) (λ l m r f e. (f e).1)

-- ---- a query and its fresh job

adding_length : (c : Candidate) → SmallCandidate c → length (command_bytes (adding_command c)) ≤ 36
adding_length (Candidate.term t) s = omega arith
adding_length (Candidate.block b) s = omega (arith, block_long b s)

added_length : (cs : List Candidate) → All SmallCandidate cs → length (added_again cs) ≤ 36 * length cs
added_length [] a = omega arith
added_length (c ∷ cs) a = omega (arith, length-append (command_bytes (adding_command c)) (added_again cs), adding_length c a.0, added_length cs a.1)

module _ (job : List ℕ) (room : ℕ) (before : List Context) (x : Context) (g : Behind (run job room) before x) where
  abbrev r : Run
  r = run job room

  pub fair : Valid x.problem
  fair = all_here (λ (y : Context). Valid y.problem) r before x g (valid job room)

  pub pieces : fresh_job (map command_of before) (command_of x) ≡ rows_of before ++ tail_of x
  pieces = ap (λ (b : Basis). rows_of before ++ (added_again b.cands ++ (command_bytes (command_of x) ++ ending))) (sym (stands job room before x g))

  -- 3 bytes of I, 4 of W, 4 for each of 256 rows, at most 36 for each of 64 candidates, the query and E
  fresh_short : T (is_query x) → length (rows_of before ++ tail_of x) ≤ 32768
  fresh_short i =
      let added = added_again x.problem.cands in
      let rows = rows_short job room before x g fair.sound.inputs in
      let whole = length-append (rows_of before) (tail_of x) in
      let tail = length-append added (command_bytes (command_of x) ++ ending) in
      omega (arith, length-append (command_bytes (command_of x)) ending, added_length x.problem.cands fair.sound.small, fair.sound.few, query_short x i)

  answered_again : T (by_basis x) → refusal x ≡ 0 → (larger : ℕ) → suc (length (bytes_of (answer x))) ≤ larger → larger ≤ 32768
      → GivesAlone (answer x) (run (fresh_job (map command_of before) (command_of x)) larger)
  answered_again h z larger l m =
      let i = and_l (is_query x) (not (is x.kind Kind.«V»)) h in
      let v = and_r (is_query x) (not (is x.kind Kind.«V»)) h in
      let bytes = rows_of before ++ tail_of x in
      let all = rows_replayed (answer x) larger (tail_of x) job room before x g (tail_given x i v z larger l fair) (suc (length bytes)) 0 (omega arith) in
      subst⁻¹ (λ (bs : List ℕ). GivesAlone (answer x) (run bs larger)) pieces (subst⁻¹ (GivesAlone (answer x)) (run_is engine bytes larger (fresh_short i) m) all)

  -- in an accepted job each command is answered
  passes : r.number ≡ 0 → refusal x ≡ 0
  passes z = all_here (λ (y : Context). refusal y ≡ 0) r before x g ((judged engine engine_lawful job room).answered (omega (arith, z)))

  held : r.number ≡ 0 → T (by_basis x) → suc (length (bytes_of (answer x))) ≤ room
  held z h = all_here (Holds room) r before x g (rooms job room z) (query_goes x (and_l (is_query x) (not (is x.kind Kind.«V»)) h))

pub fresh_answered : FreshAnswered
fresh_answered = answered_again

pub fresh : Fresh
fresh job room z before x g i larger l m = fresh_answered job room before x g i (passes job room before x g z) larger (omega (arith, held job room before x g z i)) m

-- ---- what a caller reads

pub fresh_read : FreshRead
unfolding answer
fresh_read c f mc mf z before x g i e l m = record {
  reply = reply_read engine engine_lawful c mc x there (has_bytes_lem x x.kind (query_kind x (and_l (is_query x) (not (is x.kind Kind.«V»)) i))) (passes c.job (length c.before) before x g accepted);
  accepted = told.number ∙ same.accepted;
  fresh_replies = told.answers ∙ same.answers;
  bytes = told.bytes ∙ same.bytes;
}
  where
    told : Reads f
    told = caller engine engine_lawful f mf

    accepted : (ran c).number ≡ 0
    accepted = sym (caller engine engine_lawful c mc).number ∙ z

    there : Memᴰ x (ran c).contexts
    there = rw g.1 (Memᴰ.append_right before (Memᴰ.head refl))

    same : GivesAlone (answer x) (ran f)
    same = subst⁻¹ (λ (bs : List ℕ). GivesAlone (answer x) (run bs (length f.before))) e (fresh c.job (length c.before) accepted before x g i (length f.before) l m)
