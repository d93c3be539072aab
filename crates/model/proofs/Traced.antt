-- K3: what two runs have in common where one reads R commands for a B, and how an offset is traced back to the job with B.
use Prim.Native.Nat.{ℕ, ◌+◌, ◌-◌, ◌≤◌, ◌<◌}
use native.Mathlib.Omega.{arith}
use native.Mathlib.Nat.{le_refl}
use mathlib.Core.Path.{◌≡◌, refl, ap, ◌∙◌, subst⁻¹}
use mathlib.Core.Bool.{Bool, true, false, cond}
use mathlib.Core.List.{List, [], ◌∷◌, ◌++◌, map}
use lib.Dec.{ltb, lt→ltb}
use lib.Arith.{le→nltb}
use lib.ListN.{length}
use Rattle.model.specs.Base.{filter}
use Rattle.model.specs.Commands.{Problem, Context}
use Rattle.model.specs.Answers.{Answer, bytes_of, answer}
use Rattle.model.specs.Rules.{engine}
use Rattle.model.specs.Job.{Run, stop, answer_then, written}
use Rattle.model.specs.Exchanges.{answers}
use Rattle.model.specs.Standing.{Command, command_of}
use Rattle.model.specs.Pieces.{Piece, piece_bytes}
use Rattle.model.specs.Expanded.{as_rows, origin_in, asked}
use Rattle.model.proofs.Lists.{T_true, T_false}
use Rattle.model.proofs.Alike.{with_rest, Alike}

-- ---- what is compared of two runs

pub record Result : Type 0 where
  pub number : ℕ
  pub offset : ℕ
  pub bytes : List ℕ
  pub asked : List (Command × Problem)

abbrev pub result : Run → Result
result r = record { number = r.number; offset = r.offset; bytes = written r; asked = asked r }

abbrev pub stopped : ℕ → ℕ → List (Command × Problem) → Result
stopped n at cs = record { number = n; offset = at; bytes = []; asked = cs }

pub result_none : (n at : ℕ) → result (stop n at []) ≡ stopped n at []
unfolding written
result_none n at = refl

-- a command without an answer leaves it
pub silent_goes : (x : Context) (r : Run) → answer x ≡ Answer.nothing → result (answer_then engine x r) ≡ result r
unfolding written
silent_goes x r e = rw e

pub silent_stops : (x : Context) (n at : ℕ) → answer x ≡ Answer.nothing → result (stop n at (x ∷ [])) ≡ stopped n at []
unfolding written
silent_stops x n at e = rw e

-- any other adds to it
abbrev pub asks : Context → List (Command × Problem) → List (Command × Problem)
asks x cs = cond (answers engine x) ((command_of x, x.problem) ∷ cs) cs

abbrev pub ahead : Context → Result → Result
ahead x s = record { number = s.number; offset = s.offset; bytes = bytes_of (answer x) ++ s.bytes; asked = asks x s.asked }

asks_first : (x : Context) (xs : List Context) → map (λ y. (command_of y, y.problem)) (filter (answers engine) (x ∷ xs)) ≡ asks x (map (λ y. (command_of y, y.problem)) (filter (answers engine) xs))
asks_first x xs = go (answers engine x)
  where
    rest : List Context
    rest = filter (answers engine) xs

    asking : Context → Command × Problem
    asking y = (command_of y, y.problem)

    go : (b : Bool) → map asking (cond b (x ∷ rest) rest) ≡ cond b (asking x ∷ map asking rest) (map asking rest)
    go true = refl
    go false = refl

pub result_goes : (x : Context) (r : Run) → result (answer_then engine x r) ≡ ahead x (result r)
unfolding written
result_goes x r = rw (asks_first x r.contexts)

pub result_stops : (x : Context) (n at : ℕ) → result (stop n at (x ∷ [])) ≡ stopped n at (asks x [])
unfolding written
result_stops x n at = rw (asks_first x [])

-- and one that is alike adds the same
module _ (x : Context) (bs : List ℕ) (h : Alike x (with_rest x bs)) where
  pub alike_asks : (cs : List (Command × Problem)) → asks (with_rest x bs) cs ≡ asks x cs
  alike_asks cs = rw (h.answer, h.command)

  pub alike_ahead : (s : Result) → ahead (with_rest x bs) s ≡ ahead x s
  alike_ahead s = rw (h.answer, h.command)

-- ---- the offset

abbrev at_offset : ℕ → Result → Result
at_offset o s = record { number = s.number; offset = o; bytes = s.bytes; asked = s.asked }

-- r is what a run from offset `at` on gives, of these commands, and e what it gives with the R commands, from `at'` on
pub record Like (cs : List Piece) (at at' : ℕ) (r e : Result) : Type 0 where
  pub behind : at' ≤ e.offset
  pub same : r ≡ at_offset (at + origin_in cs (e.offset - at')) e

pub like_by : {cs : List Piece} {at at' : ℕ} {r s e f : Result} → r ≡ s → e ≡ f → Like cs at at' s f → Like cs at at' r e
like_by {cs} {at} {at'} {r} {s} {e} {f} p q l = subst⁻¹ (λ (t : Result). Like cs at at' t e) p (subst⁻¹ (Like cs at at' s) q l)

pub like_ahead : {cs : List Piece} {at at' : ℕ} {r e : Result} (x : Context) → Like cs at at' r e → Like cs at at' (ahead x r) (ahead x e)
like_ahead x l = record { behind = l.behind; same = ap (ahead x) l.same }

-- both end before any command
pub like_none : (at at' n : ℕ) → Like [] at at' (stopped n at []) (stopped n at' [])
like_none at at' n = let e : at + 0 ≡ at = omega arith in record { behind = le_refl at'; same = rw e }

module _ (c : Piece) (cs : List Piece) where
  -- a byte of what this command became
  origin_here : (o : ℕ) → o < length (as_rows c) → origin_in (c ∷ cs) o ≡ 0
  origin_here o l = rw (T_true {b = ltb o (length (as_rows c))} (lt→ltb o (length (as_rows c)) l))

  -- a byte behind it
  origin_later : (o : ℕ) → length (as_rows c) ≤ o → origin_in (c ∷ cs) o ≡ length (piece_bytes c) + origin_in cs (o - length (as_rows c))
  origin_later o l = rw (T_false {b = ltb o (length (as_rows c))} (le→nltb o (length (as_rows c)) l))

  module _ (at at' : ℕ) where
    -- both stop at this command, the second somewhere in what it became
    pub like_here : (n o : ℕ) (asking : List (Command × Problem)) → o < length (as_rows c) → Like (c ∷ cs) at at' (stopped n at asking) (stopped n (at' + o) asking)
    like_here n o asking l =
        let d : at' + o - at' ≡ o = omega arith in
        let e : at + origin_in (c ∷ cs) (at' + o - at') ≡ at = rw (d, origin_here o l) (omega arith) in
        record { behind = omega arith; same = rw e }

    -- both go on behind it
    pub like_later : (r e : Result) → Like cs (at + length (piece_bytes c)) (at' + length (as_rows c)) r e → Like (c ∷ cs) at at' r e
    like_later r e l =
        let n = length (as_rows c) in
        let d : e.offset - at' - n ≡ e.offset - (at' + n) = omega (arith, l.behind) in
        let f = origin_later (e.offset - at') (omega (arith, l.behind)) ∙ ap (λ (o : ℕ). length (piece_bytes c) + origin_in cs o) d in
        let g : at + origin_in (c ∷ cs) (e.offset - at') ≡ at + length (piece_bytes c) + origin_in cs (e.offset - (at' + n)) = rw f (omega arith) in
        record { behind = omega (arith, l.behind); same = l.same ∙ rw g }
