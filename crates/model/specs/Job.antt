-- Paper 01, "Job stream": a whole job by some rules, its result, which command is refused, and the answer buffer after it.
use Rattle.std.specs.Prelude.{ℕ, zero, suc, ◌+◌, ◌-◌, ◌*◌, ◌^◌, ◌≤◌, ◌<◌, ◌≡◌, cond, ◌||◌, List, [], ◌∷◌, ◌++◌, map, ltb, eqb, length, drop}
use Rattle.model.specs.Base.{join, All}
use Rattle.model.specs.Commands.{Kind, is, kind_of, width, Problem, empty, Context}
use Rattle.model.specs.Answers.{Answer, bytes_of}
use Rattle.model.specs.Rules.{Rules, engine, refusal_by}

-- a job's number and offset, the answers that it finished, and the context of each command that it read, a refused one too
pub record Run : Type 0 where
  pub number : ℕ
  pub offset : ℕ
  pub answers : List Answer
  pub contexts : List Context

-- it stops here
abbrev pub stop : ℕ → ℕ → List Context → Run
stop n offset xs = record { number = n; offset = offset; answers = []; contexts = xs }

module _ (rules : Rules) where
  -- a command is answered, and then the rest
  abbrev pub answer_then : Context → Run → Run
  answer_then x r = record { number = r.number; offset = r.offset; answers = rules.answer x ∷ r.answers; contexts = x ∷ r.contexts }

  -- the commands of some bytes, from a problem and a free part on; offset is that of the next command's first byte, and k bounds the
  -- commands left. Number 2: "the job ends where a command byte is due; the offset is the job's length"
  abbrev pub commands : ℕ → Problem → List ℕ → ℕ → ℕ → Run
  commands zero q bs free offset = stop 2 offset []
  commands (suc k) q [] free offset = stop 2 offset []
  commands (suc k) q (b ∷ bs) free offset =
      let x : Context = record { problem = q; kind = kind_of b; rest = bs; free = free } in
      let w = width x.kind in
      let next : Run = commands k (rules.after x) (drop w bs) (free - length (bytes_of (rules.answer x))) (offset + 1 + w) in
      let last : Run = stop 0 (offset + 1) [] in
      let fine : Run = answer_then x (cond (is x.kind Kind.E) last next) in
      cond (eqb (refusal_by rules x) 0) fine (stop (refusal_by rules x) offset (x ∷ []))

  -- a job and the length of its answer buffer. Number 1: "the job or the answer buffer is longer than 32,768 bytes; offset and written
  -- are 0"
  unfoldable pub run_by : List ℕ → ℕ → Run
  run_by job room =
      let r : Run = commands (suc (length job)) empty job room 0 in
      cond (ltb 32768 (length job) || ltb 32768 room) (stop 1 0 []) r

  -- a job refused at a command: the last of the commands read, its first refusal the number. "Offset of the command's first byte": there
  -- stands its command byte, and behind it the bytes that it finds. Those before it are answered
  pub record RefusedAt (job : List ℕ) (xs : List Context) (n offset : ℕ) : Type 0 where
    pub before : List Context
    pub refused : Context
    pub byte : ℕ
    pub read : xs ≡ before ++ (refused ∷ [])
    pub answered : All (λ x. refusal_by rules x ≡ 0) before
    pub first : refusal_by rules refused ≡ n
    pub there : drop offset job ≡ byte ∷ refused.rest
    pub kind : kind_of byte ≡ refused.kind

  -- what a job's number and offset say of the commands read (law `judged`): below 3 each is answered, and none is read where the number
  -- is 1; from 3 on all but the last
  pub record Judged (job : List ℕ) (xs : List Context) (n offset : ℕ) : Type 0 where
    pub answered : n < 3 → All (λ x. refusal_by rules x ≡ 0) xs
    pub unread : n ≡ 1 → xs ≡ []
    pub refused : 3 ≤ n → RefusedAt job xs n offset

abbrev pub run : List ℕ → ℕ → Run
run job room = run_by engine job room

-- "the bytes of finished answers"
unfoldable pub written : Run → List ℕ
written r = join (map bytes_of r.answers)

-- what the exported call returns: "number × 2^32 + offset × 2^16 + written"
unfoldable pub packed : Run → ℕ
packed r = r.number * 2 ^ 32 + r.offset * 2 ^ 16 + length (written r)

-- the answer buffer after it: "no later byte has changed"
unfoldable pub buffer_after : Run → List ℕ → List ℕ
buffer_after r old = written r ++ drop (length (written r)) old
