-- What the contracts of a block of R and B commands cite.
use Rattle.std.specs.Prelude.{ℕ, ◌+◌, ◌≤◌, ◌<◌, ◌≡◌, cond, List, ltb, get_or, length, drop}
use Rattle.model.specs.Commands as model
use Rattle.model.specs.Commands.{kind_of}
use Rattle.model.specs.Refusals.{first_of}
use Rattle.model.specs.Rules.{engine}
use Rattle.model.specs.Job.{Run, commands, written}
use Rattle.model.specs.Records.{last_left}
use Rattle.model.specs.Invariants.{Valid}
use Rattle.problem.specs.declared.Settings.{Settings}
use Rattle.problem.specs.declared.TableRows.{TableRows}
use Rattle.problem.specs.declared.Candidates.{Candidates}
use Rattle.problem.specs.declared.Problem.{Problem}
use Rattle.problem.specs.Problems.{Holds, Reached}
use Rattle.problem.specs.Refusing.{row_refusals}

-- an R with its operands stands at `at`, and neither 7 nor 8 applies
pub record RowAt (s : Settings) (given job : List ℕ) (at : ℕ) : Type 0 where
  pub room : at + 4 ≤ length job
  pub kind : kind_of (get_or job at 0) ≡ model.Kind.R
  pub accepted : 0 ≡ first_of (row_refusals s.n s.m given (get_or job (at + 1) 0) (get_or job (at + 2) 0) (get_or job (at + 3) 0))

-- what is left of a job's run: from `at` on with the problem q and so much free, at most so many commands
abbrev pub rest_of : List ℕ → ℕ → model.Problem → ℕ → ℕ → Run
rest_of job most q free at = commands engine most q (drop at job) free at

-- the rest of a run from q on is that from a later place on, where p holds the problem: the commands between are answered, write nothing and leave
-- the candidates
pub record GoesOn (job : List ℕ) (q : model.Problem) (r : Run) (free : ℕ) (p : Problem) (at : ℕ) : Type 0 where
  pub problem : model.Problem
  pub most : ℕ
  pub enough : length job < at + most
  pub holds : Holds p problem
  pub valid : Valid problem
  pub cands : problem.cands ≡ q.cands
  pub number : r.number ≡ (rest_of job most problem free at).number
  pub offset : r.offset ≡ (rest_of job most problem free at).offset
  pub written : written r ≡ written (rest_of job most problem free at)
  pub left : last_left engine q r.contexts ≡ last_left engine problem (rest_of job most problem free at).contexts

-- from `at` on with p, and from `behind` on with the record `next`, every run is the same
pub record ReadsRows (p : Problem) (job : List ℕ) (at : ℕ) (next : Problem) (behind : ℕ) : Type 0 where
  pub forward : at ≤ behind
  pub within : behind ≤ length job
  pub in_problem : (q : model.Problem) → Holds p q → Valid q → (most free : ℕ) → length job < at + most → GoesOn job q (rest_of job most q free at) free next behind

-- and behind it a row may come
pub record Reading (p : Problem) (job : List ℕ) (at : ℕ) (next : Problem) (behind : ℕ) : Type 0 where
  pub reads : ReadsRows p job at next behind
  pub behind_i : model.begun ≤ next.place
  pub in_rows : next.place ≤ model.among_rows

-- the place behind such commands from `at` to `behind`: that of a row, where there is one
abbrev pub place_behind : ℕ → ℕ → ℕ → ℕ
place_behind at behind place = cond (ltb at behind) model.among_rows place

-- a record of parts
abbrev pub record_of : ℕ → Settings → TableRows → Candidates → Problem
record_of place settings rows candidates = record { place = place; settings = settings; rows = rows; candidates = candidates }

-- the same of the rows alone, whatever else the record has
pub record ReadsInto (s : Settings) (job : List ℕ) (at : ℕ) (rows : TableRows) (behind : ℕ) (after : TableRows) : Type 0 where
  pub forward : at ≤ behind
  pub within : behind ≤ length job
  pub reading : (place : ℕ) (cs : Candidates) → Reached (record_of place s rows cs) → model.begun ≤ place → place ≤ model.among_rows
      → Reading (record_of place s rows cs) job at (record_of (place_behind at behind place) s after cs) behind
