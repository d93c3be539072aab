-- What the contracts of the commands cite: the effect of a command, in the context that the definitions give it.
use Rattle.std.specs.Prelude.{ℕ, ◌≤◌, ◌≡◌, Bool, List, [], ◌∷◌, ◌++◌, ltb, length, drop, Result, Ok, Err}
use Rattle.model.specs.declared.Term.{Term}
use Rattle.model.specs.declared.Block.{Block}
use Rattle.model.specs.declared.Prices.{Prices}
use Rattle.model.specs.declared.reason.Reason.{Reason}
use Rattle.model.specs.Reasons.{number_of}
use Rattle.model.specs.Sets.{coverable}
use Rattle.model.specs.Pages.{page, more}
use Rattle.model.specs.Ranges.{between}
use Rattle.model.specs.Commands as model
use Rattle.model.specs.Commands.{Context, table_of, basis_of, covering_of, operand, Row, rows_of_b, operand_term, operand_block, operand_number, range_of_g, operand_prices, start, count, problem_after}
use Rattle.model.specs.Answers.{Answer, bytes_of, answer_for}
use Rattle.model.specs.Refusals.{refuse, first_of, refusals_of}
use Rattle.model.specs.Invariants.{Valid}
use Rattle.incidence.specs.Stored.{BlocksAt}
use Rattle.problem.specs.declared.Problem.{Problem}
use Rattle.problem.specs.Problems.{at_place, Holds}
use Rattle.problem.specs.Refusing.{term_refusals, block_refusals}
use Rattle.problem.specs.Matrix.{MatrixOf}
use Rattle.commands.specs.declared.Effect.{Effect}

-- what a command comes to: its refusal or 0, how many answer bytes it wrote, and the problem behind it
pub record Outcome : Type 0 where
  pub number : ℕ
  pub written : ℕ
  pub problem : Problem

abbrev pub refused_as : Problem → ℕ → Outcome
refused_as p n = record { number = n; written = 0; problem = p }

-- what r tells of a command that found p: a refusal leaves p
abbrev pub outcome : Problem → Result Effect Reason → Outcome
outcome p (Ok e) = record { number = 0; written = e.written; problem = e.problem }
outcome p (Err r) = refused_as p (number_of r)

-- what a query comes to, by its reply
abbrev pub replied_as : Problem → Result ℕ Reason → Outcome
replied_as p (Ok n) = record { number = 0; written = n; problem = at_place model.queried p }
replied_as p (Err r) = refused_as p (number_of r)

-- the bytes that a command of this kind answers
abbrev pub answer_bytes : Context → model.Kind → List ℕ
answer_bytes x k = bytes_of (answer_for x k)

-- the answer of an L: the page of a list from a start on, for a row of so many entries
abbrev pub page_bytes : List ℕ → ℕ → ℕ → List ℕ
page_bytes all s k = bytes_of (Answer.paged (page all s k) (more all s k))

-- the answer of a V, the same way
abbrev pub possible_bytes : List ℕ → ℕ → ℕ → List ℕ
possible_bytes all s k = bytes_of (Answer.possible_paged (page all s k) (more all s k))

-- the first refusal behind 3, 4 and 5: the command's own, then 14; 0 where none applies
abbrev pub late_refusal : Context → model.Kind → ℕ
late_refusal x k = first_of (refusals_of x k ++ (refuse 14 (ltb x.free (length (answer_bytes x k))) ∷ []))

-- an answered command of kind k: its bytes stand in front of the free part, and the record holds the problem after it
pub record Answered (x : Context) (k : model.Kind) (old new : List ℕ) (e : Outcome) : Type 0 where
  pub written : e.written ≡ length (answer_bytes x k)
  pub bytes : new ≡ answer_bytes x k ++ drop (length (answer_bytes x k)) old
  pub problem : Holds e.problem (problem_after x k)

-- a refused command: the free part stays, and the record holds the problem that it found
pub record LeftAlone (x : Context) (old new : List ℕ) (e : Outcome) : Type 0 where
  pub bytes : new ≡ old
  pub problem : Holds e.problem x.problem

-- a command of kind k behind the tests of 3, 4 and 5: its refusal or its answer
pub record Handled (x : Context) (k : model.Kind) (old new : List ℕ) (e : Outcome) : Type 0 where
  pub number : e.number ≡ late_refusal x k
  pub refused : (e.number ≡ 0 → ⊥) → LeftAlone x old new e
  pub answered : e.number ≡ 0 → Answered x k old new e

-- one that changes the sets of the blocks from `old` to `new`: they have those of the problem after it, and a refusal leaves them
pub record HandledWith (x : Context) (k : model.Kind) (free old new : List ℕ) (e : Outcome) : Type 0 where
  pub handled : Handled x k free free e
  pub left : (e.number ≡ 0 → ⊥) → new ≡ old
  pub blocks : e.number ≡ 0 → BlocksAt (problem_after x k).cands new

-- a context of the problem that p holds
pub record Found (p : Problem) (x : Context) : Type 0 where
  pub holds : Holds p x.problem
  pub valid : Valid x.problem
  pub begun : model.begun ≤ x.problem.place

-- ---- each kind, in every context that has these operands

abbrev pub HandlesI : Problem → ℕ → ℕ → Outcome → Type 0
HandlesI p n m e = (x : Context) (free : List ℕ) → Holds p x.problem → operand x 0 ≡ n → operand x 1 ≡ m → Handled x model.Kind.I free free e

-- W, behind I alone
abbrev pub HandlesW : Problem → Prices → Outcome → Type 0
HandlesW p w e = (x : Context) (free : List ℕ) → Found p x → x.problem.place ≤ model.begun → operand_prices x ≡ w → Handled x model.Kind.W free free e

abbrev pub HandlesR : Problem → ℕ → ℕ → ℕ → Outcome → Type 0
HandlesR p v on dc e = (x : Context) (free : List ℕ) → Found p x → operand x 0 ≡ v → operand x 1 ≡ on → operand x 2 ≡ dc → Handled x model.Kind.R free free e

-- B, while rows may come
abbrev pub HandlesB : Problem → List Row → Outcome → Type 0
HandlesB p ws e = (x : Context) (free : List ℕ) → Found p x → x.problem.place ≤ model.among_rows → rows_of_b x.rest ≡ ws → Handled x model.Kind.B free free e

-- r is 9 or 10 of the term t, 0 where neither applies
abbrev pub RefusesTerm : Problem → Term → ℕ → Type 0
RefusesTerm p t r = (x : Context) → Found p x → r ≡ first_of (term_refusals (table_of x.problem) t)

-- r is 18 or 10 of the block b, 0 where neither applies
abbrev pub RefusesBlock : Problem → Block → ℕ → Type 0
RefusesBlock p b r = (x : Context) → Found p x → r ≡ first_of (block_refusals (table_of x.problem) b)

-- T and A
abbrev pub HandlesTerm : Problem → Term → Outcome → Type 0
HandlesTerm p t e = (x : Context) (free : List ℕ) → Found p x → operand_term x ≡ t → Handled x model.Kind.T free free e × Handled x model.Kind.A free free e

abbrev pub HandlesF : Problem → Block → List ℕ → List ℕ → Outcome → Type 0
HandlesF p b old new e = (x : Context) (free : List ℕ) → Found p x → BlocksAt x.problem.cands old → operand_block x ≡ b → HandledWith x model.Kind.F free old new e

abbrev pub HandlesP : Problem → List ℕ → List ℕ → Outcome → Type 0
HandlesP p old new e = (x : Context) → Found p x → x.free ≡ length old → Handled x model.Kind.P old new e

abbrev pub HandlesD : Problem → ℕ → List ℕ → List ℕ → Outcome → Type 0
HandlesD p k old new e = (x : Context) (free : List ℕ) → Found p x → BlocksAt x.problem.cands old → operand_number x ≡ k → HandledWith x model.Kind.D free old new e

abbrev pub HandlesG : Problem → ℕ → ℕ → ℕ → Outcome → Type 0
HandlesG p k low high e = (x : Context) (free : List ℕ) → Found p x → operand_number x ≡ k → range_of_g x.rest ≡ between low high → Handled x model.Kind.G free free e

abbrev pub HandlesE : Problem → ℕ → List ℕ → List ℕ → Outcome → Type 0
HandlesE p rest old new e = (x : Context) → Holds p x.problem → length x.rest ≡ rest → x.free ≡ length old → Handled x model.Kind.E old new e

-- L, V and C, with the covering matrix of the problem
abbrev pub HandlesL : Problem → List ℕ → Bool → ℕ → ℕ → List ℕ → List ℕ → Outcome → Type 0
HandlesL p rows covered s k old new e =
    (x : Context) → Found p x → MatrixOf (basis_of x.problem) rows covered → start x ≡ s → count x ≡ k → x.free ≡ length old → Handled x model.Kind.L old new e

abbrev pub HandlesV : Problem → List ℕ → Bool → ℕ → ℕ → List ℕ → List ℕ → Outcome → Type 0
HandlesV p rows covered s k old new e =
    (x : Context) → Found p x → MatrixOf (basis_of x.problem) rows covered → start x ≡ s → count x ≡ k → x.free ≡ length old → Handled x model.Kind.«V» old new e

abbrev pub HandlesC : Problem → List ℕ → Bool → List ℕ → List ℕ → Outcome → Type 0
HandlesC p rows covered old new e = (x : Context) → Found p x → MatrixOf (basis_of x.problem) rows covered → x.free ≡ length old → Handled x model.Kind.C old new e

-- N, with the sets of the blocks and what the covering matrix tells of 12
abbrev pub HandlesN : Problem → List ℕ → Bool → List ℕ → List ℕ → Outcome → Type 0
HandlesN p held covered old new e =
    (x : Context) → Found p x → BlocksAt x.problem.cands held → covered ≡ coverable (covering_of x) → x.free ≡ length old → Handled x model.Kind.N old new e
