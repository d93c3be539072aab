-- Demand 3 of paper 01: "a single claim about the whole list of L and C commands", with K8's N and K11's V among them, of the answers and of the
-- bytes that calls leave.
use Rattle.std.specs.Prelude.{ℕ, ◌≤◌, ◌≡◌, ◌↔◌, Bool, not, ◌&&◌, T, length}
use mathlib.Core.List.{List, [], ◌∷◌, Memᴰ}
use Rattle.model.specs.Base.{All}
use Rattle.model.specs.Table.{Table, Term, represents}
use Rattle.model.specs.Primes.{prime}
use Rattle.model.specs.Sets.{Irredundant, coverable, irredundants, Best}
use Rattle.model.specs.Products.{has_too_many}
use Rattle.model.specs.Pages.{page, more}
use Rattle.model.specs.Ranges.{Range, Ranged, Possible, possibles}
use Rattle.model.specs.Candidates.{Candidate, Basis, covering, list_cost, HoldsExactly, LegalBasis}
use Rattle.model.specs.Commands.{Kind, is, is_query_kind, allowed, width, basis_of, Context, start, count}
use Rattle.model.specs.Answers.{Answer, bytes_of, has_bytes, answer}
use Rattle.model.specs.Rules.{engine}
use Rattle.model.specs.Calls.{Call, Met}
use Rattle.model.specs.Exchanges.{Exchange, pages_of, Gives, EqualsPages, Claim}

-- ---- the list of L and C commands, N and V

-- a query: an L, a V, a C or an N behind I
abbrev pub is_query : Context → Bool
is_query x = is_query_kind x.kind && allowed x.kind x.problem.place

abbrev pub is_asked : Exchange → Bool
is_asked e = is_query e.context

-- the command finds this table, these candidates and these prices
abbrev pub HasBasis : Basis → Context → Type 0
HasBasis b x = basis_of x.problem ≡ b

-- "the list stands on one table and the candidates that the commands before it set"; at one setting of prices (at any: `AtAnyPrices`)
abbrev pub StandsOn : Basis → Exchange → Type 0
StandsOn b e = T (is_asked e) × HasBasis b e.context

-- ---- what each reply says, wherever its command stands

-- the irredundant covers, rising
abbrev pub covers_of : Basis → List ℕ
covers_of b = irredundants (covering b)

-- K11: those of them that "cost no more than every other" for at least one choice of weights within the ranges
abbrev pub possibles_of : Basis → List Range → List ℕ
possibles_of b rs = possibles (covering b) rs

-- the candidate is a prime; a block is none
abbrev pub IsPrime : Table → Candidate → Type 0
IsPrime p (Candidate.term t) = T (prime p t)
IsPrime p (Candidate.block b) = ⊥

-- "the candidates are the primes when every prime stands among them and nothing else does". K10: the rival "is met only in jobs of primes alone"
abbrev pub ArePrimes : Basis → Type 0
ArePrimes b = (c : Candidate) → IsPrime b.table c ↔ Memᴰ c b.cands

-- where they are, no list of product terms that represents the table is cheaper than c. K6: "A rival's own terms are brought into the
-- comparison only at connection price 0" (law `condition_needed`)
abbrev pub NoCheaperList : Basis → ℕ → Type 0
NoCheaperList b c = b.prices.connection ≡ 0 → ArePrimes b → (qs : List Term) → T (represents b.table qs) → c ≤ list_cost b qs

-- neither 5, 12, 17 nor 14 applies (3 and 4 do not: it is an L, a V, a C or an N behind I)
pub record Acceptable (b : Basis) (x : Context) : Type 0 where
  pub operands : width x.kind ≤ length x.rest
  pub coverable : T (coverable (covering b))
  pub few_products : T (is x.kind Kind.N) → T (not (has_too_many (covering b)))
  pub room : length (bytes_of (answer x)) ≤ x.free

-- the answer to a V, by the ranges that it finds, to an L, to a C and to an N
pub record Correct (b : Basis) (x : Context) (a : Answer) : Type 0 where
  pub possible : T (is x.kind Kind.«V»)
      → let all = possibles_of b x.problem.ranges in a ≡ Answer.possible_paged (page all (start x) (count x)) (more all (start x) (count x))
  pub page : T (is x.kind Kind.L) → a ≡ Answer.paged (page (covers_of b) (start x) (count x)) (more (covers_of b) (start x) (count x))
  pub cheapest : T (is x.kind Kind.C) → (c : ℕ) × (s : ℕ) × (a ≡ Answer.cheapest_is c s) × Best (covering b) c s × NoCheaperList b c
  pub products : T (is x.kind Kind.N) → a ≡ Answer.products_are (covers_of b)

-- the sets that an answer gives
abbrev pub sets_in : Answer → List ℕ
sets_in Answer.nothing = []
sets_in (Answer.primes_are ts) = []
sets_in (Answer.paged ss m) = ss
sets_in (Answer.possible_paged ss m) = ss
sets_in (Answer.cheapest_is c s) = s ∷ []
sets_in (Answer.products_are ss) = ss
sets_in Answer.ended = []

-- every candidate that it finds is legal and has a range whose low end is not above its high one; each set that it is answered holds every
-- wanted cell and no off cell; it is answered exactly where no refusal applies, and the answer is right
pub record CorrectExchange (b : Basis) (e : Exchange) : Type 0 where
  pub legal : LegalBasis b
  pub ranged : Ranged e.context.problem.ranges
  pub each_range : length e.context.problem.ranges ≡ length b.cands
  pub exactly : All (HoldsExactly b) (sets_in e.reply)
  pub answered : T (has_bytes e.reply) ↔ Acceptable b e.context
  pub correct : Acceptable b e.context → Correct b e.context e.reply

-- ---- the claim

-- the command, where it is a V, finds these ranges
abbrev pub FindsRanges : List Range → Exchange → Type 0
FindsRanges rs e = T (is e.context.kind Kind.«V») → e.context.problem.ranges ≡ rs

pub record Demand (b : Basis) (es : List Exchange) : Type 0 where
  -- the list is that of the irredundant covers, rising, so each once
  pub listed : (s : ℕ) → Memᴰ s (covers_of b) ↔ Irredundant (covering b) s
  -- each L, V, C and N by itself
  pub each : All (CorrectExchange b) es
  -- and the pages joined
  pub pages : Gives Kind.L (covers_of b) es
  -- which each N equals
  pub products : All (EqualsPages (pages_of Kind.L es)) es
  -- V: "all such covers are listed, .. and no others", by whatever ranges it finds
  pub possible_listed : (rs : List Range) → Ranged rs → (s : ℕ) → Memᴰ s (possibles_of b rs) ↔ Possible (covering b) rs s
  -- and its pages joined, "over pages that find the same table, candidates, weights and ranges", whatever L, C and N stand among them (at any
  -- prices: `AtAnyPrices`)
  pub possible_pages : (rs : List Range) → All (FindsRanges rs) es → Gives Kind.«V» (possibles_of b rs) es

-- for every list of calls that each meet their contract, and every table, candidates and prices, however the jobs came by them: "a further job
-- sets the same table and candidates anew"
abbrev pub Demand3 : Type 0
Demand3 = (b : Basis) (calls : List Call) → All Met calls → Claim engine (StandsOn b) (Demand b) calls
