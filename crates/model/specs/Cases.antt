-- Paper 01, "The two-output example of document 003": the marked cases as one table, the presence function on some of them, and the job
-- with all its bytes; tables of jobs and library calls that pin the order of refusals, of jobs in which candidates come and go, of jobs with
-- eight rows in a command, of the weights in the records that jobs leave, of prices, of products, and of T commands in another order
-- (theorems: proofs/Marked, proofs/EightRows, proofs/Pricing, proofs/Sorted).
use Rattle.std.specs.Prelude.{ℕ, ◌+◌, ◌<◌, Bool, true, false, cond, List, [], ◌∷◌, ◌++◌, map, T, length, take, drop, replicate}
use Rattle.model.specs.Base.{below, join}
use Rattle.model.specs.Table.{Table, Term, term, represents}
use Rattle.model.specs.Primes.{primes}
use Rattle.model.specs.Sets.{coverable, irredundants, cost, cheapest}
use Rattle.model.specs.Candidates.{Candidate, terms_alone, Prices, prices, Basis, priced, basis, list_cost, covering}
use Rattle.model.specs.Commands.{low}
use Rattle.model.specs.Demand3.{ArePrimes}
use Rattle.model.specs.Spelling.{i11, row, b, zeros, t, a, d, l, w, times}

-- ---- cases a to h

-- what the candidates of a table come to: the sets with their costs, then the cheapest and its cost; or the refusal
pub data Outcome : Type 0 where
  listed : List ℕ → List ℕ → ℕ → ℕ → Outcome
  refused : ℕ → Outcome

unfoldable pub outcome : Basis → Outcome
outcome b =
    let k = covering b in
    let all = irredundants k in
    let c = cheapest k in
    let r = listed all (map (cost k) all) c (cost k c) in
    cond (coverable k) r (refused 12)

abbrev pub table : ℕ → ℕ → List ℕ → List ℕ → Table
table n m on dc = record { n = n; m = m; on = on; dc = dc }

-- the rows of the job, and "the table as crawled"
abbrev pub example : Table
example = table 2 2 (0 ∷ 1 ∷ 3 ∷ 2 ∷ []) (1 ∷ 2 ∷ 0 ∷ 0 ∷ [])

abbrev pub crawled : Table
crawled = table 2 2 (1 ∷ 3 ∷ 3 ∷ 2 ∷ []) (0 ∷ 0 ∷ 0 ∷ 0 ∷ [])

-- "terms 1 to 6 of 003, in that order"
abbrev pub six_terms : List Term
six_terms = term 1 0 1 ∷ term 3 1 3 ∷ term 1 1 2 ∷ term 2 2 2 ∷ term 3 2 3 ∷ term 2 0 1 ∷ []

-- "one input, one output": no rows; both cells wanted
abbrev pub no_rows : Table
no_rows = table 1 1 (0 ∷ 0 ∷ []) (0 ∷ 0 ∷ [])

abbrev pub both_on : Table
both_on = table 1 1 (1 ∷ 1 ∷ []) (0 ∷ 0 ∷ [])

pub record Case : Type 0 where
  pub of : Table
  pub by : List Candidate
  pub gives : Outcome

abbrev case : Table → List Term → Outcome → Case
case p ts o = record { of = p; by = terms_alone ts; gives = o }

-- a and b, c, d, e, f, g, h. K1: "Case costs and cheapest sets are worked out anew"; the sets listed are those of paper 01
abbrev pub cases : List Case
cases =
    case example six_terms (listed (11 ∷ 22 ∷ 26 ∷ 41 ∷ 52 ∷ 56 ∷ []) (5 ∷ 7 ∷ 7 ∷ 3 ∷ 5 ∷ 5 ∷ []) 41 3)
    ∷ case example (primes example) (listed (13 ∷ 25 ∷ 38 ∷ 44 ∷ 50 ∷ 56 ∷ []) (3 ∷ 5 ∷ 5 ∷ 5 ∷ 7 ∷ 7 ∷ []) 13 3)
    ∷ case crawled six_terms (listed (11 ∷ 23 ∷ 45 ∷ 52 ∷ 58 ∷ []) (5 ∷ 8 ∷ 4 ∷ 5 ∷ 8 ∷ []) 45 4)
    ∷ case no_rows [] (listed (0 ∷ []) (0 ∷ []) 0 0)
    ∷ case both_on (term 0 0 1 ∷ []) (listed (1 ∷ []) (1 ∷ []) 1 1)
    ∷ case both_on (term 0 0 1 ∷ term 0 0 1 ∷ []) (listed (1 ∷ 2 ∷ []) (1 ∷ 1 ∷ []) 1 1)
    ∷ case both_on [] (refused 12)
    ∷ []

-- ---- the presence function on some of them, point by point

-- for a set, the product before any point and behind each point, as `presence` takes it and as document 000 does, with the delta
pub record Walked : Type 0 where
  pub of : Table
  pub by : List Candidate
  pub set : ℕ
  pub product : List Bool
  pub with_delta : List Bool

abbrev walked : Table → List Term → ℕ → List Bool → List Bool → Walked
walked p ts s product d = record { of = p; by = terms_alone ts; set = s; product = product; with_delta = d }

-- f at sets 0 and 1, g at sets 0 and 2, h at set 0: all functions agree at both points, and the delta drops them; f's table with a term that
-- holds its first cell alone: with the delta the second, which no candidate holds, would pass; a at its cheapest set, and without that set's
-- first member, where no member holds the second wanted cell; d at a set that holds its first two, by vertex, then output, and not the third
abbrev pub walks : List Walked
walks =
    walked both_on (term 0 0 1 ∷ []) 0 (true ∷ false ∷ false ∷ []) (true ∷ true ∷ true ∷ [])
    ∷ walked both_on (term 0 0 1 ∷ []) 1 (true ∷ true ∷ true ∷ []) (true ∷ true ∷ true ∷ [])
    ∷ walked both_on (term 0 0 1 ∷ term 0 0 1 ∷ []) 0 (true ∷ false ∷ false ∷ []) (true ∷ true ∷ true ∷ [])
    ∷ walked both_on (term 0 0 1 ∷ term 0 0 1 ∷ []) 2 (true ∷ true ∷ true ∷ []) (true ∷ true ∷ true ∷ [])
    ∷ walked both_on [] 0 (true ∷ false ∷ false ∷ []) (true ∷ true ∷ true ∷ [])
    ∷ walked both_on (term 1 0 1 ∷ []) 1 (true ∷ true ∷ false ∷ []) (true ∷ true ∷ true ∷ [])
    ∷ walked example six_terms 41 (true ∷ true ∷ true ∷ true ∷ true ∷ []) (true ∷ true ∷ true ∷ true ∷ true ∷ [])
    ∷ walked example six_terms 40 (true ∷ true ∷ false ∷ false ∷ false ∷ []) (true ∷ true ∷ false ∷ false ∷ false ∷ [])
    ∷ walked crawled six_terms 33 (true ∷ true ∷ true ∷ false ∷ false ∷ false ∷ false ∷ []) (true ∷ true ∷ true ∷ false ∷ false ∷ false ∷ false ∷ [])
    ∷ []

-- ---- costs and primes of a and c

-- what a term costs that has so many literals, 0 to 8
abbrev pub costs_by_literals : List ℕ
costs_by_literals = 1 ∷ 1 ∷ 3 ∷ 4 ∷ 5 ∷ 6 ∷ 7 ∷ 8 ∷ 9 ∷ []

-- case c: "primes are terms 1, 3, 6, 4, 2, 5 of 003"
abbrev pub example_primes : List Term
example_primes = term 1 0 1 ∷ term 1 1 2 ∷ term 2 0 1 ∷ term 2 2 2 ∷ term 3 1 3 ∷ term 3 2 3 ∷ []

-- ---- the job

-- I, four R and six T
abbrev pub example_head : List ℕ
example_head =
    0x49 ∷ 0x02 ∷ 0x02 ∷ 0x52 ∷ 0x00 ∷ 0x00 ∷ 0x01 ∷ 0x52 ∷ 0x01 ∷ 0x01 ∷ 0x02 ∷ 0x52 ∷ 0x02 ∷ 0x03 ∷ 0x00 ∷ 0x52
    ∷ 0x03 ∷ 0x02 ∷ 0x00 ∷ 0x54 ∷ 0x01 ∷ 0x00 ∷ 0x01 ∷ 0x54 ∷ 0x03 ∷ 0x01 ∷ 0x03 ∷ 0x54 ∷ 0x01 ∷ 0x01 ∷ 0x02 ∷ 0x54
    ∷ 0x02 ∷ 0x02 ∷ 0x02 ∷ 0x54 ∷ 0x03 ∷ 0x02 ∷ 0x03 ∷ 0x54 ∷ 0x02 ∷ 0x00 ∷ 0x01 ∷ []

-- and L, C and E
abbrev pub example_job : List ℕ
example_job = example_head ++ (0x4c ∷ 0x00 ∷ 0x00 ∷ 0x00 ∷ 0x00 ∷ 0x00 ∷ 0x00 ∷ 0x00 ∷ 0x00 ∷ 0x06 ∷ 0x43 ∷ 0x45 ∷ [])

-- the 63 answer bytes. K1: "the cheapest set stays 41 and costs 3"
abbrev pub example_answers : List ℕ
example_answers =
    0x6c ∷ 0x06 ∷ 0x00 ∷ 0x0b ∷ 0x00 ∷ 0x00 ∷ 0x00 ∷ 0x00 ∷ 0x00 ∷ 0x00 ∷ 0x00 ∷ 0x16 ∷ 0x00 ∷ 0x00 ∷ 0x00 ∷ 0x00
    ∷ 0x00 ∷ 0x00 ∷ 0x00 ∷ 0x1a ∷ 0x00 ∷ 0x00 ∷ 0x00 ∷ 0x00 ∷ 0x00 ∷ 0x00 ∷ 0x00 ∷ 0x29 ∷ 0x00 ∷ 0x00 ∷ 0x00 ∷ 0x00
    ∷ 0x00 ∷ 0x00 ∷ 0x00 ∷ 0x34 ∷ 0x00 ∷ 0x00 ∷ 0x00 ∷ 0x00 ∷ 0x00 ∷ 0x00 ∷ 0x00 ∷ 0x38 ∷ 0x00 ∷ 0x00 ∷ 0x00 ∷ 0x00
    ∷ 0x00 ∷ 0x00 ∷ 0x00 ∷ 0x63 ∷ 0x03 ∷ 0x00 ∷ 0x29 ∷ 0x00 ∷ 0x00 ∷ 0x00 ∷ 0x00 ∷ 0x00 ∷ 0x00 ∷ 0x00 ∷ 0x65 ∷ []

-- ---- jobs with their number, offset and written. Where two refusals apply, the first in the paper's order is given

pub record Stopped : Type 0 where
  pub job : List ℕ
  pub room : ℕ
  pub number : ℕ
  pub offset : ℕ
  pub written : ℕ

abbrev pub stopped : List ℕ → ℕ → ℕ → ℕ → ℕ → Stopped
stopped job room n offset w = record { job = job; room = room; number = n; offset = offset; written = w }

-- both cells free, and an A whose candidate has gone again
abbrev pub both_free : List ℕ → List ℕ
both_free bs = i11 (row 0 0 1 (row 1 0 1 bs))

abbrev gone_again : List ℕ → List ℕ
gone_again bs = both_free (a 0 0 1 (d 0 bs))

-- 64 candidates: one term each, both cells free; and vertex 0 free, vertex 1 off
abbrev pub sixty_four : List ℕ → List ℕ
sixty_four bs = both_free (times 64 (t 0 0 1) bs)

abbrev sixty_four_at_zero : List ℕ → List ℕ
sixty_four_at_zero bs = i11 (row 0 0 1 (times 64 (t 1 0 1) bs))

-- an L of count 0, and E
abbrev pub count_zero_job : List ℕ
count_zero_job = i11 (l 0 (0x45 ∷ []))

abbrev pub stops : List Stopped
stops =
    -- 1: the answer buffer is too long
    stopped [] 32769 1 0 0
    -- 2: no bytes; a job without E
    ∷ stopped [] 9 2 0 0
    ∷ stopped (i11 []) 9 2 3 0
    -- 3
    ∷ stopped (0 ∷ []) 9 3 0 0
    ∷ stopped (i11 (0x6c ∷ [])) 9 3 3 0
    -- 4: R before I, though its operands are missing; I twice; R, P behind T; T, P behind P; T behind C
    ∷ stopped (0x52 ∷ []) 9 4 0 0
    ∷ stopped (i11 (i11 [])) 9 4 3 0
    ∷ stopped (both_free (t 0 0 1 (row 0 0 1 []))) 9 4 15 0
    ∷ stopped (both_free (t 0 0 1 (0x50 ∷ []))) 9 4 15 0
    ∷ stopped (i11 (0x50 ∷ t 0 0 1 [])) 9 4 4 2
    ∷ stopped (i11 (0x50 ∷ 0x50 ∷ [])) 9 4 4 2
    ∷ stopped (i11 (0x43 ∷ t 0 0 1 [])) 20 4 4 11
    -- 4: A and D before I; R, P behind an A, its candidate gone; T behind an A behind C
    ∷ stopped (0x41 ∷ []) 9 4 0 0
    ∷ stopped (0x44 ∷ []) 9 4 0 0
    ∷ stopped (gone_again (row 0 0 1 [])) 9 4 17 0
    ∷ stopped (gone_again (0x50 ∷ [])) 9 4 17 0
    ∷ stopped (both_free (0x43 ∷ a 0 0 1 (t 0 0 1 []))) 20 4 16 11
    -- 4: B before I, though its operands are missing; behind T, and behind an A, its candidate gone
    ∷ stopped (0x42 ∷ []) 9 4 0 0
    ∷ stopped (both_free (t 0 0 1 (zeros 0 []))) 9 4 15 0
    ∷ stopped (gone_again (zeros 0 [])) 9 4 17 0
    -- 4: W before I, though its operands are missing; twice; behind R, B, T, an A whose candidate has gone, P, L and C
    ∷ stopped (0x57 ∷ []) 9 4 0 0
    ∷ stopped (i11 (w 1 1 0 (w 1 1 0 []))) 9 4 7 0
    ∷ stopped (i11 (row 0 0 0 (w 1 1 0 []))) 9 4 7 0
    ∷ stopped (0x49 ∷ 3 ∷ 1 ∷ zeros 0 (w 1 1 0 [])) 9 4 21 0
    ∷ stopped (both_free (t 0 0 1 (w 1 1 0 []))) 9 4 15 0
    ∷ stopped (gone_again (w 1 1 0 [])) 9 4 17 0
    ∷ stopped (i11 (0x50 ∷ w 1 1 0 [])) 9 4 4 2
    ∷ stopped (i11 (l 0 (w 1 1 0 []))) 9 4 13 3
    ∷ stopped (i11 (0x43 ∷ w 1 1 0 [])) 20 4 4 11
    -- 4: N before I; W, R, B, T and P behind N
    ∷ stopped (0x4e ∷ []) 9 4 0 0
    ∷ stopped (i11 (0x4e ∷ w 1 1 0 [])) 20 4 4 11
    ∷ stopped (i11 (0x4e ∷ row 0 0 1 [])) 20 4 4 11
    ∷ stopped (i11 (0x4e ∷ zeros 0 [])) 20 4 4 11
    ∷ stopped (i11 (0x4e ∷ t 0 0 1 [])) 20 4 4 11
    ∷ stopped (i11 (0x4e ∷ 0x50 ∷ [])) 20 4 4 11
    -- 5: before 6; an L of eight operand bytes
    ∷ stopped (0x49 ∷ 0 ∷ []) 9 5 0 0
    ∷ stopped (i11 (0x4c ∷ 0 ∷ 0 ∷ 0 ∷ 0 ∷ 0 ∷ 0 ∷ 0 ∷ 0 ∷ [])) 9 5 3 0
    -- 5: an A of two operand bytes; D, before 15
    ∷ stopped (i11 (0x41 ∷ 0 ∷ 0 ∷ [])) 9 5 3 0
    ∷ stopped (i11 (0x44 ∷ [])) 9 5 3 0
    -- 5: a B of sixteen operand bytes, before 7
    ∷ stopped (i11 (b 200 (replicate 15 0) [])) 9 5 3 0
    -- 5: a W of two operand bytes, before 16
    ∷ stopped (i11 (0x57 ∷ 51 ∷ 51 ∷ [])) 9 5 3 0
    -- 15: nothing stands; one past the last; the last taken out before; 64 of 64; 255; the finished C stands
    ∷ stopped (i11 (d 0 [])) 0 15 3 0
    ∷ stopped (both_free (t 0 0 1 (d 1 []))) 9 15 15 0
    ∷ stopped (gone_again (d 0 [])) 9 15 17 0
    ∷ stopped (sixty_four (d 64 [])) 9 15 267 0
    ∷ stopped (both_free (t 0 0 1 (d 255 []))) 9 15 15 0
    ∷ stopped (both_free (0x43 ∷ a 0 0 1 (d 1 []))) 20 15 16 11
    -- 6
    ∷ stopped (0x49 ∷ 0 ∷ 1 ∷ []) 9 6 0 0
    ∷ stopped (0x49 ∷ 1 ∷ 9 ∷ []) 9 6 0 0
    -- 16: each price at 51; 255; a second W of that kind is at a wrong place
    ∷ stopped (i11 (w 51 0 0 [])) 9 16 3 0
    ∷ stopped (i11 (w 50 51 50 [])) 9 16 3 0
    ∷ stopped (i11 (w 50 50 51 [])) 9 16 3 0
    ∷ stopped (i11 (w 255 255 255 [])) 0 16 3 0
    ∷ stopped (i11 (w 0 0 0 (w 51 51 51 []))) 9 4 7 0
    -- 0: all at 50, all at 0; behind W a row and a term, a P
    ∷ stopped (i11 (w 50 50 50 (0x45 ∷ []))) 9 0 8 1
    ∷ stopped (i11 (w 0 0 0 (0x45 ∷ []))) 9 0 8 1
    ∷ stopped (i11 (w 1 2 3 (row 0 0 1 (t 1 0 1 (0x45 ∷ []))))) 9 0 16 1
    ∷ stopped (i11 (w 1 2 3 (0x50 ∷ 0x45 ∷ []))) 9 0 9 3
    -- 7: before 8; a second row of a vertex
    ∷ stopped (i11 (row 2 1 1 [])) 9 7 3 0
    ∷ stopped (i11 (row 1 0 0 (row 1 0 0 []))) 9 7 7 0
    -- 8: a shared bit; a bit above m
    ∷ stopped (i11 (row 0 1 1 [])) 9 8 3 0
    ∷ stopped (i11 (row 0 0 2 [])) 9 8 3 0
    -- 7 and 8 of a B, row by row: 8 of vertex 1 before 7 of vertex 2; 7 of vertex 2 before 8 of vertex 3; 7 before 8 at vertex 2
    ∷ stopped (i11 (b 0 (0 ∷ 0 ∷ 1 ∷ 1 ∷ replicate 12 0) [])) 9 8 3 0
    ∷ stopped (i11 (b 0 (0 ∷ 0 ∷ 0 ∷ 0 ∷ 0 ∷ 0 ∷ 1 ∷ 1 ∷ replicate 8 0) [])) 9 7 3 0
    ∷ stopped (i11 (b 2 (1 ∷ 1 ∷ replicate 14 0) [])) 9 7 3 0
    -- 7 of a B: vertex 5 has a row; so has vertex 7, by a B; and a B behind it that has none in common is accepted
    ∷ stopped (0x49 ∷ 3 ∷ 1 ∷ row 5 0 0 (zeros 0 [])) 9 7 7 0
    ∷ stopped (0x49 ∷ 4 ∷ 1 ∷ zeros 0 (zeros 7 [])) 9 7 21 0
    ∷ stopped (0x49 ∷ 4 ∷ 1 ∷ zeros 8 (zeros 0 (0x45 ∷ []))) 9 0 40 1
    -- 7 of a B: vertex 256 of 256, no wrap to vertex 0; 255 is the last
    ∷ stopped (0x49 ∷ 8 ∷ 1 ∷ zeros 249 []) 9 7 3 0
    ∷ stopped (0x49 ∷ 8 ∷ 1 ∷ zeros 248 (0x45 ∷ [])) 9 0 22 1
    -- 8 of the last row of a B, whose vertex is the last
    ∷ stopped (0x49 ∷ 3 ∷ 1 ∷ b 0 (replicate 14 0 ++ (0 ∷ 2 ∷ [])) []) 9 8 3 0
    -- 9: before 10: care, value, no outputs, outputs
    ∷ stopped (i11 (t 2 0 1 [])) 9 9 3 0
    ∷ stopped (i11 (t 0 1 1 [])) 9 9 3 0
    ∷ stopped (i11 (t 0 0 0 [])) 9 9 3 0
    ∷ stopped (i11 (t 0 0 2 [])) 9 9 3 0
    -- 9: before 11: 64 candidates stand
    ∷ stopped (sixty_four (t 0 0 0 [])) 9 9 267 0
    -- 10: vertex 1 is off
    ∷ stopped (i11 (row 0 1 0 (t 0 0 1 []))) 9 10 7 0
    -- 10: before 11: 64 candidates stand
    ∷ stopped (sixty_four_at_zero (t 0 0 1 [])) 9 10 263 0
    -- 11: the 65th candidate. That 11 is before 14 at P is the law `primes_before_room`: 65 primes are too many for this table
    ∷ stopped (sixty_four (t 0 0 1 [])) 9 11 267 0
    -- 9, 10 and 11 of an A, behind a P and where 64 candidates stand
    ∷ stopped (i11 (0x50 ∷ a 2 0 1 [])) 9 9 4 2
    ∷ stopped (i11 (0x50 ∷ a 0 0 1 [])) 9 10 4 2
    ∷ stopped (sixty_four (a 0 0 0 [])) 9 9 267 0
    ∷ stopped (sixty_four_at_zero (a 0 0 1 [])) 9 10 263 0
    ∷ stopped (sixty_four (a 0 0 1 [])) 9 11 267 0
    -- 0: the 65th by an A behind a D; T behind A and D
    ∷ stopped (sixty_four (d 63 (a 0 0 1 (0x45 ∷ [])))) 9 0 274 1
    ∷ stopped (gone_again (t 0 0 1 (0x45 ∷ []))) 9 0 22 1
    -- 12: before 14, at L, at an L of count 0, at C, at N. More than 1,024 products are too many for this table: 17 is the law `many_products`, its
    -- order `unheld_before_products` and `products_before_room`
    ∷ stopped (i11 (row 0 1 0 (l 1 []))) 0 12 7 0
    ∷ stopped (i11 (row 0 1 0 (l 0 []))) 0 12 7 0
    ∷ stopped (i11 (row 0 1 0 (0x43 ∷ []))) 0 12 7 0
    ∷ stopped (i11 (row 0 1 0 (0x4e ∷ []))) 0 12 7 0
    -- 12: a cell wanted by the last row of a B
    ∷ stopped (0x49 ∷ 3 ∷ 1 ∷ b 0 (replicate 14 0 ++ (1 ∷ 0 ∷ [])) (0x43 ∷ [])) 0 12 21 0
    -- 13: before 14; the offset is E's
    ∷ stopped (i11 (0x45 ∷ 0x45 ∷ [])) 0 13 3 0
    -- 14: the finished C stands; an L of count 0 has three bytes
    ∷ stopped (i11 (0x43 ∷ l 1 [])) 21 14 4 11
    ∷ stopped (i11 (l 0 [])) 2 14 3 0
    -- 14: N has three bytes and eight for each set
    ∷ stopped (i11 (0x4e ∷ [])) 10 14 3 0
    ∷ stopped (i11 (0x4e ∷ 0x4e ∷ [])) 21 14 4 11
    -- 0: that L where it fits
    ∷ stopped count_zero_job 4 0 14 4
    ∷ []

-- "count 0 holds none and tells whether one stands there"
abbrev pub count_zero_answers : List ℕ
count_zero_answers = 0x6c ∷ 0 ∷ 1 ∷ 0x65 ∷ []

-- ---- K2: jobs with A and D, and the bytes that they write; the sets were worked out by hand

pub record AnsweredJob : Type 0 where
  pub job : List ℕ
  pub bytes : List ℕ

abbrev pub writes : List ℕ → List ℕ → AnsweredJob
writes job bytes = record { job = job; bytes = bytes }

-- an L's answer with no more, and a C's
abbrev pub page_bytes : List ℕ → List ℕ
page_bytes ss = 0x6c ∷ length ss ∷ 0 ∷ join (map (low 8) ss)

abbrev pub least_bytes : ℕ → ℕ → List ℕ
least_bytes c s = 0x63 ∷ (low 2 c ++ low 8 s)

-- all sets, and the cheapest
abbrev pub ask : List ℕ → List ℕ
ask bs = l 255 (0x43 ∷ bs)

-- the rows of the example job, and its terms put in by A
abbrev pub example_rows : List ℕ → List ℕ
example_rows bs = 0x49 ∷ 2 ∷ 2 ∷ row 0 0 1 (row 1 1 2 (row 2 3 0 (row 3 2 0 bs)))

abbrev six_added : List ℕ → List ℕ
six_added bs = a 1 0 1 (a 3 1 3 (a 1 1 2 (a 2 2 2 (a 3 2 3 (a 2 0 1 bs)))))

-- both cells wanted; and the two halves of the one prime of that table
abbrev pub wanted : List ℕ → List ℕ
wanted bs = i11 (row 0 1 0 (row 1 1 0 bs))

abbrev halves : List Term
halves = term 1 0 1 ∷ term 1 1 1 ∷ []

abbrev pub come_and_go : List AnsweredJob
come_and_go =
    -- by A as by T
    writes (example_rows (six_added (l 6 (0x43 ∷ 0x45 ∷ [])))) example_answers
    -- the example's first term taken out: those above move down by one; then put in again, at the end
    ∷ writes (example_head ++ d 0 (ask (a 1 0 1 (ask (0x45 ∷ [])))))
    (join (page_bytes (11 ∷ 13 ∷ 26 ∷ 28 ∷ []) ∷ least_bytes 5 26 ∷ page_bytes (11 ∷ 13 ∷ 26 ∷ 28 ∷ 37 ∷ 52 ∷ []) ∷ least_bytes 3 52 ∷ (0x65 ∷ []) ∷ []))
    -- its third taken out, then the last of those left
    ∷ writes (example_head ++ d 2 (ask (d 4 (ask (0x45 ∷ [])))))
    (join (page_bytes (7 ∷ 14 ∷ 21 ∷ 28 ∷ []) ∷ least_bytes 3 21 ∷ page_bytes (7 ∷ 14 ∷ []) ∷ least_bytes 5 7 ∷ (0x65 ∷ []) ∷ []))
    -- behind P: the halves, and the prime taken out; the prime put in again; the halves taken out
    ∷ writes (wanted (0x50 ∷ 0x43 ∷ a 1 0 1 (a 1 1 1 (d 0 (ask (a 0 0 1 (ask (d 0 (d 0 (ask (0x45 ∷ [])))))))))))
    (join ((0x70 ∷ 1 ∷ 0 ∷ 0 ∷ 1 ∷ []) ∷ least_bytes 1 1 ∷ page_bytes (3 ∷ []) ∷ least_bytes 2 3 ∷ page_bytes (3 ∷ 4 ∷ []) ∷ least_bytes 1 4
    ∷ page_bytes (1 ∷ []) ∷ least_bytes 1 1 ∷ (0x65 ∷ []) ∷ []))
    ∷ []

-- "against a rival's free terms the cheapest set is compared only while the candidates are the primes": the halves are not the primes, and
-- this list is cheaper than their cheapest set
abbrev pub halves_basis : Basis
halves_basis = basis both_on (terms_alone halves)

abbrev pub cheaper_list : List Term
cheaper_list = term 0 0 1 ∷ []

-- ---- K3: jobs with B, and the same with R commands in its place; both were written out by hand

pub record WrittenOut : Type 0 where
  pub job : List ℕ
  pub rows : List ℕ

abbrev written_as : List ℕ → List ℕ → WrittenOut
written_as job rows = record { job = job; rows = rows }

abbrev i32 : List ℕ → List ℕ
i32 bs = 0x49 ∷ 3 ∷ 2 ∷ bs

-- no two pairs are alike, and none has on equal to dc
abbrev eight_pairs : List ℕ
eight_pairs = 1 ∷ 2 ∷ 3 ∷ 0 ∷ 0 ∷ 1 ∷ 0 ∷ 2 ∷ 2 ∷ 1 ∷ 0 ∷ 3 ∷ 1 ∷ 0 ∷ 2 ∷ 0 ∷ []

abbrev eight_rows : List ℕ → List ℕ
eight_rows bs = row 0 1 2 (row 1 3 0 (row 2 0 1 (row 3 0 2 (row 4 2 1 (row 5 0 3 (row 6 1 0 (row 7 2 0 bs)))))))

-- seven terms, their sets and the cheapest
abbrev seven_terms : List ℕ → List ℕ
seven_terms bs = t 6 0 1 (t 7 1 3 (t 7 4 2 (t 7 6 1 (t 6 4 2 (t 5 0 1 (t 7 7 2 bs))))))

abbrev pub in_one : List ℕ
in_one = i32 (b 0 eight_pairs (seven_terms (ask (0x45 ∷ []))))

abbrev pub one_by_one : List ℕ
one_by_one = i32 (eight_rows (seven_terms (ask (0x45 ∷ []))))

-- what both write
abbrev pub eight_rows_answers : List ℕ
eight_rows_answers = page_bytes (79 ∷ 91 ∷ 110 ∷ 122 ∷ []) ++ (least_bytes 18 91 ++ (0x65 ∷ []))

abbrev pub written_out : List WrittenOut
written_out =
    written_as in_one one_by_one
    -- wherever it stands
    ∷ written_as (i32 (t 0 0 1 (b 0 eight_pairs (b 0 eight_pairs [])))) (i32 (t 0 0 1 (eight_rows (eight_rows []))))
    -- 255 for vertex 256 and the one above it
    ∷ written_as (0x49 ∷ 8 ∷ 1 ∷ b 250 eight_pairs (0x45 ∷ []))
    (0x49 ∷ 8 ∷ 1 ∷ row 250 1 2 (row 251 3 0 (row 252 0 1 (row 253 0 2 (row 254 2 1 (row 255 0 3 (row 255 1 0 (row 255 2 0 (0x45 ∷ [])))))))))
    -- no B: the vertex of an R; an operand missing; behind E; behind a byte that is no command
    ∷ written_as (0x49 ∷ 7 ∷ 2 ∷ row 0x42 0 1 (row 0 0 0 [])) (0x49 ∷ 7 ∷ 2 ∷ row 0x42 0 1 (row 0 0 0 []))
    ∷ written_as (i32 (b 0 (replicate 15 0) [])) (i32 (b 0 (replicate 15 0) []))
    ∷ written_as (i32 (0x45 ∷ b 0 eight_pairs [])) (i32 (0x45 ∷ b 0 eight_pairs []))
    ∷ written_as (i32 (0 ∷ b 0 eight_pairs [])) (i32 (0 ∷ b 0 eight_pairs []))
    ∷ []

-- vertex 5 has a row: of the R in B's place the sixth is refused, at 27; the B from which it came stands at 7
abbrev pub vertex_five_twice : List ℕ
vertex_five_twice = i32 (row 5 0 0 (b 0 eight_pairs (0x45 ∷ [])))

-- offsets in the job with the R commands, and in the job
abbrev pub offsets_with_rows : List ℕ
offsets_with_rows = 0 ∷ 2 ∷ 3 ∷ 6 ∷ 7 ∷ 10 ∷ 27 ∷ 38 ∷ 39 ∷ 40 ∷ 41 ∷ []

abbrev pub origins : List ℕ
origins = 0 ∷ 0 ∷ 3 ∷ 3 ∷ 7 ∷ 7 ∷ 7 ∷ 7 ∷ 25 ∷ 26 ∷ 26 ∷ []

-- ---- K5: jobs with the candidates in the record that they leave and the weights beside them, worked out by hand

pub record Weighing : Type 0 where
  pub job : List ℕ
  pub room : ℕ
  pub cands : List Candidate
  pub weights : List ℕ

abbrev weighs : List ℕ → List Term → List ℕ → Weighing
weighs job ts ws = record { job = job; room = 32768; cands = terms_alone ts; weights = ws }

abbrev pub weighings : List Weighing
weighings =
    weighs [] [] []
    -- by T: terms 2 and 5 of 003 have two literals, the others one; three literals; a prime of no literal
    ∷ weighs example_job six_terms (1 ∷ 3 ∷ 1 ∷ 1 ∷ 3 ∷ 1 ∷ [])
    ∷ weighs (i32 (row 0 1 0 (t 7 0 1 []))) (term 7 0 1 ∷ []) (4 ∷ [])
    ∷ weighs (wanted (0x50 ∷ [])) (term 0 0 1 ∷ []) (1 ∷ [])
    -- candidate 1 taken out; then term 5 of 003 put in once more; candidates 4 and 0 taken out
    ∷ weighs (example_head ++ d 1 []) (term 1 0 1 ∷ term 1 1 2 ∷ term 2 2 2 ∷ term 3 2 3 ∷ term 2 0 1 ∷ []) (1 ∷ 1 ∷ 1 ∷ 3 ∷ 1 ∷ [])
    ∷ weighs (example_head ++ d 1 (a 3 2 3 [])) (term 1 0 1 ∷ term 1 1 2 ∷ term 2 2 2 ∷ term 3 2 3 ∷ term 2 0 1 ∷ term 3 2 3 ∷ []) (1 ∷ 1 ∷ 1 ∷ 3 ∷ 1 ∷ 3 ∷ [])
    ∷ weighs (example_head ++ d 4 (d 0 [])) (term 3 1 3 ∷ term 1 1 2 ∷ term 2 2 2 ∷ term 2 0 1 ∷ []) (3 ∷ 1 ∷ 1 ∷ 1 ∷ [])
    -- the same behind a C
    ∷ weighs (example_head ++ (0x43 ∷ a 3 2 3 (d 0 []))) (term 3 1 3 ∷ term 1 1 2 ∷ term 2 2 2 ∷ term 3 2 3 ∷ term 2 0 1 ∷ term 3 2 3 ∷ []) (3 ∷ 1 ∷ 1 ∷ 3 ∷ 1 ∷ 3 ∷ [])
    -- by P; behind it term 1 of 003 put in and candidate 4 taken out
    ∷ weighs (example_rows (0x50 ∷ [])) example_primes (1 ∷ 1 ∷ 1 ∷ 1 ∷ 3 ∷ 3 ∷ [])
    ∷ weighs (example_rows (0x50 ∷ a 1 0 1 (d 4 []))) (term 1 0 1 ∷ term 1 1 2 ∷ term 2 0 1 ∷ term 2 2 2 ∷ term 3 2 3 ∷ term 1 0 1 ∷ []) (1 ∷ 1 ∷ 1 ∷ 1 ∷ 3 ∷ 1 ∷ [])
    -- refused: a D without its number, an A that holds an off cell, a P behind an A, a P whose answer is too long
    ∷ weighs (example_head ++ (0x44 ∷ [])) six_terms (1 ∷ 3 ∷ 1 ∷ 1 ∷ 3 ∷ 1 ∷ [])
    ∷ weighs (example_head ++ a 0 0 1 []) six_terms (1 ∷ 3 ∷ 1 ∷ 1 ∷ 3 ∷ 1 ∷ [])
    ∷ weighs (example_rows (a 3 1 3 (0x50 ∷ []))) (term 3 1 3 ∷ []) (3 ∷ [])
    ∷ record { job = example_rows (0x50 ∷ []); room = 19; cands = []; weights = [] }
    ∷ []

-- ---- K6: what terms cost, what cases come to at other prices, and jobs with W; all worked out by hand

pub record Charge : Type 0 where
  pub at : Prices
  pub for : Term
  pub cost : ℕ

abbrev charge : Prices → Term → ℕ → Charge
charge w t c = record { at = w; for = t; cost = c }

-- no literal; one; two, with one output and with three; apart from each other; eight of both; all prices at 50, at 0
abbrev pub charges : List Charge
charges =
    charge (prices 3 5 7) (term 0 0 1) 10
    ∷ charge (prices 3 5 7) (term 4 4 2) 10
    ∷ charge (prices 3 5 7) (term 6 2 1) 20
    ∷ charge (prices 3 5 7) (term 6 2 7) 34
    ∷ charge (prices 3 5 7) (term 5 1 5) 27
    ∷ charge (prices 3 5 7) (term 165 5 73) 44
    ∷ charge (prices 3 5 7) (term 255 0 255) 99
    ∷ charge (prices 50 50 50) (term 255 0 255) 850
    ∷ charge (prices 0 0 0) (term 255 0 255) 0
    ∷ []

pub record PricedCase : Type 0 where
  pub at : Prices
  pub of : Table
  pub by : List Candidate
  pub gives : Outcome

abbrev priced_case : Prices → Table → List Term → Outcome → PricedCase
priced_case w p ts o = record { at = w; of = p; by = terms_alone ts; gives = o }

-- the two halves of a table, and the term that is both
abbrev whole_and_halves : List Term
whole_and_halves = term 1 0 1 ∷ term 1 1 1 ∷ term 0 0 1 ∷ []

-- a and b, d, e and g; one table by its halves and by the whole; a table whose one prime drives eight outputs. Where all costs are equal the
-- smallest number is the cheapest; at cost 0 it is irredundant too
abbrev pub priced_cases : List PricedCase
priced_cases =
    priced_case (prices 37 23 11) example six_terms (listed (11 ∷ 22 ∷ 26 ∷ 41 ∷ 52 ∷ 56 ∷ []) (201 ∷ 258 ∷ 258 ∷ 144 ∷ 201 ∷ 201 ∷ []) 41 144)
    ∷ priced_case (prices 50 50 50) example six_terms (listed (11 ∷ 22 ∷ 26 ∷ 41 ∷ 52 ∷ 56 ∷ []) (450 ∷ 600 ∷ 600 ∷ 300 ∷ 450 ∷ 450 ∷ []) 41 300)
    ∷ priced_case (prices 0 1 0) example six_terms (listed (11 ∷ 22 ∷ 26 ∷ 41 ∷ 52 ∷ 56 ∷ []) (2 ∷ 4 ∷ 4 ∷ 0 ∷ 2 ∷ 2 ∷ []) 41 0)
    ∷ priced_case (prices 1 0 0) example six_terms (listed (11 ∷ 22 ∷ 26 ∷ 41 ∷ 52 ∷ 56 ∷ []) (3 ∷ 3 ∷ 3 ∷ 3 ∷ 3 ∷ 3 ∷ []) 11 3)
    ∷ priced_case (prices 0 0 0) example six_terms (listed (11 ∷ 22 ∷ 26 ∷ 41 ∷ 52 ∷ 56 ∷ []) (0 ∷ 0 ∷ 0 ∷ 0 ∷ 0 ∷ 0 ∷ []) 11 0)
    ∷ priced_case (prices 50 1 0) crawled six_terms (listed (11 ∷ 23 ∷ 45 ∷ 52 ∷ 58 ∷ []) (152 ∷ 204 ∷ 200 ∷ 152 ∷ 204 ∷ []) 11 152)
    ∷ priced_case (prices 0 0 1) crawled six_terms (listed (11 ∷ 23 ∷ 45 ∷ 52 ∷ 58 ∷ []) (4 ∷ 6 ∷ 4 ∷ 4 ∷ 6 ∷ []) 11 4)
    ∷ priced_case (prices 50 50 50) no_rows [] (listed (0 ∷ []) (0 ∷ []) 0 0)
    ∷ priced_case (prices 0 0 50) both_on (term 0 0 1 ∷ term 0 0 1 ∷ []) (listed (1 ∷ 2 ∷ []) (50 ∷ 50 ∷ []) 1 50)
    ∷ priced_case (prices 1 50 0) both_on whole_and_halves (listed (3 ∷ 4 ∷ []) (2 ∷ 1 ∷ []) 4 1)
    ∷ priced_case (prices 0 50 0) both_on whole_and_halves (listed (3 ∷ 4 ∷ []) (0 ∷ 0 ∷ []) 3 0)
    ∷ priced_case (prices 1 1 2) (table 1 8 (255 ∷ 255 ∷ []) (0 ∷ 0 ∷ [])) (term 0 0 255 ∷ []) (listed (1 ∷ []) (17 ∷ []) 1 17)
    ∷ []

-- jobs with W, with the bytes that they write: the example's; its rows with the primes, behind which one is put in and one taken out
abbrev pub priced_jobs : List AnsweredJob
priced_jobs =
    writes (take 3 example_head ++ w 37 23 11 (drop 3 example_head ++ (0x43 ∷ l 6 (0x45 ∷ []))))
    (join (least_bytes 144 41 ∷ page_bytes (11 ∷ 22 ∷ 26 ∷ 41 ∷ 52 ∷ 56 ∷ []) ∷ (0x65 ∷ []) ∷ []))
    ∷ writes (i11 (w 2 3 4 (row 0 1 0 (row 1 1 0 (0x50 ∷ 0x43 ∷ a 1 0 1 (a 1 1 1 (d 0 (ask (0x45 ∷ [])))))))))
    (join ((0x70 ∷ 1 ∷ 0 ∷ 0 ∷ 1 ∷ []) ∷ least_bytes 6 1 ∷ page_bytes (3 ∷ []) ∷ least_bytes 12 3 ∷ (0x65 ∷ []) ∷ []))
    ∷ []

-- the weights beside the candidates follow the prices: by T, by P, by A; the dearest of all
abbrev pub priced_weighings : List Weighing
priced_weighings =
    weighs (take 3 example_head ++ w 37 23 11 (drop 3 example_head)) six_terms (48 ∷ 105 ∷ 48 ∷ 48 ∷ 105 ∷ 48 ∷ [])
    ∷ weighs (i11 (w 2 3 4 (row 0 1 0 (row 1 1 0 (0x50 ∷ a 1 0 1 []))))) (term 0 0 1 ∷ term 1 0 1 ∷ []) (6 ∷ 6 ∷ [])
    ∷ weighs (0x49 ∷ 8 ∷ 8 ∷ w 50 50 50 (row 255 255 0 (t 255 255 255 []))) (term 255 255 255 ∷ []) (850 ∷ [])
    -- a W behind them is refused
    ∷ weighs (i11 (w 2 3 4 (row 0 1 0 (t 1 0 1 (w 5 6 7 []))))) (term 1 0 1 ∷ []) (6 ∷ [])
    ∷ []

-- the prices in the records that jobs leave: without W; set; a refused W leaves those before it
pub record Priced : Type 0 where
  pub job : List ℕ
  pub prices : Prices

abbrev priced_as : List ℕ → Prices → Priced
priced_as job w = record { job = job; prices = w }

abbrev pub priced_records : List Priced
priced_records =
    priced_as [] (prices 1 1 0)
    ∷ priced_as example_job (prices 1 1 0)
    ∷ priced_as (i11 (w 2 3 4 [])) (prices 2 3 4)
    ∷ priced_as (i11 (w 2 3 4 (row 0 1 0 (t 1 0 1 (0x43 ∷ d 0 (a 1 0 1 (0x45 ∷ []))))))) (prices 2 3 4)
    ∷ priced_as (i11 (w 2 3 4 (w 5 6 7 []))) (prices 2 3 4)
    ∷ priced_as (i11 (w 2 51 4 [])) (prices 1 1 0)
    ∷ []

-- jobs, and the same with zeros for the operands of W
pub record Zeroed : Type 0 where
  pub job : List ℕ
  pub zeros : List ℕ

abbrev zeroed_to : List ℕ → List ℕ → Zeroed
zeroed_to job bs = record { job = job; zeros = bs }

-- the example's with W, with other prices, wherever a W stands, with an operand missing; no W: the vertex of an R, behind E, behind a byte
-- that is no command
abbrev example_at : ℕ → ℕ → ℕ → List ℕ
example_at term literal connection = take 3 example_head ++ w term literal connection (drop 3 example_head ++ ask (0x45 ∷ []))

abbrev pub zeroed_jobs : List Zeroed
zeroed_jobs =
    zeroed_to (example_at 37 23 11) (example_at 0 0 0)
    ∷ zeroed_to (example_at 0 50 7) (example_at 0 0 0)
    ∷ zeroed_to (i11 (w 1 2 3 (t 0 0 1 (w 4 5 6 [])))) (i11 (w 0 0 0 (t 0 0 1 (w 0 0 0 []))))
    ∷ zeroed_to (i11 (0x57 ∷ 5 ∷ 6 ∷ [])) (i11 (0x57 ∷ 0 ∷ 0 ∷ []))
    ∷ zeroed_to (0x49 ∷ 7 ∷ 2 ∷ row 0x57 1 2 (row 3 0 1 [])) (0x49 ∷ 7 ∷ 2 ∷ row 0x57 1 2 (row 3 0 1 []))
    ∷ zeroed_to (i11 (0x45 ∷ w 1 2 3 [])) (i11 (0x45 ∷ w 1 2 3 []))
    ∷ zeroed_to (i11 (0 ∷ w 1 2 3 [])) (i11 (0 ∷ w 1 2 3 []))
    ∷ []

-- "a prime may drive more outputs than the rival pays for": output 0 wanted everywhere, output 1 free. The one prime drives both, and this
-- list has its term for output 0 alone
abbrev pub free_beside : Table
free_beside = table 1 2 (1 ∷ 1 ∷ []) (2 ∷ 2 ∷ [])

abbrev pub lone : List Term
lone = term 0 0 1 ∷ []

abbrev pub at_its_primes : Prices → Basis
at_its_primes w = priced w free_beside (terms_alone (primes free_beside))

-- the candidates are the primes, the list represents the table, and it is cheaper than the cheapest set
pub record Undercut (b : Basis) (qs : List Term) : Type 0 where
  pub all_primes : ArePrimes b
  pub representing : T (represents b.table qs)
  pub cheaper : list_cost b qs < cost (covering b) (cheapest (covering b))

-- ---- K8: the products after each cell, worked out by hand, and jobs with N

-- of a table and candidates: before any cell, and after each
pub record Multiplying : Type 0 where
  pub of : Table
  pub by : List Candidate
  pub products : List (List ℕ)

abbrev multiplying : Table → List Term → List (List ℕ) → Multiplying
multiplying p ts all = record { of = p; by = terms_alone ts; products = all }

-- a; c; d, where a cell leaves no more than the one before it; e, "no wanted cell"; f; g, "one copy of each"; h, and f's table with a term that
-- holds its first cell alone: no product is left, and 12 applies
abbrev pub multiplyings : List Multiplying
multiplyings =
    multiplying example six_terms ((0 ∷ []) ∷ (2 ∷ 32 ∷ []) ∷ (3 ∷ 18 ∷ 33 ∷ 48 ∷ []) ∷ (11 ∷ 18 ∷ 41 ∷ 48 ∷ []) ∷ (11 ∷ 22 ∷ 26 ∷ 41 ∷ 52 ∷ 56 ∷ []) ∷ [])
    ∷ multiplying example example_primes ((0 ∷ []) ∷ (4 ∷ 16 ∷ []) ∷ (5 ∷ 17 ∷ 36 ∷ 48 ∷ []) ∷ (13 ∷ 25 ∷ 36 ∷ 48 ∷ []) ∷ (13 ∷ 25 ∷ 38 ∷ 44 ∷ 50 ∷ 56 ∷ []) ∷ [])
    ∷ multiplying crawled six_terms ((0 ∷ []) ∷ (1 ∷ 32 ∷ []) ∷ (3 ∷ 32 ∷ []) ∷ (3 ∷ 34 ∷ 36 ∷ []) ∷ (3 ∷ 37 ∷ 50 ∷ 52 ∷ []) ∷ (11 ∷ 19 ∷ 45 ∷ 50 ∷ 52 ∷ []) ∷ (11 ∷ 23 ∷ 45 ∷ 52 ∷ 58 ∷ []) ∷ [])
    ∷ multiplying no_rows [] ((0 ∷ []) ∷ [])
    ∷ multiplying both_on (term 0 0 1 ∷ []) ((0 ∷ []) ∷ (1 ∷ []) ∷ (1 ∷ []) ∷ [])
    ∷ multiplying both_on (term 0 0 1 ∷ term 0 0 1 ∷ []) ((0 ∷ []) ∷ (1 ∷ 2 ∷ []) ∷ (1 ∷ 2 ∷ []) ∷ [])
    ∷ multiplying both_on [] ((0 ∷ []) ∷ ([]) ∷ ([]) ∷ [])
    ∷ multiplying both_on (term 1 0 1 ∷ []) ((0 ∷ []) ∷ (1 ∷ []) ∷ ([]) ∷ [])
    ∷ []

-- N's answer
abbrev pub product_bytes : List ℕ → List ℕ
product_bytes ss = 0x6e ∷ (low 2 (length ss) ++ join (map (low 8) ss))

abbrev pub multiplied_jobs : List AnsweredJob
multiplied_jobs =
    -- the example's, before a page of four sets and behind it
    writes (example_head ++ (0x4e ∷ l 4 (0x4e ∷ 0x45 ∷ [])))
    (join (product_bytes (11 ∷ 22 ∷ 26 ∷ 41 ∷ 52 ∷ 56 ∷ []) ∷ (0x6c ∷ 4 ∷ 1 ∷ join (map (low 8) (11 ∷ 22 ∷ 26 ∷ 41 ∷ []))) ∷ product_bytes (11 ∷ 22 ∷ 26 ∷ 41 ∷ 52 ∷ 56 ∷ [])
    ∷ (0x65 ∷ []) ∷ []))
    -- no wanted cell
    ∷ writes (i11 (0x4e ∷ 0x45 ∷ [])) (product_bytes (0 ∷ []) ++ (0x65 ∷ []))
    -- at other prices, and behind D and A
    ∷ writes (i11 (w 7 0 3 (row 0 1 0 (row 1 1 0 (t 0 0 1 (t 1 0 1 (t 1 1 1 (0x4e ∷ d 0 (0x4e ∷ a 0 0 1 (0x4e ∷ 0x45 ∷ []))))))))))
    (join (product_bytes (1 ∷ 6 ∷ []) ∷ product_bytes (3 ∷ []) ∷ product_bytes (3 ∷ 4 ∷ []) ∷ (0x65 ∷ []) ∷ []))
    ∷ []

-- eleven wanted vertices, and for each two equal terms that hold it alone: each doubles the products, up to 2^11 = 2,048 (theorem:
-- proofs/ManyProducts)
abbrev pub many_products_terms : List Term
many_products_terms = join (map (λ v. term 15 v 1 ∷ term 15 v 1 ∷ []) (below 11))

abbrev pub many_products_job : List ℕ
many_products_job =
    0x49 ∷ 4 ∷ 1 ∷ (join (map (λ v. row v 1 0 []) (below 11)) ++ (join (map (λ s. t s.care s.value s.outputs []) many_products_terms) ++ (0x4e ∷ 0x45 ∷ [])))

-- ---- K9: two jobs that differ in the order of their T commands, with the bytes that they write; worked out by hand

-- vertex 3 wanted, 1 and 2 free; then candidates, all sets, the cheapest and the products
abbrev pub last_wanted : List ℕ → List ℕ
last_wanted bs = 0x49 ∷ 2 ∷ 1 ∷ row 1 0 1 (row 2 0 1 (row 3 1 0 bs))

abbrev pub ask_all : List ℕ
ask_all = ask (0x4e ∷ 0x45 ∷ [])

-- x0 x1, x0 by A, and x1 twice: each by itself holds the cell; the first costs 3, the others 1
abbrev pub as_written : AnsweredJob
as_written = writes (last_wanted (t 3 3 1 (a 1 1 1 (t 2 2 1 (t 2 2 1 ask_all)))))
    (join (page_bytes (1 ∷ 2 ∷ 4 ∷ 8 ∷ []) ∷ least_bytes 1 2 ∷ product_bytes (1 ∷ 2 ∷ 4 ∷ 8 ∷ []) ∷ (0x65 ∷ []) ∷ []))

-- the T commands with the fewest literals first; A stays. "The cheapest set may differ among equals, because numbers decide those"
abbrev pub sorted : AnsweredJob
sorted = writes (last_wanted (t 2 2 1 (a 1 1 1 (t 2 2 1 (t 3 3 1 ask_all)))))
    (join (page_bytes (1 ∷ 2 ∷ 4 ∷ 8 ∷ []) ∷ least_bytes 1 1 ∷ product_bytes (1 ∷ 2 ∷ 4 ∷ 8 ∷ []) ∷ (0x65 ∷ []) ∷ []))

-- the new position of each candidate, where the two equal ones keep their order, and where they do not; then the sets renumbered
abbrev pub new_positions : List (List ℕ)
new_positions = (3 ∷ 1 ∷ 0 ∷ 2 ∷ []) ∷ (3 ∷ 1 ∷ 2 ∷ 0 ∷ []) ∷ []

abbrev pub sets_renumbered : List (List ℕ)
sets_renumbered = (8 ∷ 2 ∷ 1 ∷ 4 ∷ []) ∷ (8 ∷ 2 ∷ 4 ∷ 1 ∷ []) ∷ []

-- what the sets cost as they were written
abbrev pub costs_as_written : List ℕ
costs_as_written = 3 ∷ 1 ∷ 1 ∷ 1 ∷ []

-- ---- library calls that are refused, each with its number. Where two refusals apply, the first in the paper's order is given

pub record RefusedCall : Type 0 where
  pub of : Table
  pub words : List ℕ
  pub number : ℕ

abbrev refused_call : Table → List ℕ → ℕ → RefusedCall
refused_call p words n = record { of = p; words = words; number = n }

-- outputs 1 and care 0: both vertices; outputs 0 is malformed
abbrev whole : ℕ
whole = 65536

abbrev malformed : ℕ
malformed = 0

abbrev pub refused_calls : List RefusedCall
refused_calls =
    -- 6: before 8: a row not 2^n long; nine outputs
    refused_call (table 1 1 (1 ∷ []) (1 ∷ [])) [] 6
    ∷ refused_call (table 1 9 (0 ∷ 0 ∷ []) (0 ∷ 0 ∷ [])) [] 6
    -- 8: before 11
    ∷ refused_call (table 1 1 (0 ∷ 1 ∷ []) (0 ∷ 1 ∷ [])) (replicate 65 whole) 8
    -- 11: before 9
    ∷ refused_call both_on (replicate 65 malformed) 11
    -- 9: before 10, by the top byte; before 12
    ∷ refused_call no_rows ((0x1000000 + whole) ∷ []) 9
    ∷ refused_call both_on (malformed ∷ []) 9
    -- 9 and 10 term by term
    ∷ refused_call no_rows (malformed ∷ whole ∷ []) 9
    ∷ refused_call no_rows (whole ∷ malformed ∷ []) 10
    -- 10: before 12
    ∷ refused_call (table 1 1 (1 ∷ 0 ∷ []) (0 ∷ 0 ∷ [])) (whole ∷ []) 10
    -- 12
    ∷ refused_call both_on [] 12
    ∷ []

-- K8: calls of the multiplication with lent rows of these lengths: the number, the sets and at how many cells the rows took turns
pub record MultiplyCall : Type 0 where
  pub of : Table
  pub words : List ℕ
  pub first : ℕ
  pub second : ℕ
  pub gives : ℕ × List ℕ × ℕ

abbrev multiply_call : Table → List ℕ → ℕ → ℕ → ℕ × List ℕ × ℕ → MultiplyCall
multiply_call p words a b gives = record { of = p; words = words; first = a; second = b; gives = gives }

abbrev pub multiply_calls : List MultiplyCall
multiply_calls =
    -- 6: each lent row too short or too long; before 8
    multiply_call both_on (whole ∷ []) 1023 1024 (6, [], 0)
    ∷ multiply_call both_on (whole ∷ []) 1024 1023 (6, [], 0)
    ∷ multiply_call both_on (whole ∷ []) 1025 1024 (6, [], 0)
    ∷ multiply_call both_on (whole ∷ []) 1024 1025 (6, [], 0)
    ∷ multiply_call (table 1 1 (0 ∷ 1 ∷ []) (0 ∷ 1 ∷ [])) [] 0 1024 (6, [], 0)
    -- 6 of the table, 8, 9 and 12, as the lister has them
    ∷ multiply_call (table 1 1 (1 ∷ []) (1 ∷ [])) [] 1024 1024 (6, [], 0)
    ∷ multiply_call (table 1 1 (0 ∷ 1 ∷ []) (0 ∷ 1 ∷ [])) [] 1024 1024 (8, [], 0)
    ∷ multiply_call both_on (malformed ∷ []) 1024 1024 (9, [], 0)
    ∷ multiply_call both_on [] 1024 1024 (12, [], 0)
    -- 0: cases e, f and g; and one wanted cell
    ∷ multiply_call no_rows [] 1024 1024 (0, 0 ∷ [], 0)
    ∷ multiply_call both_on (whole ∷ []) 1024 1024 (0, 1 ∷ [], 2)
    ∷ multiply_call both_on (whole ∷ whole ∷ []) 1024 1024 (0, 1 ∷ 2 ∷ [], 2)
    ∷ multiply_call (table 1 1 (1 ∷ 0 ∷ []) (0 ∷ 1 ∷ [])) (whole ∷ []) 1024 1024 (0, 1 ∷ [], 1)
    ∷ []

-- whose row it is then: the first one's behind an even number of cells, the second one's behind an odd one
abbrev pub turns : List (ℕ × ℕ)
turns = (0, 1) ∷ (1, 2) ∷ (2, 1) ∷ (3, 2) ∷ (2048, 1) ∷ []
