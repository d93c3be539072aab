-- Paper 01, "Job stream", and K2, K3, K5, K6, K8, K10 and K11: the commands, the problem so far, and what a command makes of it.
use Rattle.std.specs.Prelude.{ℕ, zero, suc, ◌+◌, ◌*◌, ◌/◌, ◌%◌, ◌^◌, max, Bool, true, false, cond, ◌&&◌, List, [], ◌∷◌, ◌++◌, map, leb, eqb, get_or, take, replicate, set}
use Rattle.model.specs.Base.{below, filter, without}
use Rattle.model.specs.Table.{Table, Cell, Term, term}
use Rattle.model.specs.Primes.{primes}
use Rattle.model.specs.Blocks.{Block}
use Rattle.model.specs.Sets.{Covering}
use Rattle.model.specs.Ranges.{Range, between, fixed}
use Rattle.model.specs.Candidates.{Candidate, terms_alone, Prices, prices, usual, candidate_cost, Basis, priced, covering}

-- ---- numbers as bytes

-- "numbers low byte first": the w low bytes of x, and the number of some bytes
abbrev pub low : ℕ → ℕ → List ℕ
low zero x = []
low (suc w) x = x % 256 ∷ low w (x / 256)

abbrev pub number : List ℕ → ℕ
number [] = 0
number (b ∷ bs) = b + 256 * number bs

-- ---- places

-- the place in a job, by the furthest that came: nothing, I, W, a row (R or B), a candidate (T, F or A), or a P, L, C, N, G or V. Each is behind
-- those before it
abbrev pub at_start : ℕ
at_start = 0

abbrev pub begun : ℕ
begun = 1

abbrev pub in_prices : ℕ
in_prices = 2

abbrev pub among_rows : ℕ
among_rows = 3

abbrev pub in_candidates : ℕ
in_candidates = 4

abbrev pub queried : ℕ
queried = 5

-- ---- commands

-- "commands of one byte"; `none` is a byte that is no command. V is «V»: the letter alone is a word of the prover's
pub data Kind : Type 0 where
  I W R B T F P A D G L «V» C N E none : Kind

-- "one byte with operands of fixed widths": the byte, the width, the last place at which the command may stand, and whether it is a
-- query, which asks for covers
pub record Form : Type 0 where
  pub code : ℕ
  pub width : ℕ
  pub last : ℕ
  pub query : Bool

abbrev form : ℕ → ℕ → ℕ → Bool → Form
form code width last query = record { code = code; width = width; last = last; query = query }

-- I "first, once"; W "may stand once, after I and before any R, B, T, A, P, L or C"; R "after I, before any T, P, L or C"; B "stands where R may
-- stand"; T "after I and any R, not after P, L or C"; F "where T may stand", and "For the place of every other command an F counts as a T"; P "at
-- most once, no T before it, not after L or C"; A and D "may stand anywhere after I and before E"; L, C and E "after I"; N "where L may stand", and
-- "for the place of the other commands it counts as an L"; G "where L may stand", V "has L's operands and place", and "for the place of the other
-- commands G and V count as an L"
abbrev pub form_of : Kind → Form
form_of I = form 0x49 2 at_start false
form_of W = form 0x57 3 begun false
form_of R = form 0x52 3 among_rows false
form_of B = form 0x42 17 among_rows false
form_of T = form 0x54 3 in_candidates false
form_of F = form 0x46 35 in_candidates false
form_of P = form 0x50 0 among_rows false
form_of A = form 0x41 3 queried false
form_of D = form 0x44 1 queried false
form_of G = form 0x47 5 queried false
form_of L = form 0x4c 9 queried true
form_of «V» = form 0x56 9 queried true
form_of C = form 0x43 0 queried true
form_of N = form 0x4e 0 queried true
form_of E = form 0x45 0 queried false
form_of none = form 0 0 at_start false

abbrev pub width : Kind → ℕ
width k = (form_of k).width

abbrev pub is : Kind → Kind → Bool
is k x = eqb (form_of k).code (form_of x).code

-- "after I" for all but I, and up to its last place
abbrev pub allowed : Kind → ℕ → Bool
allowed k place = leb (cond (is k I) at_start begun) place && leb place (form_of k).last

abbrev pub first_kind : ℕ → List Kind → Kind
first_kind b [] = none
first_kind b (k ∷ ks) = let r = first_kind b ks in cond (eqb b (form_of k).code) k r

-- all commands
abbrev pub kinds : List Kind
kinds = I ∷ W ∷ R ∷ B ∷ T ∷ F ∷ P ∷ A ∷ D ∷ G ∷ L ∷ «V» ∷ C ∷ N ∷ E ∷ []

unfoldable pub kind_of : ℕ → Kind
kind_of b = first_kind b kinds

abbrev pub is_query_kind : Kind → Bool
is_query_kind k = (form_of k).query

-- the queries
abbrev pub query_kinds : List Kind
query_kinds = filter is_query_kind kinds

-- ---- the problem so far

-- what I sets: "n, m"; and the prices, which W sets
pub record Settings : Type 0 where
  pub n : ℕ
  pub m : ℕ
  pub prices : Prices

-- the rows: on and dc of vertex v stand at v, 0 and 0 for "a vertex with no row"; given are the vertices that have one
pub record TableRows : Type 0 where
  pub on : List ℕ
  pub dc : List ℕ
  pub given : List ℕ

-- "the problem so far is one record that holds its rows and its candidates"; K5: "the weight written beside each candidate"; and K11: the
-- range of each weight
pub record Problem : Type 0 where
  pub place : ℕ
  pub settings : Settings
  pub rows : TableRows
  pub cands : List Candidate
  pub weights : List ℕ
  pub ranges : List Range

-- no row yet
abbrev pub empty_rows : ℕ → TableRows
empty_rows k = record { on = replicate k 0; dc = replicate k 0; given = [] }

-- n inputs and m outputs, with no row for any of so many vertices. K6: "Without it the prices are 1, 1 and 0"
abbrev pub started : ℕ → ℕ → ℕ → ℕ → Problem
started place n m vertices = record { place = place; settings = record { n = n; m = m; prices = usual }; rows = empty_rows vertices; cands = []; weights = []; ranges = [] }

abbrev pub empty : Problem
empty = started at_start 0 0 0

-- the table so far
abbrev pub table_of : Problem → Table
table_of q = record { n = q.settings.n; m = q.settings.m; on = q.rows.on; dc = q.rows.dc }

-- the prices set
abbrev pub prices_of : Problem → Prices
prices_of q = q.settings.prices

abbrev pub basis_of : Problem → Basis
basis_of q = priced (prices_of q) (table_of q) q.cands

-- the context of a command: the problem it finds, its kind, the job's bytes behind the command byte, and the length of the free
-- part of the answer buffer
pub record Context : Type 0 where
  pub problem : Problem
  pub kind : Kind
  pub rest : List ℕ
  pub free : ℕ

-- the covering problem that an L, a V, a C or an N finds
abbrev pub covering_of : Context → Covering Candidate Cell
covering_of x = covering (basis_of x.problem)

-- ---- operands

abbrev pub operand : Context → ℕ → ℕ
operand x i = get_or x.rest i 0

-- W: "three bytes: price of a term, of a literal, of an output connection"
abbrev pub operand_prices : Context → Prices
operand_prices x = prices (operand x 0) (operand x 1) (operand x 2)

-- a row: "vertex, on, dc". The vertex is a number: that of a B may be "a vertex above 255"
pub record Row : Type 0 where
  pub vertex : ℕ
  pub on : ℕ
  pub dc : ℕ

-- R's row
abbrev pub row_of_r : List ℕ → Row
row_of_r bs = record { vertex = get_or bs 0 0; on = get_or bs 1 0; dc = get_or bs 2 0 }

-- B: "a first vertex and eight pairs of on and dc"; row i of it, and its eight rows, "for rising vertices"
abbrev pub row_of_b : List ℕ → ℕ → Row
row_of_b bs i = record { vertex = get_or bs 0 0 + i; on = get_or bs (1 + 2 * i) 0; dc = get_or bs (2 + 2 * i) 0 }

unfoldable pub rows_of_b : List ℕ → List Row
rows_of_b bs = map (row_of_b bs) (below 8)

-- T: "care, value, outputs"; A "has T's operands"
abbrev pub operand_term : Context → Term
operand_term x = term (operand x 0) (operand x 1) (operand x 2)

-- F: "outputs (1 byte), 32 bytes with bit v for vertex v, .. and a two-byte weight"
abbrev pub block_of_f : List ℕ → Block
block_of_f bs = record { outputs = get_or bs 0 0; vertices = map (λ i. get_or bs (suc i) 0) (below 32); weight = number (get_or bs 33 0 ∷ get_or bs 34 0 ∷ []) }

abbrev pub operand_block : Context → Block
operand_block x = block_of_f x.rest

-- D: "has one byte, a candidate's number"
abbrev pub operand_number : Context → ℕ
operand_number x = operand x 0

-- G: "a candidate's number, a low and a high weight of two bytes each"
abbrev pub range_of_g : List ℕ → Range
range_of_g bs = between (number (get_or bs 1 0 ∷ get_or bs 2 0 ∷ [])) (number (get_or bs 3 0 ∷ get_or bs 4 0 ∷ []))

-- L: "start (8 bytes), count (1)"; V "has L's operands"
abbrev pub start : Context → ℕ
start x = number (take 8 x.rest)

abbrev pub count : Context → ℕ
count x = operand x 8

-- ---- the problem after a command that is answered

-- with on and dc at vertex v
abbrev pub with_row : TableRows → ℕ → ℕ → ℕ → TableRows
with_row rows v x y = record { on = set rows.on v x; dc = set rows.dc v y; given = v ∷ rows.given }

abbrev pub at_place : ℕ → Problem → Problem
at_place place q = record { place = place; settings = q.settings; rows = q.rows; cands = q.cands; weights = q.weights; ranges = q.ranges }

abbrev pub with_rows : TableRows → Problem → Problem
with_rows rows q = record { place = q.place; settings = q.settings; rows = rows; cands = q.cands; weights = q.weights; ranges = q.ranges }

abbrev pub with_prices : Prices → Problem → Problem
with_prices w q = record {
  place = q.place;
  settings = record { n = q.settings.n; m = q.settings.m; prices = w };
  rows = q.rows;
  cands = q.cands;
  weights = q.weights;
  ranges = q.ranges;
}

-- with other candidates, and other weights and ranges beside them
abbrev pub with_cands : List Candidate → List ℕ → List Range → Problem → Problem
with_cands cs ws rs q = record { place = q.place; settings = q.settings; rows = q.rows; cands = cs; weights = ws; ranges = rs }

-- what R makes of a problem
abbrev pub add_row : Problem → Row → Problem
add_row q w = at_place among_rows (with_rows (with_row q.rows w.vertex w.on w.dc) q)

-- what R commands make of it, "one by one"
abbrev pub add_rows : Problem → List Row → Problem
add_rows q [] = q
add_rows q (w ∷ ws) = add_rows (add_row q w) ws

-- T, F, and A, which "adds a candidate at the end, also after P, L or C". "For the place of R and P, an A counts as a T, even if its candidate
-- has gone again": the place is that of a candidate at least, and D leaves it. "A new candidate has both ends equal to its weight"
abbrev pub add_candidate : Problem → Candidate → Problem
add_candidate q c =
    let w = candidate_cost (prices_of q) c in
    at_place (max q.place in_candidates) (with_cands (q.cands ++ (c ∷ [])) (q.weights ++ (w ∷ [])) (q.ranges ++ (fixed w ∷ [])) q)

abbrev pub add_term : Problem → Term → Problem
add_term q t = add_candidate q (Candidate.term t)

abbrev pub add_block : Problem → Block → Problem
add_block q b = add_candidate q (Candidate.block b)

-- P, which puts the primes in the place of the candidates
abbrev pub with_primes : Problem → List Term → Problem
with_primes q ts =
    let ws = map (candidate_cost (prices_of q)) (terms_alone ts) in
    at_place queried (with_cands (terms_alone ts) ws (map fixed ws) q)

-- D "takes it out; those above move down by one", each with its weight and its range: "taking out a candidate leaves the others' ranges with them"
abbrev pub take_out : Problem → ℕ → Problem
take_out q k = with_cands (without k q.cands) (without k q.weights) (without k q.ranges) q

-- G: "A later G for a candidate replaces its earlier one"
abbrev pub with_range : Problem → ℕ → Range → Problem
with_range q k r = at_place queried (with_cands q.cands q.weights (set q.ranges k r) q)

unfoldable pub problem_after : Context → Kind → Problem
problem_after x I = started begun (operand x 0) (operand x 1) (2 ^ operand x 0)
problem_after x W = at_place in_prices (with_prices (operand_prices x) x.problem)
problem_after x R = add_row x.problem (row_of_r x.rest)
problem_after x B = add_rows x.problem (rows_of_b x.rest)
problem_after x T = add_term x.problem (operand_term x)
problem_after x F = add_block x.problem (operand_block x)
problem_after x P = with_primes x.problem (primes (table_of x.problem))
problem_after x A = add_term x.problem (operand_term x)
problem_after x D = take_out x.problem (operand_number x)
problem_after x G = with_range x.problem (operand_number x) (range_of_g x.rest)
problem_after x L = at_place queried x.problem
problem_after x «V» = at_place queried x.problem
problem_after x C = at_place queried x.problem
problem_after x N = at_place queried x.problem
problem_after x E = x.problem
problem_after x none = x.problem
