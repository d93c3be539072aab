-- Paper 02, K10: cases, jobs and refusals with blocks, worked out by hand (theorems: proofs/MarkedBlocks, proofs/SortedBlocks).
use Rattle.std.specs.Prelude.{ℕ, true, false, List, [], ◌∷◌, ◌++◌, replicate}
use Rattle.model.specs.Base.{join}
use Rattle.model.specs.Table.{Table, Term, term}
use Rattle.model.specs.Blocks.{Block}
use Rattle.model.specs.Candidates.{Candidate, terms_alone, prices}
use Rattle.model.specs.Spelling.{i11, row, zeros, t, f, a, d, l, w, times}
use Rattle.model.specs.Cases.{Outcome, Case, PricedCase, Walked, Stopped, stopped, AnsweredJob, writes, Weighing, Multiplying}
use Rattle.model.specs.Cases.{table, both_on, page_bytes, least_bytes, product_bytes, ask, both_free, sixty_four, wanted, last_wanted, ask_all}

-- a block whose vertices stand in the first byte
abbrev pub small : ℕ → ℕ → ℕ → Block
small outputs vertices weight = record { outputs = outputs; vertices = vertices ∷ replicate 31 0; weight = weight }

-- terms, and a block behind them
abbrev with : List Term → Block → List Candidate
with ts b = terms_alone ts ++ (Candidate.block b ∷ [])

-- odd parity of two inputs: vertices 1 and 2
abbrev pub parity : Table
parity = table 2 1 (0 ∷ 1 ∷ 1 ∷ 0 ∷ []) (0 ∷ 0 ∷ 0 ∷ 0 ∷ [])

-- two outputs, each wanted at one vertex, the other free there
abbrev pub apart : Table
apart = table 1 2 (1 ∷ 2 ∷ []) (2 ∷ 1 ∷ [])

-- vertex 7 and vertex 8: the last bit of the first byte and the first of the second
abbrev seventh_and_eighth : Table
seventh_and_eighth = table 4 1 (0 ∷ 0 ∷ 0 ∷ 0 ∷ 0 ∷ 0 ∷ 0 ∷ 1 ∷ 1 ∷ 0 ∷ 0 ∷ 0 ∷ 0 ∷ 0 ∷ 0 ∷ 0 ∷ []) (replicate 16 0)

abbrev two_bytes : ℕ → ℕ → Block
two_bytes first second = record { outputs = 1; vertices = first ∷ second ∷ replicate 30 0; weight = 2 }

-- ---- what candidates come to

abbrev block_case : Table → List Candidate → Outcome → Case
block_case p ks o = record { of = p; by = ks; gives = o }

abbrev pub block_cases : List Case
block_cases =
    -- parity by its two terms or by one block
    block_case parity (with (term 3 1 1 ∷ term 3 2 1 ∷ []) (small 1 6 5)) (Outcome.listed (3 ∷ 4 ∷ []) (6 ∷ 5 ∷ []) 4 5)
    -- a block for one of its cells, at the largest weight
    ∷ block_case parity (with (term 3 1 1 ∷ []) (small 1 4 850)) (Outcome.listed (3 ∷ []) (853 ∷ []) 3 853)
    -- a block of all vertices, at weight 0; a block of no vertex, in no irredundant cover
    ∷ block_case both_on (with (term 0 0 1 ∷ []) (small 1 3 0)) (Outcome.listed (1 ∷ 2 ∷ []) (1 ∷ 0 ∷ []) 2 0)
    ∷ block_case both_on (with (term 0 0 1 ∷ []) (small 1 0 0)) (Outcome.listed (1 ∷ []) (1 ∷ []) 1 1)
    -- two equal blocks
    ∷ block_case both_on (Candidate.block (small 1 3 7) ∷ Candidate.block (small 1 3 7) ∷ []) (Outcome.listed (1 ∷ 2 ∷ []) (7 ∷ 7 ∷ []) 1 7)
    -- a block for output 0 holds nothing of output 1
    ∷ block_case apart (Candidate.block (small 1 3 1) ∷ Candidate.block (small 2 3 1) ∷ []) (Outcome.listed (3 ∷ []) (2 ∷ []) 3 2)
    ∷ block_case apart (Candidate.block (small 3 3 1) ∷ Candidate.block (small 2 3 1) ∷ []) (Outcome.listed (1 ∷ []) (1 ∷ []) 1 1)
    -- low bit first, byte by byte
    ∷ block_case seventh_and_eighth (Candidate.block (two_bytes 128 1) ∷ []) (Outcome.listed (1 ∷ []) (2 ∷ []) 1 2)
    ∷ block_case seventh_and_eighth (Candidate.block (two_bytes 1 128) ∷ []) (Outcome.refused 12)
    -- a cell that no term and no block holds
    ∷ block_case both_on (Candidate.block (small 1 2 0) ∷ []) (Outcome.refused 12)
    ∷ []

-- case a with the cubes of its terms as blocks, at what the terms cost: the same sets and costs
abbrev pub six_blocks : List Candidate
six_blocks =
    Candidate.block (small 1 5 1) ∷ Candidate.block (small 3 2 3) ∷ Candidate.block (small 2 10 1) ∷ Candidate.block (small 2 12 1) ∷ Candidate.block (small 3 4 3)
    ∷ Candidate.block (small 1 3 1) ∷ []

-- at other prices: W charges the term and leaves the block
abbrev pub block_priced : List PricedCase
block_priced =
    record { at = prices 50 50 50; of = parity; by = with (term 3 1 1 ∷ term 3 2 1 ∷ []) (small 1 6 5); gives = Outcome.listed (3 ∷ 4 ∷ []) (400 ∷ 5 ∷ []) 4 5 }
    ∷ record { at = prices 0 0 0; of = parity; by = with (term 3 1 1 ∷ term 3 2 1 ∷ []) (small 1 6 5); gives = Outcome.listed (3 ∷ 4 ∷ []) (0 ∷ 5 ∷ []) 3 0 }
    ∷ []

-- the presence function point by point: parity by a term and a block of vertex 2, at the block alone and at both
abbrev pub block_walks : List Walked
block_walks =
    record { of = parity; by = with (term 3 1 1 ∷ []) (small 1 4 9); set = 2; product = true ∷ false ∷ false ∷ []; with_delta = true ∷ false ∷ false ∷ [] }
    ∷ record { of = parity; by = with (term 3 1 1 ∷ []) (small 1 4 9); set = 3; product = true ∷ true ∷ true ∷ []; with_delta = true ∷ true ∷ true ∷ [] }
    ∷ []

-- the products after each cell of parity
abbrev pub block_products : List Multiplying
block_products =
    record { of = parity; by = with (term 3 1 1 ∷ term 3 2 1 ∷ []) (small 1 6 5); products = (0 ∷ []) ∷ (1 ∷ 4 ∷ []) ∷ (3 ∷ 4 ∷ []) ∷ [] }
    ∷ []

-- ---- jobs with their number, offset and written

-- so many blocks of no vertex
abbrev blocks : ℕ → List ℕ → List ℕ
blocks k bs = times k (f 1 0 0 0) bs

abbrev pub block_stops : List Stopped
block_stops =
    -- 4: F before I, though its operands are missing; W, R, B and P behind F; F behind P, L, C and N; behind an A behind C
    stopped (0x46 ∷ []) 9 4 0 0
    ∷ stopped (both_free (f 1 1 0 0 (w 1 1 0 []))) 9 4 47 0
    ∷ stopped (both_free (f 1 1 0 0 (row 0 0 1 []))) 9 4 47 0
    ∷ stopped (both_free (f 1 1 0 0 (zeros 0 []))) 9 4 47 0
    ∷ stopped (both_free (f 1 1 0 0 (0x50 ∷ []))) 9 4 47 0
    ∷ stopped (i11 (0x50 ∷ f 1 0 0 0 [])) 9 4 4 2
    ∷ stopped (i11 (l 0 (f 1 0 0 0 []))) 9 4 13 3
    ∷ stopped (i11 (0x43 ∷ f 1 0 0 0 [])) 20 4 4 11
    ∷ stopped (i11 (0x4e ∷ f 1 0 0 0 [])) 20 4 4 11
    ∷ stopped (both_free (0x43 ∷ a 0 0 1 (f 1 1 0 0 []))) 20 4 16 11
    -- 4: R behind an F that has gone again
    ∷ stopped (both_free (f 1 1 0 0 (d 0 (row 0 0 1 [])))) 9 4 49 0
    -- 5: an F of 34 operand bytes, before 18
    ∷ stopped (i11 (0x46 ∷ replicate 34 0)) 9 5 3 0
    -- 18: outputs 0; output bit 1 of one output, output bit 7; vertex 2 of two, vertex 255; vertex 100 of 64; weight 851; 0x0401, whose low byte
    -- is small; before 10, where the outputs are those of the table
    ∷ stopped (i11 (f 0 1 0 0 [])) 9 18 3 0
    ∷ stopped (i11 (f 2 1 0 0 [])) 9 18 3 0
    ∷ stopped (i11 (f 129 1 0 0 [])) 9 18 3 0
    ∷ stopped (i11 (f 1 5 0 0 [])) 9 18 3 0
    ∷ stopped (i11 (f 1 1 128 0 [])) 9 18 3 0
    ∷ stopped (0x49 ∷ 6 ∷ 1 ∷ 0x46 ∷ 1 ∷ (replicate 12 0 ++ (16 ∷ replicate 21 0))) 9 18 3 0
    ∷ stopped (i11 (f 1 1 0 851 [])) 9 18 3 0
    ∷ stopped (i11 (f 1 1 0 1025 [])) 9 18 3 0
    -- 18: before 11
    ∷ stopped (sixty_four (f 0 1 0 0 [])) 9 18 267 0
    -- 0: the last output and the last vertex of eight inputs, weight 850
    ∷ stopped (0x49 ∷ 8 ∷ 8 ∷ row 255 0 255 (f 128 0 128 850 (0x45 ∷ []))) 9 0 44 1
    -- 10: vertex 1 is off
    ∷ stopped (i11 (row 0 1 0 (f 1 3 0 0 []))) 9 10 7 0
    -- 10: before 11: 64 candidates stand
    ∷ stopped (i11 (row 0 0 1 (blocks 64 (f 1 3 0 0 [])))) 9 10 2311 0
    -- 11: the 65th candidate, behind 64 terms and behind 64 blocks; a T and an A behind 64 blocks
    ∷ stopped (sixty_four (f 1 1 0 0 [])) 9 11 267 0
    ∷ stopped (both_free (blocks 64 (f 1 1 0 0 []))) 9 11 2315 0
    ∷ stopped (both_free (blocks 64 (t 0 0 1 []))) 9 11 2315 0
    ∷ stopped (both_free (blocks 64 (a 0 0 1 []))) 9 11 2315 0
    -- 0: no vertex; F behind an A and behind a T; A behind F; the 65th behind a D
    ∷ stopped (i11 (f 1 0 0 850 (0x45 ∷ []))) 9 0 40 1
    ∷ stopped (both_free (a 0 0 1 (t 0 0 1 (f 1 1 0 0 (a 0 0 1 (0x45 ∷ [])))))) 9 0 60 1
    ∷ stopped (both_free (blocks 64 (d 63 (f 1 1 0 0 (0x45 ∷ []))))) 9 0 2354 1
    -- 15: D names a number that is not standing
    ∷ stopped (both_free (f 1 1 0 0 (d 1 []))) 9 15 47 0
    -- 12: before 14
    ∷ stopped (i11 (row 0 1 0 (f 1 0 0 0 (0x43 ∷ [])))) 0 12 43 0
    ∷ []

-- ---- jobs with the bytes that they write

abbrev pub odd_rows : List ℕ → List ℕ
odd_rows bs = 0x49 ∷ 2 ∷ 1 ∷ row 1 1 0 (row 2 1 0 bs)

abbrev pub block_jobs : List AnsweredJob
block_jobs =
    -- parity by two terms and by a block; the products
    writes (odd_rows (t 3 1 1 (t 3 2 1 (f 1 6 0 850 (ask (0x4e ∷ 0x45 ∷ []))))))
    (join (page_bytes (3 ∷ 4 ∷ []) ∷ least_bytes 6 3 ∷ product_bytes (3 ∷ 4 ∷ []) ∷ (0x65 ∷ []) ∷ []))
    -- the block first, with one of each cell behind it; it is taken out, and they move down by one; a term put in
    ∷ writes (odd_rows (f 1 6 0 0 (f 1 2 0 7 (f 1 4 0 9 (ask (d 0 (ask (a 3 2 1 (ask (0x45 ∷ []))))))))))
    (join (page_bytes (1 ∷ 6 ∷ []) ∷ least_bytes 0 1 ∷ page_bytes (3 ∷ []) ∷ least_bytes 16 3 ∷ page_bytes (3 ∷ 5 ∷ []) ∷ least_bytes 10 5 ∷ (0x65 ∷ []) ∷ []))
    -- a term taken out from before a block
    ∷ writes (odd_rows (t 3 1 1 (f 1 6 0 3 (t 3 2 1 (d 0 (ask (0x45 ∷ []))))))) (join (page_bytes (1 ∷ []) ∷ least_bytes 3 1 ∷ (0x65 ∷ []) ∷ []))
    -- W charges the terms alone
    ∷ writes (0x49 ∷ 2 ∷ 1 ∷ w 50 50 50 (row 1 1 0 (row 2 1 0 (t 3 1 1 (t 3 2 1 (f 1 6 0 399 (0x43 ∷ 0x45 ∷ [])))))))
    (join (least_bytes 399 4 ∷ (0x65 ∷ []) ∷ []))
    ∷ []

-- ---- the candidates in the records that jobs leave, and the weights beside them

abbrev pub block_weighings : List Weighing
block_weighings =
    record { job = i11 (w 2 3 4 (row 0 1 0 (t 1 0 1 (f 1 1 0 850 [])))); room = 9; cands = with (term 1 0 1 ∷ []) (small 1 1 850); weights = 6 ∷ 850 ∷ [] }
    ∷ record { job = wanted (f 1 1 0 5 (t 1 1 1 (f 1 3 0 0 (d 0 [])))); room = 9; cands = with (term 1 1 1 ∷ []) (small 1 3 0); weights = 1 ∷ 0 ∷ [] }
    -- refused: the record is as it was
    ∷ record { job = wanted (f 1 1 0 5 (f 1 1 0 851 [])); room = 9; cands = with [] (small 1 1 5); weights = 5 ∷ [] }
    ∷ []

-- ---- K2: a job behind whose D a block and a term stand, and the fresh job of its C

abbrev pub changed_job : List ℕ
changed_job = odd_rows (f 1 6 0 5 (f 1 2 0 7 (t 3 2 1 (d 0 (0x43 ∷ 0x45 ∷ [])))))

abbrev pub fresh_of_c : List ℕ
fresh_of_c = odd_rows (f 1 2 0 7 (t 3 2 1 (0x43 ∷ 0x45 ∷ [])))

-- ---- K9: two T commands change places around an F, which stays; each candidate by itself holds the wanted cell, at cost 3, 2 and 1

abbrev pub around_block : AnsweredJob
around_block = writes (last_wanted (t 3 3 1 (f 1 8 0 2 (t 2 2 1 ask_all))))
    (join (page_bytes (1 ∷ 2 ∷ 4 ∷ []) ∷ least_bytes 1 4 ∷ product_bytes (1 ∷ 2 ∷ 4 ∷ []) ∷ (0x65 ∷ []) ∷ []))

abbrev pub exchanged_around : AnsweredJob
exchanged_around = writes (last_wanted (t 2 2 1 (f 1 8 0 2 (t 3 3 1 ask_all))))
    (join (page_bytes (1 ∷ 2 ∷ 4 ∷ []) ∷ least_bytes 1 1 ∷ product_bytes (1 ∷ 2 ∷ 4 ∷ []) ∷ (0x65 ∷ []) ∷ []))
