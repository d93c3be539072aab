-- Paper 02, K11: cases, jobs and refusals with ranges, worked out by hand (theorems: proofs/MarkedRanges).
use Rattle.std.specs.Prelude.{ℕ, List, [], ◌∷◌, ◌++◌, map, length, replicate}
use Rattle.model.specs.Base.{join}
use Rattle.model.specs.Table.{Table}
use Rattle.model.specs.Ranges.{Range, between, fixed}
use Rattle.model.specs.Candidates.{Candidate, terms_alone}
use Rattle.model.specs.Commands.{low}
use Rattle.model.specs.Spelling.{i11, row, zeros, t, f, a, d, g, l, v, w}
use Rattle.model.specs.Cases.{Stopped, stopped, AnsweredJob, writes}
use Rattle.model.specs.Cases.{example, example_head, example_rows, six_terms, least_bytes, page_bytes, both_free}
use Rattle.model.specs.BlockCases.{odd_rows}

-- ---- what candidates come to within ranges

pub record RangeCase : Type 0 where
  pub of : Table
  pub by : List Candidate
  pub within : List Range
  pub gives : List ℕ

-- the example, whose irredundant covers 11, 22, 26, 41, 52 and 56 cost 5, 7, 7, 3, 5 and 5 at the weights 1, 3, 1, 1, 3 and 1; all but the first are fixed
abbrev first_within : Range → List ℕ → RangeCase
first_within r ss = record { of = example; by = terms_alone six_terms; within = r ∷ fixed 3 ∷ fixed 1 ∷ fixed 1 ∷ fixed 3 ∷ fixed 1 ∷ []; gives = ss }

abbrev pub range_cases : List RangeCase
range_cases =
    -- "both ends equal the weight"
    first_within (fixed 1) (41 ∷ [])
    -- at 3 set 41 costs 5, as 52 and 56 do, which "cost no more than every other" then; at 2 it costs 4
    ∷ first_within (between 1 3) (41 ∷ 52 ∷ 56 ∷ [])
    ∷ first_within (between 1 2) (41 ∷ [])
    -- ranges without the weight 1: at 3 all three of them, from 4 on two
    ∷ first_within (fixed 3) (41 ∷ 52 ∷ 56 ∷ [])
    ∷ first_within (between 4 850) (52 ∷ 56 ∷ [])
    -- every end open: all irredundant covers
    ∷ record { of = example; by = terms_alone six_terms; within = replicate 6 (between 0 850); gives = 11 ∷ 22 ∷ 26 ∷ 41 ∷ 52 ∷ 56 ∷ [] }
    -- where each is favoured, 11, 22, 41 and 52 cost 5, 6, 6 and 7, and no other less; 26 costs 6 where 11 costs 5, and 56 costs 7 where 41 costs 6
    ∷ record {
      of = example;
      by = terms_alone six_terms;
      within = fixed 2 ∷ between 1 3 ∷ fixed 2 ∷ between 2 4 ∷ fixed 3 ∷ fixed 2 ∷ [];
      gives = 11 ∷ 22 ∷ 41 ∷ 52 ∷ [];
    }
    ∷ []

-- ---- jobs with their number, offset and written

abbrev behind_g : List ℕ → List ℕ
behind_g bs = both_free (t 0 0 1 (g 0 1 1 bs))

abbrev behind_v : List ℕ → List ℕ
behind_v bs = i11 (v 0 bs)

abbrev pub range_stops : List Stopped
range_stops =
    -- 4: G and V before I; W, R, B, T, F and P behind a G and behind a V
    stopped (0x47 ∷ []) 9 4 0 0
    ∷ stopped (0x56 ∷ []) 9 4 0 0
    ∷ stopped (behind_g (w 1 1 0 [])) 9 4 21 0
    ∷ stopped (behind_g (row 0 0 1 [])) 9 4 21 0
    ∷ stopped (behind_g (zeros 0 [])) 9 4 21 0
    ∷ stopped (behind_g (t 0 0 1 [])) 9 4 21 0
    ∷ stopped (behind_g (f 1 1 0 0 [])) 9 4 21 0
    ∷ stopped (behind_g (0x50 ∷ [])) 9 4 21 0
    ∷ stopped (behind_v (w 1 1 0 [])) 9 4 13 3
    ∷ stopped (behind_v (row 0 0 1 [])) 9 4 13 3
    ∷ stopped (behind_v (zeros 0 [])) 9 4 13 3
    ∷ stopped (behind_v (t 0 0 1 [])) 9 4 13 3
    ∷ stopped (behind_v (f 1 1 0 0 [])) 9 4 13 3
    ∷ stopped (behind_v (0x50 ∷ [])) 9 4 13 3
    -- 5: a G of four operand bytes, before 15; a V of eight, before 12
    ∷ stopped (i11 (0x47 ∷ replicate 4 0)) 9 5 3 0
    ∷ stopped (i11 (row 0 1 0 (0x56 ∷ replicate 8 0))) 9 5 7 0
    -- 15: no candidate; the number of candidates; before 19
    ∷ stopped (i11 (g 0 1 1 [])) 9 15 3 0
    ∷ stopped (both_free (t 0 0 1 (g 1 1 1 []))) 9 15 15 0
    ∷ stopped (both_free (t 0 0 1 (g 255 2 1 []))) 9 15 15 0
    -- 15: behind a D
    ∷ stopped (both_free (t 0 0 1 (d 0 (g 0 1 1 [])))) 9 15 17 0
    -- 19: low above high; high above 850, both alike and with low 0; 0x0401, whose low byte is small
    ∷ stopped (both_free (t 0 0 1 (g 0 2 1 []))) 9 19 15 0
    ∷ stopped (both_free (t 0 0 1 (g 0 851 851 []))) 9 19 15 0
    ∷ stopped (both_free (t 0 0 1 (g 0 0 851 []))) 9 19 15 0
    ∷ stopped (both_free (t 0 0 1 (g 0 1 1025 []))) 9 19 15 0
    ∷ stopped (both_free (t 0 0 1 (g 0 256 255 []))) 9 19 15 0
    -- 0: the widest range and the highest; twice; A, D, L, V, C, N and E behind G and V
    ∷ stopped (both_free (t 0 0 1 (g 0 0 850 (g 0 850 850 (0x45 ∷ []))))) 9 0 28 1
    ∷ stopped (behind_g (v 0 (a 0 0 1 (g 1 0 0 (l 0 (d 0 (0x43 ∷ 0x4e ∷ v 1 (0x45 ∷ [])))))))) 64 0 66 40
    -- 12: before 14
    ∷ stopped (i11 (row 0 1 0 (v 0 []))) 0 12 7 0
    -- 14: three bytes, of which two are free
    ∷ stopped (i11 (v 0 [])) 2 14 3 0
    ∷ []

-- ---- jobs with the bytes that they write

-- a V's answer with no more
abbrev possible_bytes : List ℕ → List ℕ
possible_bytes ss = 0x76 ∷ length ss ∷ 0 ∷ join (map (low 8) ss)

abbrev pub range_jobs : List AnsweredJob
range_jobs =
    -- without a G; with one; from 42 on with one set; a later G in its place; C and L keep to the weights
    writes (example_head ++ v 255 (g 0 1 3 (v 255 (0x56 ∷ 42 ∷ 0 ∷ 0 ∷ 0 ∷ 0 ∷ 0 ∷ 0 ∷ 0 ∷ 1 ∷ g 0 4 4 (v 255 (0x43 ∷ l 255 (0x45 ∷ [])))))))
    (join (possible_bytes (41 ∷ []) ∷ possible_bytes (41 ∷ 52 ∷ 56 ∷ []) ∷ (0x76 ∷ 1 ∷ 1 ∷ low 8 52) ∷ possible_bytes (52 ∷ 56 ∷ []) ∷ least_bytes 3 41
    ∷ page_bytes (11 ∷ 22 ∷ 26 ∷ 41 ∷ 52 ∷ 56 ∷ []) ∷ (0x65 ∷ []) ∷ []))
    -- candidate 3 at 10, then candidate 0 taken out: those above move down with their ranges, and what were 22, 26, 52 and 56 cost 7, 16, 5 and 14;
    -- candidate 0 put in again at its weight: at the end, so that 37 and 52 cost 14 and 12
    ∷ writes (example_head ++ g 3 10 10 (d 0 (v 255 (a 1 0 1 (v 255 (0x45 ∷ []))))))
    (join (possible_bytes (26 ∷ []) ∷ possible_bytes (26 ∷ []) ∷ (0x65 ∷ []) ∷ []))
    -- a block between 6 and 850, and between 7 and 850, beside two terms that cost 6 together
    ∷ writes (odd_rows (t 3 1 1 (t 3 2 1 (f 1 6 0 850 (v 255 (g 2 6 850 (v 255 (g 2 7 850 (v 255 (0x45 ∷ []))))))))))
    (join (possible_bytes (3 ∷ []) ∷ possible_bytes (3 ∷ 4 ∷ []) ∷ possible_bytes (3 ∷ []) ∷ (0x65 ∷ []) ∷ []))
    -- two equal terms of other ranges
    ∷ writes (i11 (row 0 1 0 (t 1 0 1 (t 1 0 1 (v 255 (g 1 2 3 (v 255 (g 1 0 2 (v 255 (g 0 3 3 (v 255 (0x45 ∷ []))))))))))))
    (join (possible_bytes (1 ∷ 2 ∷ []) ∷ possible_bytes (1 ∷ []) ∷ possible_bytes (1 ∷ 2 ∷ []) ∷ possible_bytes (2 ∷ []) ∷ (0x65 ∷ []) ∷ []))
    ∷ []

-- ---- the ranges in the records that jobs leave

pub record RangesLeft : Type 0 where
  pub job : List ℕ
  pub ranges : List Range

abbrev leaves : List ℕ → List Range → RangesLeft
leaves job rs = record { job = job; ranges = rs }

abbrev pub ranges_left : List RangesLeft
ranges_left =
    -- by T, at other prices, by F and by P
    leaves example_head (fixed 1 ∷ fixed 3 ∷ fixed 1 ∷ fixed 1 ∷ fixed 3 ∷ fixed 1 ∷ [])
    ∷ leaves (i11 (w 2 3 4 (row 0 1 0 (t 1 0 1 (f 1 1 0 850 []))))) (fixed 6 ∷ fixed 850 ∷ [])
    ∷ leaves (example_rows (0x50 ∷ [])) (fixed 1 ∷ fixed 1 ∷ fixed 1 ∷ fixed 1 ∷ fixed 3 ∷ fixed 3 ∷ [])
    -- a G, a D below it and an A
    ∷ leaves (example_head ++ g 1 0 850 (d 0 (a 3 2 3 []))) (between 0 850 ∷ fixed 1 ∷ fixed 1 ∷ fixed 3 ∷ fixed 1 ∷ fixed 3 ∷ [])
    -- its own candidate taken out
    ∷ leaves (example_head ++ g 1 0 850 (d 1 [])) (fixed 1 ∷ fixed 1 ∷ fixed 1 ∷ fixed 3 ∷ fixed 1 ∷ [])
    -- refused: the record is as it was
    ∷ leaves (example_head ++ g 1 5 6 (g 1 2 1 [])) (fixed 1 ∷ between 5 6 ∷ fixed 1 ∷ fixed 1 ∷ fixed 3 ∷ fixed 1 ∷ [])
    ∷ []
