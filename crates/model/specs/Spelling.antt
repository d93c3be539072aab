-- Commands as the tables of jobs in `Cases`, `BlockCases` and `RangeCases` write them: their operands, and the bytes behind them.
use Rattle.std.specs.Prelude.{ℕ, zero, suc, List, ◌∷◌, ◌++◌, replicate}
use Rattle.model.specs.Commands.{low}

-- I with one input and one output; rows and terms on it
abbrev pub i11 : List ℕ → List ℕ
i11 bs = 0x49 ∷ 1 ∷ 1 ∷ bs

abbrev pub row : ℕ → ℕ → ℕ → List ℕ → List ℕ
row v on dc bs = 0x52 ∷ v ∷ on ∷ dc ∷ bs

-- a B: its first vertex, its pairs; and one of eight rows of zeros
abbrev pub b : ℕ → List ℕ → List ℕ → List ℕ
b v pairs bs = 0x42 ∷ v ∷ (pairs ++ bs)

abbrev pub zeros : ℕ → List ℕ → List ℕ
zeros v bs = b v (replicate 16 0) bs

abbrev pub t : ℕ → ℕ → ℕ → List ℕ → List ℕ
t care value outputs bs = 0x54 ∷ care ∷ value ∷ outputs ∷ bs

abbrev pub a : ℕ → ℕ → ℕ → List ℕ → List ℕ
a care value outputs bs = 0x41 ∷ care ∷ value ∷ outputs ∷ bs

abbrev pub d : ℕ → List ℕ → List ℕ
d k bs = 0x44 ∷ k ∷ bs

-- an F whose vertices stand in the first and in the last byte
abbrev pub f : ℕ → ℕ → ℕ → ℕ → List ℕ → List ℕ
f outputs first last weight bs = 0x46 ∷ outputs ∷ first ∷ (replicate 30 0 ++ (last ∷ (low 2 weight ++ bs)))

-- an L from 0 on
abbrev pub l : ℕ → List ℕ → List ℕ
l count bs = 0x4c ∷ 0 ∷ 0 ∷ 0 ∷ 0 ∷ 0 ∷ 0 ∷ 0 ∷ 0 ∷ count ∷ bs

-- a G, and a V from 0 on
abbrev pub g : ℕ → ℕ → ℕ → List ℕ → List ℕ
g k lowest highest bs = 0x47 ∷ k ∷ (low 2 lowest ++ (low 2 highest ++ bs))

abbrev pub v : ℕ → List ℕ → List ℕ
v count bs = 0x56 ∷ 0 ∷ 0 ∷ 0 ∷ 0 ∷ 0 ∷ 0 ∷ 0 ∷ 0 ∷ count ∷ bs

-- a W
abbrev pub w : ℕ → ℕ → ℕ → List ℕ → List ℕ
w term literal connection bs = 0x57 ∷ term ∷ literal ∷ connection ∷ bs

-- k times the same command
abbrev pub times : ℕ → (List ℕ → List ℕ) → List ℕ → List ℕ
times zero one bs = bs
times (suc k) one bs = one (times k one bs)
