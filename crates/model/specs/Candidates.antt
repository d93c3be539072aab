-- Paper 01, "Sets": the candidates, product terms and, by K10, ready-made blocks, an instance of `Covering`; and K6: what they cost at the
-- prices set.
use Rattle.std.specs.Prelude.{ℕ, ◌+◌, ◌*◌, ◌↔◌, Bool, cond, ◌&&◌, T, ltb}
use mathlib.Core.List.{List, Memᴰ, map}
use Rattle.std.specs.Int.Count.{ones}
pub use Rattle.model.specs.declared.Prices.{Prices}
use Rattle.model.specs.Base.{sum, All}
use Rattle.model.specs.Table.{Table, Cell, Term, cells, is_on, is_off, on_cells, holds, legal}
use Rattle.model.specs.Blocks.{Block, block_holds, block_formed, block_holds_no_off}
use Rattle.model.specs.Sets.{Covering, members, cover}

-- K10: "Ready-made blocks as candidates", beside product terms
pub data Candidate : Type 0 where
  term : Term → Candidate
  block : Block → Candidate

-- candidates that are all terms
abbrev pub terms_alone : List Term → List Candidate
terms_alone ts = map term ts

-- what a candidate holds. Covers go by this and by what it costs, so that they "take blocks and terms alike"
abbrev pub candidate_holds : Candidate → Cell → Bool
candidate_holds (term t) c = holds t c
candidate_holds (block b) c = block_holds b c

-- neither 9, of a block 18, nor 10 applies
abbrev pub candidate_legal : Table → Candidate → Bool
candidate_legal p (term t) = legal p t
candidate_legal p (block b) = block_formed p b && block_holds_no_off p b

-- K6: "price of a term, of a literal, of an output connection"
abbrev pub prices : ℕ → ℕ → ℕ → Prices
prices x y z = record { term = x; literal = y; connection = z }

-- "Without it the prices are 1, 1 and 0": a term costs what K1 says (law `usual_cost`)
abbrev pub usual : Prices
usual = prices 1 1 0

-- "each literal where it has two or more"; paper 01: literals are "the ones in care"
unfoldable pub literals_charged : Term → ℕ
literals_charged t = cond (ltb (ones t.care) 2) 0 (ones t.care)

-- "A term costs its term price, plus the literal price for each literal where it has two or more, plus the connection price for each of
-- its outputs"
unfoldable pub term_cost : Prices → Term → ℕ
term_cost w t = w.term + w.literal * literals_charged t + w.connection * ones t.outputs

-- what a candidate costs. K10: of a block "Its weight is its cost .., and W doesn't touch it"
abbrev pub candidate_cost : Prices → Candidate → ℕ
candidate_cost w (term t) = term_cost w t
candidate_cost w (block b) = b.weight

-- what the commands L, V, C and N stand on: "one table and the candidates", and "the prices set"
pub record Basis : Type 0 where
  pub table : Table
  pub prices : Prices
  pub cands : List Candidate

abbrev pub priced : Prices → Table → List Candidate → Basis
priced w p cs = record { table = p; prices = w; cands = cs }

-- without a W
abbrev pub basis : Table → List Candidate → Basis
basis p cs = priced usual p cs

-- what a candidate costs there
abbrev pub weigh : Basis → Candidate → ℕ
weigh b = candidate_cost b.prices

-- of a list of terms: the cost "of a set or list, the sum over its entries"
unfoldable pub list_cost : Basis → List Term → ℕ
list_cost b ts = sum (term_cost b.prices) ts

abbrev pub covering : Basis → Covering Candidate Cell
covering b = record { points = on_cells b.table; holds = candidate_holds; weight = weigh b; cands = b.cands }

-- demand 2: "a cover holds every wanted cell and no off cell"; a set holds what its members hold
pub record HoldsExactly (b : Basis) (s : ℕ) : Type 0 where
  pub every_wanted : (c : Cell) → Memᴰ c (cells b.table) → T (is_on b.table c) → (k : Candidate) × Memᴰ k (members b.cands s) × T (candidate_holds k c)
  pub no_off : (c : Cell) → Memᴰ c (cells b.table) → T (is_off b.table c) → (k : Candidate) → Memᴰ k (members b.cands s) → T (candidate_holds k c) → ⊥

-- "candidates are legal", so the covers are the sets that do so
pub record LegalBasis (b : Basis) : Type 0 where
  pub legal_cands : All (λ k. T (candidate_legal b.table k)) b.cands
  pub covers : (s : ℕ) → T (cover (covering b) s) ↔ HoldsExactly b s
