-- Paper 01, "Job stream", K8 and K11: the answers, as data and as bytes.
use Rattle.std.specs.Prelude.{ℕ, Bool, cond, List, [], ◌∷◌, ◌++◌, map, length}
use Rattle.model.specs.Base.{non_empty, join}
use Rattle.model.specs.Table.{Term}
use Rattle.model.specs.Primes.{primes}
use Rattle.model.specs.Sets.{irredundants, cheapest, cost}
use Rattle.model.specs.Products.{products}
use Rattle.model.specs.Pages.{page, more}
use Rattle.model.specs.Ranges.{possibles}
use Rattle.model.specs.Commands.{Kind, Context, low, start, count, covering_of, table_of}

-- I, W, R, B, T, F, A, D and G answer nothing
pub data Answer : Type 0 where
  nothing : Answer
  primes_are : List Term → Answer
  paged : List ℕ → Bool → Answer
  possible_paged : List ℕ → Bool → Answer
  cheapest_is : ℕ → ℕ → Answer
  products_are : List ℕ → Answer
  ended : Answer

abbrev pub term_bytes : Term → List ℕ
term_bytes t = t.care ∷ t.value ∷ t.outputs ∷ []

-- the bytes of a page behind its first byte b: as many sets, whether more stand above, and the sets
abbrev pub page_of : ℕ → List ℕ → Bool → List ℕ
page_of b ss m = b ∷ length ss ∷ cond m 1 0 ∷ join (map (low 8) ss)

-- P: "0x70, count byte, then care, value and outputs of each prime"; L: "0x6C, sets k, more (0 or 1), k times 8 bytes";
-- V: "L's answer with 0x76 for its first byte"; C: "0x63, cost (2 bytes), set (8) of the cheapest"; N: "0x6E, a two-byte count and the sets, rising"; E: "0x65"
abbrev pub bytes_of : Answer → List ℕ
bytes_of nothing = []
bytes_of (primes_are ts) = 0x70 ∷ length ts ∷ join (map term_bytes ts)
bytes_of (paged ss m) = page_of 0x6c ss m
bytes_of (possible_paged ss m) = page_of 0x76 ss m
bytes_of (cheapest_is c s) = 0x63 ∷ (low 2 c ++ low 8 s)
bytes_of (products_are ss) = 0x6e ∷ (low 2 (length ss) ++ join (map (low 8) ss))
bytes_of ended = 0x65 ∷ []

-- an answer of one byte or more
abbrev pub has_bytes : Answer → Bool
has_bytes a = non_empty (bytes_of a)

-- the answer of a command that is not refused. L: "they are the lister's for a row of count entries"; V: "Its pages go by L's rules, more telling of
-- this list"
unfoldable pub answer_for : Context → Kind → Answer
answer_for x Kind.I = nothing
answer_for x Kind.W = nothing
answer_for x Kind.R = nothing
answer_for x Kind.B = nothing
answer_for x Kind.T = nothing
answer_for x Kind.F = nothing
answer_for x Kind.P = primes_are (primes (table_of x.problem))
answer_for x Kind.A = nothing
answer_for x Kind.D = nothing
answer_for x Kind.G = nothing
answer_for x Kind.L =
    let all = irredundants (covering_of x) in
    paged (page all (start x) (count x)) (more all (start x) (count x))
answer_for x Kind.«V» =
    let all = possibles (covering_of x) x.problem.ranges in
    possible_paged (page all (start x) (count x)) (more all (start x) (count x))
answer_for x Kind.C =
    let s = cheapest (covering_of x) in
    cheapest_is (cost (covering_of x) s) s
answer_for x Kind.N = products_are (products (covering_of x))
answer_for x Kind.E = ended
answer_for x Kind.none = nothing

unfoldable pub answer : Context → Answer
answer x = answer_for x x.kind
