-- Paper 01, "Primes".
use Rattle.std.specs.Prelude.{ℕ, ◌^◌, ◌<◌, ◌≡◌, ◌⊎◌, Bool, not, ◌&&◌, List, map, eqb}
use Rattle.model.specs.Base.{below, every, filter, join, implies, from_bits}
use Rattle.model.specs.Table.{Table, Term, term, cell, cells, in_cube, is_off, holds, legal}

-- "term p contains q when p holds each cell that q holds": here t contains u, in table p
unfoldable pub contains : Table → Term → Term → Bool
contains p t u = every (λ c. implies (holds u c) (holds t c)) (cells p)

unfoldable pub same_term : Term → Term → Bool
same_term t u = eqb t.care u.care && (eqb t.value u.value && eqb t.outputs u.outputs)

-- u is an "other legal term" in which t is contained
unfoldable pub contained_in : Table → Term → Term → Bool
contained_in p t u = legal p u && (contains p u t && not (same_term u t))

-- the terms that can be legal: care and value below 2^n, outputs below 2^m; by care, then value, then outputs
unfoldable pub terms : Table → List Term
terms p = join (map (λ c. join (map (λ v. map (term c v) (below (2 ^ p.m))) (below (2 ^ p.n)))) (below (2 ^ p.n)))

-- "a prime is a legal term contained in no other legal term"
unfoldable pub prime : Table → Term → Bool
prime p t = let r = every (λ u. not (contained_in p t u)) (terms p) in legal p t && r

-- the primes
unfoldable pub primes : Table → List Term
primes p = filter (prime p) (terms p)

-- "primes are ordered by care, then value, as numbers" (law `primes_ordered`)
abbrev pub Before : Term → Term → Type 0
Before t u = (t.care < u.care) ⊎ ((t.care ≡ u.care) × (t.value < u.value))

-- the outputs that a "cube may drive": those that have no off cell at a vertex of the cube (law `prime_local`)
unfoldable pub drives : Table → ℕ → ℕ → ℕ
drives p care value = from_bits (λ j. every (λ v. not (in_cube care value v && is_off p (cell v j))) (below (2 ^ p.n))) p.m
