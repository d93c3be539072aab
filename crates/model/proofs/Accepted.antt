-- K9: an accepted job reads exactly the commands that its bytes are cut into, each at a place where it may stand. So no T follows a query, and a
-- job with a T has no P.
use Prim.Native.Nat.{ℕ, ◌<◌, max}
use native.Mathlib.Omega.{arith}
use mathlib.Core.Path.{◌≡◌, refl, ap, subst}
use mathlib.Core.Logic.{◌⊎◌, inl, inr}
use mathlib.Core.Bool.{not}
use mathlib.Core.List.{List, [], ◌∷◌, ◌++◌, map}
use lib.Dec.{T}
use Rattle.model.specs.Base.{All}
use Rattle.model.specs.Commands.{at_start, Kind, form_of, is, kind_of, is_query_kind, allowed, Context}
use Rattle.model.specs.Rules.{engine}
use Rattle.model.specs.Job.{run}
use Rattle.model.specs.Standing.{Command, command_of, raises}
use Rattle.model.specs.Pieces.{Piece, piece_kind, pieces}
use Rattle.model.proofs.Lists.{yes_or_no}
use Rattle.model.proofs.Codes.{is_kind, any_query}
use Rattle.model.proofs.Runs.{context, OnRuns, IfEnds, IfGoes, run_ind}
use Rattle.model.proofs.Sound.{engine_lawful}
use Rattle.model.proofs.Valid.{place_one, place_last}
use Rattle.model.proofs.Pieces.{pieces_none, pieces_step, Within, reach_width}
use Rattle.model.proofs.Standing.{raised, query_raises}

-- ---- the commands of an accepted job

-- the command that a piece of a job is
abbrev pub command_in : Piece → Command
command_in c = record { kind = piece_kind c; operands = c.operands }

-- each of these kinds stands where it may, from a place on
abbrev pub Orderly : ℕ → List Kind → Type 0
Orderly p [] = Unit {0}
Orderly p (k ∷ ks) = T (allowed k p) × Orderly (max (raises k) p) ks

abbrev pub kinds_in : List Command → List Kind
kinds_in cs = map (λ c. c.kind) cs

pub record ReadWhole (place : ℕ) (bs : List ℕ) (xs : List Context) : Type 0 where
  pub commands : map command_of xs ≡ map command_in (pieces bs)
  pub orderly : Orderly place (kinds_in (map command_of xs))

abbrev IfAccepted : OnRuns
IfAccepted q bs free at r = r.number ≡ 0 → ReadWhole q.place bs r.contexts

read_goes : IfGoes engine IfAccepted
read_goes q b bs free at h z n r f e = record {
  commands = rw (pieces_step b bs, reach_width b bs w bs) (ap (λ (cs : List Command). command_of (context q b bs free) ∷ cs) (f e).commands);
  orderly = (h.place, subst (λ (p : ℕ). Orderly p (kinds_in (map command_of r.contexts))) (raised (context q b bs free) (kind_of b) h.place) (f e).orderly);
}
  where
    w : Within b bs
    w = record { named = h.named; operands = h.operands; goes = n }

read_ends : IfEnds engine IfAccepted
read_ends q b [] free at h z i e = record { commands = rw (pieces_step b [], is_kind (kind_of b) Kind.E i, pieces_none) refl; orderly = (h.place, tt) }
read_ends q b (c ∷ bs) free at h z i e = absurd (omega (arith, engine_lawful.last (context q b (c ∷ bs) free) i h.own))

pub read_whole : (job : List ℕ) (room : ℕ) → (run job room).number ≡ 0 → ReadWhole at_start job (run job room).contexts
read_whole job room = run_ind engine engine_lawful IfAccepted (λ q free at e. absurd (omega (arith, e))) (λ q b bs free at n e. absurd (rw e at n)) read_ends read_goes
    (λ r. r.number ≡ 0 → ReadWhole at_start job r.contexts) job room (λ l e. absurd (omega (arith, e))) (λ l m r f. f)

-- ---- where commands stand

abbrev pub None : Kind → List Kind → Type 0
None k ks = All (λ x. T (not (is x k))) ks

-- behind its last place a command comes no more
never : (k : Kind) (p : ℕ) (ks : List Kind) → (form_of k).last < p → Orderly p ks → None k ks
never k p [] l o = tt
never k p (x ∷ ks) l o = (go (yes_or_no (is x k)), never k (max (raises x) p) ks (omega arith) o.1)
  where
    go : T (is x k) ⊎ T (not (is x k)) → T (not (is x k))
    go (inl t) = absurd (omega (arith, place_last k p (subst (λ (y : Kind). T (allowed y p)) (is_kind x k t) o.0)))
    go (inr t) = t

-- so a job has no T or no P
pub terms_or_primes : (p : ℕ) (ks : List Kind) → Orderly p ks → None Kind.T ks ⊎ None Kind.P ks
terms_or_primes p [] o = inl tt
terms_or_primes p (x ∷ ks) o = go (yes_or_no (is x Kind.T)) (yes_or_no (is x Kind.P)) (terms_or_primes (max (raises x) p) ks o.1)
  where
    go : T (is x Kind.T) ⊎ T (not (is x Kind.T)) → T (is x Kind.P) ⊎ T (not (is x Kind.P)) → None Kind.T ks ⊎ None Kind.P ks → None Kind.T (x ∷ ks) ⊎ None Kind.P (x ∷ ks)
    go (inl t) (inl u) f = absurd (rw (is_kind x Kind.T t) at u)
    go (inl t) (inr u) f = inr (u, never Kind.P (max (raises x) p) ks (rw (is_kind x Kind.T t) (omega arith)) o.1)
    go (inr t) (inl u) f = inl (t, never Kind.T (max (raises x) p) ks (rw (is_kind x Kind.P u) (omega arith)) o.1)
    go (inr t) (inr u) (inl f) = inl (t, f)
    go (inr t) (inr u) (inr f) = inr (u, f)

-- from a query on there is no T
pub query_ends_terms : (p : ℕ) (ks : List Kind) (k : Kind) (js : List Kind) → Orderly p (ks ++ (k ∷ js)) → T (is_query_kind k) → None Kind.T (k ∷ js)
query_ends_terms p [] k js o q =
    (any_query (λ k. T (not (is k Kind.T))) (tt, (tt, (tt, (tt, tt)))) k q, never Kind.T (max (raises k) p) js (omega (arith, query_raises k q)) o.1)
query_ends_terms p (x ∷ ks) k js o q = query_ends_terms (max (raises x) p) ks k js o.1 q

-- before a query stands I, and behind I no other
pub first_is_i : (k : Kind) (ks : List Kind) → Orderly at_start (k ∷ ks) → (k ≡ Kind.I) × None Kind.I ks
first_is_i k ks o = go (yes_or_no (is k Kind.I))
  where
    go : T (is k Kind.I) ⊎ T (not (is k Kind.I)) → (k ≡ Kind.I) × None Kind.I ks
    go (inl t) = let e = is_kind k Kind.I t in (e, never Kind.I (max (raises k) at_start) ks (rw e (omega arith)) o.1)
    go (inr t) = absurd (omega (arith, place_one k at_start t o.0))
