-- The commands: which is which, and that a query changes neither table nor candidates nor prices.
use Prim.Native.Nat.{ℕ, ◌<◌}
use mathlib.Core.Path.{◌≡◌, refl, sym, ap, ◌∙◌, subst}
use mathlib.Core.Logic.{◌⊎◌, inl, inr}
use mathlib.Core.Bool.{Bool, true, false, not, cond}
use mathlib.Core.List.{List, [], ◌∷◌, Memᴰ}
use lib.Dec.{T, ltb, eqb, eqb→eq, ltb→lt}
use Rattle.model.specs.Base.{All}
use Rattle.model.specs.Commands.{Kind, form_of, is, first_kind, kinds, kind_of, query_kinds, is_query_kind, Context, basis_of, problem_after}
use Rattle.model.proofs.Lists.{every_e, filter_i, all_e}

pub kind_of_code : (k : Kind) → kind_of (form_of k).code ≡ k
unfolding kind_of
kind_of_code Kind.I = refl
kind_of_code Kind.W = refl
kind_of_code Kind.R = refl
kind_of_code Kind.B = refl
kind_of_code Kind.T = refl
kind_of_code Kind.F = refl
kind_of_code Kind.P = refl
kind_of_code Kind.A = refl
kind_of_code Kind.D = refl
kind_of_code Kind.G = refl
kind_of_code Kind.L = refl
kind_of_code Kind.«V» = refl
kind_of_code Kind.C = refl
kind_of_code Kind.N = refl
kind_of_code Kind.E = refl
kind_of_code Kind.none = refl

-- no two commands have the same byte
pub is_kind : (k x : Kind) → T (is k x) → k ≡ x
is_kind k x t = sym (kind_of_code k) ∙ ap kind_of (eqb→eq (form_of k).code (form_of x).code t) ∙ kind_of_code x

first_code : (b : ℕ) (ks : List Kind) → T (not (is (first_kind b ks) Kind.none)) → (form_of (first_kind b ks)).code ≡ b
first_code b [] n = absurd n
first_code b (k ∷ ks) n = go (eqb b (form_of k).code) refl (first_code b ks) n
  where
    go : (c : Bool) → eqb b (form_of k).code ≡ c → (T (not (is (first_kind b ks) Kind.none)) → (form_of (first_kind b ks)).code ≡ b)
        → T (not (is (cond c k (first_kind b ks)) Kind.none)) → (form_of (cond c k (first_kind b ks))).code ≡ b
    go true e h n = sym (eqb→eq b (form_of k).code (rw e tt))
    go false e h n = h n

-- the byte of a command is the one that was read
pub code_of : (b : ℕ) → T (not (is (kind_of b) Kind.none)) → (form_of (kind_of b)).code ≡ b
unfolding kind_of
code_of b n = first_code b kinds n

-- the command of a byte is one of all commands, or none
first_in : (b : ℕ) (ks : List Kind) → (first_kind b ks ≡ Kind.none) ⊎ Memᴰ (first_kind b ks) ks
first_in b [] = inl refl
first_in b (k ∷ ks) = go (eqb b (form_of k).code) (first_in b ks)
  where
    go : (c : Bool) → (first_kind b ks ≡ Kind.none) ⊎ Memᴰ (first_kind b ks) ks
        → (cond c k (first_kind b ks) ≡ Kind.none) ⊎ Memᴰ (cond c k (first_kind b ks)) (k ∷ ks)
    go true h = inr (Memᴰ.head refl)
    go false (inl e) = inl e
    go false (inr m) = inr (Memᴰ.tail m)

pub kind_among : (k : Kind) → Memᴰ k (Kind.none ∷ kinds)
unfolding kind_of
kind_among k = go (first_in (form_of k).code kinds) (kind_of_code k)
  where
    go : (first_kind (form_of k).code kinds ≡ Kind.none) ⊎ Memᴰ (first_kind (form_of k).code kinds) kinds → first_kind (form_of k).code kinds ≡ k → Memᴰ k (Kind.none ∷ kinds)
    go (inl n) e = Memᴰ.head (sym e ∙ n)
    go (inr m) e = Memᴰ.tail (subst (λ (x : Kind). Memᴰ x kinds) e m)

-- what holds of each query holds of any of them
pub any_query : (P : Kind → Type 0) → All P query_kinds → (k : Kind) → T (is_query_kind k) → P k
any_query P a k t = all_e P query_kinds a (filter_i is_query_kind (kind_among k) t)

-- the byte of each command is one
pub code_byte : (k : Kind) → (form_of k).code < 256
code_byte k = ltb→lt (form_of k).code 256 (every_e (λ (k : Kind). ltb (form_of k).code 256) (kind_among k) tt)

-- a query changes neither table nor candidates nor prices
pub query_keeps : (x : Context) (k : Kind) → T (is_query_kind k) → basis_of (problem_after x k) ≡ basis_of x.problem
unfolding problem_after
query_keeps x = any_query (λ k. basis_of (problem_after x k) ≡ basis_of x.problem) (refl, (refl, (refl, (refl, tt))))
