-- The answers are read back from the bytes.
use Prim.Native.Nat.{ℕ, zero, suc, ◌-◌, ◌/◌, ◌^◌, ◌≤◌, ◌<◌}
use native.Mathlib.Omega.{arith}
use native.Mathlib.Nat.{pow-suc, le_refl}
use mathlib.Core.Path.{◌≡◌, refl, ap, ap₂, ◌∙◌, subst, subst⁻¹}
use mathlib.Core.Bool.{Bool, true, false, not, cond}
use mathlib.Core.List.{List, [], ◌∷◌, ◌++◌, map, append_assoc}
use lib.Dec.{T, eqb}
use lib.Seq.{take_at, drop_at}
use lib.ListN.{length, take, drop, length-append}
use Rattle.model.specs.Base.{non_empty, join, filter, All}
use Rattle.model.specs.Table.{Term}
use Rattle.model.specs.Commands.{low, number}
use Rattle.model.specs.Answers.{Answer, term_bytes, bytes_of, has_bytes}
use Rattle.model.specs.Calls.{read_terms, read_sets, decoded, read_up_to, read}

-- the sets, the cost and the count fit the bytes that the answer has for them
abbrev pub Fits : Answer → Type 0
Fits Answer.nothing = Unit {0}
Fits (Answer.primes_are ts) = Unit {0}
Fits (Answer.paged ss m) = All (λ s. s < 2 ^ 64) ss
Fits (Answer.possible_paged ss m) = All (λ s. s < 2 ^ 64) ss
Fits (Answer.cheapest_is c s) = (c < 2 ^ 16) × (s < 2 ^ 64)
Fits (Answer.products_are ss) = (length ss < 2 ^ 16) × All (λ s. s < 2 ^ 64) ss
Fits Answer.ended = Unit {0}

low_length : (w x : ℕ) → length (low w x) ≡ w
low_length zero x = refl
low_length (suc w) x = ap suc (low_length w (x / 256))

number_low : (w x : ℕ) → x < 256 ^ w → number (low w x) ≡ x
number_low zero x h = omega arith
number_low (suc w) x h = let r = number_low w (x / 256) (omega (arith, pow-suc 256 w)) in omega arith

take_low : (w x : ℕ) (bs : List ℕ) → x < 256 ^ w → number (take w (low w x ++ bs)) ≡ x
take_low w x bs h = ap number (take_at (low w x) bs w (low_length w x)) ∙ number_low w x h

-- ---- the parts

terms_read : (ts : List Term) (bs : List ℕ) → read_terms (length ts) (join (map term_bytes ts) ++ bs) ≡ ts
terms_read [] bs = refl
terms_read (t ∷ ts) bs = ap (λ (us : List Term). t ∷ us) (terms_read ts bs)

sets_read : (ss : List ℕ) (bs : List ℕ) → All (λ s. s < 2 ^ 64) ss → read_sets (length ss) (join (map (low 8) ss) ++ bs) ≡ ss
sets_read [] bs a = refl
sets_read (s ∷ ss) bs a =
    let more : List ℕ = join (map (low 8) ss) ++ bs in
    let e : (low 8 s ++ join (map (low 8) ss)) ++ bs ≡ low 8 s ++ more = append_assoc (low 8 s) (join (map (low 8) ss)) bs in
    ap (λ (l : List ℕ). number (take 8 l) ∷ read_sets (length ss) (drop 8 l)) e
    ∙ ap₂ (λ (x : ℕ) (l : List ℕ). x ∷ read_sets (length ss) l) (take_low 8 s more a.0) (drop_at (low 8 s) more 8 (low_length 8 s))
    ∙ ap (λ (l : List ℕ). s ∷ l) (sets_read ss bs a.1)

-- as many as the two bytes before them say
counted_read : (ss : List ℕ) (bs : List ℕ) → (length ss < 2 ^ 16) × All (λ s. s < 2 ^ 64) ss
    → (let cs = (low 2 (length ss) ++ join (map (low 8) ss)) ++ bs in read_sets (number (take 2 cs)) (drop 2 cs)) ≡ ss
counted_read ss bs f = ap (λ (k : ℕ). read_sets k (join (map (low 8) ss) ++ bs)) (number_low 2 (length ss) f.0) ∙ sets_read ss bs f.1

-- ---- one answer, then all

flag_back : (m : Bool) → eqb (cond m 1 0) 1 ≡ m
flag_back true = refl
flag_back false = refl

-- an answer that is decoded from its bytes: what follows is read behind them
behind : (a : Answer) (b : ℕ) (own bs : List ℕ) → bytes_of a ≡ b ∷ own → decoded b (own ++ bs) ≡ a → (k : ℕ) → read_up_to (suc k) (b ∷ (own ++ bs)) ≡ a ∷ read_up_to k bs
behind a b own bs e d k =
    ap (λ (x : Answer). x ∷ read_up_to k (drop (length (bytes_of x) - 1) (own ++ bs))) d
    ∙ ap (λ (l : List ℕ). a ∷ read_up_to k l) (drop_at own bs (length (bytes_of a) - 1) (omega (arith, ap length e)))

read_one : (a : Answer) → Fits a → T (has_bytes a) → (bs : List ℕ) (k : ℕ) → read_up_to (suc k) (bytes_of a ++ bs) ≡ a ∷ read_up_to k bs
unfolding decoded
read_one Answer.nothing f t bs k = absurd t
read_one (Answer.primes_are ts) f t bs k = behind (Answer.primes_are ts) 0x70 (length ts ∷ join (map term_bytes ts)) bs refl (ap Answer.primes_are (terms_read ts bs)) k
read_one (Answer.paged ss m) f t bs k =
    behind (Answer.paged ss m) 0x6c (length ss ∷ cond m 1 0 ∷ join (map (low 8) ss)) bs refl (ap₂ Answer.paged (sets_read ss bs f) (flag_back m)) k
read_one (Answer.possible_paged ss m) f t bs k =
    behind (Answer.possible_paged ss m) 0x76 (length ss ∷ cond m 1 0 ∷ join (map (low 8) ss)) bs refl (ap₂ Answer.possible_paged (sets_read ss bs f) (flag_back m)) k
read_one (Answer.cheapest_is c s) f t bs k = behind (Answer.cheapest_is c s) 0x63 (low 2 c ++ low 8 s) bs refl (ap₂ Answer.cheapest_is (number_low 2 c f.0) (number_low 8 s f.1)) k
read_one (Answer.products_are ss) f t bs k = behind (Answer.products_are ss) 0x6e (low 2 (length ss) ++ join (map (low 8) ss)) bs refl (ap Answer.products_are (counted_read ss bs f)) k
read_one Answer.ended f t bs k = behind Answer.ended 0x65 [] bs refl refl k

read_none : (k : ℕ) → read_up_to k [] ≡ []
read_none zero = refl
read_none (suc k) = refl

one_or_more : (bs : List ℕ) → T (non_empty bs) → 1 ≤ length bs
one_or_more [] t = absurd t
one_or_more (b ∷ bs) t = omega arith

no_bytes : (bs cs : List ℕ) → T (not (non_empty bs)) → bs ++ cs ≡ cs
no_bytes [] cs n = refl
no_bytes (b ∷ bs) cs n = absurd n

read_all : (rs : List Answer) → All Fits rs → (k : ℕ) → length (join (map bytes_of rs)) ≤ k → read_up_to k (join (map bytes_of rs)) ≡ filter has_bytes rs
read_all [] f k l = read_none k
read_all (a ∷ rs) f k l = go (has_bytes a) refl (read_all rs f.1) k l
  where
    bs : List ℕ
    bs = join (map bytes_of rs)

    go : (b : Bool) → has_bytes a ≡ b → ((k : ℕ) → length bs ≤ k → read_up_to k bs ≡ filter has_bytes rs) → (k : ℕ) → length (bytes_of a ++ bs) ≤ k
        → read_up_to k (bytes_of a ++ bs) ≡ cond b (a ∷ filter has_bytes rs) (filter has_bytes rs)
    go true e h zero l = absurd (omega (arith, one_or_more (bytes_of a) (rw e tt), length-append (bytes_of a) bs))
    go true e h (suc k) l =
        read_one a f.0 (rw e tt) bs k
        ∙ ap (λ (x : List Answer). a ∷ x) (h k (omega (arith, one_or_more (bytes_of a) (rw e tt), length-append (bytes_of a) bs)))
    go false e h k l =
        let n = no_bytes (bytes_of a) bs (rw e tt) in
        subst⁻¹ (λ (x : List ℕ). read_up_to k x ≡ filter has_bytes rs) n (h k (subst (λ (x : List ℕ). length x ≤ k) n l))

pub read_answers : (rs : List Answer) → All Fits rs → read (join (map bytes_of rs)) ≡ filter has_bytes rs
unfolding read
read_answers rs f = read_all rs f (length (join (map bytes_of rs))) (le_refl _)
