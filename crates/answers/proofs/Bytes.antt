-- Laws on the bytes that stand in front of a part: one byte more, some bytes more, one block more, and the bytes of a number. Assumes nothing.
use Rattle.std.proofs.Common.{◌≡◌, ℕ, zero, suc, ◌+◌, ◌*◌, ◌/◌, ◌≤◌, ◌<◌, List, [], ◌∷◌, ◌++◌, map, length, get_or, take, drop, set, refl, sym, ap, ap₂, ◌∙◌, append_assoc, add-one, arith, length-append, length-drop, drop-cons, le_refl, Ok, Bool, true, false, cond}
use Rattle.std.proofs.Math.Nat.{mul-suc, mul-zero, div-div-eq-div-mul}
use mathlib.Core.List.{append-nil}
use lib.Seq.{take-suc, append_snoc, set_at, take_at, drop_at, drop-drop, drop-length, take_all}
use borrow.Rule.Slice.PartMut.{put_mid, post_of}
use mir.Val.{bool_byte}
use Rattle.std.specs.Int.{w64, to_le_bytes}
use Rattle.model.specs.declared.Term.{Term}
use Rattle.model.specs.Base.{join}
use Rattle.model.specs.Commands.{low}
use Rattle.model.specs.Answers.{term_bytes}
use Rattle.answers.specs.Writers.{InFront, Replied}

-- ---- bytes in front

pub none_yet : (old : List ℕ) → InFront [] 0 old old
none_yet old = record { width = refl; bytes = refl }

module _ (a old new : List ℕ) (w : ℕ) (f : InFront a w old new) where
  pub same_long : w ≤ length old → length new ≡ length old
  same_long h = ap length f.bytes ∙ omega (arith, length-append a (drop w old), length-drop w old, f.width)

  -- one byte more
  pub one_more : (b : ℕ) → w < length old → InFront (a ++ (b ∷ [])) (w + 1) old (set new w b)
  one_more b h = record {
    width = omega (arith, length-append a (b ∷ []), f.width);
    bytes = ap (λ (l : List ℕ). set l w b) (f.bytes ∙ ap (λ (l : List ℕ). a ++ l) (drop-cons old w 0 h))
        ∙ set_at a (get_or old w 0) (drop (suc w) old) b w f.width
        ∙ sym (append_snoc a b (drop (suc w) old))
        ∙ ap (λ (n : ℕ). (a ++ (b ∷ [])) ++ drop n old) (sym (add-one w));
  }

  -- v bytes more
  pub copied : (b : List ℕ) (v : ℕ) → length b ≡ v → InFront (a ++ b) (w + v) old (put_mid w v new b)
  copied b v e = record {
    width = omega (arith, length-append a b, f.width);
    bytes = ap (λ (l : List ℕ). take w l ++ (b ++ drop v (drop w l))) f.bytes
        ∙ (let front : take w (a ++ drop w old) ≡ a = take_at a (drop w old) w f.width in
        let back : drop w (a ++ drop w old) ≡ drop w old = drop_at a (drop w old) w f.width in
        let rest : drop v (drop w old) ≡ drop (w + v) old = drop-drop v w old in
        rw (front, back, rest) (sym (append_assoc a b (drop (w + v) old))));
  }

-- ---- the bytes of a number

pub low_length : (w x : ℕ) → length (low w x) ≡ w
low_length zero x = refl
low_length (suc w) x = ap suc (low_length w (x / 256))

pub low_8 : (x : ℕ) → to_le_bytes w64 x ≡ low 8 x
low_8 x = simp div-div-eq-div-mul

-- a truth value as a byte
pub one_or_none : (b : Bool) → bool_byte b ≡ cond b 1 0
one_or_none true = refl
one_or_none false = refl

-- ---- blocks of w bytes

module _ {A : Type 0} (f : A → List ℕ) where
  join_snoc : (xs : List A) (x : A) → join (map f (xs ++ (x ∷ []))) ≡ join (map f xs) ++ f x
  join_snoc [] x = append-nil (f x)
  join_snoc (y ∷ xs) x = ap (λ (l : List ℕ). f y ++ l) (join_snoc xs x) ∙ sym (append_assoc (f y) (join (map f xs)) (f x))

  pub join_length : (w : ℕ) → ((x : A) → length (f x) ≡ w) → (xs : List A) → length (join (map f xs)) ≡ w * length xs
  join_length w e [] = omega arith
  join_length w e (x ∷ xs) = omega (arith, length-append (f x) (join (map f xs)), e x, join_length w e xs, mul-suc w (length xs))

-- the blocks of the first i entries stand in front
abbrev pub Blocks : {A : Type 0} → (A → List ℕ) → ℕ → List A → List ℕ → List ℕ → ℕ → Type 0
Blocks f w xs old new i = InFront (join (map f (take i xs))) (w * i) old new

pub blocks_none : {A : Type 0} (f : A → List ℕ) (w : ℕ) (xs : List A) (old : List ℕ) → Blocks f w xs old old 0
blocks_none f w xs old = record { width = omega arith; bytes = ap (λ (n : ℕ). drop n old) (sym (mul-zero w)) }

pub blocks_next : {A : Type 0} (f : A → List ℕ) (w : ℕ) (xs : List A) (old new : List ℕ) (i v : ℕ) (d : A) (b : List ℕ) → Blocks f w xs old new i
    → i < length xs → length b ≡ w → v ≡ w → b ≡ f (get_or xs i d) → Blocks f w xs old (put_mid (w * i) v new b) (i + 1)
blocks_next {A} f w xs old new i v d b g h l k e =
    let first : join (map f (take (i + 1) xs)) ≡ join (map f (take i xs)) ++ b = ap (λ (n : ℕ). join (map f (take n xs))) (add-one i)
    ∙ ap (λ (l : List A). join (map f l)) (take-suc xs i d h) ∙ join_snoc f (take i xs) (get_or xs i d) ∙ ap (λ (l : List ℕ). join (map f (take i xs)) ++ l) (sym e) in
    let size : w * (i + 1) ≡ w * i + v = omega (arith, mul-suc w i) in
    rw (first, size) (copied (join (map f (take i xs))) old new (w * i) g b v (l ∙ sym k))

pub sets_long : (ss : List ℕ) → length (join (map (low 8) ss)) ≡ 8 * length ss
sets_long ss = join_length (low 8) 8 (low_length 8) ss

pub terms_long : (ts : List Term) → length (join (map term_bytes ts)) ≡ 3 * length ts
terms_long ts = join_length term_bytes 3 (λ t. refl) ts

-- ---- answers

pub written : (a b old new : List ℕ) (w n : ℕ) → b ≡ a → n ≡ w → n ≤ length old → InFront b w old new → Replied a old new (Ok n)
written a b old new w n i e h f = (e ∙ sym f.width ∙ ap length i, h, f.bytes ∙ ap₂ (λ (l : List ℕ) (m : ℕ). l ++ drop m old) i (sym e))
