-- What the tests on lists and bits say. Nothing here is from the paper.
use Prim.Native.Nat.{ℕ, zero, suc, ◌+◌, ◌≤◌, ◌<◌}
use native.Mathlib.Omega.{arith}
use native.Mathlib.Decide.{dec_lt}
use mathlib.Core.Path.{◌≡◌, refl, sym, ap, ap₂, ◌∙◌, subst, subst⁻¹}
use mathlib.Core.Logic.{◌⊎◌, inl, inr}
use mathlib.Core.Bool.{Bool, true, false, not, cond, ◌&&◌, ◌||◌}
use mathlib.Core.Option.{Option, none, some as just}
use mathlib.Core.List.Memᴰ
use mathlib.Core.List.{List, [], ◌∷◌, ◌++◌, map, Memᴰ}
use mathlib.Core.List.{Sublistᴰ}
use lib.Dec.{T, eqb, eqb_refl}
use lib.ListN.{get_or, get_elem?, length, take, drop, set, replicate, length-replicate, get_or-replicate, get_or-eq_default}
use Rattle.model.specs.Base.{from, below, every, some, filter, join, implies, without, All, Ordered, Pointwise}

pub yes_or_no : (b : Bool) → T b ⊎ T (not b)
yes_or_no true = inl tt
yes_or_no false = inr tt

pub twice : (a : Bool) → T (not (not a)) → T a
twice true u = tt
twice false u = u

pub not_not : (a : Bool) → T a → T (not (not a))
not_not true t = tt
not_not false t = t

pub and_l : (a b : Bool) → T (a && b) → T a
and_l true b t = tt
and_l false b t = t

pub and_r : (a b : Bool) → T (a && b) → T b
and_r true b t = t
and_r false b t = absurd t

pub and_i : (a b : Bool) → T a → T b → T (a && b)
and_i true b s t = t
and_i false b s t = s

pub or_cases : (a b : Bool) → T (a || b) → T a ⊎ T b
or_cases true b t = inl tt
or_cases false b t = inr t

pub or_l : (a b : Bool) → T a → T (a || b)
or_l true b t = tt
or_l false b t = absurd t

pub or_r : (a b : Bool) → T b → T (a || b)
or_r true b t = tt
or_r false b t = t

pub not_or_l : (a b : Bool) → T (not (a || b)) → T (not a)
not_or_l true b t = t
not_or_l false b t = tt

pub not_or_r : (a b : Bool) → T (not (a || b)) → T (not b)
not_or_r true b t = absurd t
not_or_r false b t = t

pub implies_e : (a b : Bool) → T (implies a b) → T a → T b
implies_e true b t s = t
implies_e false b t s = absurd s

pub implies_i : (a b : Bool) → (T a → T b) → T (implies a b)
implies_i true b f = f tt
implies_i false b f = tt

pub T_true : {b : Bool} → T b → b ≡ true
T_true {b} t = go b t
  where
    go : (b : Bool) → T b → b ≡ true
    go true t = refl
    go false t = absurd t

pub T_false : {b : Bool} → T (not b) → b ≡ false
T_false {b} t = go b t
  where
    go : (b : Bool) → T (not b) → b ≡ false
    go true t = absurd t
    go false t = refl

pub bool_ext : (a b : Bool) → (T a → T b) → (T b → T a) → a ≡ b
bool_ext true true f g = refl
bool_ext true false f g = absurd (f tt)
bool_ext false true f g = absurd (g tt)
bool_ext false false f g = refl

module _ {A : Type 0} where
  pub every_e : (f : A → Bool) {x : A} {xs : List A} → Memᴰ x xs → T (every f xs) → T (f x)
  every_e f (Memᴰ.head {x = y} {xs = ys} e) t = subst⁻¹ (λ (z : A). T (f z)) e (and_l (f y) (every f ys) t)
  every_e f (Memᴰ.tail {x = y} {xs = ys} h) t = every_e f h (and_r (f y) (every f ys) t)

  pub every_i : (f : A → Bool) (xs : List A) → ((x : A) → Memᴰ x xs → T (f x)) → T (every f xs)
  every_i f [] h = tt
  every_i f (x ∷ xs) h = and_i (f x) (every f xs) (h x (Memᴰ.head refl)) (every_i f xs (λ y m. h y (Memᴰ.tail m)))

  pub every_append : (f : A → Bool) (xs ys : List A) → every f (xs ++ ys) ≡ (every f xs && every f ys)
  every_append f [] ys = refl
  every_append f (x ∷ xs) ys = go (f x) (every_append f xs ys)
    where
      go : (b : Bool) → every f (xs ++ ys) ≡ (every f xs && every f ys) → (b && every f (xs ++ ys)) ≡ ((b && every f xs) && every f ys)
      go true h = h
      go false h = refl

  pub every_same : (f g : A → Bool) (xs : List A) → ((x : A) → f x ≡ g x) → every f xs ≡ every g xs
  every_same f g [] h = refl
  every_same f g (x ∷ xs) h = rw (h x, every_same f g xs h)

  pub some_same : (f g : A → Bool) (xs : List A) → ((x : A) → f x ≡ g x) → some f xs ≡ some g xs
  some_same f g [] h = refl
  some_same f g (x ∷ xs) h = rw (h x, some_same f g xs h)

  pub some_i : (f : A → Bool) {x : A} {xs : List A} → Memᴰ x xs → T (f x) → T (some f xs)
  some_i f (Memᴰ.head {x = y} {xs = ys} e) t = or_l (f y) (some f ys) (subst (λ (z : A). T (f z)) e t)
  some_i f (Memᴰ.tail {x = y} {xs = ys} h) t = or_r (f y) (some f ys) (some_i f h t)

  pub some_e : (f : A → Bool) (xs : List A) → T (some f xs) → (x : A) × Memᴰ x xs × T (f x)
  some_e f [] t = absurd t
  some_e f (x ∷ xs) t = go (or_cases (f x) (some f xs) t) (some_e f xs)
    where
      go : T (f x) ⊎ T (some f xs) → (T (some f xs) → (y : A) × Memᴰ y xs × T (f y)) → (y : A) × Memᴰ y (x ∷ xs) × T (f y)
      go (inl s) r = (x, Memᴰ.head refl, s)
      go (inr s) r = let q = r s in (q.0, Memᴰ.tail q.1, q.2)

  pub not_some : (f : A → Bool) (xs : List A) → T (not (some f xs)) → All (λ x. T (not (f x))) xs
  not_some f [] t = tt
  not_some f (x ∷ xs) t = (not_or_l (f x) (some f xs) t, not_some f xs (not_or_r (f x) (some f xs) t))

  -- a test that fails on a list fails at one of its entries
  pub not_every : (f : A → Bool) (xs : List A) → T (not (every f xs)) → (x : A) × Memᴰ x xs × T (not (f x))
  not_every f [] t = absurd t
  not_every f (x ∷ xs) t = go (f x) refl t (not_every f xs)
    where
      go : (b : Bool) → f x ≡ b → T (not (b && every f xs)) → (T (not (every f xs)) → (y : A) × Memᴰ y xs × T (not (f y))) → (y : A) × Memᴰ y (x ∷ xs) × T (not (f y))
      go true e s r = let q = r s in (q.0, Memᴰ.tail q.1, q.2)
      go false e s r = (x, Memᴰ.head refl, rw e tt)

  pub filter_i : (f : A → Bool) {x : A} {xs : List A} → Memᴰ x xs → T (f x) → Memᴰ x (filter f xs)
  filter_i f {x} (Memᴰ.head {x = y} {xs = ys} e) t = rw (T_true {b = f y} (subst (λ (z : A). T (f z)) e t)) (Memᴰ.head e)
  filter_i f {x} (Memᴰ.tail {x = y} {xs = ys} h) t = go (f y) (filter_i f h t)
    where
      go : (b : Bool) → Memᴰ x (filter f ys) → Memᴰ x (cond b (y ∷ filter f ys) (filter f ys))
      go true m = Memᴰ.tail m
      go false m = m

  pub filter_e : (f : A → Bool) {x : A} (xs : List A) → Memᴰ x (filter f xs) → Memᴰ x xs × T (f x)
  filter_e f [] m = elim m [ ]
  filter_e f {x} (y ∷ ys) m = go (f y) refl m (filter_e f ys)
    where
      step : T (f y) → (Memᴰ x (filter f ys) → Memᴰ x ys × T (f x)) → Memᴰ x (y ∷ filter f ys) → Memᴰ x (y ∷ ys) × T (f x)
      step t r (Memᴰ.head e) = (Memᴰ.head e, subst⁻¹ (λ (z : A). T (f z)) e t)
      step t r (Memᴰ.tail h) = (Memᴰ.tail (r h).0, (r h).1)

      go : (b : Bool) → f y ≡ b → Memᴰ x (cond b (y ∷ filter f ys) (filter f ys)) → (Memᴰ x (filter f ys) → Memᴰ x ys × T (f x)) → Memᴰ x (y ∷ ys) × T (f x)
      go true e h r = step (rw e tt) r h
      go false e h r = (Memᴰ.tail (r h).0, (r h).1)

  pub join_i : {x : A} {xs : List A} {xss : List (List A)} → Memᴰ x xs → Memᴰ xs xss → Memᴰ x (join xss)
  join_i {x} m (Memᴰ.head {xs = yss} e) = Memᴰ.append_left (join yss) (subst (λ (l : List A). Memᴰ x l) e m)
  join_i m (Memᴰ.tail {x = ys} h) = Memᴰ.append_right ys (join_i m h)

  pub join_e : {x : A} (xss : List (List A)) → Memᴰ x (join xss) → (xs : List A) × Memᴰ x xs × Memᴰ xs xss
  join_e [] m = elim m [ ]
  join_e {x} (ys ∷ yss) m = go (Memᴰ.append_cases ys m) (join_e yss)
    where
      go : Memᴰ x ys ⊎ Memᴰ x (join yss) → (Memᴰ x (join yss) → (xs : List A) × Memᴰ x xs × Memᴰ xs yss) → (xs : List A) × Memᴰ x xs × Memᴰ xs (ys ∷ yss)
      go (inl h) r = (ys, h, Memᴰ.head refl)
      go (inr h) r = let q = r h in (q.0, q.1, Memᴰ.tail q.2)

-- the numbers from i on
pub from_i : (i k x : ℕ) → i ≤ x → x < i + k → Memᴰ x (from i k)
from_i i zero x h l = absurd (omega arith)
from_i i (suc k) x h l = go (dec_lt i x) (from_i (suc i) k x)
  where
    go : Dec (i < x) → (suc i ≤ x → x < suc i + k → Memᴰ x (from (suc i) k)) → Memᴰ x (from i (suc k))
    go (yes e) r = Memᴰ.tail (r e (omega arith))
    go (no e) r = let q : x ≡ i = omega arith in Memᴰ.head q

pub from_at : (i k j : ℕ) → j < k → get_or (from i k) j 0 ≡ i + j
from_at i zero j l = absurd (omega arith)
from_at i (suc k) zero l = omega arith
from_at i (suc k) (suc j) l = from_at (suc i) k j (omega arith) ∙ omega arith

pub from_e : (i k : ℕ) {x : ℕ} → Memᴰ x (from i k) → (i ≤ x) × (x < i + k)
from_e i zero m = elim m [ ]
from_e i (suc k) (Memᴰ.head e) = omega arith
from_e i (suc k) (Memᴰ.tail m) = let r = from_e (suc i) k m in omega arith

-- the first n entries of a list, by an account of them from k on
pub by_entries : (f : ℕ → ℕ) (xs : List ℕ) (k n : ℕ) → n ≤ length xs → ((i : ℕ) → i < n → f (k + i) ≡ get_or xs i 0) → take n xs ≡ map f (from k n)
by_entries f xs k zero l h = refl
by_entries f [] k (suc n) l h = absurd (omega arith)
by_entries f (x ∷ xs) k (suc n) l h =
    let here : f k ≡ x = ap f (omega arith) ∙ h 0 (omega arith) in
    let next : (i : ℕ) → i < n → f (suc k + i) ≡ get_or xs i 0 = λ i m. let e : suc k + i ≡ k + suc i = omega arith in ap f e ∙ h (suc i) (omega arith) in
    ap₂ (λ (y : ℕ) (ys : List ℕ). y ∷ ys) (sym here) (by_entries f xs (suc k) n (omega arith) next)

pub below_i : {k x : ℕ} → x < k → Memᴰ x (below k)
below_i {k} {x} h = from_i 0 k x (omega arith) (omega arith)

pub below_e : (k : ℕ) {x : ℕ} → Memᴰ x (below k) → x < k
below_e k m = let r = from_e 0 k m in omega arith

-- a list of zeros has 0 at every place
pub zero_at : (n v : ℕ) → ◌≡◌ {A = ℕ} (get_or (replicate n 0) v 0) 0
zero_at n v = go (dec_lt v n)
  where
    go : Dec (v < n) → ◌≡◌ {A = ℕ} (get_or (replicate n 0) v 0) 0
    go (yes h) = get_or-replicate n v 0 0 h
    go (no h) = get_or-eq_default (replicate n 0) 0 (omega (arith, length-replicate {A = ℕ} n 0))

pub every_map : {A B : Type 0} (f : B → Bool) (g : A → B) (xs : List A) → every f (map g xs) ≡ every (λ x. f (g x)) xs
every_map f g [] = refl
every_map f g (x ∷ xs) = rw (every_map f g xs)

pub pointwise_length : {A : Type 0} (R : A → A → Type 0) (xs ys : List A) → Pointwise R xs ys → length xs ≡ length ys
pointwise_length R [] [] h = refl
pointwise_length R [] (y ∷ ys) h = absurd h
pointwise_length R (x ∷ xs) [] h = absurd h
pointwise_length R (x ∷ xs) (y ∷ ys) h = ap suc (pointwise_length R xs ys h.1)

module _ {A : Type 0} (f : A → Bool) where
  pub filter_append : (xs ys : List A) → filter f (xs ++ ys) ≡ filter f xs ++ filter f ys
  filter_append [] ys = refl
  filter_append (x ∷ xs) ys = go (f x) (filter_append xs ys)
    where
      go : (b : Bool) → filter f (xs ++ ys) ≡ filter f xs ++ filter f ys → cond b (x ∷ filter f (xs ++ ys)) (filter f (xs ++ ys)) ≡ cond b (x ∷ filter f xs) (filter f xs) ++ filter f ys
      go true e = ap (λ (zs : List A). x ∷ zs) e
      go false e = e

module _ {A B : Type 0} (f : B → Bool) (g : A → B) where
  pub filter_map : (xs : List A) → filter f (map g xs) ≡ map g (filter (λ x. f (g x)) xs)
  filter_map [] = refl
  filter_map (x ∷ xs) = go (f (g x)) (filter_map xs)
    where
      ys : List A
      ys = filter (λ x. f (g x)) xs

      go : (b : Bool) → filter f (map g xs) ≡ map g ys → cond b (g x ∷ filter f (map g xs)) (filter f (map g xs)) ≡ map g (cond b (x ∷ ys) ys)
      go true e = ap (λ (zs : List B). g x ∷ zs) e
      go false e = e

-- f of an entry, d where there is none
abbrev pub at_entry : {A B : Type 0} → (A → B) → B → Option A → B
at_entry f d none = d
at_entry f d (just x) = f x

pub get_d_at_entry : {A B : Type 0} (f : A → B) (d : B) (xs : List A) (i : ℕ) → get_or (map f xs) i d ≡ at_entry f d (get_elem? xs i)
get_d_at_entry f d [] i = refl
get_d_at_entry f d (x ∷ xs) zero = refl
get_d_at_entry f d (x ∷ xs) (suc i) = get_d_at_entry f d xs i

pub take_map : {A B : Type 0} (f : A → B) (i : ℕ) (xs : List A) → take i (map f xs) ≡ map f (take i xs)
take_map f zero xs = refl
take_map f (suc i) [] = refl
take_map f (suc i) (x ∷ xs) = ap (λ (ys : List _). f x ∷ ys) (take_map f i xs)

pub map_without : {A B : Type 0} (f : A → B) (k : ℕ) (xs : List A) → map f (without k xs) ≡ without k (map f xs)
map_without f k [] = refl
map_without f zero (x ∷ xs) = refl
map_without f (suc k) (x ∷ xs) = ap (λ (ys : List _). f x ∷ ys) (map_without f k xs)

-- one fewer
pub length_without : {A : Type 0} (k : ℕ) (xs : List A) → k < length xs → suc (length (without k xs)) ≡ length xs
length_without k [] h = absurd (omega arith)
length_without zero (x ∷ xs) h = refl
length_without (suc k) (x ∷ xs) h = ap suc (length_without k xs (omega arith))

-- those before the gap stay, those above move down by one
pub get_d_before : {A : Type 0} (k i : ℕ) (xs : List A) (d : A) → i < k → get_or (without k xs) i d ≡ get_or xs i d
get_d_before k i [] d l = refl
get_d_before zero i (x ∷ xs) d l = absurd (omega arith)
get_d_before (suc k) zero (x ∷ xs) d l = refl
get_d_before (suc k) (suc i) (x ∷ xs) d l = get_d_before k i xs d (omega arith)

pub get_d_without : {A : Type 0} (k i : ℕ) (xs : List A) (d : A) → k ≤ i → get_or (without k xs) i d ≡ get_or xs (suc i) d
get_d_without k i [] d l = refl
get_d_without zero i (x ∷ xs) d l = refl
get_d_without (suc k) zero (x ∷ xs) d l = absurd (omega arith)
get_d_without (suc k) (suc i) (x ∷ xs) d l = get_d_without k i xs d (omega arith)

-- the entries as they are, with none for what is not there
pub entry_before : {A : Type 0} (k i : ℕ) (xs : List A) → i < k → get_elem? (without k xs) i ≡ get_elem? xs i
entry_before k i [] l = refl
entry_before zero i (x ∷ xs) l = absurd (omega arith)
entry_before (suc k) zero (x ∷ xs) l = refl
entry_before (suc k) (suc i) (x ∷ xs) l = entry_before k i xs (omega arith)

pub entry_without : {A : Type 0} (k i : ℕ) (xs : List A) → k ≤ i → get_elem? (without k xs) i ≡ get_elem? xs (suc i)
entry_without k i [] l = refl
entry_without zero i (x ∷ xs) l = refl
entry_without (suc k) zero (x ∷ xs) l = absurd (omega arith)
entry_without (suc k) (suc i) (x ∷ xs) l = entry_without k i xs (omega arith)

-- each entry is so

module _ {A : Type 0} (P : A → Type 0) where
  pub all_append : (xs ys : List A) → All P xs → All P ys → All P (xs ++ ys)
  all_append [] ys a b = b
  all_append (x ∷ xs) ys a b = (a.0, all_append xs ys a.1 b)

  pub all_left : (xs ys : List A) → All P (xs ++ ys) → All P xs
  all_left [] ys a = tt
  all_left (x ∷ xs) ys a = (a.0, all_left xs ys a.1)

  pub all_right : (xs ys : List A) → All P (xs ++ ys) → All P ys
  all_right [] ys a = a
  all_right (x ∷ xs) ys a = all_right xs ys a.1

  pub all_filter : (f : A → Bool) (xs : List A) → All P xs → All P (filter f xs)
  all_filter f [] a = tt
  all_filter f (x ∷ xs) a = go (f x) (all_filter f xs a.1)
    where
      go : (b : Bool) → All P (filter f xs) → All P (cond b (x ∷ filter f xs) (filter f xs))
      go true r = (a.0, r)
      go false r = r

  pub all_take : (n : ℕ) (xs : List A) → All P xs → All P (take n xs)
  all_take zero xs a = tt
  all_take (suc n) [] a = tt
  all_take (suc n) (x ∷ xs) a = (a.0, all_take n xs a.1)

  pub all_drop : (n : ℕ) (xs : List A) → All P xs → All P (drop n xs)
  all_drop zero xs a = a
  all_drop (suc n) [] a = tt
  all_drop (suc n) (x ∷ xs) a = all_drop n xs a.1

  pub all_without : (k : ℕ) (xs : List A) → All P xs → All P (without k xs)
  all_without k [] a = tt
  all_without zero (x ∷ xs) a = a.1
  all_without (suc k) (x ∷ xs) a = (a.0, all_without k xs a.1)

  pub all_set : (k : ℕ) (x : A) (xs : List A) → P x → All P xs → All P (set xs k x)
  all_set k x [] p a = tt
  all_set zero x (y ∷ ys) p a = (p, a.1)
  all_set (suc k) x (y ∷ ys) p a = (a.0, all_set k x ys p a.1)

  pub all_of : (xs : List A) → ((x : A) → Memᴰ x xs → P x) → All P xs
  all_of [] f = tt
  all_of (x ∷ xs) f = (f x (Memᴰ.head refl), all_of xs (λ y m. f y (Memᴰ.tail m)))

  pub all_e : (xs : List A) → All P xs → {x : A} → Memᴰ x xs → P x
  all_e [] a x4 = elim x4 [ ]
  all_e (y ∷ ys) a (Memᴰ.head e) = subst⁻¹ P e a.0
  all_e (y ∷ ys) a (Memᴰ.tail m) = all_e ys a.1 m

  -- what a filter leaves is so: each entry that it keeps is
  pub filter_all : (f : A → Bool) (xs : List A) → All P (filter f xs) → All (λ x. T (f x) → P x) xs
  filter_all f [] a = tt
  filter_all f (x ∷ xs) a = go (f x) a (filter_all f xs)
    where
      go : (b : Bool) → All P (cond b (x ∷ filter f xs) (filter f xs)) → (All P (filter f xs) → All (λ y. T (f y) → P y) xs) → (T b → P x) × All (λ y. T (f y) → P y) xs
      go true a r = ((λ t. a.0), r a.1)
      go false a r = ((λ t. absurd t), r a)

  pub all_kept : (f : A → Bool) (xs : List A) → All (λ x. T (f x) → P x) xs → All (λ x. T (f x) × P x) (filter f xs)
  all_kept f [] a = tt
  all_kept f (x ∷ xs) a = go (f x) refl (all_kept f xs a.1)
    where
      go : (b : Bool) → f x ≡ b → All (λ y. T (f y) × P y) (filter f xs) → All (λ y. T (f y) × P y) (cond b (x ∷ filter f xs) (filter f xs))
      go true e r = let t : T (f x) = rw e tt in ((t, a.0 t), r)
      go false e r = r

  pub all_to : (Q : A → Type 0) → ((x : A) → P x → Q x) → (xs : List A) → All P xs → All Q xs
  all_to Q f [] a = tt
  all_to Q f (x ∷ xs) a = (f x a.0, all_to Q f xs a.1)

  pub all_both : (Q : A → Type 0) (xs : List A) → All P xs → All Q xs → All (λ x. P x × Q x) xs
  all_both Q [] p q = tt
  all_both Q (x ∷ xs) p q = ((p.0, q.0), all_both Q xs p.1 q.1)

  pub all_join : (xss : List (List A)) → All (All P) xss → All P (join xss)
  all_join [] a = tt
  all_join (xs ∷ xss) a = all_append xs (join xss) a.0 (all_join xss a.1)

  pub all_sublist : {xs ys : List A} → Sublistᴰ xs ys → All P ys → All P xs
  all_sublist Sublistᴰ.slnil a = tt
  all_sublist (Sublistᴰ.cons s) a = all_sublist s a.1
  all_sublist (Sublistᴰ.cons-cons e s) a = (subst⁻¹ P e a.0, all_sublist s a.1)

pub all_map : {A B : Type 0} (P : B → Type 0) (f : A → B) (xs : List A) → All (λ x. P (f x)) xs → All P (map f xs)
all_map P f [] a = tt
all_map P f (x ∷ xs) a = (a.0, all_map P f xs a.1)

pub all_unmap : {A B : Type 0} (P : B → Type 0) (f : A → B) (xs : List A) → All P (map f xs) → All (λ x. P (f x)) xs
all_unmap P f [] a = tt
all_unmap P f (x ∷ xs) a = (a.0, all_unmap P f xs a.1)

pub map_all : {A B : Type 0} (P : B → Type 0) (f : A → B) (xs : List A) → All P (map f xs) → All (λ x. P (f x)) xs
map_all P f [] a = tt
map_all P f (x ∷ xs) a = (a.0, map_all P f xs a.1)

-- what a filter keeps
pub sublist_filter : {A : Type 0} (f : A → Bool) (xs : List A) → Sublistᴰ (filter f xs) xs
sublist_filter f [] = Sublistᴰ.slnil
sublist_filter f (x ∷ xs) = go (f x) (sublist_filter f xs)
  where
    go : (b : Bool) → Sublistᴰ (filter f xs) xs → Sublistᴰ (cond b (x ∷ filter f xs) (filter f xs)) (x ∷ xs)
    go true s = Sublistᴰ.cons-cons refl s
    go false s = Sublistᴰ.cons s

-- ---- distinct numbers

module _ {A : Type 0} where
  length_filter : (f : A → Bool) (xs : List A) → length (filter f xs) ≤ length xs
  length_filter f [] = omega arith
  length_filter f (x ∷ xs) = go (f x) (length_filter f xs)
    where
      go : (b : Bool) → length (filter f xs) ≤ length xs → length (cond b (x ∷ filter f xs) (filter f xs)) ≤ suc (length xs)
      go true l = omega arith
      go false l = omega arith

  filter_less : (f : A → Bool) {x : A} {xs : List A} → Memᴰ x xs → T (not (f x)) → length (filter f xs) < length xs
  filter_less f (Memᴰ.head {x = y} {xs = ys} e) t = rw (T_false {b = f y} (subst (λ (z : A). T (not (f z))) e t)) (omega (arith, length_filter f ys))
  filter_less f (Memᴰ.tail {x = y} {xs = ys} m) t = go (f y) (filter_less f m t)
    where
      go : (b : Bool) → length (filter f ys) < length ys → length (cond b (y ∷ filter f ys) (filter f ys)) < suc (length ys)
      go true l = omega arith
      go false l = omega arith

-- distinct entries of a list are no more than its entries
pub distinct_among : (vs us : List ℕ) → Ordered (λ v w. T (not (eqb v w))) vs → All (λ v. Memᴰ v us) vs → length vs ≤ length us
distinct_among [] us o a = omega arith
distinct_among (v ∷ vs) us o a = omega (arith, distinct_among vs (filter other us) o.1 rest, filter_less other a.0 (not_not (eqb v v) (eqb_refl v)))
  where
    other : ℕ → Bool
    other w = not (eqb v w)

    rest : All (λ w. Memᴰ w (filter other us)) vs
    rest = all_of (λ (w : ℕ). Memᴰ w (filter other us)) vs (λ w m. filter_i other (all_e (λ (u : ℕ). Memᴰ u us) vs a.1 m) (all_e (λ (u : ℕ). T (not (eqb v u))) vs o.0 m))
