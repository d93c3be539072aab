-- 17 by more products than the definitions can be computed on: a law on how many there are, and a job that is refused by it.
use Prim.Native.Nat.{ℕ, zero, suc, ◌+◌, ◌-◌, ◌*◌, ◌^◌, ◌≤◌, ◌<◌}
use native.Mathlib.Decide.{ℕ_discrete}
use native.Mathlib.Nat.{le_refl, pow-zero, pow-suc}
use native.Mathlib.Omega.{arith}
use mathlib.Core.Path.{◌≡◌, refl, sym, ap, ap₂, ◌∙◌, subst, subst⁻¹}
use mathlib.Core.Logic.{◌≢◌, ◌⊎◌, inl, inr}
use mathlib.Core.Bool.{Bool, false, not, ◌&&◌}
use mathlib.Core.List.Memᴰ
use mathlib.Core.List.{List, [], ◌∷◌, map, Memᴰ}
use lib.Bits.{bit_or, or_lt}
use lib.Dec.{T, eqb, eqb→eq, not_T, T_not}
use lib.ListN.{get_or, length, take, length-append, length-map}
use lib.Pow.{pow_pos, pow-lt}
use Rattle.model.specs.Base.{bit, below, every, join}
use Rattle.model.specs.Table.{is_on, is_dc, is_off, cell, cells, on_cells, holds, formed, holds_no_off}
use Rattle.model.specs.Sets.{Covering, Within, covers, coverable}
use Rattle.model.specs.Presence.{values_at, sum_at, product_up_to}
use Rattle.model.specs.Products.{holders, joined, kept, products_up_to, has_too_many, MinimalUpTo}
use Rattle.model.specs.Ranges.{fixed}
use Rattle.model.specs.Candidates.{terms_alone, usual, candidate_cost}
use Rattle.model.specs.Commands.{kind_of, begun, in_candidates, Problem, empty, started, at_place, with_cands, add_rows, Context, covering_of, problem_after, table_of}
use Rattle.model.specs.Answers.{answer, answer_for}
use Rattle.model.specs.Refusals.{refusals_of}
use Rattle.model.specs.Rules.{engine, refusals_by, refusal_by, refusal}
use Rattle.model.specs.Job.{commands, run, written, packed}
use Rattle.model.specs.Library.{call_refusals, multiply_covers}
use Rattle.model.specs.Cases.{many_products_terms, many_products_job}
use Rattle.model.proofs.Lists.{and_l, and_r, or_cases, every_e, not_every, filter_e, below_i}
use Rattle.model.proofs.Bits.{bit_le, bit_of_or, without_within, within_without, within_le, within_both, pow_here, pow_only, within_with, with_here, with_within}
use Rattle.model.proofs.Pages.{rising_filter, rising_from}
use Rattle.model.proofs.Distinct.{Distinct, distinct_map, distinct_join, distinct_rising, as_long}
use Rattle.model.proofs.ProductsStep.{kept_e, held_e, held_i, holder_lt, joined_e}
use Rattle.model.proofs.Products.{Least, MeetsUpTo, least_entries, meets_more, meets_next, least_next, products_least, products_rising, products_minimal, too_many_iff}
use Rattle.model.proofs.Runs.{context, step_refused, run_is}
use Rattle.model.proofs.Library.{pack}
use Rattle.model.proofs.Multiplied.{multiply_17}
use Rattle.model.proofs.Marked.{products_before_room}

-- ---- what a function of two numbers makes of each of some with each of others

module _ (f : ℕ → ℕ → ℕ) (cs : List ℕ) where
  abbrev grid : List ℕ → List ℕ
  grid ps = join (map (λ p. map (f p) cs) ps)

  grid_length : (ps : List ℕ) → length (grid ps) ≡ length ps * length cs
  grid_length [] = omega arith
  grid_length (p ∷ ps) = length-append (map (f p) cs) (grid ps) ∙ rw (length-map cs (f p), grid_length ps) (omega arith)

  -- distinct where it takes no two pairs to one number
  grid_distinct : (ps : List ℕ) → Distinct cs → Distinct ps
      → ((p c q e : ℕ) → Memᴰ p ps → Memᴰ c cs → Memᴰ q ps → Memᴰ e cs → f p c ≡ f q e → (p ≡ q) × (c ≡ e)) → Distinct (grid ps)
  grid_distinct ps d o g =
      distinct_join (λ p. map (f p) cs) ps o (λ p m. distinct_map (f p) cs d (λ c e k l q. (g p c p e m k m l q).1))
      (λ p q v m n k l.
      let a = Memᴰ.of_map (f p) cs k in
      let b = Memᴰ.of_map (f q) cs l in
      (g p a.0 q b.0 m a.1 n b.1 (a.2 ∙ sym b.2)).0)

-- ---- points with new holders

-- a member of a set with c put to it is one of the set, or c
with_e : (p c j : ℕ) → T (bit j (bit_or p (2 ^ c))) → T (bit j p) ⊎ (j ≡ c)
with_e p c j t = go (or_cases (bit j p) (bit j (2 ^ c)) (rw (bit_of_or j p (2 ^ c)) at t))
  where
    go : T (bit j p) ⊎ T (bit j (2 ^ c)) → T (bit j p) ⊎ (j ≡ c)
    go (inl u) = inl u
    go (inr u) = inr (pow_only c j u)

-- another member stays where one is taken out
still_in : (p c j : ℕ) → T (bit c p) → T (bit j p) → (j ≡ c → ⊥) → T (bit j (p - 2 ^ c))
still_in p c j t u d = within_without c (2 ^ j) p t (not_T (bit c (2 ^ j)) (λ v. d (sym (pow_only j c v)))) (λ i v. subst⁻¹ (λ (n : ℕ). T (bit n p)) (pow_only j i v) u) j (pow_here j)

module _ {A X : Type 0} (k : Covering A X) where
  -- each member of a product holds one of the points so far: without it they are not all met
  member_holds : (i p c : ℕ) → Memᴰ p (products_up_to k i) → T (bit c p) → (y : X) × Memᴰ y (take i k.points) × Memᴰ c (holders k y)
  unfolding product_up_to
  member_holds i p c m t = (u.0, u.1, go (ℕ_discrete h.0 c))
    where
      q : MinimalUpTo k i p
      q = (products_minimal k i p).0 m

      fails : T (not (product_up_to k (p - 2 ^ c) i))
      fails = not_T (product_up_to k (p - 2 ^ c) i) (q.tight (p - 2 ^ c) (without_within c p t) (λ e. omega (arith, e, bit_le c p t, pow_pos c)))

      u : (y : X) × Memᴰ y (take i k.points) × T (not (sum_at k.holds k.cands (p - 2 ^ c) y))
      u = not_every (sum_at k.holds k.cands (p - 2 ^ c)) (take i k.points) fails

      h : (j : ℕ) × Memᴰ j (holders k u.0) × T (bit j p)
      h = held_e k p u.0 (every_e (sum_at k.holds k.cands p) u.1 q.meets)

      go : Dec (h.0 ≡ c) → Memᴰ c (holders k u.0)
      go (yes e) = subst (λ (j : ℕ). Memᴰ j (holders k u.0)) e h.1
      go (no d) = absurd (T_not (sum_at k.holds k.cands (p - 2 ^ c) u.0) u.2 (held_i k (p - 2 ^ c) u.0 h.0 h.1 (still_in p c h.0 t h.2 d)))

  holders_distinct : (x : X) → Distinct (holders k x)
  unfolding holders
  holders_distinct x = distinct_rising 0 (holders k x) (rising_filter _ 0 (below (length k.cands)) (rising_from 0 (length k.cands)))

  -- none of the candidates that hold x holds one of these points
  unfoldable pub new_holders : List X → X → Bool
  new_holders xs x = every (λ c. every (λ y. not (get_or (values_at k.holds k.cands y) c false)) xs) (holders k x)

  new_e : (xs : List X) (x : X) → T (new_holders xs x) → (c : ℕ) → Memᴰ c (holders k x) → (y : X) → Memᴰ y xs → Memᴰ c (holders k y) → ⊥
  unfolding new_holders holders
  new_e xs x t c m y n h =
      let held : ℕ → X → Bool = λ j z. get_or (values_at k.holds k.cands z) j false in
      T_not (held c y) (every_e (λ z. not (held c z)) n (every_e (λ j. every (λ z. not (held j z)) xs) m t)) (filter_e (λ j. held j y) (below (length k.cands)) h).1

  module _ (i : ℕ) (d : X) (l : i < length k.points) (new : T (new_holders (take i k.points) (get_or k.points i d))) where
    abbrev x : X
    x = get_or k.points i d

    abbrev ps : List ℕ
    ps = products_up_to k i

    abbrev put : ℕ → ℕ → ℕ
    put p c = bit_or p (2 ^ c)

    -- so a holder of this point is in no product so far
    absent : (p c : ℕ) → Memᴰ p ps → Memᴰ c (holders k x) → T (bit c p) → ⊥
    absent p c m h t = let u = member_holds i p c m t in new_e (take i k.points) x new c h u.0 u.1 u.2

    -- what a product has of p and a holder is of p, and a holder that is there is the one put to it
    put_part : (p c q : ℕ) → Memᴰ q ps → Memᴰ c (holders k x) → Within q (put p c) → Within q p
    put_part p c q m h w j t = go (with_e p c j (w j t))
      where
        go : T (bit j p) ⊎ (j ≡ c) → T (bit j p)
        go (inl u) = u
        go (inr f) = absurd (absent q c m h (subst (λ (n : ℕ). T (bit n q)) f t))

    put_holder : (p c e : ℕ) → Memᴰ p ps → Memᴰ e (holders k x) → T (bit e (put p c)) → e ≡ c
    put_holder p c e m h t = go (with_e p c e t)
      where
        go : T (bit e p) ⊎ (e ≡ c) → e ≡ c
        go (inl u) = absurd (absent p e m h u)
        go (inr f) = f

    -- each product with each holder is a minimal set
    put_minimal : (p c : ℕ) → Memᴰ p ps → Memᴰ c (holders k x) → Memᴰ (put p c) (products_up_to k (suc i))
    put_minimal p c m h = (products_minimal k (suc i) (put p c)).1 (record { among = n.0; meets = n.1; tight = tight })
      where
        s : Least (MeetsUpTo k i) ps
        s = products_least k i

        n : MeetsUpTo k (suc i) (put p c)
        n =
            let b = s.sound p m in
            let lt = or_lt (length k.cands) p (2 ^ c) b.0 (pow-lt (holder_lt k x c h)) in
            (meets_next k i d (put p c) l).1 (meets_more k i p (put p c) (within_with p c) lt b, held_i k (put p c) x c h (with_here p c))

        tight : (a : ℕ) → Within a (put p c) → a ≢ put p c → T (product_up_to k a (suc i)) → ⊥
        tight a w ne t =
            let o = (meets_next k i d a l).0 (omega (arith, within_le a (put p c) w, n.0), t) in
            let q = s.below a o.0 in
            let e = s.apart q.0 p q.1 m (put_part p c q.0 q.1 h (λ j b. w j (q.2 j b))) in
            let g = held_e k a x o.1 in
            let f = put_holder p c g.0 m g.1 (w g.0 g.2) in
            ne (within_both a (put p c) w (with_within p c a (subst (λ (z : ℕ). Within z a) e q.2) (subst (λ (z : ℕ). T (bit z a)) f g.2)))

    -- and no two of these are one
    put_apart : (p c q e : ℕ) → Memᴰ p ps → Memᴰ c (holders k x) → Memᴰ q ps → Memᴰ e (holders k x) → put p c ≡ put q e → (p ≡ q) × (c ≡ e)
    put_apart p c q e m h n g f = (
      within_both p q (put_part q e p m g (λ j t. subst (λ (z : ℕ). T (bit j z)) f (within_with p c j t))) (put_part p c q n h (λ j t. subst⁻¹ (λ (z : ℕ). T (bit j z)) f (within_with q e j t))),
      put_holder q e c n h (subst (λ (z : ℕ). T (bit c z)) f (with_here p c)),
    )

    -- a point whose holders are new multiplies the products by their number
    pub products_multiply : length (products_up_to k (suc i)) ≡ length (products_up_to k i) * length (holders k (get_or k.points i d))
    unfolding joined
    products_multiply = omega (arith, grid_length put (holders k x) ps, same)
      where
        same : length (joined k x ps) ≡ length (products_up_to k (suc i))
        same =
            as_long (joined k x ps) (products_up_to k (suc i)) (grid_distinct put (holders k x) ps (holders_distinct x) (distinct_rising 0 ps (products_rising k i)) put_apart)
            (distinct_rising 0 (products_up_to k (suc i)) (products_rising k (suc i)))
            (λ v w. let a = joined_e k x ps w in subst (λ (z : ℕ). Memᴰ z (products_up_to k (suc i))) a.4 (put_minimal a.0 a.1 a.2 a.3))
            (λ v w.
            let again = kept k (joined k x ps) in
            (kept_e k (joined k x ps) (least_entries (MeetsUpTo k (suc i)) (products_up_to k (suc i)) again (products_least k (suc i)) (least_next k i d ps l (products_least k i)) v w)).0)

  -- so many points, each with n holders that are new
  unfoldable pub all_new : ℕ → X → ℕ → Bool
  all_new n d i = every (λ j. eqb (length (holders k (get_or k.points j d))) n && new_holders (take j k.points) (get_or k.points j d)) (below i)

  one_first : length (products_up_to k 0) ≡ 1
  unfolding products_up_to
  one_first = refl

  pub products_power : (n : ℕ) (d : X) (i j : ℕ) → i ≤ length k.points → T (all_new n d i) → j ≤ i → length (products_up_to k j) ≡ n ^ j
  unfolding all_new
  products_power n d i zero l t h = omega (arith, one_first, pow-zero n)
  products_power n d i (suc j) l t h =
      let a = every_e (λ m. has m && fresh m) (below_i h) t in
      products_multiply j d (omega arith) (and_r (has j) (fresh j) a)
      ∙ ap₂ (λ (u v : ℕ). u * v) (products_power n d i j l t (omega arith)) (eqb→eq (length (holders k (get_or k.points j d))) n (and_l (has j) (fresh j) a))
      ∙ sym (pow-suc n j)
    where
      has : ℕ → Bool
      has m = eqb (length (holders k (get_or k.points m d))) n

      fresh : ℕ → Bool
      fresh m = new_holders (take m k.points) (get_or k.points m d)

-- ---- the job

-- what its N finds: the rows of eleven vertices, and the terms
abbrev pub found : Problem
found =
    with_cands (terms_alone many_products_terms) (map (candidate_cost usual) (terms_alone many_products_terms))
    (map (λ c. fixed (candidate_cost usual c)) (terms_alone many_products_terms))
    (at_place in_candidates (add_rows (started begun 4 1 16) (map (λ v. record { vertex = v; on = 1; dc = 0 }) (below 11))))

abbrev at_n : Context
at_n = context found 0x4e (0x45 ∷ []) 32768

-- each of its wanted cells has two holders, which are new
found_new : T (all_new (covering_of at_n) 2 (cell 0 0) 11)
unfolding all_new new_holders holders is_on on_cells cells holds
found_new = tt

-- 2,048 products after the eleventh
found_many : T (has_too_many (covering_of at_n))
unfolding is_on on_cells cells
found_many =
    let e = products_power (covering_of at_n) 2 (cell 0 0) 11 11 (omega arith) found_new (le_refl 11) in
    (too_many_iff (covering_of at_n)).1 (10, omega arith, omega (arith, e))

found_refused : refusal at_n ≡ 17
unfolding coverable covers is_on on_cells cells holds kind_of
found_refused = products_before_room at_n refl tt tt found_many

-- a bound of n commands more
abbrev after : ℕ → ℕ → ℕ
after zero k = k
after (suc n) k = suc (after n k)

-- the I, the eleven R and the twenty-two T are answered, by nothing. The bound behind them is a variable, so that the computation stands at the
-- N, whose products are too many for it
head_answered : (k : ℕ) → packed (commands engine (after 34 k) empty many_products_job 32768 0) ≡ packed (commands engine k found (0x4e ∷ 0x45 ∷ []) 32768 135)
unfolding packed written kind_of refusal_by refusals_by refusals_of answer answer_for problem_after is_on is_dc is_off cells holds formed holds_no_off
head_answered k = refl

-- and the N is refused: 17 at its offset, and nothing is written
pub many_products : packed (run many_products_job 32768) ≡ 17 * 2 ^ 32 + 135 * 2 ^ 16
unfolding packed written
many_products =
    ap packed (run_is engine many_products_job 32768 (omega arith) (omega arith))
    ∙ head_answered 104
    ∙ ap packed (step_refused engine 103 found 0x4e (0x45 ∷ []) 32768 135 (rw found_refused tt))
    ∙ rw found_refused refl

-- so is the library call on its table and terms
pub many_products_call : (multiply_covers (table_of found) (map pack many_products_terms) 1024 1024).number ≡ 17
unfolding call_refusals coverable covers is_on is_dc is_off on_cells cells holds formed holds_no_off
many_products_call = (multiply_17 (table_of found) (map pack many_products_terms) 1024 1024).1 (tt, refl, found_many)
