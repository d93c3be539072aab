-- K9, over any candidates: a bijection of positions that keeps what each holds and weighs takes covers to covers, irredundant ones to
-- irredundant ones, and costs to themselves.
use Prim.Native.Nat.{ℕ, zero, suc, ◌+◌, ◌-◌, ◌/◌, ◌%◌, ◌^◌, ◌<◌}
use native.Mathlib.Omega.{arith}
use native.Mathlib.Nat.{le_refl}
use mathlib.Core.Path.{◌≡◌, refl, sym, ap, ◌∙◌, subst, subst⁻¹}
use mathlib.Core.Bool.{Bool, true, false, cond, ◌&&◌}
use mathlib.Core.List.Memᴰ
use mathlib.Core.List.{List, [], ◌∷◌, map, Memᴰ}
use lib.Dec.{T, ltb, eqb}
use lib.Pow.{pow_pos}
use lib.ListN.{get_or, length, take}
use Rattle.model.specs.Base.{bit, below, every, some, sum}
use Rattle.model.specs.Sets.{Covering, Within, members, cover, irredundants, cost, least_of, cheapest}
use Rattle.model.specs.Presence.{values_at, sum_up_to, sum_at, product_up_to, presence}
use Rattle.model.specs.Products.{most_products, products_up_to, products, has_too_many, MinimalUpTo}
use Rattle.model.specs.Renumbered.{Renumbering, inverse, renumbered, SameSets, Renumbers, SameCovers}
use Rattle.model.proofs.Lists.{and_l, and_r, and_i, bool_ext, every_same, some_same, some_i, some_e, below_i, below_e}
use Rattle.model.proofs.Bits.{bit0_e, bit_le, bit_lt, within_le, drop_half, drop_low, has_member}
use Rattle.model.proofs.RenumberedSets.{fixed_back, to_lt, renumbered_lt, renumbered_e, there, within_there, none_there, without_there, back_there, there_back, same_sets}
use Rattle.model.proofs.Sets.{least_of_le, least_of_in, listed}
use Rattle.model.proofs.Distinct.{distinct_rising}
use Rattle.model.proofs.Presence.{presence_cover}
use Rattle.model.proofs.Products.{products_minimal, products_rising, products_irredundants}
use Rattle.model.proofs.Representations.{none_cost}

-- ---- what a member adds to the cost

module _ {A : Type 0} (w : A → ℕ) where
  sum_without : (ts : List A) (s i : ℕ) → i < length ts → T (bit i s) → sum w (members ts s) ≡ get_or (map w ts) i 0 + sum w (members ts (s - 2 ^ i))
  sum_without [] s i l b = absurd (omega arith)
  sum_without (t ∷ ts) s zero l b =
      let h : (s - 2 ^ 0) / 2 ≡ s / 2 = omega (arith, bit0_e s b) in
      let o : (s - 2 ^ 0) % 2 ≡ 0 = omega (arith, bit0_e s b) in
      rw (bit0_e s b, h, o)
  sum_without (t ∷ ts) s (suc i) l b =
      rw (drop_half i s b, drop_low i s b) (go (eqb (s % 2) 1) (sum_without ts (s / 2) i (omega arith) b))
    where
      go : (c : Bool) → sum w (members ts (s / 2)) ≡ get_or (map w ts) i 0 + sum w (members ts (s / 2 - 2 ^ i))
          → sum w (cond c (t ∷ members ts (s / 2)) (members ts (s / 2))) ≡ get_or (map w ts) i 0 + sum w (cond c (t ∷ members ts (s / 2 - 2 ^ i)) (members ts (s / 2 - 2 ^ i)))
      go true e = omega (arith, e)
      go false e = e

-- ---- two coverings

module _ {A B X : Type 0} (r : Renumbering) (k : Covering A X) (l : Covering B X) (h : Renumbers r k l) where
  abbrev size : ℕ
  size = length k.cands

  -- and back
  pub renumbers_back : Renumbers (inverse r) l k
  renumbers_back = record {
    points = sym h.points;
    count = sym h.count;
    beyond = λ j b. fixed_back size r h.beyond j (omega (arith, h.count));
    holds = λ x j b. ap (λ (i : ℕ). get_or (values_at l.holds l.cands x) i false) (sym (r.to_back j)) ∙ sym (h.holds x (r.back j) (old j b));
    weight = λ j b. ap (λ (i : ℕ). get_or (map l.weight l.cands) i 0) (sym (r.to_back j)) ∙ sym (h.weight (r.back j) (old j b));
  }
    where
      old : (j : ℕ) → j < length l.cands → r.back j < size
      old j b = to_lt size (inverse r) (fixed_back size r h.beyond) j (omega (arith, h.count))

  -- a point is held where it is
  sum_there : (s : ℕ) (x : X) → sum_at k.holds k.cands s x ≡ sum_at l.holds l.cands (renumbered r size s) x
  unfolding sum_at sum_up_to
  sum_there s x = bool_ext _ _ one two
    where
      old : ℕ → Bool
      old i = get_or (values_at k.holds k.cands x) i false

      new : ℕ → Bool
      new j = get_or (values_at l.holds l.cands x) j false

      one : T (sum_up_to k.holds k.cands s x size) → T (sum_up_to l.holds l.cands (renumbered r size s) x (length l.cands))
      one t =
          let q = some_e (λ i. old i && bit i s) (below size) t in
          let b = below_e size q.1 in
          let c : r.to q.0 < length l.cands = omega (arith, to_lt size r h.beyond q.0 b, h.count) in
          some_i (λ j. new j && bit j (renumbered r size s)) (below_i c)
          (and_i (new (r.to q.0)) (bit (r.to q.0) (renumbered r size s))
          (subst T (h.holds x q.0 b) (and_l (old q.0) (bit q.0 s) q.2))
          (there size r h.beyond s q.0 b (and_r (old q.0) (bit q.0 s) q.2)))

      two : T (sum_up_to l.holds l.cands (renumbered r size s) x (length l.cands)) → T (sum_up_to k.holds k.cands s x size)
      two t =
          let q = some_e (λ j. new j && bit j (renumbered r size s)) (below (length l.cands)) t in
          let m = renumbered_e size r h.beyond s q.0 (and_r (new q.0) (bit q.0 (renumbered r size s)) q.2) in
          let b = to_lt size (inverse r) (fixed_back size r h.beyond) q.0 m.0 in
          some_i (λ i. old i && bit i s) (below_i b)
          (and_i (old (r.back q.0)) (bit (r.back q.0) s)
          (subst⁻¹ T (h.holds x (r.back q.0) b) (subst⁻¹ (λ (j : ℕ). T (new j)) (r.to_back q.0) (and_l (new q.0) (bit q.0 (renumbered r size s)) q.2)))
          m.1)

  product_there : (s i : ℕ) → product_up_to k s i ≡ product_up_to l (renumbered r size s) i
  unfolding product_up_to
  product_there s i =
      every_same (sum_at k.holds k.cands s) (sum_at l.holds l.cands (renumbered r size s)) (take i k.points) (sum_there s)
      ∙ ap (λ (xs : List X). every (sum_at l.holds l.cands (renumbered r size s)) (take i xs)) h.points

  pub cover_there : (s : ℕ) → cover k s ≡ cover l (renumbered r size s)
  unfolding presence
  cover_there s =
      sym (presence_cover k s)
      ∙ product_there s (length k.points)
      ∙ ap (λ (xs : List X). product_up_to l (renumbered r size s) (length xs)) h.points
      ∙ presence_cover l (renumbered r size s)

  -- by the number of sets below: one member off
  cost_up_to : (n s : ℕ) → s < n → s < 2 ^ size → cost k s ≡ cost l (renumbered r size s)
  unfolding cost
  cost_up_to zero s a b = absurd (omega arith)
  cost_up_to (suc n) s a b = go s refl (λ i t. cost_up_to n (s - 2 ^ i) (omega (arith, bit_le i s t, pow_pos i)) (omega arith))
    where
      Goal : ℕ → Type 0
      Goal x = sum k.weight (members k.cands x) ≡ sum l.weight (members l.cands (renumbered r size x))

      go : (x : ℕ) → s ≡ x → ((i : ℕ) → T (bit i s) → Goal (s - 2 ^ i)) → Goal s
      go zero e f = subst⁻¹ Goal e
          (none_cost k.weight k.cands ∙ sym (none_cost l.weight l.cands) ∙ ap (λ (x : ℕ). sum l.weight (members l.cands x)) (sym (none_there size r h.beyond)))
      go (suc x) e f =
          let q = has_member size s b (omega arith) in
          let i = bit_lt q.0 size s q.1 b in
          let c = sum_without k.weight k.cands s q.0 i q.1 in
          let to : r.to q.0 < length l.cands = omega (arith, to_lt size r h.beyond q.0 i, h.count) in
          let d = sum_without l.weight l.cands (renumbered r size s) (r.to q.0) to (there size r h.beyond s q.0 i q.1) in
          let o = ap (λ (x : ℕ). sum l.weight (members l.cands x)) (without_there size r h.beyond s q.0 b q.1) in
          omega (arith, c, d, o, h.weight q.0 i, f q.0 q.1)

  pub cost_there : (s : ℕ) → s < 2 ^ size → cost k s ≡ cost l (renumbered r size s)
  cost_there s b = cost_up_to (suc s) s (le_refl (suc s)) b

  -- the minimal sets that meet the first points, so the products after them
  minimal_there : (i s : ℕ) → MinimalUpTo k i s → MinimalUpTo l i (renumbered r size s)
  minimal_there i s m = record {
    among = subst (λ (n : ℕ). renumbered r size s < 2 ^ n) h.count (renumbered_lt size r h.beyond s);
    meets = subst T (product_there s i) m.meets;
    tight = λ a w d t.
        let b : a < 2 ^ size = omega (arith, within_le a (renumbered r size s) w, renumbered_lt size r h.beyond s) in
        let old : ℕ = renumbered (inverse r) size a in
        let again : renumbered r size old ≡ a = there_back size r h.beyond a b in
        let home : renumbered (inverse r) size (renumbered r size s) ≡ s = back_there size r h.beyond s m.among in
        let inside : Within old s = subst (λ (x : ℕ). Within old x) home (within_there size (inverse r) (fixed_back size r h.beyond) a (renumbered r size s) w) in
        m.tight old inside (λ e. d (sym again ∙ ap (renumbered r size) e)) (subst⁻¹ T (product_there old i) (subst⁻¹ (λ (x : ℕ). T (product_up_to l x i)) again t));
  }

-- ---- the lists and the cheapest

-- of two lists whose entries go to entries of the same cost, the least costs are the same
least_costs : (f g u v : ℕ → ℕ) (xs ys : List ℕ) → f 0 ≡ g 0
    → ((x : ℕ) → Memᴰ x xs → Memᴰ (u x) ys × (f x ≡ g (u x))) → ((y : ℕ) → Memᴰ y ys → Memᴰ (v y) xs × (g y ≡ f (v y))) → f (least_of f xs) ≡ g (least_of g ys)
least_costs f g u v [] [] e to back = e
least_costs f g u v [] (y ∷ ys) e to back = absurd (elim (back y (Memᴰ.head refl)).0 [ ])
least_costs f g u v (x ∷ xs) [] e to back = absurd (elim (to x (Memᴰ.head refl)).0 [ ])
least_costs f g u v (x ∷ xs) (y ∷ ys) e to back =
    let p = to (least_of f (x ∷ xs)) (least_of_in f (x ∷ xs) (Memᴰ.head refl)) in
    let q = back (least_of g (y ∷ ys)) (least_of_in g (y ∷ ys) (Memᴰ.head refl)) in
    omega (arith, least_of_le g (y ∷ ys) p.0, p.1, least_of_le f (x ∷ xs) q.0, q.1)

module _ {A B X : Type 0} (r : Renumbering) (k : Covering A X) (l : Covering B X) (h : Renumbers r k l) where
  abbrev n : ℕ
  n = length k.cands

  products_there : (i : ℕ) → SameSets r n (products_up_to k i) (products_up_to l i)
  products_there i =
      same_sets n r h.beyond (products_up_to k i) (products_up_to l i) (λ s m. ((products_minimal k i s).0 m).among)
      (λ t m. subst⁻¹ (λ (c : ℕ). t < 2 ^ c) h.count ((products_minimal l i t).0 m).among)
      (λ s m. (products_minimal l i (renumbered r n s)).1 (minimal_there r k l h i s ((products_minimal k i s).0 m))) back
      (distinct_rising 0 (products_up_to k i) (products_rising k i)) (distinct_rising 0 (products_up_to l i) (products_rising l i))
    where
      back : (t : ℕ) → Memᴰ t (products_up_to l i) → Memᴰ (renumbered (inverse r) n t) (products_up_to k i)
      back t m =
          subst⁻¹ (λ (c : ℕ). Memᴰ (renumbered (inverse r) c t) (products_up_to k i)) h.count
          ((products_minimal k i (renumbered (inverse r) (length l.cands) t)).1 (minimal_there (inverse r) l k (renumbers_back r k l h) i t ((products_minimal l i t).0 m)))

  -- the irredundant covers are the last of them
  irredundants_there : SameSets r n (irredundants k) (irredundants l)
  unfolding products
  irredundants_there = rw (← products_irredundants k, ← products_irredundants l)
      (subst (λ (m : ℕ). SameSets r n (products_up_to k (length k.points)) (products_up_to l m)) (ap length h.points) (products_there (length k.points)))

  listed_there : (s : ℕ) → Memᴰ s (irredundants k) → Memᴰ (renumbered r n s) (irredundants l) × (cost k s ≡ cost l (renumbered r n s))
  listed_there s m = ((irredundants_there.there (renumbered r n s)).0 (Memᴰ.map (renumbered r n) m), cost_there r k l h s ((listed k s).0 m).among)

  listed_back : (t : ℕ) → Memᴰ t (irredundants l) → Memᴰ (renumbered (inverse r) n t) (irredundants k) × (cost l t ≡ cost k (renumbered (inverse r) n t))
  listed_back t m = (
    (irredundants_there.back_again (renumbered (inverse r) n t)).0 (Memᴰ.map (renumbered (inverse r) n) m),
    subst⁻¹ (λ (c : ℕ). cost l t ≡ cost k (renumbered (inverse r) c t)) h.count (cost_there (inverse r) l k (renumbers_back r k l h) t ((listed l t).0 m).among),
  )

  pub same_covers : SameCovers r k l
  unfolding cheapest has_too_many
  same_covers = record {
    covers = λ s b. cover_there r k l h s;
    costs = cost_there r k l h;
    irredundant_covers = irredundants_there;
    cheapest_costs = least_costs (cost k) (cost l) (renumbered r n) (renumbered (inverse r) n) (irredundants k) (irredundants l)
        (cost_there r k l h 0 (pow_pos n) ∙ ap (cost l) (none_there n r h.beyond)) listed_there listed_back;
    products = products_there;
    too_many =
        some_same (many k) (many l) (below (length k.points)) (λ i. ap (ltb most_products) (products_there (suc i)).as_many)
        ∙ ap (λ (xs : List X). some (many l) (below (length xs))) h.points;
  }
    where
      many : {C : Type 0} → Covering C X → ℕ → Bool
      many j i = ltb most_products (length (products_up_to j (suc i)))
