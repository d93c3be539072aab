-- All cells: the rows take turns, and the one whose turn it is holds the products.
use Prim.Native.Nat.{ℕ, zero, suc, ◌+◌, ◌%◌, ◌^◌, ◌≤◌, ◌<◌}
use native.Mathlib.Omega.{arith}
use native.Mathlib.Numerals.{add-one}
use mathlib.Core.Path.{◌≡◌, refl, sym, ap, ◌∙◌, subst, subst⁻¹}
use mathlib.Core.Bool.{Bool, true, false}
use mathlib.Core.List.{List, [], ◌∷◌, ◌++◌}
use mathlib.Core.Logic.{◌⊎◌, inl, inr}
use lib.Bits.{bit_and}
use lib.Dec.{T, not_T}
use lib.ListN.{length, take, drop, length-append, length-drop, get_or, set, replicate, length-set, length-replicate}
use lib.Seq.{length-take-le, take_at}
use denote.Ref.{MutBor, at_last}
use Rattle.model.specs.Base.{bit, below, some}
use Rattle.model.specs.Sets.{members, cover, covers}
use Rattle.model.specs.Presence.{sum_at}
use Rattle.model.specs.Products.{products_up_to, products, has_too_many}
use Rattle.model.specs.Library.{turn}
use Rattle.model.proofs.Lists.{and_l, and_i, T_true, T_false}
use Rattle.model.proofs.Presence.{sum_held}
use Rattle.model.proofs.Products.{Least, least_entries, least_for, MeetsUpTo, meets_more, meets_next, least_first, products_least, products_rising, products_are_lem, too_many_iff}
use Rattle.bits.proofs.Digits.{eq?}
use Rattle.rows.specs.Covers.{Cover}
use Rattle.rows.proofs.Bridge.{cover_to, cover_from, of_rows_size}
use Rattle.product.specs.Steps.{Held, stepped}
use Rattle.product.specs.Order.{sorted, Sorted}
use Rattle.product.specs.Outcome.{of_cells, RowsBelow, TakenTurns, MultipliedRows}
use Rattle.product.specs.declared.TooMany.{TooMany}
use Rattle.std.proofs.Common.{Ok, Err}
use Rattle.model.proofs.Distinct.{Distinct, distinct_rising, as_long}
use Rattle.product.proofs.Sorted.{sorted_e, sorted_i, sorted_rising}
use Rattle.product.proofs.Cells.{Wanted, stepped_least, stepped_distinct}

-- ---- a cell is met where the row is

module _ (costs : List ℕ) (s r : ℕ) where
  sum_to : T (sum_at bit (below (length costs)) s r) → bit_and r s ≡ 0 → ⊥
  unfolding cover covers Cover
  sum_to t =
      cover_to costs (r ∷ []) s
      (and_i (some (λ i. bit i r) (members (below (length costs)) s)) true (subst (λ (b : Bool). T b) (sum_held bit (below (length costs)) s r) t) tt) 0 (omega arith)

  sum_from : s < 2 ^ length costs → (bit_and r s ≡ 0 → ⊥) → T (sum_at bit (below (length costs)) s r)
  unfolding cover covers Cover
  sum_from l d =
      subst⁻¹ (λ (b : Bool). T b) (sum_held bit (below (length costs)) s r)
      (and_l (some (λ i. bit i r) (members (below (length costs)) s)) true (cover_from costs (r ∷ []) s l only))
    where
      only : (k : ℕ) → k < 1 → bit_and (get_or (r ∷ []) k 0) s ≡ 0 → ⊥
      only zero h = d
      only (suc k) h = absurd (omega arith)

-- ---- the products behind some cells

module _ (n : ℕ) (rows : List ℕ) where
  pub record Stands (i : ℕ) (ps : List ℕ) : Type 0 where
    pub least : Least (MeetsUpTo (of_cells n rows) i) ps
    pub distinct : Distinct ps
    pub few : (j : ℕ) → j < i → length (products_up_to (of_cells n rows) (suc j)) ≤ 1024

  stands_first : Stands 0 (0 ∷ [])
  stands_first = record { least = least_first (of_cells n rows); distinct = (tt, tt); few = λ j l. absurd (omega arith) }

  size : length (of_cells n rows).cands ≡ n
  size = of_rows_size (replicate n 0) rows ∙ length-replicate {A = ℕ} n 0

  -- as many as by the definition
  as_many : (i : ℕ) (ps : List ℕ) → Least (MeetsUpTo (of_cells n rows) i) ps → Distinct ps → length ps ≡ length (products_up_to (of_cells n rows) i)
  as_many i ps l d =
      let p = products_least (of_cells n rows) i in
      as_long ps (products_up_to (of_cells n rows) i) d (distinct_rising 0 (products_up_to (of_cells n rows) i) (products_rising (of_cells n rows) i))
      (least_entries (MeetsUpTo (of_cells n rows) i) ps (products_up_to (of_cells n rows) i) l p) (least_entries (MeetsUpTo (of_cells n rows) i) (products_up_to (of_cells n rows) i) ps p l)

row_small : (n : ℕ) (rows : List ℕ) → RowsBelow n rows → (i : ℕ) → i < length rows → get_or rows i 0 < 2 ^ n
row_small n [] a i l = absurd (omega arith)
row_small n (r ∷ rows) a zero l = a.0
row_small n (r ∷ rows) a (suc i) l = row_small n rows a.1 i (omega arith)

module _ (n : ℕ) (rows : List ℕ) (fits : n ≤ 64) (all : RowsBelow n rows) (i : ℕ) (l : i < length rows) (ps : List ℕ) (s : Stands n rows i ps) where
  abbrev D : ℕ → Type 0
  D t = MeetsUpTo (of_cells n rows) i t

  among : (t : ℕ) → D t → t < 2 ^ n
  among t d = subst (λ (m : ℕ). t < 2 ^ m) (size n rows) d.0

  grows : (a t : ℕ) → (((j : ℕ) → T (bit j a) → T (bit j t))) → t < 2 ^ n → D a → D t
  grows a t w h d = meets_more (of_cells n rows) i a t w (subst⁻¹ (λ (m : ℕ). t < 2 ^ m) (size n rows) h) d

  next_least : Least (MeetsUpTo (of_cells n rows) (suc i)) (stepped (get_or rows i 0) ps)
  next_least =
      least_for (Wanted n (get_or rows i 0) fits small D among grows ps s.least) (MeetsUpTo (of_cells n rows) (suc i)) (stepped (get_or rows i 0) ps)
      (λ t d. (meets_next (of_cells n rows) i 0 t l).1 (d.0, sum_from (replicate n 0) t (get_or rows i 0) (subst⁻¹ (λ (m : ℕ). t < 2 ^ m) (length-replicate {A = ℕ} n 0) (among t d.0)) d.1))
      (λ t d. let a = (meets_next (of_cells n rows) i 0 t l).0 d in (a.0, sum_to (replicate n 0) t (get_or rows i 0) a.1))
      (stepped_least n (get_or rows i 0) fits small D among grows ps s.least)
    where
      small : get_or rows i 0 < 2 ^ n
      small = row_small n rows all i l

  next_distinct : Distinct (stepped (get_or rows i 0) ps)
  next_distinct = stepped_distinct n (get_or rows i 0) fits (row_small n rows all i l) D among grows ps s.least s.distinct

  next_many : length (stepped (get_or rows i 0) ps) ≡ length (products_up_to (of_cells n rows) (suc i))
  next_many = as_many n rows (suc i) (stepped (get_or rows i 0) ps) next_least next_distinct

  stands_next : (new : List ℕ) (c : ℕ) → Held (stepped (get_or rows i 0) ps) new (Ok c) → Stands n rows (i + 1) (take c new)
  stands_next new c h = rw (h.held.2, add-one i) (record { least = next_least; distinct = next_distinct; few = λ j q. few j (eq? j i) q })
    where
      few : (j : ℕ) → (j ≡ i) ⊎ (j ≡ i → ⊥) → j < suc i → length (products_up_to (of_cells n rows) (suc j)) ≤ 1024
      few j (inl e) q = rw e (omega (arith, next_many, h.held.0, h.held.1))
      few j (inr d) q = s.few j (omega arith)

  too_many : (new : List ℕ) (e : TooMany) → Held (stepped (get_or rows i 0) ps) new (Err e) → has_too_many (of_cells n rows) ≡ true
  too_many new e h = T_true {b = has_too_many (of_cells n rows)} ((too_many_iff (of_cells n rows)).1 (i, l, omega (arith, next_many, h.held)))

stands_end : (n : ℕ) (rows : List ℕ) (i : ℕ) (ps : List ℕ) → Stands n rows i ps → i ≡ length rows → (sorted ps ≡ products (of_cells n rows)) × (has_too_many (of_cells n rows) ≡ false)
unfolding products
stands_end n rows i ps s e = (rw e at same, T_false {b = has_too_many (of_cells n rows)} (not_T (has_too_many (of_cells n rows)) none))
  where
    same : sorted ps ≡ products_up_to (of_cells n rows) i
    same =
        products_are_lem (of_cells n rows) i (sorted ps) (sorted_rising ps s.distinct)
        (record {
          sound = λ p m. s.least.sound p (sorted_e ps p m);
          below = λ t d. let a = s.least.below t d in (a.0, sorted_i ps a.0 a.1, a.2);
          apart = λ p q m k w. s.least.apart p q (sorted_e ps p m) (sorted_e ps q k) w;
        })

    none : T (has_too_many (of_cells n rows)) → ⊥
    none t = let a = (too_many_iff (of_cells n rows)).0 t in omega (arith, a.2, s.few a.0 (omega (arith, a.1)))

-- ---- whose turn it is

turns : {R : Type 0} (i : ℕ) (a b : R) → ((i % 2 ≡ 0 → turn i a b ≡ a) × ((i % 2 ≡ 0 → ⊥) → turn i a b ≡ b))
turns zero a b = (λ e. refl, λ d. absurd (d refl))
turns (suc i) a b = let r = turns i b a in (λ e. r.1 (λ z. omega (arith, e, z)), λ d. r.0 (omega (arith, d)))

pub record Turning (n : ℕ) (rows first second : List ℕ) (i held : ℕ) : Type 0 where
  pub first_size : length first ≡ 1024
  pub second_size : length second ≡ 1024
  pub room : held ≤ 1024
  pub here : Stands n rows i (take held (turn i first second))

front_one : (xs : List ℕ) → 0 < length xs → take 1 (set xs 0 0) ≡ 0 ∷ []
front_one [] l = absurd (omega arith)
front_one (x ∷ xs) l = refl

pub turn_none : (n : ℕ) (rows first second : List ℕ) → length first ≡ 1024 → length second ≡ 1024 → Turning n rows (set first 0 0) second 0 1
turn_none n rows first second a b =
    record { first_size = length-set first 0 0 ∙ a; second_size = b; room = omega arith; here = rw (front_one first (omega arith)) (stands_first n rows) }

module _ {n : ℕ} {rows f s : List ℕ} {i held : ℕ} (fits : n ≤ 64) (all : RowsBelow n rows) (t : Turning n rows f s i held) (l : i < length rows) where
  in_first : i % 2 ≡ 0 → Stands n rows i (take held f)
  in_first e = rw ((turns i f s).0 e) at t.here

  in_second : (i % 2 ≡ 0 → ⊥) → Stands n rows i (take held s)
  in_second d = rw ((turns i f s).1 d) at t.here

  pub to_second : (new : List ℕ) (c : ℕ) → i % 2 ≡ 0 → Held (stepped (get_or rows i 0) (take held f)) new (Ok c) → Turning n rows f new (i + 1) c
  to_second new c e h = record {
    first_size = t.first_size;
    second_size = h.size;
    room = h.held.0;
    here = subst⁻¹ (λ (xs : List ℕ). Stands n rows (i + 1) (take c xs)) (rw add-one ((turns i new f).0 e)) (stands_next n rows fits all i l (take held f) (in_first e) new c h);
  }

  pub to_first : (new : List ℕ) (c : ℕ) → (i % 2 ≡ 0 → ⊥) → Held (stepped (get_or rows i 0) (take held s)) new (Ok c) → Turning n rows new s (i + 1) c
  to_first new c d h = record {
    first_size = h.size;
    second_size = t.second_size;
    room = h.held.0;
    here = subst⁻¹ (λ (xs : List ℕ). Stands n rows (i + 1) (take c xs)) (rw add-one ((turns i s new).1 d)) (stands_next n rows fits all i l (take held s) (in_second d) new c h);
  }

  -- 17, found on either way
  pub second_full : (new : List ℕ) (e u : TooMany) → i % 2 ≡ 0 → Held (stepped (get_or rows i 0) (take held f)) new (Err e) → TakenTurns n rows f new (Err u)
  second_full new e u p h = record {
    first_size = t.first_size;
    second_size = h.size;
    told = too_many n rows fits all i l (take held f) (in_first p) new e h;
    within = tt;
    sets = tt;
  }

  pub first_full : (new : List ℕ) (e u : TooMany) → (i % 2 ≡ 0 → ⊥) → Held (stepped (get_or rows i 0) (take held s)) new (Err e) → TakenTurns n rows new s (Err u)
  first_full new e u p h = record {
    first_size = h.size;
    second_size = t.second_size;
    told = too_many n rows fits all i l (take held s) (in_second p) new e h;
    within = tt;
    sets = tt;
  }

pub turned : {n : ℕ} {rows f s : List ℕ} {i held : ℕ} → Turning n rows f s i held → i ≡ length rows → TakenTurns n rows f s (Ok held)
turned {n} {rows} {f} {s} {i} {held} t e =
    let p = stands_end n rows i (take held (turn i f s)) t.here e in
    record { first_size = t.first_size; second_size = t.second_size; told = p.1; within = t.room; sets = rw (← e) p.0 }

-- ---- what is told and handed back

-- `new` stands in the place of the first entries, the ones behind stay
done : {n : ℕ} {rows f s : List ℕ} {held : ℕ} (first second row : MutBor (List ℕ)) (new : List ℕ) → TakenTurns n rows f s (Ok held) → (last : List ℕ) → turn (length rows) f s ≡ last → length last ≡ 1024
    → Sorted (take held last) new → turn (length rows) first second ≡ row → MultipliedRows n rows first second (at_last row (new ++ drop held last)) (Ok held)
done {n} {rows} {held = held} first second row new t last v l q w =
    let h : length (take held last) ≡ held = length-take-le held last (omega (arith, l, t.within)) in
    let z : length new ≡ held = q.size ∙ h in
    let g : new ≡ products (of_cells n rows) = q.rising ∙ rw v at t.sets in
    record {
      told = t.told;
      which = rw (t.told, w);
      size = length-append new (drop held last) ∙ omega (arith, z, l, length-drop held last, t.within);
      within = t.within;
      counted = sym z ∙ ap length g;
      sets = take_at new (drop held last) held z ∙ g;
    }

module _ {n : ℕ} {rows f s : List ℕ} {held : ℕ} (first second : MutBor (List ℕ)) (new : List ℕ) (t : TakenTurns n rows f s (Ok held)) where
  pub done_first : length rows % 2 ≡ 0 → Sorted (take held f) new → MultipliedRows n rows first second (at_last first (new ++ drop held f)) (Ok held)
  done_first e q = done first second first new t f ((turns (length rows) f s).0 e) t.first_size q ((turns (length rows) first second).0 e)

  pub done_second : (length rows % 2 ≡ 0 → ⊥) → Sorted (take held s) new → MultipliedRows n rows first second (at_last second (new ++ drop held s)) (Ok held)
  done_second d q = done first second second new t s ((turns (length rows) f s).1 d) t.second_size q ((turns (length rows) first second).1 d)
