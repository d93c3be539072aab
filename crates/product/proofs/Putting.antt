-- A list that is put into a row of 1,024, entry by entry or part by part.
use Prim.Native.Nat.{ℕ, ◌+◌, ◌≤◌, ◌<◌}
use native.Mathlib.Omega.{arith}
use native.Mathlib.Numerals.{add-one}
use mathlib.Core.Path.{◌≡◌, refl, sym, ap, ◌∙◌}
use mathlib.Core.List.{List, [], ◌∷◌, ◌++◌, map, append_assoc, append-nil}
use lib.Bits.{bit_and}
use lib.ListN.{length, take, drop, get_or, set, length-append, length-set, drop_of_length-le}
use lib.Seq.{length-take-le, drop-cons, take-suc-set, take-take, take-append-le, take-append_seam}
use borrow.Author.Tests.{eq-eqb, ne_eqb}
use Rattle.std.proofs.Common.{Ok, Err}
use Rattle.model.specs.Base.{filter, join}
use Rattle.product.specs.declared.TooMany.{TooMany}
use Rattle.product.specs.Steps.{Held, meets, meeting, extended, stepped}

-- ---- what is held

pub held_fits : (xs row : List ℕ) (c : ℕ) → length row ≡ 1024 → c ≤ 1024 → take c row ≡ xs → Held xs row (Ok c)
held_fits xs row c l m e = record { size = l; held = (m, sym (length-take-le c row (omega arith)) ∙ ap length e, e) }

pub held_full : (xs row : List ℕ) (e : TooMany) → length row ≡ 1024 → 1024 < length xs → Held xs row (Err e)
held_full xs row e l m = record { size = l; held = m }

-- ---- the whole list: what stands first in the row, and what is left to put

pub record Going (whole to : List ℕ) (count : ℕ) (left : List ℕ) : Type 0 where
  pub size : length to ≡ 1024
  pub room : count ≤ 1024
  pub so_far : take count to ++ left ≡ whole

pub going_none : (to left : List ℕ) (count : ℕ) → length to ≡ 1024 → count ≤ 1024 → Going (take count to ++ left) to count left
going_none to left count l m = record { size = l; room = m; so_far = refl }

module _ {whole to : List ℕ} {count : ℕ} where
  -- one more
  pub going_put : {left : List ℕ} (x : ℕ) (rest : List ℕ) → Going whole to count left → left ≡ x ∷ rest → count < 1024 → Going whole (set to count x) (count + 1) rest
  going_put x rest g e l =
      record {
        size = length-set to count x ∙ g.size;
        room = omega arith;
        so_far = rw (add-one count, take-suc-set to count x (omega (arith, g.size)), append_assoc) (rw e at g.so_far);
      }

  pub going_no_room : {left : List ℕ} (x : ℕ) (rest : List ℕ) (t : TooMany) → Going whole to count left → left ≡ x ∷ rest → count ≡ 1024 → Held whole to (Err t)
  going_no_room x rest t g e z =
      held_full whole to t g.size
      (rw (← g.so_far, e, length-append) (omega (arith, length-take-le count to (omega (arith, g.size)))))

  pub going_end : {left : List ℕ} → Going whole to count left → left ≡ [] → Held whole to (Ok count)
  going_end g e = held_fits whole to count g.size g.room (sym (append-nil (take count to)) ∙ rw e at g.so_far)

  -- a whole part
  module _ {left : List ℕ} (xs rest new : List ℕ) (g : Going whole to count left) (e : left ≡ xs ++ rest) where
    parts : (take count to ++ xs) ++ rest ≡ whole
    parts = append_assoc (take count to) xs rest ∙ rw e at g.so_far

    pub going_more : (c : ℕ) → Held (take count to ++ xs) new (Ok c) → Going whole new c rest × (count ≤ c)
    going_more c h = (
      record { size = h.size; room = h.held.0; so_far = rw h.held.2 parts },
      omega (arith, h.held.1, length-append (take count to) xs, length-take-le count to (omega (arith, g.size, g.room))),
    )

    pub going_full : (t u : TooMany) → Held (take count to ++ xs) new (Err t) → Held whole new (Err u)
    going_full t u h = held_full whole new u h.size (rw (← parts, length-append) (omega (arith, h.held)))

  -- what stands first stays
  pub going_front : {left : List ℕ} (k : ℕ) → Going whole to count left → k ≤ count → take k to ≡ take k whole
  going_front {left} k g l =
      sym (take-take k count to l)
      ∙ sym (take-append-le k (take count to) left (omega (arith, length-take-le count to (omega (arith, g.size, g.room)))))
      ∙ ap (take k) g.so_far

-- ---- those that meet the row

pub record Keeping (r : ℕ) (ps to : List ℕ) (kept k : ℕ) : Type 0 where
  pub going : Going (meeting r ps) to kept (filter (meets r) (drop k ps))
  pub fewer : kept ≤ k

pub keep_none : (r : ℕ) (ps to : List ℕ) → length to ≡ 1024 → Keeping r ps to 0 0
unfolding meeting
keep_none r ps to l = record { going = record { size = l; room = omega arith; so_far = refl }; fewer = omega arith }

module _ {r : ℕ} {ps to : List ℕ} {kept k : ℕ} (w : Keeping r ps to kept k) (l : k < length ps) where
  pub keep_put : length ps ≤ 1024 → (bit_and r (get_or ps k 0) ≡ 0 → ⊥) → Keeping r ps (set to kept (get_or ps k 0)) (kept + 1) (k + 1)
  keep_put m d =
      let e : filter (meets r) (drop k ps) ≡ get_or ps k 0 ∷ filter (meets r) (drop (k + 1) ps)
      = rw (drop-cons ps k 0 l, ne_eqb (bit_and r (get_or ps k 0)) 0 d, add-one k) in
      record { going = going_put _ _ w.going e (omega (arith, w.fewer)); fewer = omega (arith, w.fewer) }

  pub keep_skip : bit_and r (get_or ps k 0) ≡ 0 → Keeping r ps to kept (k + 1)
  keep_skip z =
      let e : filter (meets r) (drop k ps) ≡ filter (meets r) (drop (k + 1) ps)
      = rw (drop-cons ps k 0 l, eq-eqb (bit_and r (get_or ps k 0)) 0 z, add-one k) in
      record { going = rw e at w.going; fewer = omega (arith, w.fewer) }

pub keep_end : {r : ℕ} {ps to : List ℕ} {kept k : ℕ} → Keeping r ps to kept k → length ps ≤ k → Held (meeting r ps) to (Ok kept)
keep_end {r} {ps} w l = going_end w.going (ap (filter (meets r)) (drop_of_length-le ps l))

-- ---- all products at a cell

pub record Stepping (r : ℕ) (ps to : List ℕ) (kept count k : ℕ) : Type 0 where
  pub going : Going (stepped r ps) to count (join (map (extended (meeting r ps) r) (drop k ps)))
  pub front : kept ≡ length (meeting r ps)
  pub more : kept ≤ count

pub step_none : (r : ℕ) (ps to : List ℕ) (kept : ℕ) → Held (meeting r ps) to (Ok kept) → Stepping r ps to kept kept 0
unfolding stepped
step_none r ps to kept h =
    record {
      going = record { size = h.size; room = h.held.0; so_far = rw h.held.2 };
      front = h.held.1;
      more = omega arith;
    }

module _ {r : ℕ} {ps to : List ℕ} {kept count k : ℕ} (w : Stepping r ps to kept count k) (l : k < length ps) where
  -- the products that stay are still there
  kept_ones : take kept to ≡ meeting r ps
  unfolding stepped
  kept_ones =
      going_front kept w.going w.more
      ∙ rw w.front (take-append_seam (meeting r ps) (join (map (extended (meeting r ps) r) ps)))

  next : join (map (extended (meeting r ps) r) (drop k ps)) ≡ extended (take kept to) r (get_or ps k 0) ++ join (map (extended (meeting r ps) r) (drop (k + 1) ps))
  next = rw (kept_ones, drop-cons ps k 0 l, add-one k)

  pub step_on : (new : List ℕ) (c : ℕ) → Held (take count to ++ extended (take kept to) r (get_or ps k 0)) new (Ok c) → Stepping r ps new kept c (k + 1)
  step_on new c h =
      let g = going_more _ _ new w.going next c h in
      record { going = g.0; front = w.front; more = omega (arith, g.1, w.more) }

  pub step_full : (new : List ℕ) (t u : TooMany) → Held (take count to ++ extended (take kept to) r (get_or ps k 0)) new (Err t) → Held (stepped r ps) new (Err u)
  step_full new t u h = going_full _ _ new w.going next t u h

pub step_end : {r : ℕ} {ps to : List ℕ} {kept count k : ℕ} → Stepping r ps to kept count k → length ps ≤ k → Held (stepped r ps) to (Ok count)
step_end {r} {ps} w l = going_end w.going (ap (λ (l : List ℕ). join (map (extended (meeting r ps) r) l)) (drop_of_length-le ps l))
