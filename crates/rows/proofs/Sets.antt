-- Covers by their bits: that a cover is irredundant where each member has a row of its own, and what the search prunes by.
use mathlib.Core.Path.{◌≡◌, refl, sym, ap, ◌∙◌, subst}
use mathlib.Core.Logic.{◌⊎◌, inl, inr, ⊎_elim}
use mathlib.Core.List.{List}
use Prim.Native.Nat.{ℕ, zero, suc, ◌+◌, ◌^◌, ◌<◌}
use native.Mathlib.Omega.{arith}
use lib.ListN.{length, get_or}
use lib.Bits.{bit_and, bit_or, bit_xor}
use Rattle.bits.specs.Bits.{digit, Single}
use Rattle.rows.specs.Covers.{Cover, IrredundantCover, Own, PrivatesOf, Privates, Between}
use Rattle.bits.proofs.Members.{and_left, and_right, and_both, not_zero, part_of, to_part, without_here, without_other, without_part}
use borrow.Author.Count.{below_more}
use Rattle.bits.proofs.Digits.{eq?, digit_lt, digit_of_zero, digit_and, digit_or, member_ext, a_member, pow_here, pow_only}

-- what covers still covers with more members
pub cover_more : (rows : List ℕ) (s t : ℕ) → ((b : ℕ) → digit b s ≡ 1 → digit b t ≡ 1) → Cover rows s → Cover rows t
unfolding Cover
cover_more rows s t f c k lt z =
    let m : (b : ℕ) × (digit b (bit_and (get_or rows k 0) s) ≡ 1) = a_member (bit_and (get_or rows k 0) s) (c k lt) in
    not_zero m.0 (bit_and (get_or rows k 0) t)
    (and_both m.0 (get_or rows k 0) t
    (and_left m.0 (get_or rows k 0) s m.1)
    (f m.0 (and_right m.0 (get_or rows k 0) s m.1))) z

-- ---- which row t misses, or none

pub missed : (rows : List ℕ) (t n : ℕ)
    → ((k : ℕ) → k < n → bit_and (get_or rows k 0) t ≡ 0 → ⊥) ⊎ ((k : ℕ) × (k < n) × (bit_and (get_or rows k 0) t ≡ 0))
missed rows t zero = inl (λ k lt. absurd (omega arith))
missed rows t (suc n) =
    ⊎_elim (λ e. inr (n, omega arith, e))
    (λ m. ⊎_elim
    (λ f. inl (λ k lt. below_more (λ j. bit_and (get_or rows j 0) t ≡ 0 → ⊥) n f m k (omega arith)))
    (λ r. inr (r.0, omega (arith, r.1), r.2))
    (missed rows t n))
    (eq? (bit_and (get_or rows n 0) t) 0)

-- ---- each member of an irredundant cover has a row of its own

own_of_missed : (h s b : ℕ) → digit b s ≡ 1 → (bit_and h s ≡ 0 → ⊥) → bit_and h (bit_xor s (2 ^ b)) ≡ 0 → bit_and h s ≡ 2 ^ b
own_of_missed h s b m c z = member_ext (bit_and h s) (2 ^ b) into back
  where
    only : (d : ℕ) → digit d (bit_and h s) ≡ 1 → d ≡ b
    only d p = ⊎_elim (λ e. e)
        (λ n. absurd (not_zero d (bit_and h (bit_xor s (2 ^ b)))
        (and_both d h (bit_xor s (2 ^ b)) (and_left d h s p) (without_other s b d n ∙ and_right d h s p)) z))
        (eq? d b)

    into : (d : ℕ) → digit d (bit_and h s) ≡ 1 → digit d (2 ^ b) ≡ 1
    into d p = subst (λ (j : ℕ). digit j (2 ^ b) ≡ 1) (sym (only d p)) (pow_here b)

    one : (d : ℕ) × (digit d (bit_and h s) ≡ 1)
    one = a_member (bit_and h s) c

    back : (d : ℕ) → digit d (2 ^ b) ≡ 1 → digit d (bit_and h s) ≡ 1
    back d p = subst (λ (j : ℕ). digit j (bit_and h s) ≡ 1) (only one.0 one.1 ∙ sym (pow_only d b p)) one.1

pub own_rows : (rows : List ℕ) (s : ℕ) → IrredundantCover rows s → (b : ℕ) → digit b s ≡ 1 → Own rows (length rows) s b
unfolding IrredundantCover Cover Own
own_rows rows s irr b m =
    ⊎_elim
    (λ f. absurd (without_here s b m
    (subst (λ (j : ℕ). digit b j ≡ 1) (sym (irr.1 (bit_xor s (2 ^ b)) (to_part (bit_xor s (2 ^ b)) s (λ c p. without_part s b c m p)) f)) m)))
    (λ r. (r.0, r.1, own_of_missed (get_or rows r.0 0) s b m (irr.0 r.0 r.1) r.2))
    (missed rows (bit_xor s (2 ^ b)) (length rows))

-- a row whose only member of t is b
module _ (h t b : ℕ) (own : bit_and h t ≡ 2 ^ b) where
  pub own_has : digit b h ≡ 1
  own_has = and_left b h t (ap (digit b) own ∙ pow_here b)

  pub own_only : (c : ℕ) → digit c h ≡ 1 → digit c t ≡ 1 → c ≡ b
  own_only c p q = pow_only c b (sym (ap (digit c) own) ∙ and_both c h t p q)

-- ---- and a cover in which each has is irredundant

pub own_irredundant : (rows : List ℕ) (s : ℕ) → Cover rows s → ((b : ℕ) → digit b s ≡ 1 → Own rows (length rows) s b) → IrredundantCover rows s
unfolding IrredundantCover Cover Own
own_irredundant rows s c own = (
  c,
  λ t p ct. member_ext t s (part_of t s p)
      (λ b m.
      let r : Own rows (length rows) s b = own b m in
      let h : ℕ = get_or rows r.0 0 in
      let one : (d : ℕ) × (digit d (bit_and h t) ≡ 1) = a_member (bit_and h t) (ct r.0 r.1) in
      let d : ℕ = one.0 in
      let in_t : digit d t ≡ 1 = and_right d h t one.1 in
      let e : d ≡ b = own_only h s b r.2 d (and_left d h t one.1) (part_of t s p d in_t) in
      subst (λ (j : ℕ). digit j t ≡ 1) e in_t),
)

-- ---- the rows of one's own, as a number

pub privates_all : (rows : List ℕ) (s a : ℕ) → Privates rows s a → a ≡ s → (b : ℕ) → digit b s ≡ 1 → Own rows (length rows) s b
unfolding Privates PrivatesOf
privates_all rows s a p e b m = p.0 b (ap (digit b) e ∙ m)

pub all_privates : (rows : List ℕ) (s a : ℕ) → Privates rows s a → ((b : ℕ) → digit b s ≡ 1 → Own rows (length rows) s b) → a ≡ s
unfolding Privates PrivatesOf Own
all_privates rows s a p own =
    member_ext a s
    (λ b m.
    let r : Own rows (length rows) s b = p.0 b m in
    and_right b (get_or rows r.0 0) s (ap (digit b) r.2 ∙ pow_here b))
    (λ b m. p.1 b (own b m))

-- the rows of one's own among the first n, with one row more
pub privates_none : (rows : List ℕ) (s : ℕ) → PrivatesOf rows 0 s 0
unfolding PrivatesOf Own
privates_none rows s =
    (λ b m. absurd (not_zero b 0 m refl), λ b r. let lt : r.0 < 0 = r.1 in absurd (omega arith))

own_later : (rows : List ℕ) (n s b : ℕ) → Own rows n s b → Own rows (n + 1) s b
unfolding Own
own_later rows n s b r = let lt : r.0 < n = r.1 in (r.0, omega arith, r.2)

-- one more row: it is the row, or one before it has it
own_split : (rows : List ℕ) (n s b : ℕ) → Own rows (n + 1) s b → Own rows n s b ⊎ (bit_and (get_or rows n 0) s ≡ 2 ^ b)
unfolding Own
own_split rows n s b r =
    below_more (λ k. bit_and (get_or rows k 0) s ≡ 2 ^ b → Own rows n s b ⊎ (bit_and (get_or rows n 0) s ≡ 2 ^ b)) n
    (λ k lt e. inl (k, lt, e)) (λ e. inr e) r.0 r.1 r.2

pub privates_skip : (rows : List ℕ) (n s a : ℕ) → PrivatesOf rows n s a → (Single (bit_and (get_or rows n 0) s) → ⊥) → PrivatesOf rows (n + 1) s a
unfolding PrivatesOf Single
privates_skip rows n s a p not = (
  λ b m. own_later rows n s b (p.0 b m),
  λ b r. ⊎_elim (λ q. p.1 b q) (λ e. absurd (not (b, e))) (own_split rows n s b r),
)

pub privates_take : (rows : List ℕ) (n s a : ℕ) → PrivatesOf rows n s a → Single (bit_and (get_or rows n 0) s)
    → PrivatesOf rows (n + 1) s (bit_or a (bit_and (get_or rows n 0) s))
unfolding PrivatesOf Single Own
privates_take rows n s a p one = (into, back)
  where
    x : ℕ
    x = bit_and (get_or rows n 0) s

    into : (b : ℕ) → digit b (bit_or a x) ≡ 1 → Own rows (n + 1) s b
    into b m =
        ⊎_elim (λ q. own_later rows n s b (p.0 b q))
        (λ d.
        let q : digit b x ≡ 1 = omega (arith, digit_or b a x, digit_lt b a) in
        (n, omega arith, one.1 ∙ ap (λ (j : ℕ). 2 ^ j) (sym (pow_only b one.0 (sym (ap (digit b) one.1) ∙ q)))))
        (eq? (digit b a) 1)

    back : (b : ℕ) → Own rows (n + 1) s b → digit b (bit_or a x) ≡ 1
    back b r =
        ⊎_elim
        (λ q. let h : digit b a ≡ 1 = p.1 b q in omega (arith, digit_or b a x, digit_lt b x))
        (λ e. let h : digit b x ≡ 1 = ap (digit b) e ∙ pow_here b in omega (arith, digit_or b a x, digit_lt b a))
        (own_split rows n s b r)

pub privates_done : (rows : List ℕ) (n s a : ℕ) → n ≡ length rows → PrivatesOf rows n s a → Privates rows s a
unfolding Privates
privates_done rows n s a e p = subst (λ (m : ℕ). PrivatesOf rows m s a) e p

-- fewer members, the same row of one's own
pub own_row_fewer : (h s x b : ℕ) → ((c : ℕ) → digit c s ≡ 1 → digit c x ≡ 1) → digit b s ≡ 1 → bit_and h x ≡ 2 ^ b → bit_and h s ≡ 2 ^ b
own_row_fewer h s x b f m e =
    member_ext (bit_and h s) (2 ^ b)
    (λ c p. sym (ap (digit c) e) ∙ and_both c h x (and_left c h s p) (f c (and_right c h s p)))
    (λ c p.
    and_both c h s (and_left c h x (ap (digit c) e ∙ p))
    (subst (λ (j : ℕ). digit j s ≡ 1) (sym (pow_only c b p)) m))

pub own_fewer : (rows : List ℕ) (n s x b : ℕ) → ((c : ℕ) → digit c s ≡ 1 → digit c x ≡ 1) → digit b s ≡ 1 → Own rows n x b → Own rows n s b
unfolding Own
own_fewer rows n s x b f m r = (r.0, r.1, own_row_fewer (get_or rows r.0 0) s x b f m r.2)

-- ---- rows that s does not meet

module _ (rows : List ℕ) (s free k : ℕ) (lt : k < length rows) (z : bit_and (get_or rows k 0) s ≡ 0) where
  abbrev x : ℕ
  x = get_or rows k 0

  -- a cover meets an unmet row in a free candidate
  pub meets : (t : ℕ) → Cover rows t → Between s free t → (b : ℕ) × (digit b (bit_and (get_or rows k 0) free) ≡ 1) × (digit b t ≡ 1)
  unfolding Between Cover
  meets t cover w =
      let m : (b : ℕ) × (digit b (bit_and x t) ≡ 1) = a_member (bit_and x t) (cover k lt) in
      let b : ℕ = m.0 in
      let in_x : digit b x ≡ 1 = and_left b x t m.1 in
      let in_t : digit b t ≡ 1 = and_right b x t m.1 in
      let either : digit b (bit_or s free) ≡ 1 = w.1 b in_t in
      let not_s : digit b (bit_and x s) ≡ 0 = ap (digit b) z ∙ digit_of_zero b in (
        b,
        and_both b x free in_x (omega (arith, digit_or b s free, digit_and b x s, digit_lt b s, digit_lt b free)),
        in_t,
      )
