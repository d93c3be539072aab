-- The one pass over the rows that the narrowing makes: what it knows after the first n rows.
use Rattle.std.proofs.Common.{◌≡◌, refl, sym, ap, ◌∙◌, subst, ⊎_elim, List, ℕ, ◌+◌, ◌^◌, ◌≤◌, ◌<◌, arith, length, get_or, set, length-set, pow_pos, get_or-set_same, get_or-set_other, bit_and, bit_or, below_more}
use Rattle.bits.specs.Bits.{digit, Single, Part, Member}
use Rattle.rows.specs.Covers.{PrivatesOf, Unmet}
use Rattle.lister_narrowing.specs.Narrowing.{Forced, Taken, Only, United, Found}
use Rattle.bits.proofs.Digits.{eq?, digit_lt, digit_or, pow_here, pow_only}
use Rattle.bits.proofs.Members.{and_left, and_right, not_zero}
use Rattle.bits.proofs.Parts.{members}
use Rattle.rows.proofs.Sets.{privates_none, privates_skip, privates_take, privates_done}
use Rattle.rows.proofs.Unmet.{unmet_none, unmet_met, unmet_more, unmet_all}
use Rattle.lister_narrowing.proofs.Tightening.{row_forces}

power_not_zero : (x b : ℕ) → x ≡ 0 → x ≡ 2 ^ b → ⊥
power_not_zero x b z e = omega (arith, pow_pos b)

-- ---- what some member of s has in common

pub united_none : (common : List ℕ) (s : ℕ) → United common s 0
unfolding United
united_none common s c m = absurd (not_zero c 0 m refl)

pub united_more : (common : List ℕ) (s rest acc m k : ℕ) → United common s acc → Part rest s → Member rest m → m ≡ 2 ^ k → United common s (bit_or acc (get_or common k 0))
unfolding United
united_more common s rest acc m k u p one e c q =
    let in_rest : digit k rest ≡ 1 = members m rest one.part k (ap (digit k) e ∙ pow_here k) in
    ⊎_elim (λ (f : digit c acc ≡ 1). u c f)
    (λ (f : digit c acc ≡ 1 → ⊥).
    (k, members rest s p k in_rest, omega (arith, digit_or c acc (get_or common k 0), digit_lt c acc, digit_lt c (get_or common k 0))))
    (eq? (digit c acc) 1)

-- ---- the rows passed

-- a is in each row among the first n whose only member of s is b
unfoldable pub Common : List ℕ → ℕ → ℕ → ℕ → ℕ → Type 0
Common rows n s b a = (k : ℕ) → k < n → bit_and (get_or rows k 0) s ≡ 2 ^ b → (c : ℕ) → digit c a ≡ 1 → digit c (get_or rows k 0) ≡ 1

common_skip : (rows : List ℕ) (n s b a : ℕ) → Common rows n s b a → (bit_and (get_or rows n 0) s ≡ 2 ^ b → ⊥) → Common rows (n + 1) s b a
unfolding Common
common_skip rows n s b a h d =
    below_more (λ k. bit_and (get_or rows k 0) s ≡ 2 ^ b → (c : ℕ) → digit c a ≡ 1 → digit c (get_or rows k 0) ≡ 1) n h (λ z. absurd (d z))

common_take : (rows : List ℕ) (n s b a : ℕ) → Common rows n s b a → Common rows (n + 1) s b (bit_and a (get_or rows n 0))
unfolding Common
common_take rows n s b a h =
    below_more (λ k. bit_and (get_or rows k 0) s ≡ 2 ^ b → (c : ℕ) → digit c (bit_and a (get_or rows n 0)) ≡ 1 → digit c (get_or rows k 0) ≡ 1) n
    (λ k lt z c m. h k lt z c (and_left c a (get_or rows n 0) m))
    (λ z c m. and_right c a (get_or rows n 0) m)

forced_none : (rows : List ℕ) (s free : ℕ) → Forced rows s free 0
unfolding Forced
forced_none rows s free b m = absurd (not_zero b 0 m refl)

forced_or : (rows : List ℕ) (s free a b : ℕ) → Forced rows s free a → Forced rows s free b → Forced rows s free (bit_or a b)
unfolding Forced
forced_or rows s free a b f g c m =
    ⊎_elim (λ (e : digit c a ≡ 1). f c e)
    (λ (e : digit c a ≡ 1 → ⊥). g c (omega (arith, digit_or c a b, digit_lt c a, digit_lt c b))) (eq? (digit c a) 1)

-- ---- the pass

pub record Passed (rows : List ℕ) (s free n : ℕ) (common : List ℕ) (owners unmet forced : ℕ) : Type 0 where
  pub size : length common ≡ 64
  pub shared : (b : ℕ) → Common rows n s b (get_or common b 0)
  pub private_rows : PrivatesOf rows n s owners
  pub unmet_rows : Unmet rows n s unmet
  pub must : Forced rows s free forced

pub passed_none : (rows : List ℕ) (s free : ℕ) (common : List ℕ) → length common ≡ 64 → Passed rows s free 0 common 0 0 0
unfolding Common
passed_none rows s free common l = record {
  size = l;
  shared = λ b k lt. absurd (omega arith);
  private_rows = privates_none rows s;
  unmet_rows = unmet_none rows s;
  must = forced_none rows s free;
}

module _ (rows : List ℕ) (s free n : ℕ) (common : List ℕ) (owners unmet forced : ℕ) (h : Passed rows s free n common owners unmet forced) where
  -- a row that s does not meet
  pub passed_open : n < length rows → bit_and (get_or rows n 0) s ≡ 0 → (r : ℕ) → Only (bit_and (get_or rows n 0) free) r
      → Passed rows s free (n + 1) common owners (bit_or unmet (get_or rows n 0)) (bit_or forced r)
  unfolding Only Single
  passed_open lt z r o = record {
    size = h.size;
    shared = λ b. common_skip rows n s b (get_or common b 0) (h.shared b) (λ e. power_not_zero (bit_and (get_or rows n 0) s) b z e);
    private_rows = privates_skip rows n s owners h.private_rows (λ one. power_not_zero (bit_and (get_or rows n 0) s) one.0 z one.1);
    unmet_rows = unmet_more rows n s unmet h.unmet_rows;
    must = forced_or rows s free forced r h.must (⊎_elim
        (λ q. subst (Forced rows s free) (sym q.0) (forced_none rows s free))
        (λ q. subst (Forced rows s free) (sym q.0) (row_forces rows s free n lt z q.1))
        o);
  }

  -- a row of one member's own
  pub passed_own : (k : ℕ) → k < 64 → bit_and (get_or rows n 0) s ≡ 2 ^ k
      → Passed rows s free (n + 1) (set common k (bit_and (get_or common k 0) (get_or rows n 0))) (bit_or owners (bit_and (get_or rows n 0) s)) unmet forced
  unfolding Single
  passed_own k lt e = record {
    size = simp length-set h.size;
    shared = λ b. ⊎_elim
        (λ (q : b ≡ k). subst (λ (j : ℕ). Common rows (n + 1) s j (get_or (set common k a) j 0)) (sym q)
        (subst (Common rows (n + 1) s k) (sym (get_or-set_same common k a 0 (omega (arith, h.size)))) (common_take rows n s k (get_or common k 0) (h.shared k))))
        (λ (q : b ≡ k → ⊥). subst (Common rows (n + 1) s b) (sym (get_or-set_other common k b a 0 q))
        (common_skip rows n s b (get_or common b 0) (h.shared b) (λ f. q (pow_only b k (sym (ap (digit b) (sym f ∙ e)) ∙ pow_here b)))))
        (eq? b k);
    private_rows = privates_take rows n s owners h.private_rows (k, e);
    unmet_rows = unmet_met rows n s unmet h.unmet_rows (λ z. power_not_zero (bit_and (get_or rows n 0) s) k z e);
    must = h.must;
  }
    where
      a : ℕ
      a = bit_and (get_or common k 0) (get_or rows n 0)

  -- a row that several members of s meet
  pub passed_shared : (bit_and (get_or rows n 0) s ≡ 0 → ⊥) → (Single (bit_and (get_or rows n 0) s) → ⊥) → Passed rows s free (n + 1) common owners unmet forced
  unfolding Single
  passed_shared z d = record {
    size = h.size;
    shared = λ b. common_skip rows n s b (get_or common b 0) (h.shared b) (λ e. d (b, e));
    private_rows = privates_skip rows n s owners h.private_rows d;
    unmet_rows = unmet_met rows n s unmet h.unmet_rows z;
    must = h.must;
  }

  -- all rows are passed
  pub passed_all : length rows ≤ n → n ≤ length rows → (x : ℕ) → United common s x
      → Found rows s free (record { owners = owners; unmet = unmet; forced = forced; taken = x })
  unfolding Taken United Common
  passed_all ge le x u =
      let e : n ≡ length rows = omega arith in
      record {
        owners = privates_done rows n s owners e h.private_rows;
        unmet = unmet_all rows n s unmet e h.unmet_rows;
        forced = h.must;
        taken = λ c m.
            let q : (b : ℕ) × (digit b s ≡ 1) × (digit c (get_or common b 0) ≡ 1) = u c m in
            (q.0, q.1, λ k lt z. h.shared q.0 k (omega arith) z c q.2);
      }

pub passed_as : {rows : List ℕ} {s free n : ℕ} {common common' : List ℕ} {owners owners' unmet unmet' forced forced' : ℕ}
    → common ≡ common' → owners ≡ owners' → unmet ≡ unmet' → forced ≡ forced'
    → Passed rows s free n common' owners' unmet' forced' → Passed rows s free n common owners unmet forced
passed_as {rows} {s} {free} {n} a b c d h = rw (a, b, c, d) h
