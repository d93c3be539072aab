-- Rows that are put in front of a buffer: the law behind `keeping::put`.
use Rattle.std.proofs.Common.{◌≡◌, sym, ap, ◌∙◌, subst, List, ℕ, ◌+◌, ◌≤◌, ◌<◌, Option, Some, None, true, false, not, inl, inr, ◌⊎◌, ⊎_elim, arith, below_more, length, get_or, set, get_or-set_same, get_or-set_other}
use Rattle.std.specs.Prelude.{◌==◌}
use Rattle.std.specs.Bool.{then_some}
use Rattle.std.proofs.Math.Dec.{eqb}
use Rattle.std.proofs.lemmas.Bool.Decides.{eqb_tells}
use Rattle.std.proofs.lemmas.Option.{none-some, same_Some}
use Rattle.rows.specs.Keeping.{Kept}

-- the first n of out are what is made of the first i rows
pub record Made (makes : ℕ → Option ℕ → Type 0) (rows out : List ℕ) (n i : ℕ) : Type 0 where
  pub few : n ≤ i
  pub has : (k : ℕ) → k < i → (y : ℕ) → ((o : Option ℕ) → makes (get_or rows k 0) o → o ≡ Some y) → (j : ℕ) × (j < n) × (get_or out j 0 ≡ y)
  pub from : (j : ℕ) → j < n → (k : ℕ) × (k < i) × makes (get_or rows k 0) (Some (get_or out j 0))

module _ (makes : ℕ → Option ℕ → Type 0) (rows : List ℕ) where
  pub made_none : (out : List ℕ) → Made makes rows out 0 0
  made_none out = record { few = omega arith; has = λ k lt y e. absurd (omega arith); from = λ j lt. absurd (omega arith) }

  module _ (out : List ℕ) (n i : ℕ) (g : Made makes rows out n i) where
    pub made_skip : makes (get_or rows i 0) None → Made makes rows out n (i + 1)
    made_skip m = record {
      few = omega (arith, g.few);
      has = below_more _ i g.has (λ y only. absurd (none-some _ (only None m)));
      from = λ j lt. let r = g.from j lt in (r.0, omega (arith, r.1), r.2);
    }

    pub made_take : (x : ℕ) → n < length out → makes (get_or rows i 0) (Some x) → Made makes rows (set out n x) (n + 1) (i + 1)
    made_take x room m = record {
      few = omega (arith, g.few);
      has = below_more _ i
          (λ k lt y only. let r = g.has k lt y only in (r.0, omega (arith, r.1), other r.0 r.1 ∙ r.2))
          (λ y only. (n, omega arith, same ∙ same_Some _ _ (only (Some x) m)));
      from = below_more (λ j. (k : ℕ) × (k < i + 1) × makes (get_or rows k 0) (Some (get_or (set out n x) j 0))) n
          (λ j lt.
          let r = g.from j lt in
          (r.0, omega (arith, r.1), subst (λ v. makes (get_or rows r.0 0) (Some v)) (sym (other j lt)) r.2))
          (i, omega arith, subst (λ v. makes (get_or rows i 0) (Some v)) (sym same) m);
    }
      where
        same : get_or (set out n x) n 0 ≡ x
        same = get_or-set_same out n x 0 room

        other : (j : ℕ) → j < n → get_or (set out n x) j 0 ≡ get_or out j 0
        other j lt = get_or-set_other out n j x 0 (λ e. omega arith)

  pub made_as : {out out' : List ℕ} {n n' : ℕ} (i : ℕ) → out' ≡ out → n' ≡ n → Made makes rows out n i → Made makes rows out' n' i
  made_as {out} {out'} {n} {n'} i e f g =
      subst (λ (o : List ℕ). Made makes rows o n' i) (sym e) (subst (λ (k : ℕ). Made makes rows out k i) (sym f) g)

  pub made_all : (out : List ℕ) (n i size : ℕ) → Made makes rows out n i → i ≡ length rows → length out ≡ size → Kept makes rows size n out
  made_all out n i size g e l = record {
    size_is = l;
    few = omega (arith, g.few);
    has = λ k y lt only. g.has k (omega arith) y only;
    from = λ j lt. let r = g.from j lt in (r.0, omega (arith, r.1), r.2);
  }

-- ---- where a row that passes a test gives f of it, and no other gives anything

abbrev pub Told : (P : Type 0) → ℕ → Option ℕ → Type 0
Told P y o = (P × (o ≡ Some y)) ⊎ ((P → ⊥) × (o ≡ None))

pub if_zero : (a y : ℕ) (o : Option ℕ) → o ≡ then_some (a == 0) y → Told (a ≡ 0) y o
if_zero a y o e = ⊎_elim
    (λ (t : (eqb a 0 ≡ true) × (a ≡ 0)). inl (t.1, e ∙ ap (λ b. then_some b y) t.0))
    (λ (t : (eqb a 0 ≡ false) × (a ≡ 0 → ⊥)). inr (t.1, e ∙ ap (λ b. then_some b y) t.0))
    (eqb_tells a 0)

pub unless_zero : (a y : ℕ) (o : Option ℕ) → o ≡ then_some (not (a == 0)) y → Told (a ≡ 0 → ⊥) y o
unless_zero a y o e = ⊎_elim
    (λ (t : (eqb a 0 ≡ true) × (a ≡ 0)). inr ((λ n. n t.1), e ∙ ap (λ b. then_some (not b) y) t.0))
    (λ (t : (eqb a 0 ≡ false) × (a ≡ 0 → ⊥)). inl (t.1, e ∙ ap (λ b. then_some (not b) y) t.0))
    (eqb_tells a 0)

module _ (makes : ℕ → Option ℕ → Type 0) (P : ℕ → Type 0) (f : ℕ → ℕ) (tells : (x : ℕ) (o : Option ℕ) → makes x o → Told (P x) (f x) o)
    (rows new : List ℕ) (size r : ℕ) (g : Kept makes rows size r new) where
  pub kept_has : (k : ℕ) → k < length rows → P (get_or rows k 0) → (j : ℕ) × (j < r) × (get_or new j 0 ≡ f (get_or rows k 0))
  kept_has k lt p = g.has k _ lt (λ o m. ⊎_elim (λ t. t.1) (λ t. absurd (t.0 p)) (tells _ o m))

  pub kept_from : (j : ℕ) → j < r → (k : ℕ) × (k < length rows) × P (get_or rows k 0) × (get_or new j 0 ≡ f (get_or rows k 0))
  kept_from j lt =
      let q = g.from j lt in
      let t : P (get_or rows q.0 0) × (get_or new j 0 ≡ f (get_or rows q.0 0)) = ⊎_elim (λ t. (t.0, same_Some _ _ t.1)) (λ t. absurd (none-some _ (sym t.1))) (tells _ _ q.2) in
      (q.0, q.1, t.0, t.1)
