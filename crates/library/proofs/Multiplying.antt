-- The laws behind the library call of the multiplication.
use Prim.Native.Nat.{ℕ, zero, suc}
use native.Mathlib.Omega.{arith}
use mathlib.Core.Path.{◌≡◌, refl, sym, ap, ◌∙◌}
use mathlib.Core.Bool.{Bool, true, false, not, cond}
use mathlib.Core.List.{List, [], ◌∷◌, ◌++◌, map, append_assoc}
use lib.ListN.{length, replicate}
use borrow.Author.Tests.{ne_eqb}
use denote.Ref.{MutBor}
use Rattle.model.specs.Table.{Table}
use Rattle.model.specs.Candidates.{covering}
use Rattle.model.specs.Refusals.{Refusal, refuse, first_of}
use Rattle.model.specs.Products.{has_too_many}
use Rattle.model.specs.declared.reason.Reason.{Reason}
use Rattle.model.specs.Reasons.{number_of}
use Rattle.model.specs.declared.reason.Reason.TheVariants.{UnheldCell, TooManyProducts}
use Rattle.model.specs.Library.{unpack, call_basis, call_refusals, right_room, multiply_refusals, multiply_covers, turn}
use Rattle.model.proofs.Presence.{presence_all}
use Rattle.model.proofs.Runs.{first_before, first_behind}
use Rattle.incidence.proofs.Uses.{blocks_alone}
use Rattle.problem.specs.declared.Problem.{Problem}
use Rattle.problem.specs.Problems.{Holds}
use Rattle.problem.specs.Matrix.{PresenceOfAll, Multiplies}
use Rattle.product.specs.declared.TooMany.{TooMany}
use Rattle.std.proofs.Common.{Ok, Err}
use Rattle.library.specs.Library.{table_refusals, problem_of, WordsRefusal}
use Rattle.library.specs.Multiplying.{HandedBack, RoomRefusal}
use Rattle.model.proofs.Reasons.{has_number}
use Rattle.library.proofs.Calling.{refusals_of_words, words_numbered, last_refusal}

-- one of two rows that are as long
turned : (n : ℕ) (first second : MutBor (List ℕ)) {k : ℕ} → length first.now ≡ k → length second.now ≡ k → length (turn n first second).now ≡ k
turned zero first second e f = e
turned (suc n) first second e f = turned n second first f e

-- ---- the refusals in their order

module _ (p : Table) (words : List ℕ) (first second : MutBor (List ℕ)) where
  abbrev a : ℕ
  a = length first.now

  abbrev b : ℕ
  b = length second.now

  early : List Refusal
  early = refuse 6 (not (right_room a b)) ∷ table_refusals p (length words)

  late : List Refusal
  late = refuse 17 (has_too_many (covering (call_basis p words))) ∷ []

  in_order : multiply_refusals p words a b ≡ early ++ (refusals_of_words p words ++ (last_refusal p words ++ late))
  unfolding multiply_refusals call_refusals early late
  in_order = rw (append_assoc (refusals_of_words p words) (last_refusal p words) late)

  -- the first row, and no sets
  back_refused : (y : Reason) → number_of y ≡ first_of (multiply_refusals p words a b) → HandedBack (multiply_covers p words a b) first second first (Err y)
  unfolding multiply_covers
  back_refused y e =
      rw (ne_eqb (first_of (multiply_refusals p words a b)) 0 (λ z. has_number y (e ∙ z))) (record { told = e; counted = refl; which = refl; size = refl; sets = refl })

  module _ {r : ℕ} (f : RoomRefusal p (length words) (length first.now) (length second.now) r) where
    pub back_early : (y : Reason) → number_of y ≡ r → HandedBack (multiply_covers p words (length first.now) (length second.now)) first second first (Err y)
    unfolding early
    back_early y n =
        let e = n ∙ f.first in
        back_refused y (e ∙ sym (ap first_of in_order ∙ first_before early (refusals_of_words p words ++ (last_refusal p words ++ late)) (λ z. has_number y (e ∙ z))))

    -- behind 6, 8 and 11
    module _ (z : r ≡ 0) {q : Problem} (h : Holds q (problem_of p words)) {w : ℕ} (g : WordsRefusal q words w) where
      behind_early : first_of (multiply_refusals p words a b) ≡ first_of (refusals_of_words p words ++ (last_refusal p words ++ late))
      unfolding early
      behind_early =
          ap first_of in_order
          ∙ first_behind early (refusals_of_words p words ++ (last_refusal p words ++ late)) (omega arith, (omega arith, (omega arith, (omega arith, tt)))) (sym f.first ∙ z)

      words_first : w ≡ first_of (refusals_of_words p words)
      words_first = g (problem_of p words) h (f.admitted z).good

      pub back_words : (y : Reason) → number_of y ≡ w → HandedBack (multiply_covers p words (length first.now) (length second.now)) first second first (Err y)
      back_words y n =
          let e = n ∙ words_first in
          back_refused y (e ∙ sym (behind_early ∙ first_before (refusals_of_words p words) (last_refusal p words ++ late) (λ i. has_number y (e ∙ i))))

      -- behind 9 and 10: 12, by the presence function at the set of all, then 17
      module _ (i : w ≡ 0) {c : Bool} (t : PresenceOfAll q (replicate 256 0) c) where
        left : first_of (multiply_refusals p words a b) ≡ cond (not c) 12 (cond (has_too_many (covering (call_basis p words))) 17 0)
        unfolding late
        left =
            behind_early ∙ first_behind (refusals_of_words p words) (last_refusal p words ++ late) (words_numbered p words) (sym words_first ∙ i)
            ∙ rw (← presence_all (covering (call_basis p words)), ← t (problem_of p words) h (blocks_alone (map unpack words)))

        pub back_uncovered : c ≡ false → HandedBack (multiply_covers p words (length first.now) (length second.now)) first second first (Err UnheldCell)
        back_uncovered k = back_refused UnheldCell (sym (left ∙ rw k))

        -- both rows are so long
        long : (n : ℕ) → length (turn n first second).now ≡ 1024
        long n = turned n first second (f.room z).0 (f.room z).1

        pub back_counted : c ≡ true → {row : MutBor (List ℕ)} {count : ℕ} → Multiplies q (replicate 256 0) first second row (Ok count)
            → HandedBack (multiply_covers p words (length first.now) (length second.now)) first second row (Ok count)
        unfolding multiply_covers
        back_counted k {row} {count} m =
            let o = m (problem_of p words) h (blocks_alone (map unpack words)) in
            rw (left, k, o.told)
            (record {
              told = refl;
              counted = o.counted;
              which = o.which ∙ rw o.told;
              size = o.size ∙ sym (long (length (covering (call_basis p words)).points));
              sets = o.sets;
            })

        pub back_many : c ≡ true → {row : MutBor (List ℕ)} {many : TooMany} → Multiplies q (replicate 256 0) first second row (Err many)
            → HandedBack (multiply_covers p words (length first.now) (length second.now)) first second row (Err TooManyProducts)
        unfolding multiply_covers
        back_many k {row} {many} m =
            let o = m (problem_of p words) h (blocks_alone (map unpack words)) in
            rw (left, k, o.told)
            (record { told = refl; counted = refl; which = o.which ∙ rw o.told; size = o.size ∙ sym (f.room z).0; sets = refl })
