-- What a caller reads from the result and the buffer of a call that meets its contract, by any rules.
use Prim.Native.Nat.{ℕ, ◌<◌}
use native.Mathlib.Omega.{arith}
use mathlib.Core.Path.{◌≡◌, sym, ap, ap₂, ◌∙◌, subst⁻¹}
use mathlib.Core.List.{List}
use lib.Seq.{take-append_seam, drop-append_seam}
use lib.ListN.{length, take, drop, length-append, length-drop}
use Rattle.model.specs.Base.{filter, Bytes}
use Rattle.model.specs.Answers.{has_bytes}
use Rattle.model.specs.Rules.{Rules}
use Rattle.model.specs.Job.{run_by, written, packed, buffer_after}
use Rattle.model.specs.Calls.{Call, ran_by, MetBy, read, replies, number_of, offset_of, written_of, ReadsBy}
use Rattle.model.proofs.Lists.{all_append, all_drop}
use Rattle.model.proofs.Runs.{Lawful, Ends, ends}
use Rattle.model.proofs.Read.{read_answers}
use Rattle.model.proofs.Sound.{run_fits, run_bytes}

module _ (rules : Rules) (law : Lawful rules) where
  -- what a job writes reads as its answers of a byte or more
  pub read_written : (job : List ℕ) (room : ℕ) → read (written (run_by rules job room)) ≡ filter has_bytes (run_by rules job room).answers
  unfolding written
  read_written job room = read_answers (run_by rules job room).answers (run_fits rules law job room)

module _ (rules : Rules) (law : Lawful rules) (c : Call) (m : MetBy rules c) where
  e : Ends c.job (length c.before) (ran_by rules c)
  e = ends rules law c.job (length c.before)

  number_is : number_of c ≡ (ran_by rules c).number
  unfolding packed
  number_is = rw m.returned (omega (arith, e.offset_small, e.written_small))

  offset_is : offset_of c ≡ (ran_by rules c).offset
  unfolding packed
  offset_is = rw m.returned (omega (arith, e.offset_small, e.written_small))

  pub written_is : written_of c ≡ length (written (ran_by rules c))
  unfolding packed
  written_is = rw m.returned (omega (arith, e.offset_small, e.written_small))

  bytes_are : take (written_of c) c.after ≡ written (ran_by rules c)
  unfolding buffer_after
  bytes_are = ap₂ take written_is m.after ∙ take-append_seam (written (ran_by rules c)) (drop (length (written (ran_by rules c))) c.before)

  rest_is : drop (written_of c) c.after ≡ drop (written_of c) c.before
  unfolding buffer_after
  rest_is = ap₂ drop written_is m.after ∙ drop-append_seam (written (ran_by rules c)) (drop (length (written (ran_by rules c))) c.before) ∙ ap (λ (n : ℕ). drop n c.before) (sym written_is)

  whole_is : length c.after ≡ length c.before
  unfolding buffer_after
  whole_is =
      let own = written (ran_by rules c) in
      ap length m.after ∙ length-append own (drop (length own) c.before) ∙ omega (arith, length-drop (length own) c.before, e.fits)

  small_is : Bytes c.job → Bytes c.before → Bytes c.after
  unfolding buffer_after
  small_is a b =
      let own = written (ran_by rules c) in
      let rest = all_drop (λ (b : ℕ). b < 256) (length own) c.before b in
      subst⁻¹ Bytes m.after (all_append (λ (b : ℕ). b < 256) own (drop (length own) c.before) (run_bytes rules law c.job (length c.before) a) rest)

  answers_are : replies c ≡ filter has_bytes (ran_by rules c).answers
  answers_are = ap read bytes_are ∙ read_written rules law c.job (length c.before)

  pub caller : ReadsBy rules c
  caller = record {
    number = number_is;
    offset = offset_is;
    answers = answers_are;
    bytes = bytes_are;
    rest = rest_is;
    whole = whole_is;
    small = small_is;
    numbered = omega (arith, number_is, e.number_small);
    accepted = λ z. offset_is ∙ e.accepted (sym number_is ∙ z);
    too_long = λ z. let t = e.too_long (sym number_is ∙ z) in (offset_is ∙ t.0, written_is ∙ t.1);
    cut = λ z. offset_is ∙ e.cut (sym number_is ∙ z);
    refused = λ g. omega (arith, offset_is, e.refused (omega (arith, number_is)));
  }
