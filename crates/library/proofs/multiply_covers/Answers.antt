-- `library::multiply_covers` meets its contract.
use Rattle.std.proofs.Common.{map, refl}
use Rattle.model.specs.Library.{unpack}
use Rattle.incidence.proofs.Uses.{blocks_alone}
use Rattle.problem.proofs.Preparing.{stocked}
use Rattle.library.specs.Library.{called_table, problem_of}
use Rattle.library.proofs.Calling.{call_sized}
use Rattle.library.proofs.Multiplying.{back_early, back_words, back_uncovered, back_counted, back_many}
use Rattle.library.proofs.multiply_covers.Goals as goal

pub returns-in-Err : goal.returns-in-Err
returns-in-Err c = let a = c.args in
    back_early (called_table a.n a.m a.on.now a.dc.now) a.terms.now a.first a.second c.in-Err.ensures _ refl

pub returns-in-Err-words_refusal : goal.returns-in-Err-words_refusal
returns-in-Err-words_refusal c = let a = c.args in
    back_words (called_table a.n a.m a.on.now a.dc.now) a.terms.now a.first a.second c.in_default.ensures refl c.problem_of-p.ensures
    c.in-Err-words_refusal.ensures _ refl

pub returns-then-not-is_covered : goal.returns-then-not-is_covered
returns-then-not-is_covered c = let a = c.args in
    back_uncovered (called_table a.n a.m a.on.now a.dc.now) a.terms.now a.first a.second c.in_default.ensures refl c.problem_of-p.ensures
    c.in_default-words_refusal.ensures refl c.is_covered.ensures c.if-not-is_covered.true

pub multiply-row-requires : goal.multiply-row-requires
multiply-row-requires c = let a = c.args in
    let p = called_table a.n a.m a.on.now a.dc.now in
    let room = c.in_default.ensures in
    record {
      sized = call_sized a.terms.now {p = p} (room.admitted refl) c.problem_of-p.ensures;
      stocked = stocked _ _ (problem_of p a.terms.now) c.problem_of-p.ensures (blocks_alone (map unpack a.terms.now));
      first_len = room.room refl;
    }

pub returns-in-Ok : goal.returns-in-Ok
returns-in-Ok c = let a = c.args in
    back_counted (called_table a.n a.m a.on.now a.dc.now) a.terms.now a.first a.second c.in_default.ensures refl c.problem_of-p.ensures
    c.in_default-words_refusal.ensures refl c.is_covered.ensures c.if-not-is_covered.false (rw c.in-Ok.is at c.multiply-row.ensures)

pub returns-in-Err-told : goal.returns-in-Err-told
returns-in-Err-told c = let a = c.args in
    back_many (called_table a.n a.m a.on.now a.dc.now) a.terms.now a.first a.second c.in_default.ensures refl c.problem_of-p.ensures
    c.in_default-words_refusal.ensures refl c.is_covered.ensures c.if-not-is_covered.false (rw c.in-Err-told.is at c.multiply-row.ensures)
