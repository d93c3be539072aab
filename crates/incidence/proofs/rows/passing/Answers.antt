-- `incidence::rows::passing` meets its contract.
use Rattle.std.proofs.Common.{◌≡◌, ◌-◌, length, arith, refl}
use Rattle.incidence.proofs.Candidates.{from_none, from_next, room_next, room_of, flag_le, as_flag}
use Rattle.incidence.proofs.rows.passing.Goals as goal

pub loop-k-init : goal.loop-k-init
loop-k-init g c = record {
  room = let none : length c.args.terms.now - length c.args.terms.now ≡ 0 = omega arith in rw none (omega arith);
  same = λ f x h. from_none f _ x;
}

pub overflow_mul-found : goal.overflow_mul-found
overflow_mul-found g c = omega (arith, room_of _ _ _ c.requires.few c.loop-k-test.true c.loop-k.invariant.room)

pub overflow_add-found : goal.overflow_add-found
overflow_add-found g c = omega (arith, room_of _ _ _ c.requires.few c.loop-k-test.true c.loop-k.invariant.room, flag_le c.test.result _ (as_flag _ c.from.ensures))

pub loop-k-preserved : goal.loop-k-preserved
loop-k-preserved g c = record {
  room = room_next _ _ _ _ _ c.loop-k-test.true c.loop-k.auto.k c.loop-k.invariant.room (as_flag _ c.from.ensures);
  same = λ f x h.
      from_next f _ x _ _ _ c.loop-k-test.true c.loop-k.auto.k
      (h _ _ _ (omega (arith, c.loop-k-test.true, c.loop-k.auto.k)) (record { shown = _; shows = refl; says = record { met = c.test.ensures } }))
      (as_flag _ c.from.ensures) (c.loop-k.invariant.same f x h);
}
