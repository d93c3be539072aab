-- `lister::cursor::Cursor::past` meets its contract.
use Rattle.std.proofs.Common.{◌<◌, ◌≤◌, arith, lt-ltb, le-ltb}
use Rattle.lister.specs.Lister.{advanced}
use Rattle.lister.proofs.cursor.Cursor.past.Goals as goal

pub returns-then-self : goal.returns-then-self
unfolding advanced
returns-then-self c = simp c.if-self.true

pub returns-in-Some : goal.returns-in-Some
unfolding advanced
returns-in-Some c = let below : c.args.self.at < 18446744073709551615 = omega (arith, c.in-Some.ensures) in
    simp (c.if-self.false, lt-ltb _ _ below, c.in-Some.ensures.1)

pub returns-in-None : goal.returns-in-None
unfolding advanced
returns-in-None c = let last : 18446744073709551615 ≤ c.args.self.at = omega (arith, c.in-None.ensures) in simp (c.if-self.false, le-ltb _ _ last)
