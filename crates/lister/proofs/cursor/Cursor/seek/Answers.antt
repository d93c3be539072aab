-- `lister::cursor::Cursor::seek` meets its contract.
use Rattle.lister.proofs.Listing.{sought_over, sought_found, sought_none}
use Rattle.lister.proofs.cursor.Cursor.seek.Goals as goal

pub returns-then-self : goal.returns-then-self
returns-then-self c = sought_over _ _ c.if-self.true

pub returns-in-Some : goal.returns-in-Some
returns-in-Some c = sought_found _ _ _ c.if-self.false _ c.in-Some.ensures

pub returns-in-None : goal.returns-in-None
returns-in-None c = sought_none _ _ _ c.if-self.false c.in-None.ensures
