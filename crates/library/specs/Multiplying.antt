-- What the contracts of the multiplication call cite: what it tells, and which row it hands back.
use Rattle.std.specs.Prelude.{ℕ, ◌≡◌, not, List, ◌∷◌, Result, Ok, Err, length, take}
use denote.Ref.{MutBor, at_last}
use Rattle.model.specs.Table.{Table}
use Rattle.model.specs.Refusals.{refuse, first_of}
use Rattle.model.specs.declared.reason.Reason.{Reason}
use Rattle.model.specs.Reasons.{told}
use Rattle.model.specs.Library.{Multiplied, right_room, turn}
use Rattle.library.specs.Library.{table_refusals, Admitted}

-- how many sets a call counts: after a refusal "the count is 0"
abbrev pub count_of : Result ℕ Reason → ℕ
count_of (Ok c) = c
count_of (Err r) = 0

-- number, count and the row handed back are what the definitions tell. It is one of the rows lent, by its place and its
-- name; the sets stand first in it, and nothing is said of the other entries: "every other entry of both rows is left free"
pub record HandedBack (t : Multiplied) (first second row : MutBor (List ℕ)) (outcome : Result ℕ Reason) : Type 0 where
  pub told : told outcome ≡ t.number
  pub counted : count_of outcome ≡ length t.sets
  pub which : row ≡ at_last (turn t.turns first second) row.now
  pub size : length row.now ≡ length (turn t.turns first second).now
  pub sets : take (count_of outcome) row.now ≡ t.sets

-- r is the first of 6, of lent rows of a and b entries too, 8 and 11 that applies, 0 where none does
pub record RoomRefusal (p : Table) (count a b r : ℕ) : Type 0 where
  pub first : r ≡ first_of (refuse 6 (not (right_room a b)) ∷ table_refusals p count)
  pub admitted : r ≡ 0 → Admitted p count
  pub room : r ≡ 0 → (a ≡ 1024) × (b ≡ 1024)
