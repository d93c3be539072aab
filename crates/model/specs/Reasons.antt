-- The refusals by name, as the code tells them, with their numbers in paper 01, "When a job stops", and in K2, K3, K6, K8, K10 and K11.
use Rattle.std.specs.Prelude.{ℕ, Result, Ok, Err}
use Rattle.model.specs.declared.reason.Reason.{Reason}
use Rattle.model.specs.declared.reason.Reason.TheVariants.{TooLong, NoEnd, NoCommand, WrongPlace, NoOperands, WrongSizes, WrongVertex, WrongRow, MalformedTerm, OffCell, TooMany, UnheldCell, BytesAfterEnd, NoRoom, WrongCandidate, WrongPrices, TooManyProducts, MalformedBlock, MalformedRange}
pub use Rattle.model.specs.declared.reason.Reason.{Reason}

abbrev pub number_of : Reason → ℕ
number_of TooLong = 1
number_of NoEnd = 2
number_of NoCommand = 3
number_of WrongPlace = 4
number_of NoOperands = 5
number_of WrongSizes = 6
number_of WrongVertex = 7
number_of WrongRow = 8
number_of MalformedTerm = 9
number_of OffCell = 10
number_of TooMany = 11
number_of UnheldCell = 12
number_of BytesAfterEnd = 13
number_of NoRoom = 14
number_of WrongCandidate = 15
number_of WrongPrices = 16
number_of TooManyProducts = 17
number_of MalformedBlock = 18
number_of MalformedRange = 19

-- the number of what came out: 0 where nothing is refused
abbrev pub told : {A : Type 0} → Result A Reason → ℕ
told (Ok a) = 0
told (Err r) = number_of r
