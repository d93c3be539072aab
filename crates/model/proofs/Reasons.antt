-- The reasons for a refusal: each has a number, and a `?` passes it on.
use Rattle.std.proofs.Common.{◌≡◌, ap, arith, Result, Ok, Err, IsErrAnd}
use Rattle.model.specs.declared.reason.Reason.TheVariants.{TooLong, NoEnd, NoCommand, WrongPlace, NoOperands, WrongSizes, WrongVertex, WrongRow, MalformedTerm, OffCell, TooMany, UnheldCell, BytesAfterEnd, NoRoom, WrongCandidate, WrongPrices, TooManyProducts, MalformedBlock, MalformedRange}
use Rattle.model.specs.Reasons.{Reason, number_of}

pub has_number : (r : Reason) → number_of r ≡ 0 → ⊥
has_number TooLong z = omega (arith, z)
has_number NoEnd z = omega (arith, z)
has_number NoCommand z = omega (arith, z)
has_number WrongPlace z = omega (arith, z)
has_number NoOperands z = omega (arith, z)
has_number WrongSizes z = omega (arith, z)
has_number WrongVertex z = omega (arith, z)
has_number WrongRow z = omega (arith, z)
has_number MalformedTerm z = omega (arith, z)
has_number OffCell z = omega (arith, z)
has_number TooMany z = omega (arith, z)
has_number UnheldCell z = omega (arith, z)
has_number BytesAfterEnd z = omega (arith, z)
has_number NoRoom z = omega (arith, z)
has_number WrongCandidate z = omega (arith, z)
has_number WrongPrices z = omega (arith, z)
has_number TooManyProducts z = omega (arith, z)
has_number MalformedBlock z = omega (arith, z)
has_number MalformedRange z = omega (arith, z)

pub err_is : {A : Type 0} (r : Result A Reason) (y : Reason) → IsErrAnd r (λ e. e ≡ y) → r ≡ Err y
err_is (Ok a) y h = absurd h
err_is (Err e) y h = ap Err h
