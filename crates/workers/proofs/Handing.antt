-- What a `?` hands on.
use Rattle.std.proofs.Common.{◌≡◌, Result, Ok, Err, ap}
use Rattle.std.specs.Result.{IsErrAnd}

-- the error that it got
pub handed_on : {T E : Type 0} {r : Result T E} {e : E} → IsErrAnd r (λ y. y ≡ e) → r ≡ Err e
handed_on {r = Ok x} is = absurd is
handed_on {r = Err y} is = ap Err is
