-- What a function promises where it ends with a call.
use Rattle.std.proofs.Common.{Result}
use Rattle.std.specs.Result.{OnOk}
use Rattle.std.proofs.lemmas.Result.{on_ok_weaker}

-- what the last call gives is enough
pub by_last : {T E P Q : Type 0} (r : Result T E) → OnOk r P → (P → Q) → OnOk r Q
by_last r gives enough = on_ok_weaker r enough gives
