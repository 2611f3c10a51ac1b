-- Writes, one after the other.
use Rattle.std.proofs.Common.{◌≡◌, ℕ, List, ◌++◌, Option, Result, Ok, Err, ◌∙◌}
use Rattle.cmm_outside.specs.Output.{WritesAll}
use Rattle.cmm_outside.proofs.Shared.{HasWritten}
use Rattle.cmm_report.proofs.Shared.{appends_then, appends_then_front}

-- after what was written, more is
pub written_then : {Sink Answer Error : Type 0} (taken : Sink → Option (List ℕ)) (faults : Sink → ℕ) (old mid new : Sink) (xs ys : List ℕ) (result : Result Answer Error) →
    HasWritten taken faults old mid xs → WritesAll taken faults mid new ys result → WritesAll taken faults old new (xs ++ ys) result
written_then taken faults old mid new xs ys (Ok a) first second = record {
  ok = appends_then (taken old) (taken mid) (taken new) xs ys first.appended second.ok;
  err = tt;
  no_fault = second.no_fault ∙ first.same_faults;
  fault = tt;
}
written_then taken faults old mid new xs ys (Err e) first second = record {
  ok = tt;
  err = appends_then_front (taken old) (taken mid) (taken new) xs ys first.appended second.err;
  no_fault = tt;
  fault = rw (← first.same_faults) second.fault;
}

-- what was written whole
pub written_ok : {Sink Answer Error : Type 0} (taken : Sink → Option (List ℕ)) (faults : Sink → ℕ) (old new : Sink) (xs : List ℕ) (result : Result Answer Error) (a : Answer) →
    result ≡ Ok a → WritesAll taken faults old new xs result → HasWritten taken faults old new xs
written_ok taken faults old new xs (Ok b) a is all = record { appended = all.ok; same_faults = all.no_fault }
written_ok taken faults old new xs (Err e) a is all = absurd cc

-- two pieces that were written are one
pub joined : {Sink : Type 0} (taken : Sink → Option (List ℕ)) (faults : Sink → ℕ) (old mid new : Sink) (xs ys : List ℕ) →
    HasWritten taken faults old mid xs → HasWritten taken faults mid new ys → HasWritten taken faults old new (xs ++ ys)
joined taken faults old mid new xs ys first second = record {
  appended = appends_then (taken old) (taken mid) (taken new) xs ys first.appended second.appended;
  same_faults = second.same_faults ∙ first.same_faults;
}
