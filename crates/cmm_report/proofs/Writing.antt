-- Bytes that are written one after another are written together.
use Rattle.std.proofs.Common.{◌≡◌, ℕ, ◌+◌, List, ◌++◌, take, length, Option, Some, None, Result, Ok, Err, ◌∙◌, arith, append_assoc, length-append}
use Rattle.std.proofs.Math.Seq.{take-append-add}
use Rattle.std.proofs.lemmas.List.{take-append-le}
use Rattle.std.specs.Result.{IsErr}
use Rattle.cmm_outside.specs.Output.{Appends, AppendsFront, WritesAll}

-- two writes in a row
pub appends_then : (before mid after : Option (List ℕ)) (xs ys : List ℕ) → Appends before mid xs → Appends mid after ys → Appends before after (xs ++ ys)
appends_then None mid after xs ys first second = tt
appends_then (Some taken) None after xs ys first second = absurd cc
appends_then (Some taken) (Some more) after xs ys first second = rw (← append_assoc taken xs ys) (cc)

-- a write, and a front of another
pub appends_then_front : (before mid after : Option (List ℕ)) (xs ys : List ℕ) → Appends before mid xs → AppendsFront mid after ys → AppendsFront before after (xs ++ ys)
appends_then_front before mid after xs ys first (n, within, second) = (
  length xs + n,
  omega (arith, length-append xs ys),
  rw (take-append-add xs ys n) (appends_then before mid after xs (take n ys) first second),
)

-- a front of bytes is a front of these and more
pub front_longer : (before after : Option (List ℕ)) (xs ys : List ℕ) → AppendsFront before after xs → AppendsFront before after (xs ++ ys)
front_longer before after xs ys (n, within, front) = (n, omega (arith, length-append xs ys), rw (take-append-le n xs ys within) front)

-- a write that went well, and then another
pub writes_then : {Sink Answer Other Error : Type 0} (taken : Sink → Option (List ℕ)) (faults : Sink → ℕ) (old mid new : Sink) (xs ys : List ℕ)
    (a : Answer) (first : Result Answer Error) (result : Result Other Error) → first ≡ Ok a →
    WritesAll taken faults old mid xs first → WritesAll taken faults mid new ys result → WritesAll taken faults old new (xs ++ ys) result
writes_then taken faults old mid new xs ys a (Err e) result was first second = absurd cc
writes_then taken faults old mid new xs ys a (Ok b) (Ok c) was first second = record {
  ok = appends_then (taken old) (taken mid) (taken new) xs ys first.ok second.ok;
  err = tt;
  no_fault = second.no_fault ∙ first.no_fault;
  fault = tt;
}
writes_then taken faults old mid new xs ys a (Ok b) (Err e) was first second = record {
  ok = tt;
  err = appends_then_front (taken old) (taken mid) (taken new) xs ys first.ok second.err;
  no_fault = tt;
  fault = rw (← first.no_fault) second.fault;
}

-- a write that failed, where more was to be written
pub writes_fails : {Sink Answer Other Error Fault : Type 0} (taken : Sink → Option (List ℕ)) (faults : Sink → ℕ) (old new : Sink) (xs ys : List ℕ)
    (e : Error) (first : Result Answer Error) (result : Result Other Fault) → first ≡ Err e → IsErr result →
    WritesAll taken faults old new xs first → WritesAll taken faults old new (xs ++ ys) result
writes_fails taken faults old new xs ys e (Ok a) result was is first = absurd cc
writes_fails taken faults old new xs ys e (Err d) (Ok a) was is first = absurd cc
writes_fails taken faults old new xs ys e (Err d) (Err f) was is first = record {
  ok = tt;
  err = front_longer (taken old) (taken new) xs ys first.err;
  no_fault = tt;
  fault = first.fault;
}
