-- The unchecked errors, after which nothing is promised, and values that may not be there because of one
-- (C-- Language Specification 2.0, unchecked run-time errors).
use Rattle.std.specs.Prelude.{Bool, true, false, List, [], ◌∷◌, Result, Ok, Err, Option, Some, None}

pub data UncheckedError : Type 0 where
  -- a division meets a zero divisor
  ZeroDivisor : UncheckedError
  -- an accessed byte lies neither in data nor in stackdata of a present activation, or the address is not aligned
  BadAccess : UncheckedError
  -- a byte of stackdata is read that was not written since its activation began
  UnwrittenRead : UncheckedError
  -- a call or jump goes to a value that is no procedure's address
  NotAProcedure : UncheckedError
  -- the count or the widths of the passed values differ from those of what takes them
  WrongValues : UncheckedError
  -- a return's count of alternate exits differs from the site's
  WrongAlternates : UncheckedError
  -- a normal return goes to a site that never returns
  NeverReturns : UncheckedError
  -- a cut goes to a value that is no continuation which a present activation lists
  NoSuchCut : UncheckedError
  -- a switch value has no arm, and there is no default
  NoArm : UncheckedError
  -- control reaches the end of a body
  EndOfBody : UncheckedError
  -- control reaches a continuation from above
  ContinuationFromAbove : UncheckedError

-- a value, unless an unchecked error comes first
abbrev pub Tried : Type 0 → Type 0
Tried A = Result A UncheckedError

-- goes on with the value
abbrev pub and_then : {A B E : Type 0} → Result A E → (A → Result B E) → Result B E
and_then (Ok a) next = next a
and_then (Err e) next = Err e

-- goes on where the test holds
abbrev pub provided : {A E : Type 0} → Bool → E → Result A E → Result A E
provided test error next = elim test [ true ↦ next | false ↦ Err error ]

-- goes on with the value, if there is one
abbrev pub given : {A B E : Type 0} → Option A → E → (A → Result B E) → Result B E
given (Some a) error next = next a
given None error next = Err error

-- all of the values, or the first error
abbrev pub all_of : {A E : Type 0} → List (Result A E) → Result (List A) E
all_of [] = Ok []
all_of (t ∷ ts) = and_then t (λ a. and_then (all_of ts) (λ rest. Ok (a ∷ rest)))

-- goes on with what is there
abbrev pub with_some : {A B : Type 0} → Option A → (A → Option B) → Option B
with_some (Some a) next = next a
with_some None next = None
