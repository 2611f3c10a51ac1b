-- What writing does to the bytes that a sink has taken.
use Rattle.std.specs.Prelude.{◌≡◌, ℕ, ◌≤◌, List, ◌++◌, length, take, Option, Some, IfSome, Result, OnOk, OnErr}
use Rattle.cmm_outside.specs.Faults.{Rose}

-- where the sink tells its bytes, it has these more
abbrev pub Appends : Option (List ℕ) → Option (List ℕ) → List ℕ → Type 0
Appends before after bytes = IfSome before (λ taken. after ≡ Some (taken ++ bytes))

-- a front of the bytes is appended, which may be all of them or none
abbrev pub AppendsFront : Option (List ℕ) → Option (List ℕ) → List ℕ → Type 0
AppendsFront before after bytes = (n : ℕ) × (n ≤ length bytes) × Appends before after (take n bytes)

-- A call that is to write these bytes to a sink has this result. It fails only where a call of the sink does.
pub record WritesAll {Sink Answer Error : Type 0} (taken : Sink → Option (List ℕ)) (faults : Sink → ℕ) (old new : Sink) (bytes : List ℕ)
    (result : Result Answer Error) : Type 0 where
  -- all of them are written, or a front where it failed
  pub ok : OnOk result (Appends (taken old) (taken new) bytes)
  pub err : OnErr result (AppendsFront (taken old) (taken new) bytes)
  -- the count of faults rises where it failed, and only there
  pub no_fault : OnOk result (faults new ≡ faults old)
  pub fault : OnErr result (Rose (faults old) (faults new))
