-- A sink over memory.
use Rattle.std.specs.Prelude.{ℕ, List, length, ◌≤◌}
use Rattle.cmm_outside.specs.FailingCalls.{Calls}

-- the bytes taken so far, how many bytes there is room for, and the calls that were made with a piece that is not empty
pub record OutputState : Type 0 where
  pub taken : List ℕ
  pub room : ℕ
  pub calls : Calls

-- there is no room for another byte
abbrev pub IsFull : OutputState → Type 0
IsFull sink = sink.room ≤ length sink.taken
