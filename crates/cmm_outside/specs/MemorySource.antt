-- A source over memory.
use Rattle.std.specs.Prelude.{ℕ, List}
use Rattle.cmm_outside.specs.FailingCalls.{Calls}

-- the bytes that are left, and the calls that were made with a buffer that is not empty
pub record InputState : Type 0 where
  pub left : List ℕ
  pub calls : Calls
