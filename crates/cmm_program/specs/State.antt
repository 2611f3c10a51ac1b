-- A state of the C-- machine, apart from where its activations go on (Ramsey and Peyton Jones, PLDI 2000, the
-- abstract machine).
use Rattle.std.specs.Prelude.{ℕ, ◌+◌, List, Option}
use Rattle.cmm_script.specs.declared.script.Script.{Script}
use Rattle.cmm_program.specs.declared.program.Program.{Program}
use Rattle.cmm_program.specs.declared.placement.Placement.{Placement}
use Rattle.cmm_program.specs.Errors.{UncheckedError}
use Rattle.cmm_program.specs.Memory.{Memory}

-- What a run depends on, beside its input. The stack has `stack_size` bytes, from the address `stack_base` on.
pub record Setting : Type 0 where
  pub program : Program
  pub placement : Placement
  pub stack_base : ℕ
  pub stack_size : ℕ
  pub script : Script

-- where the frame of the oldest activation ends
abbrev pub stack_top : Setting → ℕ
stack_top s = s.stack_base + s.stack_size

-- an activation: its procedure, the values of its variables, and its site when it is suspended
pub record Activation : Type 0 where
  pub procedure : ℕ
  pub variables : List ℕ
  pub site : Option ℕ

pub data Outcome : Type 0 where
  -- the oldest activation returned this value
  Done : ℕ → Outcome
  -- the client stopped the run
  Stopped : Outcome
  -- a new activation did not fit the stack
  StackLimit : Outcome

pub data Status : Type 0 where
  Running : Status
  -- for the client, at a yield of these values
  Waiting : List ℕ → Status
  Ended : Outcome → Status
  Wrong : UncheckedError → Status

-- The store. Activations stand youngest first. Bytes of the input are taken from its front, and those that were taken
-- stand in their order.
pub record Store : Type 0 where
  pub memory : Memory
  pub registers : List ℕ
  pub activations : List Activation
  pub input : List ℕ
  pub taken : List ℕ
  pub output : List ℕ
  pub log : List ℕ
  pub status : Status
