-- What is seen of a session.
use Rattle.std.specs.Prelude.{◌≡◌, ℕ, List, Option}
use Rattle.rv_table.specs.declared.registers.Regs.{Regs}
use Rattle.rv_table.specs.Machine.{State}
use Rattle.rv_memory.specs.Regions.{Regions}
use Rattle.rv_memory.specs.States.{state_of}
use Rattle.cmm_image.specs.declared.parts.ImageParts.{ImageParts}
use Rattle.cmm_image_machine.specs.Machine.{Launch}
use Rattle.cmm_snapshot.specs.SnapshotFormat.{taken_of}
use Rattle.cmm_snapshot.specs.Snapshots.{SpellsSnapshot}
use Rattle.cmm_client.specs.declared.stopped.Stopped.{Stopped}
use Rattle.cmm_client.specs.Stops as stops
use Rattle.cmm_run.specs.declared.outcome.Outcome.{Outcome}

-- what runs, with how many instructions it may execute, what its run came to once it has run, and the program as it stands
pub record SessionState : Type 0 where
  pub launch : Launch
  pub steps : ℕ
  pub answer : Option Outcome
  pub program : Stopped

-- the state of the definition in which its machine stands
abbrev pub machine_of : SessionState → State
machine_of s = stops.state_of s.program

-- these bytes are a snapshot of a run of the image, with a stack of so many bytes, that stands so
pub record IsSnapshotOf (image : ImageParts) (stack : ℕ) (machine : State) (bytes : List ℕ) : Type 0 where
  pub regs : Regs
  pub memory : Regions
  pub spelled : SpellsSnapshot image bytes (taken_of regs memory)
  pub state : state_of regs memory ≡ machine
  pub stack_is : memory.stack_size ≡ stack
