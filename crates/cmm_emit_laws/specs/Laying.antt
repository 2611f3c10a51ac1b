-- Frames that are laid for the places of locals, and the procedures that have them.
use Rattle.std.specs.Prelude.{◌≡◌, ◌⊎◌, ℕ, true, Contains, List, Some}
use Rattle.cmm_chain.specs.declared.frame.Frame.{Frame}
use Rattle.cmm_chain.specs.declared.frame.Location.{Location}
use Rattle.cmm_chain.specs.Plans.{is_register}
use Rattle.cmm_program.specs.declared.procedure.Proc.{Proc}
use Rattle.cmm_program.specs.Frames.{place_row, procedure_at}
use Rattle.cmm_program.specs.InRange.{FitsFrames}
use Rattle.cmm_program.specs.State.{Setting}
use Rattle.cmm_calls.specs.Frames.{CanBeMade}
use Rattle.cmm_located.specs.Compiled.{Compiled}
use Rattle.cmm_located.specs.Layouts.{IsFrameOf}
use Rattle.cmm_emit_laws.specs.ProgramCode.{IsLaidFor}

-- A procedure has a frame that is laid for some places, which its row of the placement has as well; and each local has one of the places, or a
-- register.
pub record IsLaidOut (s : Setting) (c : Compiled) (q : ℕ) : Type 0 where
  pub procedure : Proc
  pub is_procedure : procedure_at s q ≡ Some procedure
  pub fits : FitsFrames procedure
  pub places : List Location
  pub frame : IsFrameOf procedure places (c.plan.frame q)
  pub size : (c.plan.frame q).size ≡ (place_row s q).frame
  pub stack : (c.plan.frame q).stack ≡ (place_row s q).stack
  pub locals : (v : ℕ) → Contains places (c.plan.place q v) ⊎ (is_register (c.plan.place q v) ≡ true)

-- a frame that is laid for places can be made by code
abbrev pub FramesCanBeMade : Type 0
FramesCanBeMade = (p : Proc) (places : List Location) (f : Frame) → FitsFrames p → IsFrameOf p places f → CanBeMade f

-- so the frame and the places of such a procedure are those of its activations
abbrev pub ProceduresAreLaid : Type 0
ProceduresAreLaid = (s : Setting) (c : Compiled) (q : ℕ) → IsLaidOut s c q → IsLaidFor s c q
