-- The theorems of the passes, composed.
use Rattle.std.specs.Prelude.{◌≡◌, ◌≤◌, List, length, sum_by}
use Rattle.std.specs.List.{AllZip}
use Rattle.cmm_program.specs.declared.program.Program.{Program}
use Rattle.cmm_program.specs.Bounds.{code_bound}
use Rattle.cmm_program.specs.InRange.{IsInRange}
use Rattle.cmm_program.specs.State.{Setting}
use Rattle.cmm_graph.specs.declared.graph.Graph.{Graph}
use Rattle.cmm_hoisted.specs.Flow.{IsHoistedFlow}
use Rattle.cmm_located.specs.SameOrders.{HasFrames}
use Rattle.cmm_allocate.specs.declared.procedure.ProcedurePlaces.{ProcedurePlaces}
use Rattle.cmm_allocate.specs.Compiling.{compiled}
use Rattle.cmm_allocate.specs.Laws.{RunsOverPlaces}
use Rattle.cmm_allocate.specs.Places.{HavePlaces}
use Rattle.cmm_allocate.specs.Placing.{placement_rows}
use Rattle.cmm_image.specs.declared.parts.ImageParts.{ImageParts}
use Rattle.cmm_image.specs.Images.{IsImage}
use Rattle.cmm_unit_code.specs.declared.text.Text.{Text}
use Rattle.cmm_link.specs.Linked.{HaveFrames, IsImageOf, KnowLive}
use Rattle.cmm_image_machine.specs.Tables.{placement_of}
use Rattle.cmm_unit_code.specs.Texts.{IsText}
use Rattle.cmm_emit.specs.Premises.{AreCovered, AreShort}
use Rattle.cmm_emit.specs.Texts.{IsCodeOfProgram}
use Rattle.cmm_compile.specs.Agreement.{AgreesWith}

-- the nodes of a program in range have tokens enough for their code
abbrev pub ProgramsAreCovered : Type 0
ProgramsAreCovered = (p : Program) (graphs : List Graph) (found : List ProcedurePlaces) → IsInRange p → AllZip IsHoistedFlow p.procs graphs →
    HavePlaces p.procs graphs found → AreCovered graphs found

-- and the code of a procedure, with one instruction behind it, at most 64 for each token of the procedure
abbrev pub ProgramsAreShort : Type 0
ProgramsAreShort = (p : Program) (graphs : List Graph) (found : List ProcedurePlaces) → IsInRange p → AllZip IsHoistedFlow p.procs graphs →
    HavePlaces p.procs graphs found → AreShort p.procs graphs found

-- the sets of its places have just the variables that are live at its call sites
abbrev pub PlacesKnowLive : Type 0
PlacesKnowLive = (p : Program) (graphs : List Graph) (found : List ProcedurePlaces) → IsInRange p → AllZip IsHoistedFlow p.procs graphs →
    HavePlaces p.procs graphs found → KnowLive p.procs found

-- What the passes make of a program: its graphs, their places, code for these, and an image with that code.
pub record IsMade (p : Program) (graphs : List Graph) (found : List ProcedurePlaces) (t : Text) (i : ImageParts) : Type 0 where
  pub range : IsInRange p
  pub flows : AllZip IsHoistedFlow p.procs graphs
  pub places : HavePlaces p.procs graphs found
  pub frames : HaveFrames p.procs found
  pub runs : (s : Setting) → s.program ≡ p → HasFrames s (compiled graphs found) → RunsOverPlaces s graphs found
  pub text : IsText p t
  pub size : length t.code ≤ code_bound (sum_by (λ q. q.tokens) p.procs)
  pub code : IsCodeOfProgram p graphs found t
  pub is_image : IsImage i
  pub image : IsImageOf p found t i
  pub rows : (placement_of i).rows ≡ placement_rows found t.procedures

-- so the image agrees with the program
abbrev pub ImagesAgreeWithUnits : Type 0
ImagesAgreeWithUnits = (p : Program) (graphs : List Graph) (found : List ProcedurePlaces) (t : Text) (i : ImageParts) → IsMade p graphs found t i → AgreesWith p i
