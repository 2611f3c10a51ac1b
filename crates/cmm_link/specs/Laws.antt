-- What holds of all frames, and of all images of programs (Ramsey and Peyton Jones, PLDI 2000, run-time tables).
use Rattle.std.specs.Prelude.{◌≡◌, ◌<◌, ℕ, List, length, slice_get, Some}
use Rattle.cmm_program.specs.declared.procedure.Proc.{Proc}
use Rattle.cmm_program.specs.declared.program.Program.{Program}
use Rattle.cmm_program.specs.InRange.{IsInRange}
use Rattle.cmm_program.specs.State.{Setting}
use Rattle.cmm_graph.specs.declared.graph.Graph.{Graph}
use Rattle.cmm_emit_laws.specs.Words.{Symbols}
use Rattle.cmm_client_laws.specs.Rows.{HaveRows}
use Rattle.cmm_allocate.specs.declared.procedure.ProcedurePlaces.{ProcedurePlaces}
use Rattle.cmm_allocate.specs.Compiling.{compiled}
use Rattle.cmm_allocate.specs.Places.{HavePlaces}
use Rattle.cmm_allocate.specs.Placing.{placement_rows}
use Rattle.cmm_image.specs.declared.parts.ImageParts.{ImageParts}
use Rattle.cmm_unit_code.specs.declared.text.Text.{Text}
use Rattle.cmm_link.specs.Linked.{HaveFrames, IsImageOf}
use Rattle.cmm_image_machine.specs.Tables.{placement_of}
use Rattle.cmm_unit_code.specs.Texts.{IsText, address_in}

-- procedures whose places are those of their graphs have frames
abbrev pub PlacesHaveFrames : Type 0
PlacesHaveFrames = (procs : List Proc) (graphs : List Graph) (found : List ProcedurePlaces) → length graphs ≡ length procs →
    HavePlaces procs graphs found → HaveFrames procs found

-- the image of a program shows the placement of its code and its frames
abbrev pub ImagesShowPlacements : Type 0
ImagesShowPlacements = (p : Program) (places : List ProcedurePlaces) (t : Text) (i : ImageParts) → HaveFrames p.procs places → IsText p t →
    IsImageOf p places t i → (placement_of i).rows ≡ placement_rows places t.procedures

-- symbols of code have the addresses of its text: control comes back to each site, lands at each continuation, and ends a run there
pub record HaveAddresses (s : Setting) (t : Text) (y : Symbols) : Type 0 where
  pub returns : (q n : ℕ) (procedure : Proc) → slice_get s.program.procs q ≡ Some procedure → n < length procedure.sites →
      address_in t.sites q n ≡ Some (y.return_to q n)
  pub lands : (q k : ℕ) (procedure : Proc) → slice_get s.program.procs q ≡ Some procedure → k < length procedure.conts →
      address_in t.landings q k ≡ Some (y.landing_of q k)
  pub last : y.last_return ≡ t.last

-- So the rows of an image tell of its program, as it is compiled and placed there.
abbrev pub ImagesHaveRows : Type 0
ImagesHaveRows = (s : Setting) (graphs : List Graph) (found : List ProcedurePlaces) (t : Text) (i : ImageParts) (y : Symbols) → IsInRange s.program →
    HaveFrames s.program.procs found → IsText s.program t → IsImageOf s.program found t i → s.placement.rows ≡ placement_rows found t.procedures →
    HaveAddresses s t y → HaveRows s (compiled graphs found) y i
