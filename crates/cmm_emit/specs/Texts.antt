-- What the code of a program guarantees: in an image it is all that is required of the code of the program.
use Rattle.std.specs.Prelude.{◌≡◌, ℕ, ◌<◌, ◌≤◌, List, length, slice_get, Some}
use Rattle.std.specs.List.{All}
use Rattle.cmm_program.specs.declared.procedure.Proc.{Proc}
use Rattle.cmm_program.specs.declared.program.Program.{Program}
use Rattle.cmm_program.specs.Layout.{data_bytes}
use Rattle.cmm_program.specs.State.{Setting}
use Rattle.cmm_program.specs.Memory.{IsByte}
use Rattle.cmm_graph.specs.declared.graph.Graph.{Graph}
use Rattle.cmm_image_machine.specs.Machine.{Launch, map_of, region_of}
use Rattle.cmm_emit_laws.specs.Represented.{IsFor, stack_region}
use Rattle.cmm_emit_laws.specs.Finished.{Finished}
use Rattle.cmm_emit_laws.specs.Starting.{StartCode}
use Rattle.cmm_yield_laws.specs.WholeCode.{IsYieldingCode}
use Rattle.cmm_unit_code.specs.Texts.{address_in}
use Rattle.cmm_unit_code.specs.declared.text.Text.{Text}
use Rattle.cmm_allocate.specs.Compiling.{compiled}
use Rattle.cmm_allocate.specs.Placing.{placement_rows}
use Rattle.cmm_allocate.specs.declared.procedure.ProcedurePlaces.{ProcedurePlaces}

-- an image has this code and the data of the program, and the program is placed where its code is, with the frames of these places
pub record HasText (p : Program) (found : List ProcedurePlaces) (t : Text) (s : Setting) (l : Launch) : Type 0 where
  pub program : s.program ≡ p
  pub rows : s.placement.rows ≡ placement_rows found t.procedures
  pub code : l.image.code ≡ t.code
  pub start : l.image.start ≡ t.start
  pub is_data : l.image.initial ≡ data_bytes s.program s.placement
  pub bytes : All IsByte l.image.initial
  pub is_for : IsFor s (map_of l)
  -- and its runs begin in the region of the setting
  pub region : stack_region s ≡ region_of l

-- Its code is that of the program, and begins its runs by at most two instructions. Control comes back to each site, lands at each continuation, and ends a
-- run at the addresses that the text has for them.
pub record RunsProgram (s : Setting) (graphs : List Graph) (found : List ProcedurePlaces) (t : Text) (l : Launch) : Type 0 where
  pub finished : Finished
  pub code : IsYieldingCode s (compiled graphs found) l finished
  pub begins : StartCode s (compiled graphs found) l finished
  pub few : begins.most ≤ 2
  pub returns : (q n : ℕ) (procedure : Proc) → slice_get s.program.procs q ≡ Some procedure → n < length procedure.sites →
      address_in t.sites q n ≡ Some (finished.symbols.return_to q n)
  pub lands : (q k : ℕ) (procedure : Proc) → slice_get s.program.procs q ≡ Some procedure → k < length procedure.conts →
      address_in t.landings q k ≡ Some (finished.symbols.landing_of q k)
  pub last : finished.symbols.last_return ≡ t.last

abbrev pub IsCodeOfProgram : Program → List Graph → List ProcedurePlaces → Text → Type 0
IsCodeOfProgram p graphs found t = (s : Setting) (l : Launch) → HasText p found t s l → RunsProgram s graphs found t l
