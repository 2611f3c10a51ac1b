-- What is required of the code that begins a run, and of the data of the image.
use Rattle.std.specs.Prelude.{◌≡◌, ℕ, ◌≤◌, length, Some}
use Rattle.std.specs.List.{All}
use Rattle.cmm_abi.specs.declared.registers.TheConstants.{REQUEST_VALUE}
use Rattle.rv_asm.specs.Parts.{Code}
use Rattle.rv_asm.specs.declared.part.Label.{Label}
use Rattle.rv_table.specs.declared.request.Request.TheVariants.{End}
use Rattle.cmm_program.specs.Layout.{data_bytes}
use Rattle.cmm_program.specs.State.{Setting}
use Rattle.cmm_program.specs.Memory.{IsByte}
use Rattle.cmm_graph.specs.declared.number.NodeId.{NodeId}
use Rattle.cmm_graph.specs.GraphControl.{in_graph}
use Rattle.cmm_effects.specs.Changes.{PutsRegister}
use Rattle.cmm_effects.specs.Pieces.{Always}
use Rattle.cmm_effects.specs.Ways.{Goes}
use Rattle.cmm_image_machine.specs.Machine.{Launch, region_of}
use Rattle.cmm_located.specs.Compiled.{Compiled}
use Rattle.cmm_effects.specs.Requests.{AsksFor}
use Rattle.cmm_emit_laws.specs.Finished.{Finished, code_of}
use Rattle.cmm_emit_laws.specs.Represented.{stack_region}

-- A label is called, with the address behind the call in register 1, and nothing else is changed but scratch registers; there the end of the
-- run is requested, with the value in register 10.
pub record BeginsRun (main : Label) (x : Code) (from : ℕ) : Type 0 where
  pub back : ℕ
  pub calls : Goes 1 2 Always (λ t. x.at main.number) (PutsRegister 1 back) x from
  pub ends : AsksFor 1 (λ t. End (t.registers REQUEST_VALUE)) x back

-- From the start of the image `main` is called, with the return address of the oldest activation in register 1, and nothing else is changed but
-- scratch registers. This code belongs to no procedure, and no label is named here, so it is taken as that of `main`. The data of the image are
-- those of the program.
pub record StartCode (s : Setting) (c : Compiled) (l : Launch) (f : Finished) : Type 0 where
  -- the run begins in the region of the setting
  pub region : stack_region s ≡ region_of l
  pub first : NodeId
  pub is_first : in_graph c.graphs s.program.main (λ g. Some g.first) ≡ Some first
  pub most : ℕ
  pub calls : Goes 0 most Always (λ t. f.node_at s.program.main first) (PutsRegister 1 f.symbols.last_return) (code_of l f s.program.main) l.image.start
  pub is_data : l.image.initial ≡ data_bytes s.program s.placement
  pub bytes : All IsByte l.image.initial
  pub few_registers : length s.program.globals ≤ 256
