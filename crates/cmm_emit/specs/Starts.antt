-- The code with which a run begins.
use Rattle.std.specs.Prelude.{◌≡◌, ℕ, ◌≤◌, true, List, [], ◌∷◌, ◌++◌, slice_index}
use Rattle.cmm_abi.specs.declared.registers.TheConstants.{REQUEST_VALUE, RETURN_ADDRESS}
use Rattle.rv_asm.specs.Appending.{Codes}
use Rattle.rv_asm.specs.Parts.{Code, Stand}
use Rattle.rv_asm.specs.Sizes.{all_longest}
use Rattle.rv_asm.specs.declared.part.Label.{Label}
use Rattle.rv_asm.specs.declared.part.Meaning.{Meaning}
use Rattle.rv_asm.specs.declared.part.Meaning.TheVariants.{Inner, Outer}
use Rattle.rv_asm.specs.declared.part.Part.{Part}
use Rattle.rv_table.specs.declared.request.Request.TheVariants.{End}
use Rattle.cmm_effects.specs.Changes.{PutsRegister}
use Rattle.cmm_effects.specs.Pieces.{Always}
use Rattle.cmm_effects.specs.Ways.{Goes}
use Rattle.cmm_program.specs.declared.program.Program.{Program}
use Rattle.cmm_effects.specs.Requests.{AsksFor}
use Rattle.cmm_emit.specs.Finishing.{AreFinished}
use Rattle.cmm_emit.specs.Orders.{IsClosed}
use Rattle.cmm_unit_code.specs.declared.unit_code.Reference.TheVariants.{Procedure}
use Rattle.cmm_emit.specs.declared.start.Start.{Start}

-- a label is called, with another label as the return address, and nothing else is changed but scratch registers
abbrev pub CallsMain : Label → Label → Code → ℕ → Type 0
CallsMain main last x from = Goes 1 2 Always (λ t. x.at main.number) (PutsRegister RETURN_ADDRESS (x.at last.number)) x from

-- the code begins with a call of `main`
pub record BeginsBy (main last : Label) (parts : List Part) : Type 0 where
  pub piece : List Part
  pub rest : List Part
  pub is : parts ≡ piece ++ rest
  pub calls : (x : Code) (from to : ℕ) → Stand x piece from to → CallsMain main last x from

-- the label of `main`, a symbol, and that behind its call
abbrev pub main_label : Label
main_label = record { number = 0 }

abbrev pub last_label : Label
last_label = record { number = 1 }

abbrev pub start_labels : List Meaning
start_labels = Outer 0 true ∷ (Inner true ∷ [])

-- `main` is called, and where it comes back the end of the run is requested
pub record IsStart (p : Program) (s : Start) : Type 0 where
  pub parts : List Part
  pub places : List ℕ
  pub done : AreFinished start_labels parts places s.code
  pub begins : BeginsBy main_label last_label parts
  pub ends : Codes parts last_label (λ x from to. AsksFor 1 (λ t. End (t.registers REQUEST_VALUE)) x from)
  pub closed : IsClosed parts
  pub size : all_longest parts ≤ 20
  pub last : s.last ≡ slice_index places 1
  pub references : s.code.references ≡ Procedure p.main ∷ []
  pub procedures : s.code.procedures ≡ []
  pub landings : s.code.landings ≡ []
  pub sites : s.code.sites ≡ []
