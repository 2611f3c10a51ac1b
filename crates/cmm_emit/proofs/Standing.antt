-- Units where they stand in the text of a program.
use Rattle.std.proofs.Common.{◌≡◌, ℕ, ◌+◌, ◌%◌, ◌<◌, ◌≤◌, ◌^◌, true, false, List, [], ◌∷◌, ◌++◌, length, get_or, Some, slice_get}
use Rattle.std.specs.Prelude.{nat_lt, slice_index}
use Rattle.std.specs.List.{All}
use Rattle.rv_table.specs.Memory.{code_base}
use Rattle.rv_asm.specs.Filling.{filled}
use Rattle.rv_asm.specs.declared.part.Meaning.{Meaning}
use Rattle.rv_asm.specs.declared.part.Part.{Part}
use Rattle.cmm_program.specs.declared.procedure.Proc.{Proc}
use Rattle.cmm_program.specs.declared.program.Program.{Program}
use Rattle.cmm_program.specs.InRange.{IsInRange}
use Rattle.cmm_program.specs.Layout.{label_addresses}
use Rattle.cmm_graph.specs.declared.graph.Graph.{Graph}
use Rattle.cmm_data.specs.Laws.{LiesInData}
use Rattle.cmm_unit_code.specs.Joined.{reference_value, symbol_value}
use Rattle.cmm_unit_code.specs.Texts.{address_in}
use Rattle.rv_asm.specs.declared.part.Label.{Label}
use Rattle.cmm_emit.specs.declared.context.Context.{Context}
use Rattle.cmm_unit_code.specs.declared.text.Text.{Text}
use Rattle.cmm_unit_code.specs.declared.unit_code.UnitCode.{UnitCode}
use Rattle.cmm_allocate.specs.declared.procedure.ProcedurePlaces.{ProcedurePlaces}
use Rattle.cmm_emit.specs.Naming.{label_at}
use Rattle.cmm_emit.specs.Finishing.{AreFinished}
use Rattle.cmm_emit.specs.LaidProcedures.{CanAllBeLaidIn, IsWholeIn}
use Rattle.cmm_emit.specs.Outlines.{IsOutlineIn}
use Rattle.cmm_emit.specs.Starts.{IsStart}
use Rattle.cmm_emit.specs.declared.outline.Outline.{Outline}
use Rattle.cmm_emit.specs.declared.start.Start.{Start}

-- a unit that was laid and finished, and the address where it stands
pub record Laid : Type 0 where
  pub at : ℕ
  pub outline : Outline
  pub labels : List Meaning
  pub parts : List Part
  pub places : List ℕ
  pub code : UnitCode

abbrev no_outline : Outline
no_outline = record { first = 0; references = []; contexts = []; entries = []; targets = record { procedures = []; data_labels = []; registers = []; limit = record { number = 0 }; client = record { number = 0 } } }

abbrev no_unit : Laid
no_unit = record { at = 0; outline = no_outline; labels = []; parts = []; places = []; code = record { code = []; references = []; fixes = []; procedures = []; landings = []; sites = [] } }

-- the unit of a procedure, where each begins with the procedure behind the last of the one before
abbrev pub unit_of : List Laid → ℕ → Laid
unit_of [] q = no_unit
unit_of (x ∷ xs) q = elim (nat_lt q (x.outline.first + length x.outline.contexts)) [ true ↦ x | false ↦ unit_of xs q ]

-- what the symbols of some code stand for in a text
abbrev pub value_in : List ℕ → Text → UnitCode → ℕ → ℕ
value_in addresses t u = symbol_value (reference_value addresses t.procedures) u.references

-- bytes of code stand in a text at an address, filled
pub record StandAt (value : ℕ → ℕ) (t : Text) (at : ℕ) (u : UnitCode) : Type 0 where
  pub front : List ℕ
  pub back : List ℕ
  pub is : t.code ≡ front ++ (filled value at u.fixes u.code ++ back)
  pub place : at ≡ code_base + length front
  pub aligned : at % 4 ≡ 0
  pub within : at + length u.code ≤ code_base + length t.code

-- what is known of a unit in a text
pub record IsLaid (p : Program) (graphs : List Graph) (found : List ProcedurePlaces) (addresses : List ℕ) (t : Text) (x : Laid) : Type 0 where
  pub outline : IsOutlineIn p graphs found x.outline
  pub can : CanAllBeLaidIn p graphs found x.outline
  pub whole : IsWholeIn p graphs x.outline x.labels x.parts
  pub done : AreFinished x.labels x.parts x.places x.code
  pub references : x.code.references ≡ x.outline.references
  pub stands : StandAt (value_in addresses t x.code) t x.at x.code
  pub entries : (k : ℕ) → k < length x.outline.contexts →
      get_or t.procedures (x.outline.first + k) 0 ≡ slice_index x.places (label_at x.outline.entries k).number + x.at
  pub sites : (k n : ℕ) (c : Context) (l : Label) → slice_get x.outline.contexts k ≡ Some c → slice_get c.sites n ≡ Some l →
      address_in t.sites (x.outline.first + k) n ≡ Some (x.at + slice_index x.places l.number)
  pub lands : (k n : ℕ) (c : Context) (l : Label) → slice_get x.outline.contexts k ≡ Some c → slice_get c.landings n ≡ Some l →
      address_in t.landings (x.outline.first + k) n ≡ Some (x.at + slice_index x.places l.number)

-- the unit of a procedure has it
pub record HasProcedure (x : Laid) (q : ℕ) : Type 0 where
  pub number : ℕ
  pub is : x.outline.first + number ≡ q
  pub inside : number < length x.outline.contexts

-- what is known of a whole text
pub record IsJoint (p : Program) (graphs : List Graph) (found : List ProcedurePlaces) (addresses : List ℕ) (t : Text) : Type 0 where
  pub range : IsInRange p
  pub graph_count : length graphs ≡ length p.procs
  pub found_count : length found ≡ length p.procs
  pub is_addresses : addresses ≡ label_addresses p
  pub lie : All (LiesInData p) addresses
  pub continuations : (q : ℕ) (procedure : Proc) (g : Graph) → slice_get p.procs q ≡ Some procedure → slice_get graphs q ≡ Some g →
      length g.continuations ≡ length procedure.conts
  pub laid : List Laid
  pub units : (q : ℕ) → q < length p.procs → IsLaid p graphs found addresses t (unit_of laid q) × HasProcedure (unit_of laid q) q
  pub start : Start
  pub is_start : IsStart p start
  pub begins : StandAt (value_in addresses t start.code) t code_base start.code
  pub from : t.start ≡ code_base
  pub last : t.last ≡ start.last + code_base
  pub procedure_count : length t.procedures ≡ length p.procs
  pub procedures_aligned : (q : ℕ) → get_or t.procedures q 0 % 4 ≡ 0
  pub procedures_low : (q : ℕ) → get_or t.procedures q 0 ≤ 2 ^ 30
  pub room : code_base + length t.code ≤ 2 ^ 30
