-- The program that accepted units mean: a function of them. Names are replaced by numbers; procedures, datums and labels are numbered over all
-- units in their order, registers by their names (C-- Language Specification 2.0, compilation units).
use Rattle.std.specs.Prelude.{◌≡◌, ℕ, suc, ◌+◌, List, [], ◌∷◌, ◌++◌, map, flat_map, codes, unwrap_or, Option, Some, None}
use Rattle.cmm_words.specs.declared.constant.Constant.{Constant}
use Rattle.cmm_words.specs.declared.constant.Constant.TheVariants.{Number, Code, Address}
use Rattle.cmm_words.specs.declared.width.Width.{Width}
use Rattle.cmm_words.specs.declared.width.Width.TheVariants.{W64}
use Rattle.cmm_ast.specs.declared.unit.Item.{Item}
use Rattle.cmm_ast.specs.declared.unit.Item.TheVariants as items
use Rattle.cmm_ast.specs.declared.unit.Unit.{Unit as UnitTree}
use Rattle.cmm_program.specs.declared.procedure.Proc.{Proc}
use Rattle.cmm_program.specs.declared.program.Datum.{Datum}
use Rattle.cmm_program.specs.declared.program.Global.{Global}
use Rattle.cmm_program.specs.declared.program.Label.{Label}
use Rattle.cmm_program.specs.declared.program.Program.{Program}
use Rattle.cmm_static_semantics.specs.Senses.{Senses}
use Rattle.cmm_static_semantics.specs.Items.{Within}
use Rattle.cmm_static_semantics.specs.Declarations.{Declared, NamedUnit, named_units, found}
use Rattle.cmm_static_semantics.specs.Linking.{Program as Linked, program_of, published_as, exports_of}
use Rattle.cmm_static_semantics.specs.Scopes.{unit_senses}
use Rattle.cmm_static_semantics.specs.Faults.{AreAccepted, register_widths}
use Rattle.cmm_elaboration.specs.Procedures.{procedure_of}
use Rattle.cmm_elaboration.specs.Data.{item_datums, datums_among, unit_labels}

-- ---- procedures, by the number of their unit

abbrev pub item_procedures : Senses → ℕ → Within Item → List Proc
item_procedures names unit i = elim i.what [ items.Proc p ↦ procedure_of names unit i.spans p ∷ [] | _ ↦ [] ]

abbrev pub unit_procedures : Linked → ℕ → NamedUnit → List Proc
unit_procedures program unit u = flat_map (item_procedures (unit_senses program u.entries) unit) u.items

abbrev pub procedures_from : Linked → ℕ → List NamedUnit → List Proc
procedures_from program unit [] = []
procedures_from program unit (u ∷ us) = unit_procedures program unit u ++ procedures_from program (suc unit) us

-- ---- data and labels

abbrev pub unit_datums : Linked → NamedUnit → List Datum
unit_datums program u = flat_map (λ i. item_datums (unit_senses program u.entries) i.what) u.items

abbrev pub labels_from : ℕ → List NamedUnit → List Label
labels_from number [] = []
labels_from number (u ∷ us) = unit_labels (exports_of u) number u.tree.parts ++ labels_from (number + datums_among u.items) us

-- ---- registers: the width of one is that of its first declaration

abbrev pub register_width : List (Declared (Option Width)) → List ℕ → Width
register_width ds name = unwrap_or (unwrap_or (found name ds) None) W64

abbrev pub global_of : List NamedUnit → List ℕ → Global
global_of us name = record { name = name; width = register_width (flat_map register_widths us) name }

-- ---- where the program starts

abbrev pub procedure_number : Option Constant → ℕ
procedure_number (Some (Code proc plus)) = proc
procedure_number (Some (Number value width)) = 0
procedure_number (Some (Address label plus)) = 0
procedure_number None = 0

-- ---- the whole

abbrev pub program_by : Linked → List NamedUnit → Program
program_by program us = record {
  procs = procedures_from program 0 us;
  datums = flat_map (unit_datums program) us;
  globals = map (global_of us) program.registers;
  labels = labels_from 0 us;
  main = procedure_number (published_as (codes "main") program.exports);
}

abbrev pub meaning_of : List UnitTree → Program
meaning_of us = let named = named_units us in program_by (program_of named) named

-- units that break no rule mean a program, and just one
pub record Means (us : List UnitTree) (p : Program) : Type 0 where
  pub accepted : AreAccepted us
  pub program : p ≡ meaning_of us
