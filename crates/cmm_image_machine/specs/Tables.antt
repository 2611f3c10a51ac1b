-- What the tables of an image tell of a program.
use Rattle.std.specs.Prelude.{◌≡◌, Option, map, None, Some}
use Rattle.cmm_program.specs.declared.placement.Placement.{Placement}
use Rattle.cmm_program.specs.declared.placement.PlaceRow.{PlaceRow}
use Rattle.cmm_program.specs.declared.procedure.VarInfo.{VarInfo}
use Rattle.cmm_program.specs.declared.program.Global.{Global}
use Rattle.cmm_program.specs.declared.program.Label.{Label}
use Rattle.cmm_program.specs.declared.program.Program.{Program}
use Rattle.cmm_program.specs.Layout.{label_address}
use Rattle.cmm_image.specs.declared.parts.ImageParts.{ImageParts}
use Rattle.cmm_image.specs.declared.rows.GlobalRow.{GlobalRow}
use Rattle.cmm_image.specs.declared.rows.LabelRow.{LabelRow}
use Rattle.cmm_image.specs.declared.rows.ProcRow.{ProcRow}
use Rattle.cmm_image.specs.declared.rows.VariableRow.{VariableRow}

-- ---- the placement

-- the address of a procedure's code, the size of its frame, and the offsets of pairs and stackdata labels in it
abbrev pub place_row_of : ProcRow → PlaceRow
place_row_of p = record {
  code = p.code;
  frame = p.frame;
  pairs = map (λ c. c.pair) p.continuations;
  stack = map (λ l. l.offset) p.stack_labels;
}

abbrev pub placement_of : ImageParts → Placement
placement_of i = record { rows = map place_row_of i.procs }

-- ---- rows

abbrev pub variable_row : VarInfo → VariableRow
variable_row v = record { width = v.width; invariant = v.invariant; kind = v.kind }

abbrev pub global_row : Global → GlobalRow
global_row g = record { width = g.width; name = g.name }

-- the data label that is exported under a name has its address in the tables too
abbrev pub IsLabelRow : Program → Option Label → Option LabelRow → Type 0
IsLabelRow p (Some l) (Some row) = row.address ≡ label_address p l
IsLabelRow p None None = Unit {0}
IsLabelRow p _ _ = ⊥
