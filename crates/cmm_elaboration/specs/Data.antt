-- The data of a unit, and its labels (C-- Language Specification 2.0, data sections).
use Rattle.std.specs.Prelude.{ℕ, suc, ◌+◌, Bool, true, false, List, [], ◌∷◌, ◌++◌, map, filter, bytes_eq}
use Rattle.cmm_words.specs.declared.constant.Constant.{Constant}
use Rattle.cmm_words.specs.declared.constant.Constant.TheVariants.{Number}
use Rattle.cmm_words.specs.declared.width.Width.{Width}
use Rattle.cmm_words.specs.declared.width.Width.TheVariants.{W8}
use Rattle.cmm_ast.specs.declared.token.Ident.{Ident}
use Rattle.cmm_ast.specs.declared.declaration.Export.{Export}
use Rattle.cmm_ast.specs.declared.unit.DatumForm.{DatumForm}
use Rattle.cmm_ast.specs.declared.unit.DatumForm.TheVariants as data_forms
use Rattle.cmm_ast.specs.declared.unit.Initial.{Initial}
use Rattle.cmm_ast.specs.declared.unit.Initial.TheVariants as initials
use Rattle.cmm_ast.specs.declared.unit.Item.{Item}
use Rattle.cmm_ast.specs.declared.unit.Item.TheVariants as items
use Rattle.cmm_ast.specs.declared.unit.TopLevel.{TopLevel}
use Rattle.cmm_program.specs.declared.program.Datum.{Datum}
use Rattle.cmm_program.specs.declared.program.Label.{Label}
use Rattle.cmm_program.specs.Layout.{Piece}
use Rattle.cmm_static_semantics.specs.Senses.{Senses}
use Rattle.cmm_static_semantics.specs.Items.{Within, top_items}
use Rattle.cmm_static_semantics.specs.Linking.{export_link}
use Rattle.cmm_static_semantics.specs.Constants.{constant_alone}
use Rattle.cmm_static_semantics.specs.Limits.{bytes_of, piece_of, align_piece, data_count}
use Rattle.cmm_elaboration.specs.Resolving.{width_at, or_zero}
use Rattle.std.specs.Prelude.{Some}

-- ---- data

abbrev pub initial_values : Senses → Width → Initial → List Constant
initial_values names width initials.Zeros = []
initial_values names width (initials.Values values) = map (λ e. or_zero width (constant_alone names (Some width) e)) values
initial_values names width (initials.Text text) = map (λ byte. Number byte W8) text.bytes

abbrev pub datum_of : Piece → Width → List Constant → Datum
datum_of piece width values = record { align = piece.align; length = piece.length; width = width; values = values }

-- an alignment is a datum without bytes
abbrev pub form_datums : Senses → DatumForm → List Datum
form_datums names (data_forms.Label name) = []
form_datums names (data_forms.Align k) = datum_of (align_piece k.value) W8 [] ∷ []
form_datums names (data_forms.Data t count initial) = let width = width_at names t in
    datum_of (piece_of (bytes_of names t) (data_count names count initial)) width (initial_values names width initial) ∷ []

abbrev pub item_datums : Senses → Item → List Datum
item_datums names (items.Datum d) = form_datums names d.form
item_datums names _ = []

-- how many there are
abbrev pub datums_in : Item → ℕ
datums_in (items.Datum d) = elim d.form [ data_forms.Label name ↦ 0 | data_forms.Align k ↦ 1 | data_forms.Data t count initial ↦ 1 ]
datums_in _ = 0

abbrev pub datums_among : List (Within Item) → ℕ
datums_among [] = 0
datums_among (i ∷ is) = datums_in i.what + datums_among is

-- ---- labels

-- where a label stands: on a datum, or at the end of the one before it
pub record Standing : Type 0 where
  pub datum : ℕ
  pub at_end : Bool

-- before the rest of a section, whose datums are numbered from here on: an alignment is passed over
abbrev pub standing : ℕ → List (Within Item) → Standing
standing number [] = record { datum = number; at_end = true }
standing number (i ∷ is) = elim i.what [
  | items.Datum d ↦ elim d.form [
    | data_forms.Label name ↦ standing number is
    | data_forms.Align k ↦ standing (suc number) is
    | data_forms.Data t count initial ↦ record { datum = number; at_end = false }
  ]
  | _ ↦ standing number is
]

-- the names under which a name is exported
abbrev pub links_of : List Export → List ℕ → List (List ℕ)
links_of es name = map export_link (filter (λ e. bytes_eq e.name.name name) es)

abbrev pub label_at : List Export → Ident → Standing → Label
label_at es i at_ = record { name = i.name; links = links_of es i.name; datum = at_.datum; at_end = at_.at_end }

-- the labels of an item, with what stands behind it in its section
abbrev pub item_labels : List Export → ℕ → Item → List (Within Item) → List Label
item_labels es number (items.Datum d) rest = elim d.form [ data_forms.Label name ↦ label_at es name (standing number rest) ∷ [] | _ ↦ [] ]
item_labels es number _ rest = []

abbrev pub section_labels : List Export → ℕ → List (Within Item) → List Label
section_labels es number [] = []
section_labels es number (i ∷ is) = item_labels es number i.what is ++ section_labels es (number + datums_in i.what) is

-- the labels of a unit before whose data there are n datums
abbrev pub unit_labels : List Export → ℕ → List TopLevel → List Label
unit_labels es number [] = []
unit_labels es number (t ∷ ts) = section_labels es number (top_items t) ++ unit_labels es (number + datums_among (top_items t)) ts
