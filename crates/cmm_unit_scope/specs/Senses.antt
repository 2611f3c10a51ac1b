-- What the names of a unit mean, as its declarations are numbered.
use Rattle.std.specs.Prelude.{◌≡◌, List, map, slice_get, option_and_then, Some, None}
use Rattle.cmm_ast.specs.declared.expression.TypeName.{TypeName}
use Rattle.cmm_static_semantics.specs.declared.sense.Sense.{Sense}
use Rattle.cmm_static_semantics.specs.declared.sense.Sense.TheVariants.{Host}
use Rattle.cmm_static_semantics.specs.Senses.{Senses, host_named}
use Rattle.cmm_static_semantics.specs.Judging.{if_ok}
use Rattle.cmm_static_semantics.specs.Typing.{type_width}
use Rattle.cmm_static_semantics.specs.Declarations.{Declared, Entry, found}
use Rattle.cmm_static_semantics.specs.Scopes.{width_in}
use Rattle.cmm_symbols.specs.Numbering.{numbering}
use Rattle.cmm_symbols.specs.Shown.{shown}
use Rattle.cmm_unit_scope.specs.declared.types.Types.{Types}
use Rattle.cmm_unit_scope.specs.Types.{senses_of as types_senses}
use Rattle.cmm_unit_scope.specs.declared.unit_senses.UnitSenses.{UnitSenses}

-- each declaration has its sense, by its number
abbrev pub senses_by : List (Declared Entry) → List Sense → Senses
senses_by ds senses name = elim (host_named name) [
  | Some h ↦ Some (Host h)
  | None ↦ option_and_then (slice_get senses) (found name (numbering ds))
]

abbrev pub senses_of : UnitSenses → Senses
senses_of unit = senses_by (map shown unit.table.now.declared) unit.senses.now

-- the widths of types are those that the declarations of a unit give them
abbrev pub AreTypes : List (Declared Entry) → Types → Type 0
AreTypes ds types = (t : TypeName) → if_ok (type_width (types_senses types) t) ≡ width_in ds t
