-- What the names of a unit mean as types: typedefs have the width that they stand for, and nothing else is a type.
use Rattle.std.specs.Prelude.{ℕ, List, map, option_and_then, slice_index_or, None, Option}
use Rattle.cmm_static_semantics.specs.declared.sense.Sense.{Sense}
use Rattle.cmm_static_semantics.specs.Declarations.{Declared, Entry, entry_of}
use Rattle.cmm_static_semantics.specs.Senses.{Senses}
use Rattle.cmm_static_semantics.specs.Scopes.{typedef_sense, width_in}
use Rattle.cmm_symbols.specs.Numbering.{numbering, number_in}
use Rattle.cmm_symbols.specs.Shown.{shown}
use Rattle.cmm_unit_scope.specs.declared.types.Types.{Types}

abbrev pub type_sense : List (Declared Entry) → Option Entry → Option Sense
type_sense ds e = typedef_sense (width_in ds) e

abbrev pub type_senses : List (Declared Entry) → Senses
type_senses ds name = type_sense ds (entry_of name ds)

-- each declaration has its sense, by its number
abbrev pub sense_at : List (Option Sense) → ℕ → Option Sense
sense_at senses number = slice_index_or senses number None

abbrev pub senses_of : Types → Senses
senses_of types name = option_and_then (sense_at types.senses) (number_in (numbering (map shown types.table.now.declared)) name)
