-- The registers of a unit, by what its names are declared as, and those of units, by their names.
use Rattle.std.specs.Prelude.{◌≡◌, ℕ, List, [], flat_map, Option}
use Rattle.cmm_words.specs.declared.width.Width.{Width}
use Rattle.cmm_ast.specs.declared.expression.TypeName.{TypeName}
use Rattle.cmm_static_semantics.specs.Declarations.{Declared, Entry, NamedUnit, firsts, found}
use Rattle.cmm_static_semantics.specs.Faults.{register_widths}
use Rattle.cmm_static_semantics.specs.Linking.{register_entry}
use Rattle.cmm_symbols.specs.Indexed.{indexed}
use Rattle.cmm_symbols.specs.declared.index.Index.{Index}
use Rattle.cmm_linkage.specs.declared.register.Register.{Register}

-- those of `registers_of`
abbrev pub registers_in : List (Declared Entry) → List (Declared TypeName)
registers_in ds = flat_map register_entry (firsts [] ds)

abbrev pub register_shown : Register → Declared TypeName
register_shown r = record { name = r.name.now; as_what = r.of_type.now }

-- each register of some units, by its name, with its first width
abbrev pub AreWidths : Index (Option Width) → List NamedUnit → Type 0
AreWidths widths us = (name : List ℕ) → indexed widths name ≡ found name (flat_map register_widths us)
