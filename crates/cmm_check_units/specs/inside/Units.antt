-- The names of units, laid flat, as the rules see them.
use Rattle.std.specs.Prelude.{◌≡◌, List, map}
use Rattle.std.specs.List.{AllZip}
use Rattle.cmm_static_semantics.specs.Faults.{Placed}
use Rattle.cmm_static_semantics.specs.Items.{items_of}
use Rattle.cmm_static_semantics.specs.Linking.{Program}
use Rattle.cmm_static_semantics.specs.Scopes.{unit_senses}
use Rattle.cmm_static_semantics.specs.declared.sense.Sense.{Sense}
use Rattle.cmm_static_semantics.specs.Senses.{Senses}
use Rattle.cmm_checked.specs.declared.unit.CheckedUnit.{CheckedUnit}
use Rattle.cmm_unit_scope.specs.Senses.{senses_by}
use Rattle.cmm_typing.specs.Fitting.{AreWords}
use Rattle.cmm_check_units.specs.inside.Flat.{Flat, flat_named, links_before, widths_before}
use Rattle.cmm_check_units.specs.inside.Totals.{AreSums}
use Rattle.cmm_check_units.specs.inside.Linked.{AreLinks, AreFound}
use Rattle.cmm_symbols.specs.Shown.{shown, whats}
use Rattle.cmm_check_units.specs.declared.unit_names.UnitNames.{UnitNames}
use Rattle.cmm_check_units.specs.declared.earlier.Earlier.{Earlier}
use Rattle.cmm_check_units.specs.declared.checking.Broken.{Broken}

abbrev pub unit_flat : UnitNames → Flat
unit_flat u = record { tree = u.flat; entries = map shown u.table.declared; exports = map (λ e. e.now) u.exports; items = whats (items_of u.flat) }

-- a unit with what its declarations mean
abbrev pub checked_unit : UnitNames × List Sense → CheckedUnit
checked_unit u = record { flat = u.0.flat; exports = u.0.exports; table = u.0.table; senses = u.1 }

abbrev pub broken_placed : Broken → Placed
broken_placed b = record { unit = b.unit; spot = b.spot }

abbrev pub flat_senses : Program → Flat → Senses
flat_senses program f = unit_senses program f.entries

-- the declarations of a unit have these senses, by their numbers
pub record AreSensed (program : Program) (f : Flat) (ss : List Sense) : Type 0 where
  pub means : senses_by f.entries ss ≡ flat_senses program f
  pub words : AreWords (senses_by f.entries ss)

-- what is known of the units before
pub record AreEarlier (program : Program) (e : Earlier) (before : List Flat) : Type 0 where
  pub links : AreLinks e.links (links_before before)
  pub registers : AreFound e.registers (widths_before before)
  pub senses : AllZip (AreSensed program) before e.senses
  pub sums : AreSums program (map flat_named before) e.sums
