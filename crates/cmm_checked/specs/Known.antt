-- What is known of units that break no rule, in the words of the definitions.
use Rattle.std.specs.Prelude.{◌≡◌, ◌<◌, ◌^◌, List, length, map, Option}
use Rattle.std.specs.List.{AllZip}
use Rattle.cmm_words.specs.declared.width.Width.{Width}
use Rattle.cmm_ast.specs.declared.unit.Unit.{Unit as UnitTree}
use Rattle.cmm_static_semantics.specs.Declarations.{NamedUnit, named_units}
use Rattle.cmm_static_semantics.specs.Faults.{AreAccepted}
use Rattle.cmm_static_semantics.specs.Linking.{Program, exports_of, program_of}
use Rattle.cmm_static_semantics.specs.Scopes.{unit_senses}
use Rattle.cmm_static_semantics.specs.Senses.{Senses}
use Rattle.cmm_symbols.specs.Shown.{shown}
use Rattle.cmm_symbols.specs.declared.index.Index.{Index}
use Rattle.cmm_typing.specs.Fitting.{AreWords}
use Rattle.cmm_linkage.specs.Registers.{AreWidths}
use Rattle.cmm_unit_scope.specs.Senses.{senses_by}
use Rattle.cmm_checked.specs.declared.unit.CheckedUnit.{CheckedUnit}

-- what the names of a unit mean
abbrev pub names_of : CheckedUnit → Senses
names_of c = senses_by (map shown c.table.declared) c.senses

-- of a unit of a program: its tree, what it exports and what its names mean
pub record IsKnown (program : Program) (u : NamedUnit) (c : CheckedUnit) : Type 0 where
  pub tree : c.flat ≡ u.tree
  pub exports : map (λ e. e.now) c.exports ≡ exports_of u
  pub senses : names_of c ≡ unit_senses program u.entries
  pub words : AreWords (names_of c)

abbrev pub trees_in : List CheckedUnit → List UnitTree
trees_in units = map (λ c. c.flat) units

-- of all units of a program: that they are accepted, what each of them is, what they know of each other, and the widths of their registers
pub record AreKnown (program : Program) (registers : Index (Option Width)) (trees : List UnitTree) (units : List CheckedUnit) : Type 0 where
  pub few : length units < 2 ^ 32
  pub accepted : AreAccepted trees
  pub linkage : program ≡ program_of (named_units trees)
  pub each : AllZip (IsKnown program) (named_units trees) units
  pub widths : AreWidths registers (named_units trees)
